-- The place of each reply on a design is that of the lowest number that is out. Assumes nothing.
use mathlib.Core.Path.{◌≡◌, refl, sym, ap, subst, ◌∙◌}
use mathlib.Core.Logic.{◌⊎◌, inl, inr}
use mathlib.Core.Bool.{Bool, true, false, cond, ◌||◌}
use mathlib.Core.List.{List, [], ◌∷◌, ◌++◌}
use Prim.Native.Nat.{ℕ, zero, suc, ◌+◌, ◌-◌, ◌<◌, ◌≤◌}
use native.Mathlib.Decide.{dec_lt}
use native.Mathlib.Nat.{not-suc-le-zero}
use native.Mathlib.Omega.{arith}
use lib.ListN.{length, get_or}
use lib.Ieee.{Float}
use borrow.Author.Tests.{lt-ltb, le-ltb, ltb-true}
use Rattle.lists.specs.Build.{up_to}
use Rattle.lists.specs.Find.{any, first_index}
use Rattle.lists.proofs.Build.{length-tabulate, get_or-tabulate}
use Rattle.lists.proofs.Find.{first_any, fails-before, passes-first}
use Rattle.lists.proofs.Any.{none_passes, all-below}
use Rattle.lists.proofs.Tests.{neither, clash}
use Rattle.doubles.specs.Decimal as Decimal
use Rattle.reply.specs.Number.{number_of, reply_number, Reply}
use Rattle.reply.specs.First.{Check, ◌if◌, ◌if◌at◌, first_of, refused_if, refuses}
use Rattle.reply.specs.declared.Refusal.{Refusal}
use Rattle.reply.specs.declared.Refusal.TheVariants.{WrongSize, OutOfRange, NullBinds, TooDilute, AmbientOut, PotentialOut}
use Rattle.units.specs.declared.Ambient.{Ambient}
use Rattle.design.specs.Design.{Design, positions, strands}
use Rattle.design.specs.Checks.{beyond, friend_at, somewhere, TablesPass, sizes_out, cells_out, bad_cell, rt_out, strand_excess_out, scaffold_excess_out, ambient_out, bad_ambient, potentials_out, bad_potential, null_binds, dilute, range_checks, number_checks, design_checks}
use Rattle.design.specs.Places.{cell_out, ambient_number_out, potential_out, LowestOut, PlacesRight}
use Rattle.design.proofs.Sizes.{sized}
use Rattle.std.specs.Prelude.{Option, None, Some, Ok, Err}
use Rattle.design.proofs.FriendLaws.{null-no-friend}

-- ---- the three places

module _ (dg ds : List Float) (dg-sized : length dg ≡ 4096) (ds-sized : length ds ≡ 4096) where
  dg-place : any (beyond 1024) dg ≡ true → LowestOut (cell_out dg ds) 8192 (Some (first_index (beyond 1024) dg))
  dg-place e =
      let first = first_index (beyond 1024) dg in
      let inside : first < length dg = ltb-true _ _ (first_any (beyond 1024) dg ∙ e) in
      let low : first < 4096 = rw dg-sized at inside in
      record {
        at = first;
        is = refl;
        known = omega arith;
        here = rw (lt-ltb first 4096 low) (passes-first (beyond 1024) Decimal.zero dg inside);
        below = λ k h. let l : k < 4096 = omega arith in rw (lt-ltb k 4096 l) (fails-before (beyond 1024) Decimal.zero dg k h);
      }

  ds-place : any (beyond 1024) dg ≡ false → any (beyond 8) ds ≡ true → LowestOut (cell_out dg ds) 8192 (Some (4096 + first_index (beyond 8) ds))
  ds-place none e =
      let first = first_index (beyond 8) ds in
      let inside : first < length ds = ltb-true _ _ (first_any (beyond 8) ds ∙ e) in
      let low : first < 4096 = rw ds-sized at inside in
      let back : 4096 + first - 4096 ≡ first = omega arith in
      let high : 4096 ≤ 4096 + first = omega arith in
      record {
        at = 4096 + first;
        is = refl;
        known = omega arith;
        here = rw (le-ltb (4096 + first) 4096 high, back) (passes-first (beyond 8) Decimal.zero ds inside);
        below = λ k h. below k h (dec_lt k 4096);
      }
    where
      below : (k : ℕ) → k < 4096 + first_index (beyond 8) ds → Dec (k < 4096) → cell_out dg ds k ≡ false
      below k h (yes l) = rw (lt-ltb k 4096 l) (none_passes (beyond 1024) Decimal.zero dg none k (rw dg-sized l))
      below k h (no n) =
          let high : 4096 ≤ k = omega arith in
          let earlier : k - 4096 < first_index (beyond 8) ds = omega arith in
          rw (le-ltb k 4096 high) (fails-before (beyond 8) Decimal.zero ds (k - 4096) earlier)

  pub cell-place : cells_out dg ds ≡ true → LowestOut (cell_out dg ds) 8192 (Some (bad_cell dg ds))
  unfolding cells_out bad_cell
  cell-place e = go (any (beyond 1024) dg) refl e
    where
      go : (t : Bool) → any (beyond 1024) dg ≡ t → (t || any (beyond 8) ds) ≡ true → LowestOut (cell_out dg ds) 8192 (Some (cond t (first_index (beyond 1024) dg) (4096 + first_index (beyond 8) ds)))
      go true some e = dg-place some
      go false none e = ds-place none e

ambient-places : (rt strand scaffold : Bool) → (rt || (strand || scaffold)) ≡ true → LowestOut (λ k. get_or (rt ∷ strand ∷ scaffold ∷ []) k false) 3 (Some (cond rt 0 (cond strand 1 2)))
ambient-places true strand scaffold e = record { at = 0; is = refl; known = omega arith; here = refl; below = λ k h. absurd (not-suc-le-zero h) }
ambient-places false true scaffold e = record { at = 1; is = refl; known = omega arith; here = refl; below = below }
  where
    below : (k : ℕ) → k < 1 → get_or (false ∷ true ∷ scaffold ∷ []) k false ≡ false
    below zero h = refl
    below (suc k) h = absurd (omega arith)
ambient-places false false scaffold e = record { at = 2; is = refl; known = omega arith; here = e; below = below }
  where
    below : (k : ℕ) → k < 2 → get_or (false ∷ false ∷ scaffold ∷ []) k false ≡ false
    below zero h = refl
    below (suc zero) h = refl
    below (suc (suc k)) h = absurd (omega arith)

pub ambient-place : (ambient : Ambient) → ambient_out ambient ≡ true → LowestOut (ambient_number_out ambient) 3 (Some (bad_ambient ambient))
unfolding ambient_out bad_ambient
ambient-place ambient e = ambient-places (rt_out ambient) (strand_excess_out ambient) (scaffold_excess_out ambient) e

pub potential-place : (d : Design) → potentials_out d ≡ true → LowestOut (potential_out d) (strands d) (Some (bad_potential d))
unfolding potentials_out bad_potential
potential-place d e =
    let first = first_index (potential_out d) (up_to (strands d)) in
    let inside : first < length (up_to (strands d)) = ltb-true _ _ (first_any (potential_out d) (up_to (strands d)) ∙ e) in
    let known : first < strands d = rw (length-tabulate (strands d) (λ k. k)) at inside in
    record {
      at = first;
      is = refl;
      known = known;
      here = rw (get_or-tabulate (strands d) (λ k. k) 0 first known) at (passes-first (potential_out d) 0 (up_to (strands d)) inside);
      below = λ k h.
          let l : k < strands d = omega arith in
          rw (get_or-tabulate (strands d) (λ k. k) 0 k l) at (fails-before (potential_out d) 0 (up_to (strands d)) k h);
    }

-- ---- which check a refusal comes from

-- the first check that holds: it is the head, or it is in the tail and the head does not hold
told : (c : Check) (cs : List Check) {r : Refusal} {p : Option ℕ} → first_of (c ∷ cs) ≡ refuses r p
    → ((c.holds ≡ true) × (refuses c.refusal c.place ≡ refuses r p)) ⊎ ((c.holds ≡ false) × (first_of cs ≡ refuses r p))
told c cs {r} {p} e = go c.holds refl e
  where
    go : (t : Bool) → c.holds ≡ t → refused_if t c.refusal c.place (first_of cs) ≡ refuses r p
        → ((c.holds ≡ true) × (refuses c.refusal c.place ≡ refuses r p)) ⊎ ((c.holds ≡ false) × (first_of cs ≡ refuses r p))
    go true h e = inl (h, e)
    go false h e = inr (h, e)

-- a check of a call's own has no place, and none of the numbers that have one
abbrev pub Placeless : List Check → Type 0
Placeless [] = Unit
Placeless (c ∷ cs) = (c.place ≡ None) × (number_of c.refusal ≡ 9 → ⊥) × (number_of c.refusal ≡ 16 → ⊥) × (number_of c.refusal ≡ 17 → ⊥) × Placeless cs

-- a refusal of a number that has no place
record Plain (r : Refusal) (p : Option ℕ) : Type 0 where
  nowhere : p ≡ None
  no_cell : number_of r ≡ 9 → ⊥
  no-ambient : number_of r ≡ 16 → ⊥
  no-potential : number_of r ≡ 17 → ⊥

-- where a refusal of a design comes from
data Cause (d : Design) (r : Refusal) (p : Option ℕ) : Type 0 where
  plain : Plain r p → Cause d r p
  cell : sizes_out d ≡ false → cells_out d.dg d.ds ≡ true → refuses OutOfRange (Some (bad_cell d.dg d.ds)) ≡ refuses r p → Cause d r p
  ambient : ambient_out d.ambient ≡ true → refuses AmbientOut (Some (bad_ambient d.ambient)) ≡ refuses r p → Cause d r p
  potential : TablesPass d → potentials_out d ≡ true → refuses PotentialOut (Some (bad_potential d)) ≡ refuses r p → Cause d r p

-- a refusal by one check, which is another's
refusal-number : {q r : Refusal} {o p : Option ℕ} → refuses q o ≡ refuses r p → number_of q ≡ number_of r
refusal-number e = ap reply_number e

refusal_place : Reply → Option ℕ
refusal_place (Ok u) = None
refusal_place (Err refused) = refused.place

pub refusal-place : {q r : Refusal} {o p : Option ℕ} → refuses q o ≡ refuses r p → o ≡ p
unfolding refusal_place
refusal-place e = ap refusal_place e

place_at : Option ℕ → ℕ
place_at None = 0
place_at (Some k) = k

place_at_lem : {j k : ℕ} → Some j ≡ Some k → j ≡ k
unfolding place_at
place_at_lem e = ap place_at e

-- a check without a place, whose number is none of the three
plainly : {d : Design} {q r : Refusal} {p : Option ℕ} → (number_of q ≡ 9 → ⊥) → (number_of q ≡ 16 → ⊥) → (number_of q ≡ 17 → ⊥) → refuses q None ≡ refuses r p → Cause d r p
plainly a b c e =
    let n = refusal-number e in
    plain (record { nowhere = sym (refusal-place e); no_cell = λ k. a (n ∙ k); no-ambient = λ k. b (n ∙ k); no-potential = λ k. c (n ∙ k) })

module _ (d : Design) {r : Refusal} {p : Option ℕ} where
  -- of a call's own checks, and then of what comes after them
  owned : (own rest : List Check) → Placeless own → first_of (own ++ rest) ≡ refuses r p → (first_of rest ≡ refuses r p → Cause d r p) → Cause d r p
  owned [] rest w e next = next e
  owned (c ∷ own) rest w e next = go (told c (own ++ rest) e) (λ k. owned own rest w.4 k next)
    where
      go : ((c.holds ≡ true) × (refuses c.refusal c.place ≡ refuses r p)) ⊎ ((c.holds ≡ false) × (first_of (own ++ rest) ≡ refuses r p)) → (first_of (own ++ rest) ≡ refuses r p → Cause d r p) → Cause d r p
      go (inl h) later = plainly w.1 w.2 w.3 (ap (refuses c.refusal) (sym w.0) ∙ h.1)
      go (inr h) later = later h.1

  last : (own : List Check) → Placeless own → first_of own ≡ refuses r p → Cause d r p
  last [] w e = absurd (let y : ◌≡◌ {A = ℕ} 0 1 = cc in omega arith)
  last (c ∷ own) w e = go (told c own e) (λ k. last own w.4 k)
    where
      go : ((c.holds ≡ true) × (refuses c.refusal c.place ≡ refuses r p)) ⊎ ((c.holds ≡ false) × (first_of own ≡ refuses r p)) → (first_of own ≡ refuses r p → Cause d r p) → Cause d r p
      go (inl h) later = plainly w.1 w.2 w.3 (ap (refuses c.refusal) (sym w.0) ∙ h.1)
      go (inr h) later = later h.1

  module _ (after : List Check) (a : Placeless after) where
    potentials : TablesPass d → first_of (PotentialOut if potentials_out d at bad_potential d ∷ after) ≡ refuses r p → Cause d r p
    potentials t e = elim (told (PotentialOut if potentials_out d at bad_potential d) after e) [
      | inl h ↦ potential t h.0 h.1
      | inr h ↦ last after a h.1
    ]

    ranges : TablesPass d → first_of (range_checks d ++ after) ≡ refuses r p → Cause d r p
    ranges t e = elim (told (AmbientOut if ambient_out d.ambient at bad_ambient d.ambient) (PotentialOut if potentials_out d at bad_potential d ∷ after) e) [
      | inl h ↦ ambient h.0 h.1
      | inr h ↦ potentials t h.1
    ]

    numbers : TablesPass d → first_of (number_checks d ++ after) ≡ refuses r p → Cause d r p
    numbers t e = elim (told (TooDilute if dilute d) (range_checks d ++ after) e) [
      | inl h ↦ plainly (λ k. omega arith) (λ k. omega arith) (λ k. omega arith) h.1
      | inr h ↦ ranges t h.1
    ]

    module _ (own_size : Bool) (between : List Check) (b : Placeless between) where
      null : sizes_out d ≡ false → cells_out d.dg d.ds ≡ false → first_of (NullBinds if null_binds d.glues d.dg d.ds ∷ (between ++ (number_checks d ++ after))) ≡ refuses r p → Cause d r p
      null s c e = elim (told (NullBinds if null_binds d.glues d.dg d.ds) (between ++ (number_checks d ++ after)) e) [
        | inl h ↦ plainly (λ k. omega arith) (λ k. omega arith) (λ k. omega arith) h.1
        | inr h ↦ owned between (number_checks d ++ after) b h.1 (numbers (record { sizes = s; cells = c; null = h.0 }))
      ]

      cells : sizes_out d ≡ false → first_of (OutOfRange if cells_out d.dg d.ds at bad_cell d.dg d.ds ∷ NullBinds if null_binds d.glues d.dg d.ds ∷ (between ++ (number_checks d ++ after))) ≡ refuses r p → Cause d r p
      cells s e = elim (told (OutOfRange if cells_out d.dg d.ds at bad_cell d.dg d.ds) (NullBinds if null_binds d.glues d.dg d.ds ∷ (between ++ (number_checks d ++ after))) e) [
        | inl h ↦ cell s h.0 h.1
        | inr h ↦ null s h.0 h.1
      ]

      cause : first_of (design_checks own_size d between after) ≡ refuses r p → Cause d r p
      cause e = elim (told (WrongSize if (own_size || sizes_out d)) (OutOfRange if cells_out d.dg d.ds at bad_cell d.dg d.ds ∷ NullBinds if null_binds d.glues d.dg d.ds ∷ (between ++ (number_checks d ++ after))) e) [
        | inl h ↦ plainly (λ k. omega arith) (λ k. omega arith) (λ k. omega arith) h.1
        | inr h ↦ cells (neither own_size (sizes_out d) h.0).1 h.1
      ]

-- ---- of every call

module _ (d : Design) where
  -- a strand 0 that is a friend is refused by 10 before its potential is looked at
  null-unread : TablesPass d → potential_out d 0 ≡ false
  unfolding somewhere
  null-unread t = rw (all-below (friend_at d.scaffold d.marks d.glues d.dg d.ds 0) (positions d) (null-no-friend d t))

  not_first : TablesPass d → potentials_out d ≡ true → bad_potential d ≡ 0 → ⊥
  not_first t e z =
      let low = potential-place d e in
      let first : low.at ≡ 0 = place_at_lem (sym low.is) ∙ z in
      clash (null-unread t) (subst (λ (k : ℕ). potential_out d k ≡ true) first low.here)

  moved : {q : Refusal} {out : ℕ → Bool} {many : ℕ} {o p : Option ℕ} → LowestOut out many o → refuses q o ≡ refuses q p → LowestOut out many p
  moved w e = record { at = w.at; is = sym (refusal-place e) ∙ w.is; known = w.known; here = w.here; below = w.below }

  module _ (own_size : Bool) (between after : List Check) (b : Placeless between) (a : Placeless after) where
    cell-right : (p : Option ℕ) → Cause d OutOfRange p → LowestOut (cell_out d.dg d.ds) 8192 p
    cell-right p (plain w) = absurd (w.no_cell refl)
    cell-right p (cell s h e) = let z = sized d s in moved (cell-place d.dg d.ds z.dg-cells z.ds-cells h) e
    cell-right p (ambient h e) = absurd (omega (arith, refusal-number e))
    cell-right p (potential t h e) = absurd (omega (arith, refusal-number e))

    ambient-right : (p : Option ℕ) → Cause d AmbientOut p → LowestOut (ambient_number_out d.ambient) 3 p
    ambient-right p (plain w) = absurd (w.no-ambient refl)
    ambient-right p (cell s h e) = absurd (omega (arith, refusal-number e))
    ambient-right p (ambient h e) = moved (ambient-place d.ambient h) e
    ambient-right p (potential t h e) = absurd (omega (arith, refusal-number e))

    potential-right : (p : Option ℕ) → Cause d PotentialOut p → LowestOut (potential_out d) (strands d) p
    potential-right p (plain w) = absurd (w.no-potential refl)
    potential-right p (cell s h e) = absurd (omega (arith, refusal-number e))
    potential-right p (ambient h e) = absurd (omega (arith, refusal-number e))
    potential-right p (potential t h e) = moved (potential-place d h) e

    never-null : Cause d PotentialOut (Some 0) → ⊥
    never-null (plain w) = w.no-potential refl
    never-null (cell s h e) = omega (arith, refusal-number e)
    never-null (ambient h e) = omega (arith, refusal-number e)
    never-null (potential t h e) = not_first t h (place_at_lem (refusal-place e))

    other-right : (r : Refusal) (p : Option ℕ) → Cause d r p → (number_of r ≡ 9 → ⊥) → (number_of r ≡ 16 → ⊥) → (number_of r ≡ 17 → ⊥) → p ≡ None
    other-right r p (plain w) x y z = w.nowhere
    other-right r p (cell s h e) x y z = absurd (x (sym (refusal-number e)))
    other-right r p (ambient h e) x y z = absurd (y (sym (refusal-number e)))
    other-right r p (potential t h e) x y z = absurd (z (sym (refusal-number e)))

    -- of any call on a design whose own checks have no place
    pub places-right : PlacesRight d (first_of (design_checks own_size d between after))
    places-right = record {
      cell = λ p e. cell-right p (cause d after a own_size between b e);
      ambient = λ p e. ambient-right p (cause d after a own_size between b e);
      potential = λ p e. potential-right p (cause d after a own_size between b e);
      not_null = λ e. never-null (cause d after a own_size between b e);
      elsewhere = λ r p e. other-right r p (cause d after a own_size between b e);
    }
