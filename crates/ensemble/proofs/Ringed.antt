-- The pass with one first occupant, as the loop over the later positions begins and ends. Assumes nothing.
use mathlib.Core.Path.{◌≡◌, refl, sym, ap, ◌∙◌, subst}
use mathlib.Core.Logic.{◌⊎◌, inl, inr}
use mathlib.Core.List.Memᴰ
use mathlib.Core.List.{List, [], ◌∷◌, Memᴰ}
use Prim.Native.Nat.{ℕ, zero, suc, ◌+◌, ◌<◌, ◌≤◌}
use native.Mathlib.Nat.{not-suc-le-zero, zero-mul, zero-add, add-sub_cancel_left}
use native.Mathlib.Decide.{ℕ_discrete}
use native.Mathlib.Omega.{arith}
use lib.ListN.{length, get_or}
use lib.Seq.{drop-cons}
use lib.Ieee.{Float, binary64, mul, nan}
use borrow.Author.Tests.{eq-eqb, ne_eqb}
use Rattle.doubles.specs.Least.{first_least}
use Rattle.lists.proofs.Places.{mem-get_or}
use Rattle.model.specs.Model as Model
use Rattle.model.specs.Model.{Model, Friend}
use Rattle.model.specs.Search.{options_at, least_left, entry, search_over}
use Rattle.model.specs.Ring.{closed_times_rt, with_first, ring_from}
use Rattle.model.proofs.Search.{own, some-option}
use Rattle.ensemble.specs.declared.attach.Attached.{Attached}
use Rattle.ensemble.specs.Layout.{Searchable, OptionRows, BondCells}
use Rattle.ensemble.specs.Ring.{ClosingCells}
use Rattle.ensemble.specs.inner.Entries.{Chosen, Known, table_bond, choice_in, traced_back}
use Rattle.ensemble.specs.inner.Ring.{closed_in, first_entry, FoundFrom}
use Rattle.ensemble.specs.inner.Passed.{OptionsOf, Left, Table}
use Rattle.ensemble.proofs.LentParts.{part}
use Rattle.ensemble.proofs.OptionRows.{count-is, option_is}
use Rattle.ensemble.proofs.Passing.{found-over}

-- past position 0 the options are the model's
pub later-options : (m : Model) (f i : ℕ) → 1 ≤ i → with_first m f i ≡ options_at m i
later-options m f zero h = absurd (not-suc-le-zero h)
later-options m f (suc i) h = refl

-- a part of one entry
pub part-one : (rows : List ℕ) (k : ℕ) → k < length rows → part rows k (k + 1) ≡ get_or rows k 0 ∷ []
part-one rows k h = rw (add-sub_cancel_left k 1, drop-cons rows k 0 h) refl

module _ (m : Model) (f : ℕ) (option : Memᴰ f (options_at m 0)) where
  pub ring-options : OptionsOf m (with_first m f)
  ring-options = record { own = own_first; some = some_first }
    where
      own_first : (i x : ℕ) → Memᴰ x (with_first m f i) → Memᴰ x (options_at m i)
      own_first zero x k = rw (Memᴰ.eq_of_singleton k) option
      own_first (suc i) x k = k

      some_first : (i : ℕ) → 0 < length (with_first m f i)
      some_first zero = omega arith
      some_first (suc i) = some-option m (suc i)

  -- a first occupant is a friend, or 0
  friend : (f ≡ 0 → ⊥) → Friend m 0 f
  friend occupied = go (own m 0 f option)
    where
      go : (f ≡ 0) ⊎ Friend m 0 f → Friend m 0 f
      go (inl e) = absurd (occupied e)
      go (inr w) = w

  module _ {strands : ℕ} {strand_bonds scaffold_bonds potentials : List Float} (b : BondCells m strands strand_bonds scaffold_bonds potentials) (some : 0 < Model.positions m) where
    first-is : first_entry scaffold_bonds potentials f ≡ entry m (with_first m f) 0 f
    unfolding least_left
    first-is = go (ℕ_discrete f 0)
      where
        go : Dec (f ≡ 0) → first_entry scaffold_bonds potentials f ≡ entry m (with_first m f) 0 f
        go (yes e) = rw (eq-eqb f 0 e) refl
        go (no n) =
            let w = friend n in
            let site : get_or scaffold_bonds f nan ≡ m.site 0 f = rw (zero-mul, zero-add) at (b.sites 0 f some w) in
            rw (ne_eqb f 0 n, site, b.logs 0 f some w) refl

    -- the loop begins with one entry to the left of position 1
    pub left-first : (left : List ℕ) (energies : List Float) → left ≡ f ∷ [] → get_or energies 0 nan ≡ first_entry scaffold_bonds potentials f → Left m (with_first m f) 1 left energies
    left-first left energies e is = record { are = e; entries = rw e one }
      where
        one : (j : ℕ) → j < 1 → get_or energies j nan ≡ entry m (with_first m f) 0 (get_or (f ∷ []) j 0)
        one zero h = is ∙ first-is
        one (suc j) h = absurd (omega arith)

  pub table-first : (choice : List (List ℕ)) (empty : List ℕ) → Table m (with_first m f) 1 choice empty
  table-first choice empty i h past x k = absurd (omega arith)

  -- ---- at the end

  module _ (strands : ℕ) (strand_bonds : List Float) (closing : ClosingCells m strands strand_bonds) (last : ℕ) (e : Model.positions m ≡ suc last) (rt : Float) (rt-is : rt ≡ m.rt) where
    closed_is : (x : ℕ) (sum : Float) → Memᴰ x (options_at m last) → mul binary64 (closed_in (table_bond strands strand_bonds) f x sum) rt ≡ closed_times_rt m f x sum
    closed_is x sum o = go (ℕ_discrete f 0) (ℕ_discrete x 0)
      where
        go : Dec (f ≡ 0) → Dec (x ≡ 0) → mul binary64 (closed_in (table_bond strands strand_bonds) f x sum) rt ≡ closed_times_rt m f x sum
        go (yes g) d = rw (eq-eqb f 0 g, rt-is) refl
        go (no g) (yes d) = rw (ne_eqb f 0 g, eq-eqb x 0 d, rt-is) refl
        go (no g) (no d) = rw (ne_eqb f 0 g, ne_eqb x 0 d, rt-is, closing last x f e (of-last (own m last x o)) (friend g)) refl
          where
            of-last : (x ≡ 0) ⊎ Friend m last x → Friend m last x
            of-last (inl z) = absurd (d z)
            of-last (inr w) = w

    pub found-ring : (choice : List (List ℕ)) (empty left : List ℕ) (energies : List Float) (r : Attached) (written : List ℕ)
        → ((key : ℕ → Float) → ((k : ℕ) → k < length left → mul binary64 (closed_in (table_bond strands strand_bonds) f (get_or left k 0) (get_or energies k nan)) rt ≡ key (get_or left k 0)) → Chosen key left (first_least key left) r)
        → Left m (with_first m f) (suc last) left energies → Table m (with_first m f) (suc last) choice empty → written ≡ traced_back (choice_in choice empty) (suc last) r.strand
        → FoundFrom m f written r.energy
    unfolding ring_from
    found-ring choice empty left energies r written chosen w table is =
        let member : (k : ℕ) → k < length left → Memᴰ (get_or left k 0) (options_at m last) = λ k h. ring-options.own last (get_or left k 0) (subst (λ (xs : List ℕ). Memᴰ (get_or left k 0) xs) w.are (mem-get_or 0 left k h)) in
        let v = found-over ring-options (closed_times_rt m f) choice empty left energies r written (λ key keys. chosen key (λ k h. closed_is (get_or left k 0) (get_or energies k nan) (member k h) ∙ keys k h)) (suc last) w table is in
        record {
          shown = v.0 ∙ ap (λ (n : ℕ). (search_over m (with_first m f) (closed_times_rt m f) n).configuration) (sym e);
          least = v.1 ∙ ap (λ (n : ℕ). (search_over m (with_first m f) (closed_times_rt m f) n).energy) (sym e);
        }

-- ---- the first occupant in the row of position 0

pub first-known : {strands : ℕ} {rows counts : List ℕ} {option : ℕ} → Searchable strands rows counts → 0 < length counts → option < get_or counts 0 0 → get_or rows option 0 < strands
first-known {option = option} z some h = rw zero-add at (z.known 0 option some h)

pub known-one : {strands x : ℕ} → x < strands → Known strands (x ∷ [])
known-one h zero l = h
known-one h (suc k) l = absurd (omega arith)

module _ {m : Model} {rows counts : List ℕ} {option : ℕ} (o : OptionRows m rows counts) (some : 0 < Model.positions m) (h : option < get_or counts 0 0) where
  pub first-option : get_or rows option 0 ≡ get_or (options_at m 0) option 0
  first-option = rw zero-add at (option_is o 0 option some h)

  pub first_member : Memᴰ (get_or rows option 0) (options_at m 0)
  first_member = rw first-option (mem-get_or 0 (options_at m 0) option (rw (← count-is o 0 some) h))

-- at the end of a ring of so many positions
pub found_first : (m : Model) (f : ℕ) (option : Memᴰ f (options_at m 0)) (strands : ℕ) (strand_bonds : List Float) → ClosingCells m strands strand_bonds → (rt : Float) → rt ≡ m.rt
    → (choice : List (List ℕ)) (empty left : List ℕ) (energies : List Float) (r : Attached) (written : List ℕ)
    → ((key : ℕ → Float) → ((k : ℕ) → k < length left → mul binary64 (closed_in (table_bond strands strand_bonds) f (get_or left k 0) (get_or energies k nan)) rt ≡ key (get_or left k 0)) → Chosen key left (first_least key left) r)
    → (position : ℕ) → 1 ≤ position → position ≡ Model.positions m → Left m (with_first m f) position left energies → Table m (with_first m f) position choice empty
    → written ≡ traced_back (choice_in choice empty) position r.strand → FoundFrom m f written r.energy
found_first m f option strands strand_bonds closing rt rt-is choice empty left energies r written chosen zero h e w table is = absurd (not-suc-le-zero h)
found_first m f option strands strand_bonds closing rt rt-is choice empty left energies r written chosen (suc last) h e w table is =
    found-ring m f option strands strand_bonds closing last (sym e) rt rt-is choice empty left energies r written chosen w table is
