-- What it is for a name to be known as spelled: its base is known, and it has at most one star. Assumes nothing.
use mathlib.Core.Path.{◌≡◌, refl, ap, sym, ◌∙◌}
use mathlib.Core.Bool.{Bool, true, false, cond, not, ◌&&◌, ◌||◌}
use mathlib.Core.List.{List, [], ◌∷◌}
use mathlib.Core.Option.{none, some}
use Prim.Native.Nat.{ℕ, zero, suc, ◌+◌, ◌*◌, ◌<◌, ◌≤◌}
use native.Mathlib.Omega.{arith}
use lib.Dec.{eqb, ltb}
use lib.ListN.{length}
use borrow.Author.Tests.{ne_eqb, eqb-true, lt-ltb, ltb-true}
use Rattle.lists.specs.Find.{any, first_index}
use Rattle.lists.specs.Each.{Each}
use Rattle.lists.proofs.Find.{first_any}
use Rattle.sdc_common.specs.Names.{Name, base_of, stars_of, same_name}
use Rattle.sdc_common.specs.Lent.{Glue}
use Rattle.sdc_common.specs.Numbers.{is_known, number_at, base_number, name_number, glue_number}
use Rattle.sdc_common.specs.Spelled.{known_names, is_unknown, spelled_number}
use Rattle.sdc_common.proofs.Spelled.{Bare, same-as-base, same-as-starred}

-- a name with no star, or one
abbrev few_stars : Name → Bool
few_stars name = eqb (stars_of name) 0 || eqb (stars_of name) 1

known_step : (q a s t : Bool) → ((q && s) || ((q && t) || (a && (s || t)))) ≡ ((q || a) && (s || t))
known_step true a true t = refl
known_step true true false true = refl
known_step true false false true = refl
known_step true true false false = refl
known_step true false false false = refl
known_step false a s t = refl

module _ (name : Name) where
  pub known-spelled : (bases : List Name) → Each Bare bases → any (same_name name) (known_names bases) ≡ (is_known bases (base_of name) && few_stars name)
  unfolding any known_names
  known-spelled [] e = refl
  known-spelled (b ∷ bases) e =
      rw (same-as-base name b e.0, same-as-starred name b e.0, known-spelled bases e.1)
      (known_step (same_name (base_of name) b) (any (same_name (base_of name)) bases) (eqb (stars_of name) 0) (eqb (stars_of name) 1))

  first-none : (q a : Bool) (m n : ℕ) → (a ≡ true → m ≡ 2 * n) → (q || a) ≡ true → cond q 0 (suc (suc m)) ≡ 2 * cond q 0 (suc n)
  first-none true a m n e h = refl
  first-none false a m n e h = omega (arith, e h)

  first_one : (q a : Bool) (m n : ℕ) → (a ≡ true → m ≡ 2 * n + 1) → (q || a) ≡ true → suc (cond q 0 (suc m)) ≡ 2 * cond q 0 (suc n) + 1
  first_one true a m n e h = refl
  first_one false a m n e h = omega (arith, e h)

  first-unstarred : stars_of name ≡ 0 → (bases : List Name) → Each Bare bases → is_known bases (base_of name) ≡ true → first_index (same_name name) (known_names bases) ≡ 2 * first_index (same_name (base_of name)) bases
  unfolding any first_index known_names
  first-unstarred s [] e h = refl
  first-unstarred s (b ∷ bases) e h =
      rw (same-as-base name b e.0, same-as-starred name b e.0, s)
      (plain (same_name (base_of name) b) _ _ (first-none (same_name (base_of name) b) (any (same_name (base_of name)) bases) _ _ (first-unstarred s bases e.1) h))
    where
      plain : (q : Bool) (m n : ℕ) → cond q 0 (suc (suc m)) ≡ n → cond (q && true) 0 (suc (cond (q && false) 0 (suc m))) ≡ n
      plain true m n p = p
      plain false m n p = p

  first-starred : stars_of name ≡ 1 → (bases : List Name) → Each Bare bases → is_known bases (base_of name) ≡ true → first_index (same_name name) (known_names bases) ≡ 2 * first_index (same_name (base_of name)) bases + 1
  unfolding any first_index known_names
  first-starred s [] e h = absurd (let z : ◌≡◌ {A = ℕ} 0 1 = cc in omega arith)
  first-starred s (b ∷ bases) e h =
      rw (same-as-base name b e.0, same-as-starred name b e.0, s)
      (plain (same_name (base_of name) b) _ _ (first_one (same_name (base_of name) b) (any (same_name (base_of name)) bases) _ _ (first-starred s bases e.1) h))
    where
      plain : (q : Bool) (m n : ℕ) → suc (cond q 0 (suc m)) ≡ n → cond (q && false) 0 (suc (cond (q && true) 0 (suc m))) ≡ n
      plain true m n p = p
      plain false m n p = p

-- ---- by the number of the reduced name, and the stars

number-none : (bases : List Name) (base : Name) (stars : ℕ) → eqb (base_number bases base stars) 0 ≡ not (is_known bases base)
unfolding base_number
number-none bases base stars = go (is_known bases base)
  where
    go : (t : Bool) → eqb (cond t (number_at (first_index (same_name base) bases) stars) 0) 0 ≡ not t
    go true = ne_eqb (number_at (first_index (same_name base) bases) stars) 0 (λ e. omega arith)
    go false = refl

few-stars : (n : ℕ) → ltb 1 n ≡ not (eqb n 0 || eqb n 1)
few-stars zero = refl
few-stars (suc zero) = refl
few-stars (suc (suc n)) = lt-ltb 1 (suc (suc n)) (omega arith) ∙ sym (rw (ne_eqb (suc (suc n)) 0 (λ e. omega arith), ne_eqb (suc (suc n)) 1 (λ e. omega arith)))

not-and : (a b : Bool) → not (a && b) ≡ (not a || not b)
not-and true b = refl
not-and false b = refl

-- unknown as spelled: the reduced name has no number, or there are two stars or more
pub unknown-spelled : (bases : List Name) → Each Bare bases → (name : Name) → (eqb (name_number bases name) 0 || ltb 1 (stars_of name)) ≡ is_unknown bases (some name)
unfolding is_unknown
unknown-spelled bases e name =
    rw (number-none bases (base_of name) (stars_of name), few-stars (stars_of name))
    (sym (ap not (known-spelled name bases e) ∙ not-and (is_known bases (base_of name)) (few_stars name)))

both : (a b : Bool) → not (a && b) ≡ false → (a ≡ true) × (b ≡ true)
both true true e = (refl, refl)
both true false e = absurd (let z : ◌≡◌ {A = ℕ} 0 1 = cc in omega arith)
both false b e = absurd (let z : ◌≡◌ {A = ℕ} 0 1 = cc in omega arith)

-- a name that is known as spelled has the number of its reduced name
pub spelled-number : (bases : List Name) → Each Bare bases → (glue : Glue) → is_unknown bases glue ≡ false → spelled_number bases glue ≡ glue_number bases glue
unfolding is_unknown spelled_number glue_number base_number
spelled-number bases bare none e = refl
spelled-number bases bare (some name) e =
    let two = both (is_known bases (base_of name)) (few_stars name) (ap not (sym (known-spelled name bases bare)) ∙ e) in
    go (eqb (stars_of name) 0) refl (eqb (stars_of name) 1) refl two.0 two.1
  where
    go : (s : Bool) → eqb (stars_of name) 0 ≡ s → (t : Bool) → eqb (stars_of name) 1 ≡ t → is_known bases (base_of name) ≡ true → (s || t) ≡ true → 1 + first_index (same_name name) (known_names bases) ≡ name_number bases name
    go true p t q known few =
        let stars : stars_of name ≡ 0 = eqb-true _ _ p in
        rw (known, stars) (omega (arith, first-unstarred name stars bases bare known))
    go false p true q known few =
        let stars : stars_of name ≡ 1 = eqb-true _ _ q in
        rw (known, stars) (omega (arith, first-starred name stars bases bare known))
    go false p false q known few = absurd (let z : ◌≡◌ {A = ℕ} 0 1 = cc in omega arith)

-- ---- no number is above two for each base

at_most : (t : Bool) (place stars n : ℕ) → (t ≡ true → place < n) → cond t (number_at place stars) 0 ≤ 2 * n
at_most true place stars n h = omega (arith, h refl)
at_most false place stars n h = omega arith

pub number-at-most : (bases : List Name) (base : Name) (stars : ℕ) → base_number bases base stars ≤ 2 * length bases
unfolding base_number
number-at-most bases base stars =
    at_most (is_known bases base) (first_index (same_name base) bases) stars (length bases)
    (λ e. ltb-true _ _ (first_any (same_name base) bases ∙ e))

pub glue-at-most : (bases : List Name) (glue : Glue) → glue_number bases glue ≤ 2 * length bases
unfolding glue_number
glue-at-most bases none = omega arith
glue-at-most bases (some name) = number-at-most bases (base_of name) (stars_of name)
