-- What the library's searches find, in the words of specs/Find. Assumes nothing.
use mathlib.Core.Path.{◌≡◌, refl, sym, ap, ◌∙◌}
use mathlib.Core.Bool.{Bool, true, false, cond, ◌||◌}
use mathlib.Core.List.{List, [], ◌∷◌}
use mathlib.Core.Logic.{inl, inr}
use Prim.Native.Nat.{ℕ, zero, suc, ◌+◌}
use native.Mathlib.Omega.{arith}
use lib.ListN.{length}
use borrow.Author.Tests.{lt-ltb, le-ltb}
use Rattle.std.specs.Prelude.{Option, Some, None, position, find}
use Rattle.std.specs.Option.{unwrap_or}
use Rattle.std.specs.List.{list_any, position_or_len, range_with_len}
use Rattle.std.proofs.lemmas.Bool.{cases_lt}
use Rattle.std.proofs.lemmas.List.Recursion.{is_position_or_len}
use Rattle.lists.specs.Find.{any, first_index}
use Rattle.lists.specs.Build.{tabulate, up_to}
use Rattle.lists.proofs.Find.{first-le, first_any}
use Rattle.lists.proofs.Counted.{tabulate-same}

-- the numbers of a range
up_from : (start n : ℕ) → tabulate n (λ k. start + k) ≡ range_with_len start n
unfolding tabulate
up_from start zero = refl
up_from start (suc n) =
    let first : start + 0 ≡ start = omega arith in
    let later = tabulate-same n (λ k. start + suc k) (λ k. start + 1 + k) (λ k h. omega arith) ∙ up_from (start + 1) n in
    rw (first, later) refl

pub up_to_is : (n : ℕ) → up_to n ≡ range_with_len 0 n
up_to_is n = tabulate-same n (λ k. k) (λ k. 0 + k) (λ k h. omega arith) ∙ up_from 0 n

some_chosen : (b : Bool) (n : ℕ) {k : ℕ} → ◌≡◌ {A = Option ℕ} (cond b (Some n) None) (Some k) → (b ≡ true) × (n ≡ k)
some_chosen true n e = (refl, cc)
some_chosen false n e = cc

none_chosen : (b : Bool) (n : ℕ) → ◌≡◌ {A = Option ℕ} (cond b (Some n) None) None → b ≡ false
none_chosen true n e = cc
none_chosen false n e = refl

module _ {A : Type 0} (p : A → Bool) where
  pub any_is : (xs : List A) → list_any p xs ≡ any p xs
  unfolding any
  any_is [] = refl
  any_is (x ∷ xs) = rw (any_is xs)

  pub first_is : (xs : List A) → first_index p xs ≡ position_or_len p xs
  unfolding first_index
  first_is xs =
      let step = λ (x : A) (xs : List A). let e : suc (first_index p xs) ≡ 1 + first_index p xs = omega arith in ap (cond (p x) 0) e in
      is_position_or_len (first_index p) p refl step xs

  -- where the search stops depends on whether some element passes
  pub position_is : (xs : List A) → position p xs ≡ cond (any p xs) (Some (first_index p xs)) None
  position_is xs = rw (sym (first_is xs), first_any p xs)

  pub position_some : (xs : List A) {k : ℕ} → position p xs ≡ Some k → (any p xs ≡ true) × (first_index p xs ≡ k)
  position_some xs {k} e = some_chosen (any p xs) (first_index p xs) (sym (position_is xs) ∙ e)

  pub position_none : (xs : List A) → position p xs ≡ None → any p xs ≡ false
  position_none xs e = none_chosen (any p xs) (first_index p xs) (sym (position_is xs) ∙ e)

  -- the length in the place of none
  pub position_first : (xs : List A) → unwrap_or (position p xs) (length xs) ≡ first_index p xs
  position_first xs =
      let n = position_or_len p xs in
      let same = first_is xs in
      let most = first-le p xs in
      elim (cases_lt n (length xs)) [ inl h ↦ rw (lt-ltb n (length xs) h) (sym same) | inr h ↦ rw (le-ltb n (length xs) h) (omega arith) ]

module _ (p : ℕ → Bool) where
  -- some number below a bound passes
  pub any_up_to_is : (n : ℕ) → list_any p (range_with_len 0 n) ≡ any p (up_to n)
  any_up_to_is n = rw (up_to_is n) (any_is p (range_with_len 0 n))

  find_from : (start n : ℕ) → find p (tabulate n (λ k. start + k)) ≡ cond (any p (tabulate n (λ k. start + k))) (Some (start + first_index p (tabulate n (λ k. start + k)))) None
  unfolding tabulate any first_index
  find_from start zero = refl
  find_from start (suc n) =
      let later = tabulate-same n (λ k. start + suc k) (λ k. start + 1 + k) (λ k h. omega arith) in
      rw later (go (p (start + 0)) (find_from (start + 1) n))
    where
      rest : List ℕ
      rest = tabulate n (λ k. start + 1 + k)

      go : (b : Bool) → find p rest ≡ cond (any p rest) (Some (start + 1 + first_index p rest)) None
          → cond b (Some (start + 0)) (find p rest) ≡ cond (b || any p rest) (Some (start + cond b 0 (suc (first_index p rest)))) None
      go true e = refl
      go false e = let s : start + suc (first_index p rest) ≡ start + 1 + first_index p rest = omega arith in rw s e

  from_zero : (k : ℕ) → 0 + k ≡ k
  from_zero k = omega arith

  -- the first number below a bound that passes
  pub find_up_to_is : (n : ℕ) → find p (up_to n) ≡ cond (any p (up_to n)) (Some (first_index p (up_to n))) None
  find_up_to_is n = rw (tabulate-same n (λ k. k) (λ k. 0 + k) (λ k h. omega arith)) (rw (from_zero (first_index p (tabulate n (λ k. 0 + k)))) at (find_from 0 n))

  pub found_up_to : (n : ℕ) {k : ℕ} → find p (up_to n) ≡ Some k → (any p (up_to n) ≡ true) × (first_index p (up_to n) ≡ k)
  found_up_to n {k} e = some_chosen (any p (up_to n)) (first_index p (up_to n)) (sym (find_up_to_is n) ∙ e)

  pub none_up_to : (n : ℕ) → find p (up_to n) ≡ None → any p (up_to n) ≡ false
  none_up_to n e = none_chosen (any p (up_to n)) (first_index p (up_to n)) (sym (find_up_to_is n) ∙ e)
