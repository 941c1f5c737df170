-- A test that some element of a list passes, or none. Assumes nothing.
use mathlib.Core.Path.{◌≡◌, refl, ap, sym, ◌∙◌}
use mathlib.Core.Bool.{Bool, true, false, ◌||◌, or-true, or-false}
use mathlib.Core.List.{List, [], ◌∷◌}
use Prim.Native.Nat.{ℕ, zero, suc, ◌+◌, ◌<◌, ◌≤◌}
use native.Mathlib.Nat.{le_of_suc-le-suc, not-suc-le-zero}
use native.Mathlib.Omega.{arith}
use native.Mathlib.Numerals.{add-one}
use lib.Dec.{ltb}
use lib.ListN.{length, get_or, drop, drop_of_length-le}
use lib.Seq.{drop-cons}
use borrow.Author.Tests.{lt-ltb, ltb-true, ltb-false}
use Rattle.lists.specs.Find.{any, first_index}
use Rattle.lists.specs.Build.{up_to}
use Rattle.lists.proofs.Tests.{neither}
use Rattle.lists.proofs.Find.{any-true, any_false}
use Rattle.lists.proofs.Build.{length-tabulate, get_or-tabulate}

module _ {A : Type 0} (p : A → Bool) where
  -- where none passes, each fails
  pub none_passes : (d : A) (xs : List A) → any p xs ≡ false → (k : ℕ) → k < length xs → p (get_or xs k d) ≡ false
  unfolding any
  none_passes d [] e k h = absurd (not-suc-le-zero h)
  none_passes d (x ∷ xs) e zero h = (neither (p x) (any p xs) e).0
  none_passes d (x ∷ xs) e (suc k) h = none_passes d xs (neither (p x) (any p xs) e).1 k (le_of_suc-le-suc h)

  -- where each fails, none passes
  pub all-fail : (d : A) (xs : List A) → ((k : ℕ) → k < length xs → p (get_or xs k d) ≡ false) → any p xs ≡ false
  unfolding any
  all-fail d [] h = refl
  all-fail d (x ∷ xs) h = simp (h 0 (omega arith), all-fail d xs (λ k l. h (suc k) (omega arith)))

-- the same of the numbers below n
module _ (p : ℕ → Bool) (n : ℕ) where
  pub none_below : any p (up_to n) ≡ false → (k : ℕ) → k < n → p k ≡ false
  none_below e k h = rw (get_or-tabulate n (λ j. j) 0 k h) at (none_passes p 0 (up_to n) e k (rw (length-tabulate n (λ j. j)) h))

  pub all-below : ((k : ℕ) → k < n → p k ≡ false) → any p (up_to n) ≡ false
  all-below h = all-fail p 0 (up_to n) (λ k l. let m : k < n = rw (length-tabulate n (λ j. j)) at l in rw (get_or-tabulate n (λ j. j) 0 k m) (h k m))

-- a program that looked for the first that passes, and compares its place with the length
module _ {A : Type 0} (p : A → Bool) (xs : List A) {r : ℕ} (e : r ≡ first_index p xs) where
  pub found : r < length xs → any p xs ≡ true
  found h = any-true p xs (rw e at h)

  pub not_found : length xs ≤ r → any p xs ≡ false
  not_found h = any_false p xs (rw e at h)

-- the same of the numbers below n
pub found_below : (p : ℕ → Bool) (n : ℕ) {r : ℕ} → r ≡ first_index p (up_to n) → ltb r n ≡ any p (up_to n)
found_below p n {r} e = go (ltb r n) refl
  where
    sized : length (up_to n) ≡ n
    sized = length-tabulate n (λ k. k)

    go : (b : Bool) → ltb r n ≡ b → ltb r n ≡ any p (up_to n)
    go true h = h ∙ sym (found p (up_to n) e (rw sized (ltb-true r n h)))
    go false h = h ∙ sym (not_found p (up_to n) e (rw sized (ltb-false r n h)))

-- a loop that counts those that pass, and compares the count with 0
module _ {A : Type 0} (p : A → Bool) (xs : List A) (i count : ℕ) where
  -- what is kept: some passes if one was counted or one that is left passes
  abbrev pub CountedOrLeft : Type 0
  CountedOrLeft = any p xs ≡ (ltb 0 count || any p (drop i xs))

  pub here : (d : A) → i < length xs → p (get_or xs i d) ≡ true → CountedOrLeft → any p xs ≡ (ltb 0 (count + 1) || any p (drop (i + 1) xs))
  unfolding any
  here d h e inv = inv ∙ ap (λ (t : Bool). ltb 0 count || t) (rw (drop-cons xs i d) (simp e)) ∙ or-true (ltb 0 count) ∙ sym (simp (lt-ltb 0 (count + 1) (omega arith)))

  pub later : (d : A) → i < length xs → p (get_or xs i d) ≡ false → CountedOrLeft → any p xs ≡ (ltb 0 count || any p (drop (i + 1) xs))
  unfolding any
  later d h e inv = inv ∙ rw (add-one, drop-cons xs i d) (simp e)

  pub past : length xs ≤ i → CountedOrLeft → ltb 0 count ≡ any p xs
  unfolding any
  past h inv = sym (inv ∙ rw (drop_of_length-le xs h) (or-false (ltb 0 count)))
