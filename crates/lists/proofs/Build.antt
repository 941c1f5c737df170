-- Lists made by a rule: their elements, and what is left of them from a place on, which is how a loop meets them. Assumes nothing.
use mathlib.Core.Path.{◌≡◌, refl, ap}
use mathlib.Core.Bool.{Bool, true, false}
use mathlib.Core.List.{[], ◌∷◌}
use Prim.Native.Nat.{ℕ, zero, suc, ◌+◌, ◌<◌, ◌≤◌}
use native.Mathlib.Nat.{le_of_suc-le-suc, not-suc-le-zero}
use native.Mathlib.Numerals.{add-one}
use lib.ListN.{length, get_or, drop, drop_of_length-le}
use lib.Seq.{drop-cons}
use Rattle.lists.specs.Find.{any, first_index}
use Rattle.lists.specs.Build.{tabulate, up_to, keep}

module _ {A : Type 0} where
  pub length-tabulate : (n : ℕ) (f : ℕ → A) → length (tabulate n f) ≡ n
  unfolding tabulate
  length-tabulate zero f = refl
  length-tabulate (suc n) f = ap suc (length-tabulate n (λ k. f (suc k)))

  pub get_or-tabulate : (n : ℕ) (f : ℕ → A) (d : A) (k : ℕ) → k < n → get_or (tabulate n f) k d ≡ f k
  unfolding tabulate
  get_or-tabulate zero f d k h = absurd (not-suc-le-zero h)
  get_or-tabulate (suc n) f d zero h = refl
  get_or-tabulate (suc n) f d (suc k) h = get_or-tabulate n (λ j. f (suc j)) d k (le_of_suc-le-suc h)

  pub drop-tabulate : (n : ℕ) (f : ℕ → A) (k : ℕ) → k < n → drop k (tabulate n f) ≡ f k ∷ drop (k + 1) (tabulate n f)
  drop-tabulate n f k h =
      let l : k < length (tabulate n f) = rw (length-tabulate n f) h in
      rw (add-one, drop-cons (tabulate n f) k (f k)) (ap (λ (x : A). x ∷ drop (suc k) (tabulate n f)) (get_or-tabulate n f (f k) k h))

  pub tabulate-past : (n : ℕ) (f : ℕ → A) (k : ℕ) → n ≤ k → drop k (tabulate n f) ≡ []
  tabulate-past n f k h = let l : length (tabulate n f) ≤ k = rw (length-tabulate n f) h in drop_of_length-le (tabulate n f) l

-- ---- a loop over the numbers below n, with a test
module _ (p : ℕ → Bool) (n i : ℕ) (h : i < n) where
  pub any_here : p i ≡ true → any p (drop i (up_to n)) ≡ true
  unfolding any
  any_here e = rw (drop-tabulate n (λ k. k) i h) (simp e)

  pub any-later : p i ≡ false → any p (drop i (up_to n)) ≡ any p (drop (i + 1) (up_to n))
  unfolding any
  any-later e = rw (drop-tabulate n (λ k. k) i h) (simp e)

  pub first-here : p i ≡ true → first_index p (drop i (up_to n)) ≡ 0
  unfolding first_index
  first-here e = rw (drop-tabulate n (λ k. k) i h) (simp e)

  pub first-later : p i ≡ false → first_index p (drop i (up_to n)) ≡ suc (first_index p (drop (i + 1) (up_to n)))
  unfolding first_index
  first-later e = rw (drop-tabulate n (λ k. k) i h) (simp e)

  pub keep-here : p i ≡ true → keep p (drop i (up_to n)) ≡ i ∷ keep p (drop (i + 1) (up_to n))
  unfolding keep
  keep-here e = rw (drop-tabulate n (λ k. k) i h) (simp e)

  pub keep-later : p i ≡ false → keep p (drop i (up_to n)) ≡ keep p (drop (i + 1) (up_to n))
  unfolding keep
  keep-later e = rw (drop-tabulate n (λ k. k) i h) (simp e)

module _ (p : ℕ → Bool) (n i : ℕ) (h : n ≤ i) where
  pub any-past : any p (drop i (up_to n)) ≡ false
  unfolding any
  any-past = rw (tabulate-past n (λ k. k) i h)

  pub first_past : first_index p (drop i (up_to n)) ≡ 0
  unfolding first_index
  first_past = rw (tabulate-past n (λ k. k) i h)

  pub keep-past : keep p (drop i (up_to n)) ≡ []
  unfolding keep
  keep-past = rw (tabulate-past n (λ k. k) i h)
