-- A test over the elements of a list, chunk by chunk. Assumes nothing.
use mathlib.Core.Path.{◌≡◌, refl, sym, ap, ◌∙◌}
use mathlib.Core.Bool.{Bool, ◌||◌, or_assoc}
use mathlib.Core.List.{List}
use Prim.Native.Nat.{ℕ, zero, suc, ◌+◌, ◌*◌}
use native.Mathlib.Omega.{arith}
use lib.ListN.{take, drop, take-append-drop}
use Rattle.std.specs.Simd.{first_chunks}
use Rattle.std.proofs.lemmas.List.{drop-drop}
use Rattle.lists.specs.Find.{any}
use Rattle.lists.proofs.Find.{any_append}

module _ {A : Type 0} (p : A → Bool) where
  -- some passes among the first k chunks of n, or after them
  pub any-by-chunks : (n k : ℕ) (xs : List A) → any p xs ≡ (any (any p) (first_chunks n k xs) || any p (drop (k * n) xs))
  unfolding any
  any-by-chunks n zero xs = let none : 0 * n ≡ 0 = omega arith in rw none refl
  any-by-chunks n (suc k) xs =
      let more : n + k * n ≡ suc k * n = omega arith in
      let later = any-by-chunks n k (drop n xs) ∙ ap (λ (ys : List A). any (any p) (first_chunks n k (drop n xs)) || any p ys) (drop-drop (k * n) n xs ∙ ap (λ (m : ℕ). drop m xs) more) in
      ap (any p) (sym (take-append-drop n xs)) ∙ any_append p (take n xs) (drop n xs) ∙ ap (λ (b : Bool). any p (take n xs) || b) later
      ∙ sym (or_assoc (any p (take n xs)) (any (any p) (first_chunks n k (drop n xs))) (any p (drop (suc k * n) xs)))
