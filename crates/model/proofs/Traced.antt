-- A configuration that is traced back: its length, its last place, and each place by the next one. Assumes nothing.
use mathlib.Core.Path.{◌≡◌, refl, sym, ap, ◌∙◌, subst}
use mathlib.Core.Logic.{◌⊎◌, inl, inr}
use mathlib.Core.List.{List, ◌∷◌, Memᴰ}
use Prim.Native.Nat.{ℕ, zero, suc, ◌+◌, ◌<◌, ◌≤◌}
use native.Mathlib.Nat.{not-suc-le-zero, le-suc_iff, suc_inj, add-suc, suc-add, add-zero}
use native.Mathlib.Omega.{arith}
use lib.Arith.{le-zero}
use lib.ListN.{length}
use Rattle.model.specs.Model.{occupant}
use Rattle.model.specs.Search.{traced}

module _ (left : ℕ → ℕ → ℕ) where
  pub traced-length : (i x : ℕ) (right : List ℕ) → length (traced left i x right) ≡ suc i + length right
  unfolding traced
  traced-length zero x right = omega arith
  traced-length (suc i) x right = omega (arith, traced-length i (left (suc i) x) (x ∷ right))

  -- what stands to the right stays
  traced-right : (i x : ℕ) (right : List ℕ) (k : ℕ) → occupant (traced left i x right) (suc i + k) ≡ occupant right k
  unfolding traced
  traced-right zero x right k = ap (occupant (x ∷ right)) (suc-add 0 k ∙ ap suc (omega arith))
  traced-right (suc i) x right k = ap (occupant (traced left i (left (suc i) x) (x ∷ right))) (suc-add (suc i) k ∙ sym (add-suc (suc i) k)) ∙ traced-right i (left (suc i) x) (x ∷ right) (suc k)

  pub traced-at : (i x : ℕ) (right : List ℕ) → occupant (traced left i x right) i ≡ x
  unfolding traced
  traced-at zero x right = refl
  traced-at (suc i) x right = ap (occupant (traced left i (left (suc i) x) (x ∷ right))) (sym (add-zero (suc i))) ∙ traced-right i (left (suc i) x) (x ∷ right) 0

  pub traced-left : (i x : ℕ) (right : List ℕ) (j : ℕ) → j < i → occupant (traced left i x right) j ≡ left (suc j) (occupant (traced left i x right) (suc j))
  unfolding traced
  traced-left zero x right j h = absurd (not-suc-le-zero h)
  traced-left (suc i) x right j h = go (le-suc_iff.0 h) (λ l. traced-left i (left (suc i) x) (x ∷ right) j l)
    where
      s : List ℕ
      s = traced left i (left (suc i) x) (x ∷ right)

      go : (suc j ≤ i) ⊎ (suc j ≡ suc i) → (j < i → occupant s j ≡ left (suc j) (occupant s (suc j))) → occupant s j ≡ left (suc j) (occupant s (suc j))
      go (inl l) ih = ih l
      go (inr e) ih =
          let same : j ≡ i = suc_inj e in
          rw same (traced-at i (left (suc i) x) (x ∷ right) ∙ ap (left (suc i)) (sym (traced-at (suc i) x right)))

  -- each place holds an option, where the last does and a left choice is one
  module _ (options : ℕ → List ℕ) (last : ℕ) (chosen : (i x : ℕ) → suc i ≤ last → Memᴰ x (options (suc i)) → Memᴰ (left (suc i) x) (options i)) where
    pub traced-options : (i x : ℕ) (right : List ℕ) → i ≤ last → Memᴰ x (options i) → (j : ℕ) → j ≤ i → Memᴰ (occupant (traced left i x right) j) (options j)
    unfolding traced
    traced-options zero x right l m j h = rw (le-zero h) m
    traced-options (suc i) x right l m j h = go (le-suc_iff.0 h) (λ k. traced-options i (left (suc i) x) (x ∷ right) (omega arith) (chosen i x l m) j k)
      where
        s : List ℕ
        s = traced left i (left (suc i) x) (x ∷ right)

        go : (j ≤ i) ⊎ (j ≡ suc i) → (j ≤ i → Memᴰ (occupant s j) (options j)) → Memᴰ (occupant s j) (options j)
        go (inl k) ih = ih k
        go (inr e) ih = rw e (subst (λ (y : ℕ). Memᴰ y (options (suc i))) (sym (traced-at (suc i) x right)) m)

-- two ways to choose the left one that agree on what is an option trace the same
module _ (left left' : ℕ → ℕ → ℕ) (options : ℕ → List ℕ) (last : ℕ)
    (chosen : (i x : ℕ) → suc i ≤ last → Memᴰ x (options (suc i)) → Memᴰ (left (suc i) x) (options i))
    (agree : (i x : ℕ) → suc i ≤ last → Memᴰ x (options (suc i)) → left' (suc i) x ≡ left (suc i) x) where
  pub traced-same : (i x : ℕ) (right : List ℕ) → i ≤ last → Memᴰ x (options i) → traced left' i x right ≡ traced left i x right
  unfolding traced
  traced-same zero x right l m = refl
  traced-same (suc i) x right l m =
      ap (λ (y : ℕ). traced left' i y (x ∷ right)) (agree i x l m) ∙ traced-same i (left (suc i) x) (x ∷ right) (omega arith) (chosen i x l m)
