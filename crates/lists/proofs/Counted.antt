-- Lists made of each number below a bound, as a loop that counts up meets them: what holds below i, and of i, holds below i + 1. Assumes nothing.
use mathlib.Core.Path.{◌≡◌, refl, ap}
use mathlib.Core.Bool.{Bool, true, false, or-true}
use mathlib.Core.List.{List, [], ◌∷◌, ◌++◌, map, append_assoc, append-nil}
use Prim.Native.Nat.{ℕ, zero, suc, ◌+◌, ◌<◌, ◌≤◌}
use native.Mathlib.Nat.{le_of_suc-le-suc, not-suc-le-zero}
use native.Mathlib.Numerals.{add-one}
use native.Mathlib.Omega.{arith}
use lib.ListN.{length, get_or, drop, set, length-append, length-drop, drop_of_length-le}
use lib.Seq.{drop-cons, set_at, get_or_at}
use Rattle.lists.specs.Find.{any, first_index}
use Rattle.lists.specs.Fold.{foldl}
use Rattle.lists.specs.Build.{tabulate}
use Rattle.lists.proofs.Find.{any_append}
use Rattle.lists.proofs.Build.{length-tabulate}

module _ {A : Type 0} where
  pub tabulate-suc : (n : ℕ) (f : ℕ → A) → tabulate (suc n) f ≡ tabulate n f ++ (f n ∷ [])
  unfolding tabulate
  tabulate-suc zero f = refl
  tabulate-suc (suc n) f = ap (f zero ∷◌) (tabulate-suc n (λ k. f (suc k)))

  -- the same function makes the same list
  pub tabulate-same : (n : ℕ) (f g : ℕ → A) → ((k : ℕ) → k < n → f k ≡ g k) → tabulate n f ≡ tabulate n g
  unfolding tabulate
  tabulate-same zero f g h = refl
  tabulate-same (suc n) f g h = rw (h 0 (omega arith)) (ap (g zero ∷◌) (tabulate-same n (λ k. f (suc k)) (λ k. g (suc k)) (λ k l. h (suc k) (omega arith))))

  pub fold-append : {S : Type 0} (step : S → A → S) (s : S) (xs ys : List A) → foldl step s (xs ++ ys) ≡ foldl step (foldl step s xs) ys
  unfolding foldl
  fold-append step s [] ys = refl
  fold-append step s (x ∷ xs) ys = fold-append step (step s x) xs ys

  pub map-tabulate : {B : Type 0} (g : A → B) (n : ℕ) (f : ℕ → A) → map g (tabulate n f) ≡ tabulate n (λ k. g (f k))
  unfolding tabulate
  map-tabulate g zero f = refl
  map-tabulate g (suc n) f = ap (g (f zero) ∷◌) (map-tabulate g n (λ k. f (suc k)))

  -- ---- a state that each element changes in turn
  pub fold_more : {S : Type 0} (step : S → A → S) (s : S) (f : ℕ → A) (i : ℕ) → foldl step s (tabulate (i + 1) f) ≡ step (foldl step s (tabulate i f)) (f i)
  unfolding foldl
  fold_more step s f i = rw (add-one, tabulate-suc i f) (fold-append step s (tabulate i f) (f i ∷ []))

  -- ---- a test
  module _ (p : A → Bool) (f : ℕ → A) where
    pub any-more : (i : ℕ) → any p (tabulate i f) ≡ false → p (f i) ≡ false → any p (tabulate (i + 1) f) ≡ false
    unfolding any
    any-more i e h = rw (add-one, tabulate-suc i f) (rw (any_append p) (simp (e, h)))

  pub any_found : (p : A → Bool) (n : ℕ) (f : ℕ → A) (i : ℕ) → i < n → p (f i) ≡ true → any p (tabulate n f) ≡ true
  unfolding any tabulate
  any_found p zero f i h e = absurd (not-suc-le-zero h)
  any_found p (suc n) f zero h e = simp e
  any_found p (suc n) f (suc i) h e = rw (any_found p n (λ k. f (suc k)) i (le_of_suc-le-suc h) e) (or-true (p (f zero)))

  -- where none passes, each fails
  pub any-fails : (p : A → Bool) (n : ℕ) (f : ℕ → A) → any p (tabulate n f) ≡ false → (i : ℕ) → i < n → p (f i) ≡ false
  any-fails p n f e i h = go (p (f i)) refl
    where
      go : (t : Bool) → p (f i) ≡ t → p (f i) ≡ false
      go false q = q
      go true q = absurd (let z : ◌≡◌ {A = ℕ} 0 1 = cc (any_found p n f i h q) in omega arith)

  -- ---- the first that passes
  pub first_found : (p : A → Bool) (n : ℕ) (f : ℕ → A) (i : ℕ) → ((k : ℕ) → k < i → p (f k) ≡ false) → i < n → p (f i) ≡ true → first_index p (tabulate n f) ≡ i
  unfolding first_index tabulate
  first_found p zero f i none h e = absurd (not-suc-le-zero h)
  first_found p (suc n) f zero none h e = simp e
  first_found p (suc n) f (suc i) none h e =
      rw (none 0 (omega arith)) (ap suc (first_found p n (λ k. f (suc k)) i (λ k l. none (suc k) (omega arith)) (le_of_suc-le-suc h) e))

  pub first-none : (p : A → Bool) (n : ℕ) (f : ℕ → A) → ((k : ℕ) → k < n → p (f k) ≡ false) → first_index p (tabulate n f) ≡ n
  unfolding first_index tabulate
  first-none p zero f none = refl
  first-none p (suc n) f none = rw (none 0 (omega arith)) (ap suc (first-none p n (λ k. f (suc k)) (λ k l. none (suc k) (omega arith))))

  -- ---- a list that a loop stores from the front: the first i are there, and past them what the list held
  abbrev pub stored : (ℕ → A) → ℕ → List A → List A
  stored f i xs = tabulate i f ++ drop i xs

  pub stored-none : (f : ℕ → A) (xs : List A) → xs ≡ stored f 0 xs
  unfolding tabulate
  stored-none f [] = refl
  stored-none f (x ∷ xs) = refl

  pub stored-length : (f : ℕ → A) (i : ℕ) (xs : List A) → i ≤ length xs → length (stored f i xs) ≡ length xs
  stored-length f i xs h = simp (length-append, length-tabulate, length-drop) (omega arith)

  pub stored_more : (f : ℕ → A) (i : ℕ) (xs : List A) (v : A) → i < length xs → v ≡ f i → set (stored f i xs) i v ≡ stored f (i + 1) xs
  stored_more f i xs v h e =
      rw (drop-cons xs i v, set_at (tabulate i f) (get_or xs i v) (drop (suc i) xs) v i (length-tabulate i f), add-one, tabulate-suc i f, append_assoc) (rw e)

  -- the next element is still the list's own
  pub stored_next : (f : ℕ → A) (i : ℕ) (xs : List A) (d : A) → i < length xs → get_or (stored f i xs) i d ≡ get_or xs i d
  stored_next f i xs d h = rw (drop-cons xs i d) (get_or_at (tabulate i f) (get_or xs i d) (drop (suc i) xs) d i (length-tabulate i f))

  pub stored-whole : (f : ℕ → A) (i : ℕ) (xs : List A) → i ≡ length xs → stored f i xs ≡ tabulate (length xs) f
  stored-whole f i xs e = let past : length xs ≤ length xs = omega arith in rw (e, drop_of_length-le xs past) (append-nil (tabulate (length xs) f))
