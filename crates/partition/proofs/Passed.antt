-- What the pass over the positions loses of the exact sum: 65 operations for each later position, and 63 for the first. Assumes nothing.
use mathlib.Core.Path.{◌≡◌, refl, sym, subst}
use mathlib.Core.List.{List, [], ◌∷◌, Memᴰ}
use Prim.Native.Nat.{ℕ, zero, suc, ◌+◌, ◌-◌, ◌*◌, ◌^◌, ◌≤◌}
use native.Mathlib.Nat.{le_trans, add_assoc, add-zero, not-suc-le-zero}
use native.Mathlib.Omega.{arith}
use lib.ListN.{length, get_or, drop}
use Rattle.partition.specs.declared.Term.{Term}
use Rattle.partition.specs.Terms.{size, Normal, times, plus}
use Rattle.partition.specs.Pass.{sum_from, sum_terms, passed, passed_whole}
use Rattle.partition.specs.inner.Used.{Fit}
use Rattle.partition.proofs.Loss.{Loses, loses-none, loses-then, loses-times, loses-plus, loses-more, one-part}
use Rattle.partition.proofs.Cuts.{times_cut, plus-cut}
use Rattle.partition.proofs.Exact.{sum_over, onward, whole, sum_of_states, whole-states}

-- a term in form, of a power that is bounded, that lost k parts of x
pub record Holds (k x most : ℕ) (t : Term) : Type 0 where
  pub form : Normal t
  pub near : Loses k x (size t)
  pub low : t.power ≤ most

pub holds_more : {j k x most most' : ℕ} {t : Term} → j ≤ k → most ≤ most' → Holds j x most t → Holds k x most' t
holds_more h g p = record { form = p.form; near = loses-more h p.near; low = le_trans p.low g }

pub holds-times : {j k x y m n : ℕ} {a b : Term} → Holds j x m a → Holds k y n b → Holds (j + k + 1) (x * y) (m + n + 31) (times a b)
holds-times {j} {k} {x} {y} {m} {n} {a} {b} p q =
    let c = times_cut a b p.form q.form in
    record { form = c.form; near = loses-then (loses-times p.near q.near) c.near; low = omega (arith, c.low, p.low, q.low) }

pub holds-plus : {k x y m : ℕ} {a b : Term} → Holds k x m a → Holds k y m b → Holds (k + 1) (x + y) (m + 1) (plus a b)
holds-plus {k} {x} {y} {m} {a} {b} p q =
    let c = plus-cut a b m p.form q.form p.low q.low in
    record { form = c.form; near = loses-then (loses-plus p.near q.near) c.near; low = c.low }

-- one option or more, and at most 64
pub record Some (xs : List ℕ) : Type 0 where
  pub first : ℕ
  pub rest : List ℕ
  pub split : xs ≡ first ∷ rest
  pub few : length rest ≤ 63

module _ (k m : ℕ) (f : ℕ → Term) (g : ℕ → ℕ) where
  pub sum_from-holds : (xs : List ℕ) (j x : ℕ) (t : Term) → ((y : ℕ) → Memᴰ y xs → Holds k (g y) m (f y)) → Holds (k + j) x (m + j) t → Holds (k + j + length xs) (x + sum_over g xs) (m + j + length xs) (sum_from f t xs)
  unfolding sum_from sum_over
  sum_from-holds [] j x t h p = rw (add-zero (k + j), add-zero (m + j), add-zero x) p
  sum_from-holds (y ∷ xs) j x t h p =
      let q : Holds (k + j) (g y) (m + j) (f y) = holds_more (omega arith) (omega arith) (h y (Memᴰ.head refl)) in
      let r : Holds (k + (j + 1)) (x + g y) (m + (j + 1)) (plus t (f y)) = rw (← add_assoc k j 1, ← add_assoc m j 1) (holds-plus p q) in
      let s = sum_from-holds xs (j + 1) (x + g y) (plus t (f y)) (λ z e. h z (Memᴰ.tail e)) r in
      rw (shift k j (length xs), shift m j (length xs), ← add_assoc x (g y) (sum_over g xs)) s
    where
      shift : (a j n : ℕ) → a + j + suc n ≡ a + (j + 1) + n
      shift a j n = omega arith

  pub sum_terms-holds : (n : ℕ) (x : ℕ) (xs : List ℕ) → length xs ≤ n → ((y : ℕ) → Memᴰ y (x ∷ xs) → Holds k (g y) m (f y)) → Holds (k + n) (sum_over g (x ∷ xs)) (m + n) (sum_terms f (x ∷ xs))
  unfolding sum_terms sum_over
  sum_terms-holds n x xs l h =
      holds_more (omega arith) (omega arith)
      (sum_from-holds xs 0 (g x) (f x) (λ z e. h z (Memᴰ.tail e)) (holds_more (omega arith) (omega arith) (h x (Memᴰ.head refl))))

  pub sum_terms-some : (xs : List ℕ) → Some xs → ((y : ℕ) → Memᴰ y xs → Holds k (g y) m (f y)) → Holds (k + 63) (sum_over g xs) (m + 63) (sum_terms f xs)
  sum_terms-some xs s h =
      subst (λ (z : List ℕ). Holds (k + 63) (sum_over g z) (m + 63) (sum_terms f z)) (sym s.split)
      (sum_terms-holds 63 s.first s.rest s.few (λ y e. h y (subst (λ (z : List ℕ). Memᴰ y z) (sym s.split) e)))

-- ---- the pass
pub fit-holds : {most : ℕ} {t : Term} → Fit most t → Holds 0 (size t) most t
fit-holds {most} {t} f = record { form = f.form; near = loses-none (size t); low = f.low }

module _ (place pair : ℕ → ℕ → Term) where
  -- the factors that the states of these options use are in form, and each position has an option
  abbrev pub Usable : ℕ → ℕ → List ℕ → List (List ℕ) → Type 0
  Usable most i here [] = Some here × ((x : ℕ) → Memᴰ x here → Fit most (place i x))
  Usable most i here (next ∷ later) =
      Some here × ((x : ℕ) → Memᴰ x here → Fit most (place i x)) × ((x y : ℕ) → Memᴰ x here → Memᴰ y next → Fit most (pair x y))
      × Usable most (suc i) next later

  usable-some : (most i : ℕ) (here : List ℕ) (later : List (List ℕ)) → Usable most i here later → Some here
  usable-some most i here [] u = u.0
  usable-some most i here (next ∷ later) u = u.0

  -- and so of those from a position on
  pub usable-from : (most k i : ℕ) (here : List ℕ) (later : List (List ℕ)) → Usable most i here later → k ≤ length later → Usable most (i + k) (get_or (here ∷ later) k []) (drop k later)
  usable-from most zero i here later u h = rw (add-zero i) u
  usable-from most (suc k) i here [] u h = absurd (not-suc-le-zero h)
  usable-from most (suc k) i here (next ∷ later) u h = rw (shift i k) (usable-from most k (suc i) next later u.3 (omega arith))
    where
      shift : (i k : ℕ) → i + suc k ≡ suc i + k
      shift i k = omega arith

  -- 65 operations for each later position: a product with a pair's factor, 63 sums, a product with a place's factor
  pub passed-holds : (most i : ℕ) (here : List ℕ) (later : List (List ℕ)) → Usable most i here later → (x : ℕ) → Memᴰ x here
      → Holds (65 * length later) (onward (λ i x. size (place i x)) (λ x y. size (pair x y)) i later x) (most + length later * (2 * most + 125)) (passed place pair i later x)
  unfolding passed onward
  passed-holds most i here [] u x e = holds_more (omega arith) (omega arith) (fit-holds (u.1 x e))
  passed-holds most i here (next ∷ later) u x e =
      let N = length later in
      let rest = u.3 in
      let each : (y : ℕ) → Memᴰ y next → Holds (0 + 65 * N + 1) (size (pair x y) * onward (λ i x. size (place i x)) (λ x y. size (pair x y)) (suc i) later y) (most + (most + N * (2 * most + 125)) + 31) (times (pair x y) (passed place pair (suc i) later y)) =
      λ y m. holds-times (fit-holds (u.2 x y e m)) (passed-holds most (suc i) next later rest y m) in
      let sum = sum_terms-some (0 + 65 * N + 1) (most + (most + N * (2 * most + 125)) + 31) (λ y. times (pair x y) (passed place pair (suc i) later y)) (λ y. size (pair x y) * onward (λ i x. size (place i x)) (λ x y. size (pair x y)) (suc i) later y) next (usable-some most (suc i) next later rest) each in
      holds_more (omega arith) (omega arith) (holds-times (fit-holds (u.1 x e)) sum)

  -- and 63 sums over the first position
  pub whole-holds : (most : ℕ) (here : List ℕ) (later : List (List ℕ)) → Usable most 0 here later
      → Holds (65 * length later + 63) (whole (λ i x. size (place i x)) (λ x y. size (pair x y)) (here ∷ later)) (most + length later * (2 * most + 125) + 63) (passed_whole place pair here later)
  unfolding passed_whole whole
  whole-holds most here later u =
      sum_terms-some (65 * length later) (most + length later * (2 * most + 125)) (passed place pair 0 later) (onward (λ i x. size (place i x)) (λ x y. size (pair x y)) 0 later) here (usable-some most 0 here later u) (passed-holds most 0 here later u)

-- ---- so the sum of the pass lies within one part in 2^15 of the exact sum over the states
-- r is in form and lies within one part in 2^15 of x
pub record Near (x : ℕ) (r : Term) : Type 0 where
  pub form : Normal r
  pub reached : x * (2 ^ 15 - 1) ≤ size r * 2 ^ 15
  pub kept : size r * 2 ^ 15 ≤ x * (2 ^ 15 + 1)

module _ (place pair : ℕ → ℕ → Term) where
  pub sum_near : (most : ℕ) (here : List ℕ) (later : List (List ℕ)) → length later ≤ 127 → Usable place pair most 0 here later
      → Near (sum_of_states (λ i x. size (place i x)) (λ x y. size (pair x y)) (here ∷ later)) (passed_whole place pair here later)
  sum_near most here later l u =
      let h = whole-holds place pair most here later u in
      let p = one-part (omega arith) h.near in
      let x = whole (λ i x. size (place i x)) (λ x y. size (pair x y)) (here ∷ later) in
      let r = passed_whole place pair here later in
      let q : size r ≤ x = p.1 in
      rw (whole-states (λ i x. size (place i x)) (λ x y. size (pair x y)) (here ∷ later))
      (record { form = h.form; reached = p.0; kept = omega arith })
