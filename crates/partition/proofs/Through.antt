-- The sum over the states by the occupants of one position: what can stand before one, times it with what can follow. Assumes nothing.
use mathlib.Core.Path.{◌≡◌, refl, sym, ap, subst, ◌∙◌}
use mathlib.Core.List.{List, [], ◌∷◌, Memᴰ}
use Prim.Native.Nat.{ℕ, zero, suc, ◌+◌, ◌-◌, ◌*◌, ◌≤◌, ◌<◌}
use native.Mathlib.Nat.{mul_assoc, mul_comm, mul-one, one-mul, zero-add, not-suc-le-zero}
use native.Mathlib.Omega.{arith}
use lib.ListN.{length, get_or, drop, length-drop}
use lib.Seq.{drop-cons}
use Rattle.partition.specs.declared.Term.{Term}
use Rattle.partition.specs.Terms.{size, times}
use Rattle.partition.specs.Pass.{sum_terms, before, through}
use Rattle.partition.specs.inner.Used.{Fit}
use Rattle.partition.proofs.Exact.{sum_over, sum_same, sum-scale, onward, whole, sum_of_states, whole-states}
use Rattle.partition.proofs.Loss.{one-part}
use Rattle.partition.proofs.Passed.{Holds, holds_more, holds-times, Some, sum_terms-some, fit-holds, Usable, passed-holds, Near}

-- ---- finite sums change places

sum-plus : {A : Type 0} (f g : A → ℕ) (xs : List A) → sum_over (λ x. f x + g x) xs ≡ sum_over f xs + sum_over g xs
unfolding sum_over
sum-plus f g [] = refl
sum-plus f g (x ∷ xs) = ap (λ (z : ℕ). f x + g x + z) (sum-plus f g xs) ∙ omega arith

sum-zero : {A : Type 0} (xs : List A) → sum_over (λ x. 0) xs ≡ 0
unfolding sum_over
sum-zero [] = refl
sum-zero (x ∷ xs) = zero-add _ ∙ sum-zero xs

sum-exchange : {A B : Type 0} (f : A → B → ℕ) (xs : List A) (ys : List B) → sum_over (λ x. sum_over (f x) ys) xs ≡ sum_over (λ y. sum_over (λ x. f x y) xs) ys
unfolding sum_over
sum-exchange f [] ys = sym (sum-zero ys)
sum-exchange f (x ∷ xs) ys = ap (λ (z : ℕ). sum_over (f x) ys + z) (sum-exchange f xs ys) ∙ sym (sum-plus (f x) (λ y. sum_over (λ x. f x y) xs) ys)

sum-right : {A : Type 0} (c : ℕ) (f : A → ℕ) (xs : List A) → sum_over (λ x. f x * c) xs ≡ sum_over f xs * c
sum-right c f xs = sum_same (λ x. f x * c) (λ x. c * f x) xs (λ x. mul_comm (f x) c) ∙ sum-scale c f xs ∙ mul_comm c (sum_over f xs)

-- ---- in whole numbers

module _ (place pair : ℕ → ℕ → ℕ) (options : List (List ℕ)) where
  -- all that can stand before an occupant of a position, their pairs with it among them
  unfoldable pub left : ℕ → ℕ → ℕ
  unfolding sum_over
  left zero x = 1
  left (suc i) x = sum_over (λ z. left i z * place i z * pair z x) (get_or options i [])

  -- the states that have an occupant at a position
  abbrev pub states_at : ℕ → ℕ → ℕ
  states_at i x = left i x * onward place pair i (drop (suc i) options) x

  abbrev pub by_position : ℕ → ℕ
  by_position i = sum_over (states_at i) (get_or options i [])

  -- the sum over the occupants of a position is that over those of the next
  one-on : (i : ℕ) → suc i < length options → by_position i ≡ by_position (suc i)
  unfolding left onward
  one-on i h =
      let next = get_or options (suc i) [] in
      let later = drop (suc (suc i)) options in
      let here = get_or options i [] in
      let a : ℕ → ℕ = λ z. left i z * place i z in
      let o : ℕ → ℕ = onward place pair (suc i) later in
      ap (λ (rest : List (List ℕ)). sum_over (λ x. left i x * onward place pair i rest x) here) (drop-cons options (suc i) [] h)
      ∙ sum_same _ (λ z. sum_over (λ y. a z * pair z y * o y) next) here
      (λ z. sym (mul_assoc (left i z) (place i z) (sum_over (λ y. pair z y * o y) next)) ∙ sym (sum-scale (a z) (λ y. pair z y * o y) next)
      ∙ sum_same (λ y. a z * (pair z y * o y)) (λ y. a z * pair z y * o y) next (λ y. sym (mul_assoc (a z) (pair z y) (o y))))
      ∙ sum-exchange (λ z y. a z * pair z y * o y) here next
      ∙ sum_same (λ y. sum_over (λ z. a z * pair z y * o y) here) (λ y. sum_over (λ z. a z * pair z y) here * o y) next (λ y. sum-right (o y) (λ z. a z * pair z y) here)

first-position : (place pair : ℕ → ℕ → ℕ) (options : List (List ℕ)) → 0 < length options → whole place pair options ≡ by_position place pair options 0
unfolding whole left
first-position place pair [] h = absurd (not-suc-le-zero h)
first-position place pair (here ∷ later) h = sum_same (onward place pair 0 later) (λ x. 1 * onward place pair 0 later x) here (λ x. sym (one-mul (onward place pair 0 later x)))

pub whole-at : (place pair : ℕ → ℕ → ℕ) (options : List (List ℕ)) (i : ℕ) → i < length options → whole place pair options ≡ by_position place pair options i
whole-at place pair options zero h = first-position place pair options h
whole-at place pair options (suc i) h = whole-at place pair options i (omega arith) ∙ one-on place pair options i h

-- ---- what the terms lose: 65 operations for each other position, and a product

module _ (place pair : ℕ → ℕ → Term) (start : Term) (most : ℕ) (options : List (List ℕ)) (started : Fit most start) where
  abbrev place_n : ℕ → ℕ → ℕ
  place_n i x = size (place i x)

  abbrev pair_n : ℕ → ℕ → ℕ
  pair_n x y = size (pair x y)

  abbrev at : ℕ → List ℕ
  at i = get_or options i []

  -- what the states of the options use, of each position and those after it
  abbrev pub UsableAll : Type 0
  UsableAll = (i : ℕ) → i < length options → Usable place pair most i (at i) (drop (suc i) options)

  module _ (u : UsableAll) where
    some-at : (i : ℕ) → i < length options → Some (at i)
    some-at i h = go (drop (suc i) options) (u i h)
      where
        go : (later : List (List ℕ)) → Usable place pair most i (at i) later → Some (at i)
        go [] v = v.0
        go (next ∷ later) v = v.0

    place-fit : (i x : ℕ) → i < length options → Memᴰ x (at i) → Fit most (place i x)
    place-fit i x h m = go (drop (suc i) options) (u i h)
      where
        go : (later : List (List ℕ)) → Usable place pair most i (at i) later → Fit most (place i x)
        go [] v = v.1 x m
        go (next ∷ later) v = v.1 x m

    pair-fit : (i x y : ℕ) → suc i < length options → Memᴰ x (at i) → Memᴰ y (at (suc i)) → Fit most (pair x y)
    pair-fit i x y h m k = let v = subst (λ (later : List (List ℕ)). Usable place pair most i (at i) later) (drop-cons options (suc i) [] h) (u i (omega arith)) in v.2 x y m k

    scaled-alg : (s l p q : ℕ) → s * l * p * q ≡ s * (l * p * q)
    scaled-alg s l p q = omega arith

    pub before-holds : (i x : ℕ) → i < length options → Memᴰ x (at i)
        → Holds (65 * i) (size start * left place_n pair_n options i x) (most + i * (2 * most + 125)) (before place pair start options i x)
    unfolding before left
    before-holds zero x h m = rw (mul-one (size start)) (holds_more {j = 0} {most = most} (omega arith) (omega arith) (fit-holds started))
    before-holds (suc i) x h m =
        let s = size start in
        let l : ℕ → ℕ = left place_n pair_n options i in
        let each : (z : ℕ) → Memᴰ z (at i) → Holds (65 * i + 0 + 1 + 0 + 1) (s * l z * place_n i z * pair_n z x) (most + i * (2 * most + 125) + most + 31 + most + 31) (times (times (before place pair start options i z) (place i z)) (pair z x)) =
        λ z k. holds-times (holds-times (before-holds i z (omega arith) k) (fit-holds (place-fit i z (omega arith) k))) (fit-holds (pair-fit i z x h k m)) in
        let sum = sum_terms-some (65 * i + 0 + 1 + 0 + 1) (most + i * (2 * most + 125) + most + 31 + most + 31) (λ z. times (times (before place pair start options i z) (place i z)) (pair z x)) (λ z. s * l z * place_n i z * pair_n z x) (at i) (some-at i (omega arith)) each in
        let same : sum_over (λ z. s * l z * place_n i z * pair_n z x) (at i) ≡ s * sum_over (λ z. l z * place_n i z * pair_n z x) (at i) =
        sum_same (λ z. s * l z * place_n i z * pair_n z x) (λ z. s * (l z * place_n i z * pair_n z x)) (at i) (λ z. scaled-alg s (l z) (place_n i z) (pair_n z x)) ∙ sum-scale s (λ z. l z * place_n i z * pair_n z x) (at i) in
        holds_more (omega arith) (omega arith) (rw same at sum)

    pub through-holds : (i x : ℕ) → i < length options → Memᴰ x (at i)
        → Holds (65 * (i + length (drop (suc i) options)) + 1) (size start * states_at place_n pair_n options i x) (2 * most + 31 + (i + length (drop (suc i) options)) * (2 * most + 125)) (through place pair start options i x)
    through-holds i x h m =
        let n = length (drop (suc i) options) in
        let l = left place_n pair_n options i x in
        let o = onward place_n pair_n i (drop (suc i) options) x in
        let p : Holds (65 * i + 65 * n + 1) (size start * l * o) (most + i * (2 * most + 125) + (most + n * (2 * most + 125)) + 31) (through place pair start options i x) = holds-times (before-holds i x h m) (passed-holds place pair most i (at i) (drop (suc i) options) (u i h) x m) in
        let q : Holds (65 * (i + n) + 1) (size start * l * o) (2 * most + 31 + (i + n) * (2 * most + 125)) (through place pair start options i x) = holds_more (omega arith) (omega arith) p in
        rw (mul_assoc (size start) l o) at q

    -- and over the options of a position
    pub position-holds : (i : ℕ) → i < length options
        → Holds (65 * (i + length (drop (suc i) options)) + 1 + 63) (size start * whole place_n pair_n options) (2 * most + 31 + (i + length (drop (suc i) options)) * (2 * most + 125) + 63) (sum_terms (through place pair start options i) (at i))
    position-holds i h =
        let k = 65 * (i + length (drop (suc i) options)) + 1 in
        let m = 2 * most + 31 + (i + length (drop (suc i) options)) * (2 * most + 125) in
        let sum = sum_terms-some k m (through place pair start options i) (λ x. size start * states_at place_n pair_n options i x) (at i) (some-at i h) (λ x e. through-holds i x h e) in
        rw (sum-scale (size start) (states_at place_n pair_n options i) (at i), ← whole-at place_n pair_n options i h) at sum

    -- within one part in 2^15 of the sum over the states
    pub position-near : (i : ℕ) → i < length options → length options ≤ 128 → Near (size start * sum_of_states place_n pair_n options) (sum_terms (through place pair start options i) (at i))
    position-near i h l =
        let n : length (drop (suc i) options) ≡ length options - suc i = length-drop (suc i) options in
        let p = position-holds i h in
        let q = one-part (omega arith) p.near in
        let x = size start * whole place_n pair_n options in
        let r = sum_terms (through place pair start options i) (at i) in
        let under : size r ≤ x = q.1 in
        rw (whole-states place_n pair_n options) (record { form = p.form; reached = q.0; kept = omega arith })
