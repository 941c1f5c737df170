-- A sum over weights that are near the exponentials of a model's energies is near the exact sum. Assumes nothing.
use mathlib.Core.Path.{◌≡◌, refl, sym, ap, ◌∙◌}
use mathlib.Core.Bool.{Bool, true, false, true≢false, cond, ◌||◌}
use mathlib.Core.List.{List, [], ◌∷◌, Memᴰ}
use Prim.Native.Nat.{ℕ, suc, ◌+◌, ◌-◌, ◌*◌, ◌≤◌, ◌<◌}
use native.Mathlib.Nat.{le_trans, suc-ne-zero, mul-pos, mul-le-mul_right, one-le-pow, not-suc-le-zero, zero-lt-suc}
use native.Mathlib.Omega.{arith}
use lib.Dec.{eqb, lit≤}
use lib.ListN.{length, length-map}
use lib.Ieee.{Float, lt}
use lib.Ieee.Fits.{down_pos, up_pos}
use lib.Ieee.Positive.{num, den, den_pos}
use Rattle.lists.specs.Build.{keep}
use Rattle.lists.specs.Each.{Each}
use Rattle.fractions.specs.Frac.{Frac, one}
use Rattle.fractions.specs.Number.{Number, Sound, exactly, sum_of, product_of, quotient_of, less_part, more_part}
use Rattle.fractions.proofs.Within.{sum-sound, product-sound}
use Rattle.fractions.specs.declared.Weight.{Weight}
use Rattle.fractions.specs.Weight.{worth}
use Rattle.exponential.specs.Exponential.{exp_below, exp_above, exponential}
use Rattle.exponential.specs.Near.{zero_float, has_exponential}
use Rattle.exponential.proofs.Cut.{inside}
use Rattle.model.specs.Model.{Model, positions, options, options_of}
use Rattle.model.specs.States.{listing, states}
use Rattle.partition.specs.Sum.{place_factor, pair_factor, sum_over, SumAnswered, FreeSum, ConstrainedSum}
use Rattle.partition.specs.Constraint.{meets}
use Rattle.partition.specs.Weights.{Weights, place_weight, pair_weight, place_worth, pair_worth}
use Rattle.partition.specs.inner.Used.{Used}
use Rattle.partition.proofs.Units.{each-each}
use Rattle.probabilities.specs.Numbers.{number_place, number_pair, number_from, number_sum, place_argument, pair_argument, exp_of, exact_sum, EnergySum, FreeEnergySum, ConstrainedEnergySum, Probability}
use Rattle.probabilities.specs.Quotient.{Quotiented}
use Rattle.probabilities.specs.Weighed.{NearExp, PlaceNear, PairNear, WeightsNear}
use Rattle.probabilities.proofs.Quotients.{quotient-within}
use Rattle.probabilities.proofs.Close.{Close, Factors, around24, close-one, sum-close, within-fourteen}

-- ---- one weight

reach : (p q n : ℕ) → 0 < q → p ≤ 80000 * q → 80001 ≤ n → p < n * q
reach p q n Q h N = omega (arith, mul-le-mul_right q N)

bounds-sound : (s : Bool) (p q n : ℕ) → p < n * q → (0 < ((exponential s p q).lower n).den) × (0 < ((exponential s p q).upper n).den)
unfolding exp_below exp_above
bounds-sound false p q n h = (one-le-pow n (n * q) (omega arith), one-le-pow n (n * q - p) (omega arith))
bounds-sound true p q n h = (one-le-pow n (n * q) (omega arith), one-le-pow n (n * q + p) (omega arith))

-- a weight within one part in 2^24 of an exponential keeps the error rule
weight-close : (x : Float) (w : Weight) → NearExp x w → Close 80001 (less_part 24) (more_part 24) (exp_of x) (worth w)
weight-close x w e =
    let r : (n : ℕ) → 80001 ≤ n → num x < n * den x = λ n N. reach (num x) (den x) n (den_pos x) (inside x e.0).1 N in
    record {
      within = record { positive = down_pos w.power; reached = λ n N. e.1.near.reached n (r n N); kept = λ n N. e.1.near.kept n (r n N) };
      sound = record { below = λ n N. (bounds-sound (lt x zero_float) (num x) (den x) n (r n N)).0; above = λ n N. (bounds-sound (lt x zero_float) (num x) (den x) n (r n N)).1 };
    }

-- ---- numbers of which no bound is zero

pub record Positive (from : ℕ) (x : Number) : Type 0 where
  pub sound : Sound from x
  pub below : (n : ℕ) → from ≤ n → 0 < (x.lower n).num
  pub above : (n : ℕ) → from ≤ n → 0 < (x.upper n).num

pub positive-sound : {from : ℕ} {x : Number} → Positive from x → Sound from x
positive-sound p = p.sound

positive-one : {from : ℕ} → Positive from (exactly one)
positive-one = record { sound = record { below = λ _ _. zero-lt-suc 0; above = λ _ _. zero-lt-suc 0 }; below = λ _ _. zero-lt-suc 0; above = λ _ _. zero-lt-suc 0 }

positive-product : {from : ℕ} {x y : Number} → Positive from x → Positive from y → Positive from (product_of x y)
unfolding product_of
positive-product p q = record { sound = product-sound p.sound q.sound; below = λ n N. mul-pos (p.below n N) (q.below n N); above = λ n N. mul-pos (p.above n N) (q.above n N) }

plus-positive : (a b c d : ℕ) → 0 < a → 0 < d → 0 < a * d + b * c
plus-positive a b c d h k = omega (arith, mul-pos h k)

positive-sum : {from : ℕ} {x y : Number} → Positive from x → Sound from y → Positive from (sum_of x y)
unfolding sum_of
positive-sum {from} {x} {y} p q =
    record {
      sound = sum-sound p.sound q;
      below = λ n N. plus-positive (x.lower n).num (y.lower n).num (x.lower n).den (y.lower n).den (p.below n N) (q.below n N);
      above = λ n N. plus-positive (x.upper n).num (y.upper n).num (x.upper n).den (y.upper n).den (p.above n N) (q.above n N);
    }

bounds-positive : (s : Bool) (p q n : ℕ) → p < n * q → (0 < ((exponential s p q).lower n).num) × (0 < ((exponential s p q).upper n).num)
unfolding exp_below exp_above
bounds-positive false p q n h = (one-le-pow n (n * q + p) (omega arith), one-le-pow n (n * q) (omega arith))
bounds-positive true p q n h = (one-le-pow n (n * q - p) (omega arith), one-le-pow n (n * q) (omega arith))

exp-positive : (x : Float) → has_exponential x ≡ true → Positive 80001 (exp_of x)
exp-positive x e =
    let r : (n : ℕ) → 80001 ≤ n → num x < n * den x = λ n N. reach (num x) (den x) n (den_pos x) (inside x e).1 N in
    record {
      sound = record { below = λ n N. (bounds-sound (lt x zero_float) (num x) (den x) n (r n N)).0; above = λ n N. (bounds-sound (lt x zero_float) (num x) (den x) n (r n N)).1 };
      below = λ n N. (bounds-positive (lt x zero_float) (num x) (den x) n (r n N)).0;
      above = λ n N. (bounds-positive (lt x zero_float) (num x) (den x) n (r n N)).1;
    }

-- ---- the factors of a state

module _ (m : Model) (w : Weights) where
  abbrev exact_place : ℕ → ℕ → Number
  exact_place i x = exp_of (place_argument m i x)

  abbrev exact_pair : ℕ → ℕ → Number
  exact_pair x y = exp_of (pair_argument m x y)

  abbrev Rule : Number → Frac → Type 0
  Rule x f = Close 80001 (less_part 24) (more_part 24) x f

  place-close : (i x : ℕ) → PlaceNear m w i x → Rule (number_place exact_place exact_pair i x) (place_factor (place_worth w) (pair_worth w) i x)
  place-close i x e = go (eqb x 0) (λ z. ap (λ (k : ℕ). eqb k 0) z)
    where
      go : (b : Bool) → (x ≡ 0 → b ≡ true) → Rule (cond b (exactly one) (exact_place i x)) (cond b one (place_worth w i x))
      go true f = close-one 80001 (less_part 24) (more_part 24) around24
      go false f = weight-close (place_argument m i x) (place_weight w i x) (e (λ z. true≢false (sym (f z))))

  pair-close : (x y : ℕ) → PairNear m w x y → Rule (number_pair exact_place exact_pair x y) (pair_factor (place_worth w) (pair_worth w) x y)
  pair-close x y e = go (eqb x 0) (eqb y 0) (λ z. ap (λ (k : ℕ). eqb k 0) z) (λ z. ap (λ (k : ℕ). eqb k 0) z)
    where
      go : (b c : Bool) → (x ≡ 0 → b ≡ true) → (y ≡ 0 → c ≡ true) → Rule (cond (b || c) (exactly one) (exact_pair x y)) (cond (b || c) one (pair_worth w x y))
      go true c f g = close-one 80001 (less_part 24) (more_part 24) around24
      go false true f g = close-one 80001 (less_part 24) (more_part 24) around24
      go false false f g = weight-close (pair_argument m x y) (pair_weight w x y) (e (λ z. true≢false (sym (f z))) (λ z. true≢false (sym (g z))))

  abbrev FactorsNear : ℕ → List ℕ → Type 0
  FactorsNear i s = Factors 80001 (less_part 24) (more_part 24) around24 exact_place exact_pair (place_worth w) (pair_worth w) i s

  -- what holds of a state from a position on, with so many places, holds of all states of the options
  module _ (Q : ℕ → ℕ → List ℕ → Type 0) (last : (i x : ℕ) → PlaceNear m w i x → Q i 1 (x ∷ []))
      (onward : (i n x y : ℕ) (s : List ℕ) → PlaceNear m w i x → PairNear m w x y → Q (suc i) n (y ∷ s) → Q i (suc n) (x ∷ y ∷ s)) where
    states-have : (i : ℕ) (here : List ℕ) (later : List (List ℕ)) → Used (PlaceNear m w) (PairNear m w) i (here ∷ later)
        → (x : ℕ) → Memᴰ x here → Each (λ s. Q i (suc (length later)) (x ∷ s)) (listing later)
    unfolding listing
    states-have i here [] u x k = (last i x (u x k), tt)
    states-have i here (next ∷ later) u x k =
        each-each (λ s. Q i (suc (suc (length later))) (x ∷ s)) next (listing later) (λ y l. more y (listing later) (u.1 x y k l) (states-have (suc i) next later u.2 y l))
      where
        more : (y : ℕ) (tails : List (List ℕ)) → PairNear m w x y → Each (λ s. Q (suc i) (suc (length later)) (y ∷ s)) tails → Each (λ s. Q i (suc (suc (length later))) (x ∷ y ∷ s)) tails
        more y [] q a = tt
        more y (s ∷ tails) q a = (onward i (suc (length later)) x y s (u.0 x k) q a.0, more y tails q a.1)

    all_have : (options : List (List ℕ)) → 0 < length options → Used (PlaceNear m w) (PairNear m w) 0 options → Each (Q 0 (length options)) (listing options)
    unfolding listing
    all_have [] h u = absurd (not-suc-le-zero h)
    all_have (here ∷ later) h u = each-each (Q 0 (suc (length later))) here (listing later) (λ x k. states-have 0 here later u x k)

  -- it has as many places, and each of its factors is near
  abbrev Fits : ℕ → ℕ → List ℕ → Type 0
  Fits i n s = (length s ≡ n) × FactorsNear i s

  all_near : (options : List (List ℕ)) → 0 < length options → Used (PlaceNear m w) (PairNear m w) 0 options → Each (Fits 0 (length options)) (listing options)
  all_near = all_have Fits (λ i x p. (refl, place-close i x p)) (λ i n x y s p q f. (ap suc f.0, (place-close i x p, pair-close x y q, f.1)))

  -- ---- no bound of a state's product is zero

  place-positive : (i x : ℕ) → PlaceNear m w i x → Positive 80001 (number_place exact_place exact_pair i x)
  place-positive i x e = go (eqb x 0) (λ z. ap (λ (k : ℕ). eqb k 0) z)
    where
      go : (b : Bool) → (x ≡ 0 → b ≡ true) → Positive 80001 (cond b (exactly one) (exact_place i x))
      go true f = positive-one
      go false f = exp-positive (place_argument m i x) (e (λ z. true≢false (sym (f z)))).0

  pair-positive : (x y : ℕ) → PairNear m w x y → Positive 80001 (number_pair exact_place exact_pair x y)
  pair-positive x y e = go (eqb x 0) (eqb y 0) (λ z. ap (λ (k : ℕ). eqb k 0) z) (λ z. ap (λ (k : ℕ). eqb k 0) z)
    where
      go : (b c : Bool) → (x ≡ 0 → b ≡ true) → (y ≡ 0 → c ≡ true) → Positive 80001 (cond (b || c) (exactly one) (exact_pair x y))
      go true c f g = positive-one
      go false true f g = positive-one
      go false false f g = exp-positive (pair_argument m x y) (e (λ z. true≢false (sym (f z))) (λ z. true≢false (sym (g z)))).0

  all-positive : (options : List (List ℕ)) → 0 < length options → Used (PlaceNear m w) (PairNear m w) 0 options → Each (λ s. Positive 80001 (number_from exact_place exact_pair 0 s)) (listing options)
  unfolding number_from
  all-positive =
      all_have (λ i n s. Positive 80001 (number_from exact_place exact_pair i s)) (λ i x p. place-positive i x p)
      (λ i n x y s p q f. positive-product (place-positive i x p) (positive-product (pair-positive x y q) f))

  -- nor of a sum over one state or more
  sum-positive : (s : List ℕ) (several : List (List ℕ)) → Each (λ s. Positive 80001 (number_from exact_place exact_pair 0 s)) (s ∷ several) → Positive 80001 (exact_sum m (s ∷ several))
  unfolding number_sum
  sum-positive s [] a = positive-sum a.0 (record { below = λ _ _. zero-lt-suc 0; above = λ _ _. zero-lt-suc 0 })
  sum-positive s (t ∷ several) a = positive-sum a.0 (positive-sound (sum-positive t several a.1))

  each_keep : {A : Type 0} (P : A → Type 0) (p : A → Bool) (xs : List A) → Each P xs → Each P (keep p xs)
  unfolding keep
  each_keep P p [] a = tt
  each_keep P p (x ∷ xs) a = go (p x) (each_keep P p xs a.1)
    where
      go : (b : Bool) → Each P (keep p xs) → Each P (cond b (x ∷ keep p xs) (keep p xs))
      go true k = (a.0, k)
      go false k = k

  -- ---- sums

  sum_near : (n : ℕ) (several : List (List ℕ)) (f : Weight) → n ≤ 127 → Each (Fits 0 (suc n)) several
      → SumAnswered 15 0 several (exactly (sum_over (place_worth w) (pair_worth w) several)) f → SumAnswered 14 80001 several (exact_sum m several) f
  sum_near n [] f l a e = e
  sum_near n (s ∷ several) f l a e =
      (e.0, within-fourteen 80001 (n + suc n) (exact_sum m (s ∷ several)) (sum_over (place_worth w) (pair_worth w) (s ∷ several)) (worth f) (omega arith) (down_pos f.power) (sum-close 80001 (less_part 24) (more_part 24) around24 exact_place exact_pair (place_worth w) (pair_worth w) n (s ∷ several) a) e.1)

  -- ---- the three figures

  module _ (near : WeightsNear m w) (some : 0 < positions m) (short : positions m ≤ 128) where
    sized : length (options m) ≡ suc (positions m - 1)
    sized = length-map m.friends options_of ∙ omega arith

    few : positions m - 1 ≤ 127
    few = omega arith

    fits : Each (Fits 0 (suc (positions m - 1))) (states m)
    fits = rw sized at (all_near (options m) (rw (length-map m.friends options_of) some) near)

    positives : Each (λ s. Positive 80001 (number_from exact_place exact_pair 0 s)) (states m)
    positives = all-positive (options m) (rw (length-map m.friends options_of) some) near

    pub free-near : (f : Weight) → FreeSum (place_worth w) (pair_worth w) m f → FreeEnergySum m f
    free-near f e = sum_near (positions m - 1) (states m) f few fits e

    pub constrained-near : (lists : List (List ℕ)) (f : Weight) → ConstrainedSum (place_worth w) (pair_worth w) m lists f → ConstrainedEnergySum m lists f
    constrained-near lists f e = sum_near (positions m - 1) (keep (meets lists) (states m)) f few (each_keep (Fits 0 (suc (positions m - 1))) (meets lists) (states m) fits) e

    -- the quotient of the two, cut to 31 digits
    pub probability-near : (lists : List (List ℕ)) (f g r : Weight) → ConstrainedEnergySum m lists f → FreeEnergySum m g → Quotiented f g r → Probability m lists r
    unfolding keep
    probability-near lists f g r c e q = go (states m) (keep (meets lists) (states m)) (λ z. ap (keep (meets lists)) z) positives (each_keep (λ s. Positive 80001 (number_from exact_place exact_pair 0 s)) (meets lists) (states m) positives) c e
      where
        go : (all part : List (List ℕ)) → (all ≡ [] → part ≡ keep (meets lists) []) → Each (λ s. Positive 80001 (number_from exact_place exact_pair 0 s)) all
            → Each (λ s. Positive 80001 (number_from exact_place exact_pair 0 s)) part → EnergySum m part f → EnergySum m all g → SumAnswered 12 80001 part (quotient_of (exact_sum m part) (exact_sum m all)) r
        go all [] h a b c e = q.none c
        go [] (s ∷ part) h a b c e = absurd (suc-ne-zero _ (ap length (h refl)))
        go (t ∷ all) (s ∷ part) h a b c e =
            let d = q.some c.0 in
            let x = sum-positive s part b in
            let y = sum-positive t all a in
            (d.form, quotient-within 80001 (exact_sum m (s ∷ part)) (exact_sum m (t ∷ all)) (worth f) (worth g) (worth r) (mul-pos (le_trans (lit≤ tt) e.0.least) (up_pos g.power)) (down_pos r.power) (λ n N. (x.sound.below n N, x.sound.above n N, y.below n N, y.above n N)) c.1 e.1 d.reached d.kept)
