-- One error rule for products and sums of weights, over numbers that fractions close in on. Assumes nothing.
use mathlib.Core.Path.{◌≡◌, sym, subst}
use mathlib.Core.List.{List, [], ◌∷◌}
use Prim.Native.Nat.{ℕ, zero, suc, ◌+◌, ◌*◌, ◌≤◌, ◌<◌, zero-le}
use native.Mathlib.Nat.{mul-pos, zero-lt-suc, le_dest, suc-ne-zero, suc_inj, add-zero, add-suc, mul-le-mul_right}
use native.Mathlib.Omega.{arith}
use lib.Dec.{lit≤, lit<}
use lib.Pow.{pow_pos}
use lib.ListN.{length}
use Rattle.fractions.specs.Frac.{Frac, none, one, plus, times, LeFrac}
use Rattle.fractions.proofs.Frac.{le-frac-refl, le-frac-trans, times-mono, times-one}
use Rattle.fractions.specs.Number.{Number, Within, Sound, exactly, sum_of, product_of, less_part, more_part, WithinPart}
use Rattle.fractions.proofs.Within.{within-sum, sum-sound, within-product, product-sound, within-rounded}
use Rattle.partition.specs.Sum.{place_factor, pair_factor, product_from, sum_over}
use Rattle.partition.specs.Summed.{factors}
use Rattle.lists.specs.Each.{Each}
use Rattle.probabilities.specs.Numbers.{number_place, number_pair, number_from, number_sum}

-- ---- powers of a factor
unfoldable pub power : Frac → ℕ → Frac
power f zero = one
power f (suc k) = times f (power f k)

pub power_pos : (f : Frac) (k : ℕ) → 0 < f.den → 0 < (power f k).den
unfolding power
power_pos f zero h = zero-lt-suc 0
power_pos f (suc k) h = mul-pos h (power_pos f k h)

two-more : (n : ℕ) → suc n + suc (suc n) ≡ suc (suc (n + suc n))
two-more n = omega arith

-- ---- the error rule, with denominators above 0
pub record Close (from : ℕ) (less over : Frac) (x : Number) (w : Frac) : Type 0 where
  pub within : Within from less over x w
  pub sound : Sound from x

module _ {from : ℕ} {less over : Frac} where
  pub close-plus : {x y : Number} {v w : Frac} → 0 < less.den → 0 < over.den → Close from less over x v → Close from less over y w → Close from less over (sum_of x y) (plus v w)
  close-plus L O p q = record { within = within-sum L O p.sound q.sound p.within q.within; sound = sum-sound p.sound q.sound }

  pub close-times : {less' over' : Frac} {x y : Number} {v w : Frac} → Close from less over x v → Close from less' over' y w → Close from (times less less') (times over over') (product_of x y) (times v w)
  close-times p q = record { within = within-product p.within q.within; sound = product-sound p.sound q.sound }

-- less ≤ 1 ≤ over
pub record Around (less over : Frac) : Type 0 where
  pub less-pos : 0 < less.den
  pub over-pos : 0 < over.den
  pub under : less.num ≤ less.den
  pub above : over.den ≤ over.num

module _ (from : ℕ) (less over : Frac) (A : Around less over) where
  pub close-one : Close from less over (exactly one) one
  close-one = record {
    within = record {
      positive = zero-lt-suc 0;
      reached = λ _ _. record { cross = omega (arith, A.under) };
      kept = λ _ _. record { cross = omega (arith, A.above) };
    };
    sound = record { below = λ _ _. zero-lt-suc 0; above = λ _ _. zero-lt-suc 0 };
  }

  close-none : (l o : Frac) → Close from l o (exactly none) none
  close-none l o = record {
    within = record {
      positive = zero-lt-suc 0;
      reached = λ _ _. record { cross = omega arith };
      kept = λ _ _. record { cross = omega arith };
    };
    sound = record { below = λ _ _. zero-lt-suc 0; above = λ _ _. zero-lt-suc 0 };
  }

  module _ (exact_place exact_pair : ℕ → ℕ → Number) (place pair : ℕ → ℕ → Frac) where
    -- each factor that a state uses is near its number
    abbrev pub Factors : ℕ → List ℕ → Type 0
    Factors i [] = Unit
    Factors i (x ∷ []) = Close from less over (number_place exact_place exact_pair i x) (place_factor place pair i x)
    Factors i (x ∷ y ∷ s) = Close from less over (number_place exact_place exact_pair i x) (place_factor place pair i x) × Close from less over (number_pair exact_place exact_pair x y) (pair_factor place pair x y) × Factors (suc i) (y ∷ s)

    product-close : (i x : ℕ) (s : List ℕ) → Factors i (x ∷ s) → Close from (power less (factors (suc (length s)))) (power over (factors (suc (length s)))) (number_from exact_place exact_pair i (x ∷ s)) (product_from place pair i (x ∷ s))
    unfolding number_from product_from power
    product-close i x [] e = rw (times-one less, times-one over) e
    product-close i x (y ∷ s) e = rw (two-more (length s)) (close-times e.0 (close-times e.1 (product-close (suc i) y s e.2)))

    pub sum-close : (n : ℕ) (states : List (List ℕ)) → Each (λ s. (length s ≡ suc n) × Factors 0 s) states → Close from (power less (factors (suc n))) (power over (factors (suc n))) (number_sum exact_place exact_pair states) (sum_over place pair states)
    unfolding number_sum sum_over
    sum-close n [] a = close-none (power less (factors (suc n))) (power over (factors (suc n)))
    sum-close n ([] ∷ states) a = absurd (suc-ne-zero _ (sym a.0.0))
    sum-close n ((x ∷ s) ∷ states) a =
        close-plus (power_pos less (factors (suc n)) A.less-pos) (power_pos over (factors (suc n)) A.over-pos)
        (subst (λ (z : ℕ). Close from (power less (factors (suc z))) (power over (factors (suc z))) (number_from exact_place exact_pair 0 (x ∷ s)) (product_from place pair 0 (x ∷ s))) (suc_inj a.0.0) (product-close 0 x s a.0.1))
        (sum-close n states a.1)

-- ---- 255 factors at one part in 2^24 and a sum at one part in 2^15 make one part in 2^14
pub around24 : Around (less_part 24) (more_part 24)
around24 = record { less-pos = lit< tt; over-pos = lit< tt; under = lit≤ tt; above = lit≤ tt }

power-down : (f : Frac) → 0 < f.den → f.num ≤ f.den → (k j : ℕ) → LeFrac (power f (k + j)) (power f k)
unfolding power
power-down f P h k zero = rw (add-zero k) (le-frac-refl (power f k))
power-down f P h k (suc j) = rw (add-suc k j) (le-frac-trans {y = power f (k + j)} (power_pos f (k + j) P) (record { cross = down-alg f.num f.den (power f (k + j)).num (power f (k + j)).den h }) (power-down f P h k j))
  where
    down-alg : (a b n d : ℕ) → a ≤ b → a * n * d ≤ n * (b * d)
    down-alg a b n d h = omega (arith, mul-le-mul_right (n * d) h)

power-up : (f : Frac) → 0 < f.den → f.den ≤ f.num → (k j : ℕ) → LeFrac (power f k) (power f (k + j))
unfolding power
power-up f P h k zero = rw (add-zero k) (le-frac-refl (power f k))
power-up f P h k (suc j) = rw (add-suc k j) (le-frac-trans {y = power f (k + j)} (power_pos f (k + j) P) (power-up f P h k j) (record { cross = up-alg f.num f.den (power f (k + j)).num (power f (k + j)).den h }))
  where
    up-alg : (a b n d : ℕ) → b ≤ a → n * (b * d) ≤ a * n * d
    up-alg a b n d h = omega (arith, mul-le-mul_right (n * d) h)

less-enough : (f : ℕ) → f ≤ 255 → LeFrac (less_part 14) (times (less_part 15) (power (less_part 24) f))
unfolding power
less-enough f l =
    let w = le_dest l in
    let p = subst (λ (z : ℕ). LeFrac (power (less_part 24) z) (power (less_part 24) f)) w.1 (power-down (less_part 24) (lit< tt) (lit≤ tt) f w.0) in
    le-frac-trans {y = times (less_part 15) (power (less_part 24) 255)} (lit< tt) (record { cross = lit≤ tt }) (times-mono (le-frac-refl _) p)

over-enough : (f : ℕ) → f ≤ 255 → LeFrac (times (more_part 15) (power (more_part 24) f)) (more_part 14)
unfolding power
over-enough f l =
    let w = le_dest l in
    let p = subst (λ (z : ℕ). LeFrac (power (more_part 24) f) (power (more_part 24) z)) w.1 (power-up (more_part 24) (lit< tt) (lit≤ tt) f w.0) in
    le-frac-trans {y = times (more_part 15) (power (more_part 24) 255)} (lit< tt) (times-mono (le-frac-refl _) p) (record { cross = lit≤ tt })

-- a sum over weights near exact numbers, itself within one part in 2^15
pub within-fourteen : (from f : ℕ) (x : Number) (s w : Frac) → f ≤ 255 → 0 < w.den → Close from (power (less_part 24) f) (power (more_part 24) f) x s → WithinPart 15 0 (exactly s) w → WithinPart 14 from x w
within-fourteen from f x s w l W c r =
    let p = within-rounded (less_part 15) (more_part 15) (pow_pos 15) (pow_pos 15) W (r.reached 0 zero-le) (r.kept 0 zero-le) c.within in
    record {
      positive = W;
      reached = λ n N. le-frac-trans {y = times (times (less_part 15) (power (less_part 24) f)) (x.lower n)} (mul-pos (mul-pos (pow_pos 15) (power_pos (less_part 24) f (lit< tt))) (c.sound.below n N)) (times-mono (less-enough f l) (le-frac-refl _)) (p.reached n N);
      kept = λ n N. le-frac-trans {y = times (times (more_part 15) (power (more_part 24) f)) (x.upper n)} (mul-pos (mul-pos (pow_pos 15) (power_pos (more_part 24) f (lit< tt))) (c.sound.above n N)) (p.kept n N) (times-mono (over-enough f l) (le-frac-refl _));
    }
