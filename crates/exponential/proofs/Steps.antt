-- The arithmetic of the exponential, over whole numbers: the series by units of 2^-54, and the digits that are kept. Assumes nothing.
use mathlib.Core.Path.{◌≡◌, refl, sym, ap, ◌∙◌, subst}
use Prim.Native.Nat.{ℕ, suc, ◌+◌, ◌-◌, ◌*◌, ◌/◌, ◌%◌, ◌^◌, ◌≤◌, ◌<◌, zero-le}
use native.Mathlib.Nat.{le_trans, le_of_eq, le_of_lt, le_refl, lt_of_le_of_lt, mul-le-mul, mul-le-mul_right, mul-le-mul_left, le_of_mul-le-mul_right, lt_of_mul-lt-mul_right, mul-pos, mul_comm, zero-lt-suc, pow-suc, pow-zero, pow-le-pow_left, div-mul-le_self, lt-div-mul-add, div-le_self, mul-one, div-add-mod'}
use native.Mathlib.Numerals.{add-one}
use native.Mathlib.Omega.{arith}
use lib.Dec.{lit≤, lit<}
use lib.Pow.{pow_pos}
use mathlib.Core.Bool.{true, false}
use Rattle.fractions.specs.Frac.{frac, times}
use Rattle.logarithm.proofs.Series.{fact, whole}
use Rattle.logarithm.proofs.Bounds.{mul-pow, whole_is, whole_pos}
use Rattle.exponential.specs.Exponential.{ExpAtMost, ExpAtLeast}
use Rattle.exponential.specs.Near.{ExpNear}
use Rattle.exponential.proofs.Series.{taylor, topped, taylor-mono}
use Rattle.exponential.proofs.Sums.{at-most-le, at-least-le, at-most-mono, at-least-mono, at-most-sum, at-least-sum, at-most-series, at-least-series, at-most-steps, at-least-steps, at-most-unit, ln2_units}
use Rattle.exponential.proofs.Near.{near-plus, near-minus}
use Rattle.exponential.specs.Parts.{Weighed}

pub record Powered (s j t w : ℕ) : Type 0 where
  pub terms : j ≤ 15
  pub power_small : t ≤ 2 ^ 54
  pub power-under : t * whole j (2 ^ 46) ≤ s ^ j * 2 ^ 54
  pub power-over : s ^ j * 2 ^ 54 ≤ (t + 10) * whole j (2 ^ 46)
  pub sum-least : 2 ^ 54 ≤ w
  pub sum-small : w ≤ (j + 1) * 2 ^ 54
  pub sum-under : w * whole j (2 ^ 46) ≤ taylor j (2 ^ 46) s * 2 ^ 54
  pub sum_over : taylor j (2 ^ 46) s * 2 ^ 54 ≤ (w + 10 * (j + 1)) * whole j (2 ^ 46)
  pub exact : s ≡ 0 → w ≡ 2 ^ 54

pub powered-none : (s : ℕ) → Powered s 0 (2 ^ 54) (2 ^ 54)
unfolding taylor whole
powered-none s = record { terms = zero-le; power_small = le_refl _; power-under = rw (pow-zero s) (lit≤ tt); power-over = rw (pow-zero s) (lit≤ tt); sum-least = le_refl _; sum-small = lit≤ tt; sum-under = lit≤ tt; sum_over = lit≤ tt; exact = λ z. refl }

module _ (m u s t p q j W x : ℕ) (um : u * m ≡ s * 2 ^ 54) where
  next_under : p * 2 ^ 54 ≤ t * u → q * suc j ≤ p → t * W ≤ x * 2 ^ 54 → q * (suc j * m * W) ≤ x * s * 2 ^ 54
  next_under h g k =
      let a : p * m * W ≤ t * s * W = le_of_mul-le-mul_right {k = 2 ^ 54} (omega (arith, mul-le-mul_right (m * W) h, ap (λ (z : ℕ). t * W * z) um)) (pow_pos 54) in
      omega (arith, mul-le-mul_right (m * W) g, mul-le-mul_left s k)

  next-over : t * u ≤ (p + 3) * 2 ^ 54 → p < q * suc j + suc j → 10 * u ≤ 7 * 2 ^ 54 → x * 2 ^ 54 ≤ (t + 10) * W → x * s * 2 ^ 54 ≤ (q + 10) * (suc j * m * W)
  next-over h g l k =
      let b : (t + 10) * u ≤ (p + 10) * 2 ^ 54 = omega arith in
      let a : (t + 10) * s * W ≤ (p + 10) * m * W = le_of_mul-le-mul_right {k = 2 ^ 54} (omega (arith, mul-le-mul_right (m * W) b, ap (λ (z : ℕ). (t + 10) * W * z) um)) (pow_pos 54) in
      let c : p + 10 ≤ (q + 10) * suc j = omega arith in
      omega (arith, mul-le-mul_right (m * W) c, mul-le-mul_left s k)

sum-under-alg : (n m W w T q x : ℕ) → w * W ≤ T * 2 ^ 54 → q * (n * m * W) ≤ x * 2 ^ 54 → (w + q) * (n * m * W) ≤ (n * m * T + x) * 2 ^ 54
sum-under-alg n m W w T q x h g = omega (arith, mul-le-mul_left (n * m) h)

sum-over-alg : (n m W w T q x : ℕ) → T * 2 ^ 54 ≤ (w + 10 * n) * W → x * 2 ^ 54 ≤ (q + 10) * (n * m * W) → (n * m * T + x) * 2 ^ 54 ≤ (w + q + 10 * (n + 1)) * (n * m * W)
sum-over-alg n m W w T q x h g = omega (arith, mul-le-mul_left (n * m) h)

powered-more : (s j t w p : ℕ) → s < 48775896626291 → j < 15 → p * 2 ^ 54 ≤ t * (s * 256) → t * (s * 256) ≤ (p + 3) * 2 ^ 54 → Powered s j t w → Powered s (j + 1) (p / (j + 1)) (w + p / (j + 1))
unfolding taylor whole
powered-more s j t w p S l h g r =
    let m = 2 ^ 46 in
    let u = s * 256 in
    let W = whole j m in
    let q = p / suc j in
    let um : u * m ≡ s * 2 ^ 54 = omega arith in
    let q-under : q * suc j ≤ p = div-mul-le_self p (suc j) in
    let q-over : p < q * suc j + suc j = lt-div-mul-add (zero-lt-suc j) in
    let q-small : q ≤ p = div-le_self p (suc j) in
    let p-small : p ≤ 2 ^ 54 = le_of_mul-le-mul_right {k = 2 ^ 54} (le_trans h (mul-le-mul {n₂ = 2 ^ 54} {m₂ = 2 ^ 54} r.power_small (omega arith))) (pow_pos 54) in
    let nu : q * (suc j * m * W) ≤ s ^ j * s * 2 ^ 54 = next_under m u s t p q j W (s ^ j) um h q-under r.power-under in
    let no : s ^ j * s * 2 ^ 54 ≤ (q + 10) * (suc j * m * W) = next-over m u s t p q j W (s ^ j) um g q-over (omega arith) r.power-over in
    rw (add-one j) (record {
      terms = omega arith;
      power_small = omega arith;
      power-under = rw (pow-suc s j) nu;
      power-over = rw (pow-suc s j) no;
      sum-least = omega (arith, r.sum-least);
      sum-small = omega (arith, r.sum-small);
      sum-under = rw (pow-suc s j) (sum-under-alg (suc j) m W w (taylor j m s) q (s ^ j * s) r.sum-under nu);
      sum_over = rw (pow-suc s j) (sum-over-alg (suc j) m W w (taylor j m s) q (s ^ j * s) (rw (add-one j) at r.sum_over) no);
      exact = λ z. none z;
    })
  where
    none : s ≡ 0 → w + p / suc j ≡ 2 ^ 54
    none z =
        let a : p ≡ 0 = omega (arith, rw z at h) in
        let b : p / suc j ≤ p = div-le_self p (suc j) in
        omega (arith, r.exact z)

-- the j-th term
pub powered-next : (s j t w p : ℕ) → s < 48775896626291 → 1 ≤ j → j ≤ 15 → p * 2 ^ 54 ≤ t * (s * 256) → t * (s * 256) ≤ (p + 3) * 2 ^ 54
    → Powered s (j - 1) t w → Powered s (j + 1 - 1) (p / j) (w + p / j)
powered-next s j t w p S h k g e r =
    let i = j - 1 in
    let same : i + 1 ≡ j = omega arith in
    let next : j + 1 - 1 ≡ i + 1 = omega arith in
    rw next (subst (λ (m : ℕ). Powered s (i + 1) (p / m) (w + p / m)) same (powered-more s i t w p S (omega arith) g e r))

-- ---- the sum against the exponential
last-alg : (e M : ℕ) → e * 4 ^ 16 ≤ 3 ^ 16 * M → 2 * e * 2 ^ 54 ≤ 20 * (20922789888000 * M)
last-alg e M h = omega (arith, mul-le-mul_left (2 ^ 23) h)

last : (s m : ℕ) → 4 * s ≤ 3 * m → 2 * s ^ 16 * 2 ^ 54 ≤ 20 * whole 16 m
unfolding fact
last s m h = rw (whole_is 16 m) (last-alg (s ^ 16) (m ^ 16) (rw (mul_comm (s ^ 16) (4 ^ 16), ← mul-pow 4 s 16, ← mul-pow 3 m 16) (pow-le-pow_left h 16)))

rest-alg : (n m W T w x : ℕ) → T * 2 ^ 54 ≤ (w + 160) * W → 2 * x * 2 ^ 54 ≤ 20 * (n * m * W) → (n * m * T + 2 * x) * 2 ^ 54 ≤ (w + 180) * (n * m * W)
rest-alg n m W T w x h g = omega (arith, mul-le-mul_left (n * m) h)

topped-le : (j m s w : ℕ) → j ≡ 15 → 4 * s ≤ 3 * m → taylor j m s * 2 ^ 54 ≤ (w + 160) * whole j m → topped j m s * 2 ^ 54 ≤ (w + 180) * whole (suc j) m
unfolding topped whole
topped-le j m s w e h g = rest-alg (suc j) m (whole j m) (taylor j m s) w (s ^ suc j) g (subst (λ (z : ℕ). 2 * s ^ z * 2 ^ 54 ≤ 20 * whole z m) (ap suc (sym e)) (last s m h))

most : taylor 15 (2 ^ 46) 48775896626291 * 2 ^ 54 < 2 ^ 55 * whole 15 (2 ^ 46)
unfolding taylor whole
most = lit< tt

below : (j s w : ℕ) → j ≡ 15 → s ≤ 48775896626291 → w * whole j (2 ^ 46) ≤ taylor j (2 ^ 46) s * 2 ^ 54 → w < 2 ^ 55
below j s w e h g =
    let k : taylor j (2 ^ 46) 48775896626291 * 2 ^ 54 < 2 ^ 55 * whole j (2 ^ 46) = subst (λ (z : ℕ). taylor z (2 ^ 46) 48775896626291 * 2 ^ 54 < 2 ^ 55 * whole z (2 ^ 46)) (sym e) most in
    lt_of_mul-lt-mul_right (whole j (2 ^ 46)) (lt_of_le_of_lt g (lt_of_le_of_lt (mul-le-mul_right (2 ^ 54) (taylor-mono j (2 ^ 46) s 48775896626291 h)) k))

pub powered-all : (s j t w : ℕ) → s < 48775896626291 → 15 ≤ j → Powered s j t w → ExpAtLeast s (2 ^ 46) (frac w (2 ^ 54)) × (ExpAtMost s (2 ^ 46) (frac (w + 180) (2 ^ 54)) × (((2 ^ 54 ≤ w) × (w < 2 ^ 55)) × (s ≡ 0 → w ≡ 2 ^ 54)))
powered-all s j t w S l r =
    let m = 2 ^ 46 in
    let e : j ≡ 15 = omega (arith, r.terms) in
    let o : taylor j m s * 2 ^ 54 ≤ (w + 160) * whole j m = subst (λ (z : ℕ). taylor j m s * 2 ^ 54 ≤ (w + 10 * (z + 1)) * whole j m) e r.sum_over in
    let g : topped j m s * 2 ^ 54 ≤ (w + 180) * whole (suc j) m = topped-le j m s w e (omega arith) o in (
      at-least-le {w = frac (taylor j m s) (whole j m)} (whole_pos j m (pow_pos 46)) (record { cross = r.sum-under }) (at-least-series j s m),
      (
        at-most-le {v = frac (topped j m s) (whole (suc j) m)} (whole_pos (suc j) m (pow_pos 46)) (record { cross = g }) (at-most-series j s m (omega arith)),
        ((r.sum-least, below j s w e (le_of_lt S) r.sum-under), r.exact),
      ),
    )

-- ---- the whole: k steps of the logarithm of 2, and the rest
over-alg : (P c w d D E F G : ℕ) → d * F * D ≤ c * w * G → P * (d * F) * (D * E) ≤ P * c * w * (G * E)
over-alg P c w d D E F G h = omega (arith, mul-le-mul_left (P * E) h)

under-alg : (P A B C D E : ℕ) → A * B ≤ C * D → P * A * B * E ≤ P * C * (D * E)
under-alg P A B C D E h = omega (arith, mul-le-mul_left (P * E) h)

module _ (k s w d : ℕ) (K : k ≤ 2 ^ 17) (d-under : d * 2 ^ 24 ≤ w) (d-over : w < d * 2 ^ 24 + 2 ^ 24) (d_small : d < 2 ^ 31) where
  weigh-over : ExpAtLeast s (2 ^ 46) (frac w (2 ^ 54)) → ExpAtLeast (k * ln2_units + s) (2 ^ 46) (frac (2 ^ k * (d * (2 ^ 29 - 1))) (2 ^ 59))
  weigh-over o =
      let c = 2 ^ 46 - k in
      let c-least : (2 ^ 29 - 1) * 2 ^ 17 ≤ c = omega arith in
      let h : d * (2 ^ 29 - 1) * 2 ^ 41 ≤ c * w * 1 = le_trans (omega arith) (le_trans (mul-le-mul c-least d-under) (le_of_eq (sym (mul-one (c * w))))) in
      at-least-le {w = times (frac (2 ^ k * c) (2 ^ 46)) (frac w (2 ^ 54))} (lit< tt)
      (record { cross = over-alg (2 ^ k) c w d (2 ^ 41) (2 ^ 59) (2 ^ 29 - 1) 1 h })
      (at-least-sum (2 ^ 46) (pow_pos 46) (k * ln2_units) s (at-least-steps k (omega arith)) o)

  weigh-under : ExpAtMost s (2 ^ 46) (frac (w + 180) (2 ^ 54)) → ExpAtMost (k * ln2_units + s + 1) (2 ^ 46) (frac (2 ^ k * (d + 3)) (2 ^ 30))
  weigh-under u =
      let h : (w + 180) * (2 ^ 46 + 2) ≤ (d + 3) * 2 ^ 70 = omega arith in
      at-most-le {v = times (times (frac (2 ^ k) 1) (frac (w + 180) (2 ^ 54))) (frac (2 ^ 46 + 2) (2 ^ 46))} (lit< tt)
      (record { cross = under-alg (2 ^ k) (w + 180) (2 ^ 46 + 2) (d + 3) (2 ^ 70) (2 ^ 30) h })
      (at-most-sum (2 ^ 46) (pow_pos 46) (k * ln2_units + s) 1 (at-most-sum (2 ^ 46) (pow_pos 46) (k * ln2_units) s (at-most-steps k) u) at-most-unit)

-- the exponential of y / 2^46 and of (y + 1) / 2^46, by d 2^k / 2^30
pub weighed : (y w : ℕ) → y ≤ 80000 * 2 ^ 46 → ExpAtLeast (y % 48775896626291) (2 ^ 46) (frac w (2 ^ 54)) → ExpAtMost (y % 48775896626291) (2 ^ 46) (frac (w + 180) (2 ^ 54)) → 2 ^ 54 ≤ w → w < 2 ^ 55 → (y % 48775896626291 ≡ 0 → w ≡ 2 ^ 54) → Weighed y (w / 2 ^ 24) (y / 48775896626291)
weighed y w Y o u l m z =
    let e : y / 48775896626291 * 48775896626291 + y % 48775896626291 ≡ y = div-add-mod' y 48775896626291 in
    record {
      least = omega arith;
      most = omega arith;
      power = omega arith;
      under = rw e at (weigh-over (y / 48775896626291) (y % 48775896626291) w (w / 2 ^ 24) (omega arith) (omega arith) (omega arith) (omega arith) o);
      above = rw e at (weigh-under (y / 48775896626291) (y % 48775896626291) w (w / 2 ^ 24) (omega arith) (omega arith) (omega arith) (omega arith) u);
      none = λ e'. let f : w ≡ 2 ^ 54 = z (omega arith) in (omega arith, omega arith);
    }

-- ---- the weight of x = ±a / b, a / b between y and y + 1 units of 2^-46
plus-less-alg : (d P U D : ℕ) → 2 ^ 30 ≤ d → U * 2 ^ 30 ≡ P * D → (2 ^ 24 - 1) * (P * (d + 3)) * D ≤ d * U * 2 ^ 54
plus-less-alg d P U D l e =
    let h : (2 ^ 24 - 1) * (d + 3) ≤ d * 2 ^ 24 = omega arith in
    omega (arith, mul-le-mul_left (P * D) h, ap (λ (z : ℕ). d * 2 ^ 24 * z) e)

plus-over-alg : (d P U D : ℕ) → U * 2 ^ 30 ≡ P * D → d * U * 2 ^ 83 ≤ (2 ^ 24 + 1) * (P * (d * (2 ^ 29 - 1))) * D
plus-over-alg d P U D e = le_trans (le_of_eq (move d U (2 ^ 53) (2 ^ 30) ∙ ap (λ (z : ℕ). d * 2 ^ 53 * z) e)) (widen d P D (2 ^ 53) (2 ^ 24 + 1) (2 ^ 29 - 1) (lit≤ tt))
  where
    move : (d U A B : ℕ) → d * U * (A * B) ≡ d * A * (U * B)
    move d U A B = omega arith

    widen : (d P D a b c : ℕ) → a ≤ b * c → d * a * (P * D) ≤ b * (P * (d * c)) * D
    widen d P D a b c h = omega (arith, mul-le-mul_left (d * P * D) h)

minus-less-alg : (d g P U D : ℕ) → d < 2 ^ 31 → 2 ^ 61 < g * d + d → U * (P * 2 ^ 31) ≡ D → (2 ^ 24 - 1) * 2 ^ 59 * D ≤ g * U * (2 ^ 24 * (P * (d * (2 ^ 29 - 1))))
minus-less-alg d g P U D l h e =
    let f : (2 ^ 24 - 1) * 2 ^ 66 ≤ g * d * (2 ^ 29 - 1) = omega arith in
    rw (← e) (minus-less-fin g d P U f)
  where
    minus-less-fin : (g d P U : ℕ) → (2 ^ 24 - 1) * 2 ^ 66 ≤ g * d * (2 ^ 29 - 1) → (2 ^ 24 - 1) * 2 ^ 59 * (U * (P * 2 ^ 31)) ≤ g * U * (2 ^ 24 * (P * (d * (2 ^ 29 - 1))))
    minus-less-fin g d P U f = omega (arith, mul-le-mul_left (U * P * 2 ^ 24) f)

minus-over-alg : (d g P U D : ℕ) → g ≤ 2 ^ 31 → g * d ≤ 2 ^ 61 → U * (P * 2 ^ 31) ≡ D → g * U * (2 ^ 24 * (P * (d + 3))) ≤ (2 ^ 24 + 1) * 2 ^ 30 * D
minus-over-alg d g P U D l h e =
    let f : g * (d + 3) * 2 ^ 24 ≤ (2 ^ 24 + 1) * 2 ^ 61 = omega arith in
    rw (← e) (minus-over-fin g d P U f)
  where
    minus-over-fin : (g d P U : ℕ) → g * (d + 3) * 2 ^ 24 ≤ (2 ^ 24 + 1) * 2 ^ 61 → g * U * (2 ^ 24 * (P * (d + 3))) ≤ (2 ^ 24 + 1) * 2 ^ 30 * (U * (P * 2 ^ 31))
    minus-over-fin g d P U f = omega (arith, mul-le-mul_left (U * P) f)

module _ (a b y d k : ℕ) (B : 0 < b) (y-under : y * b ≤ a * 2 ^ 46) (y-over : a * 2 ^ 46 ≤ (y + 1) * b) (w : Weighed y d k) where
  whole-over : ExpAtLeast a b (frac (2 ^ k * (d * (2 ^ 29 - 1))) (2 ^ 59))
  whole-over = at-least-mono a b (pow_pos 46) B y-under w.under

  whole-under : ExpAtMost a b (frac (2 ^ k * (d + 3)) (2 ^ 30))
  whole-under = at-most-mono a b (pow_pos 46) y-over w.above

  pub weight-plus : (U D : ℕ) → U * 2 ^ 30 ≡ 2 ^ k * D → ExpNear false a b (frac (d * U) D)
  weight-plus U D e = near-plus a b whole-over whole-under (pow_pos 30) (pow_pos 59) (record { cross = plus-less-alg d (2 ^ k) U D w.least e }) (record { cross = plus-over-alg d (2 ^ k) U D e })

  pub weight-minus : (g U D : ℕ) → g ≤ 2 ^ 31 → g * d ≤ 2 ^ 61 → 2 ^ 61 < g * d + d → U * (2 ^ k * 2 ^ 31) ≡ D → ExpNear true a b (frac (g * U) D)
  weight-minus g U D l h m e = near-minus a b whole-over whole-under (mul-pos (pow_pos k) (omega arith)) (mul-pos (pow_pos k) (omega (arith, w.least))) (record { cross = minus-less-alg d g (2 ^ k) U D w.most m e }) (record { cross = minus-over-alg d g (2 ^ k) U D l h e })
