-- The arithmetic of the figure, over whole numbers: products, the series, the table of steps, doublings. Assumes nothing.
use mathlib.Core.Path.{◌≡◌, refl, sym, ap, subst, ◌∙◌}
use mathlib.Core.Bool.{Bool, true, false, ◌&&◌}
use mathlib.Core.List.{List, [], ◌∷◌}
use Prim.Native.Nat.{ℕ, zero, suc, ◌+◌, ◌-◌, ◌*◌, ◌/◌, ◌%◌, ◌^◌, ◌≤◌, ◌<◌, zero-le}
use native.Mathlib.Nat.{le_refl, le_of_lt, mul-le-mul, mul-le-mul_right, mul-le-mul_left, le_of_mul-le-mul_right, mul_comm, zero-lt-suc, not-suc-le-zero, le_of_suc-le-suc, pow-suc, pow-zero, pow-le-pow_left, div-add-mod', div-mul-le_self, lt-div-mul-add, div-le_self, add-zero}
use native.Mathlib.Numerals.{add-one}
use native.Mathlib.Omega.{arith}
use lib.Dec.{T, leb, leb→le, lit≤, lit<}
use lib.ListN.{get_or, length}
use Rattle.fractions.specs.Frac.{frac}
use Rattle.logarithm.specs.Logarithm.{LnAtMost, LnAtLeast}
use Rattle.logarithm.specs.Figure.{mul_units, terms_from, ln_series, steps}
use Rattle.logarithm.proofs.Series.{fact, part, whole, more}
use Rattle.logarithm.proofs.Bounds.{at-least-le, at-most-le, at-least-series, at-most-series, whole_is, whole_pos, mul-pow}

-- ---- a product by halves of 27 digits
module _ (a b : ℕ) (p : a ≤ 2 ^ 54) (q : b ≤ 2 ^ 54) where
  low-low : a % 2 ^ 27 * (b % 2 ^ 27) ≤ 134217727 * 134217727
  low-low = mul-le-mul {n₂ = 134217727} {m₂ = 134217727} (omega arith) (omega arith)

product-alg : (h l g k x y : ℕ) → x ≡ h * k / 2 ^ 27 → y ≡ l * g / 2 ^ 27 → l * k ≤ 134217727 * 134217727
    → ((h * g + x + y) * 2 ^ 54 ≤ (h * 2 ^ 27 + l) * (g * 2 ^ 27 + k)) × ((h * 2 ^ 27 + l) * (g * 2 ^ 27 + k) < (h * g + x + y + 3) * 2 ^ 54)
product-alg h l g k x y e f m = (omega arith, omega arith)

pub mul_right : (a b : ℕ) → a ≤ 2 ^ 54 → b ≤ 2 ^ 54 → (mul_units a b * 2 ^ 54 ≤ a * b) × (a * b < (mul_units a b + 3) * 2 ^ 54)
unfolding mul_units
mul_right a b p q =
    rw (div-add-mod' a (2 ^ 27), div-add-mod' b (2 ^ 27)) at
    (product-alg (a / 2 ^ 27) (a % 2 ^ 27) (b / 2 ^ 27) (b % 2 ^ 27) (a / 2 ^ 27 * (b % 2 ^ 27) / 2 ^ 27) (a % 2 ^ 27 * (b / 2 ^ 27) / 2 ^ 27) refl refl (low-low a b p q))

-- ---- the sum of the series for d / a, in units of 2^-54: t is the power, and w the sum, after j terms
pub record Summed (a d j t w : ℕ) : Type 0 where
  pub terms : j ≤ 8
  pub power_small : t ≤ 2 ^ 54
  pub power-under : t * a ^ j ≤ d ^ j * 2 ^ 54
  pub power-over : d ^ j * 2 ^ 54 ≤ (t + 9) * a ^ j
  pub sum-small : w ≤ j * 2 ^ 54
  pub sum-under : w * whole j a ≤ part j a d * 2 ^ 54
  pub sum_over : part j a d * 2 ^ 54 ≤ (w + 9 * j) * whole j a

pub summed-none : (a d : ℕ) → Summed a d 0 (2 ^ 54) 0
unfolding part whole
summed-none a d = record { terms = zero-le; power_small = le_refl (2 ^ 54); power-under = rw (pow-zero a, pow-zero d) (lit≤ tt); power-over = rw (pow-zero a, pow-zero d) (lit≤ tt); sum-small = zero-le; sum-under = omega arith; sum_over = omega arith }

module _ (a d u t t' : ℕ) (u-small : u ≤ 2 ^ 53) (u-under : u * a ≤ d * 2 ^ 54) (u-over : d * 2 ^ 54 ≤ (u + 1) * a)
    (t-small : t ≤ 2 ^ 54) (p-under : t' * 2 ^ 54 ≤ t * u) (p-over : t * u ≤ (t' + 3) * 2 ^ 54) where
  next_under : (x y : ℕ) → t * x ≤ y * 2 ^ 54 → t' * (x * a) ≤ y * d * 2 ^ 54
  next_under x y h = le_of_mul-le-mul_right {k = 2 ^ 54} (omega (arith, mul-le-mul h u-under, mul-le-mul_right (x * a) p-under)) (lit< tt)

  next-over : (x y : ℕ) → y * 2 ^ 54 ≤ (t + 9) * x → y * d * 2 ^ 54 ≤ (t' + 9) * (x * a)
  next-over x y h =
      let s : (t + 9) * (u + 1) ≤ (t' + 9) * 2 ^ 54 = omega arith in
      le_of_mul-le-mul_right {k = 2 ^ 54} (omega (arith, mul-le-mul h u-over, mul-le-mul_right (x * a) s)) (lit< tt)

  next_small : t' ≤ 2 ^ 54
  next_small = le_of_mul-le-mul_right {k = 2 ^ 54} (omega (arith, mul-le-mul {n₂ = 2 ^ 54} {m₂ = 2 ^ 53} t-small u-small)) (lit< tt)

sum-under-alg : (j a F A w P q t' e : ℕ) → w * (F * A) ≤ P * 2 ^ 54 → q * suc j ≤ t' → t' * (A * a) ≤ e * 2 ^ 54
    → (w + q) * (suc j * a * (F * A)) ≤ (suc j * a * P + F * e) * 2 ^ 54
sum-under-alg j a F A w P q t' e h g k = omega (arith, mul-le-mul_left (suc j * a) h, mul-le-mul_right (a * F * A) g, mul-le-mul_left F k)

sum-over-alg : (j a F A w P q t' e : ℕ) → P * 2 ^ 54 ≤ (w + 9 * j) * (F * A) → t' < q * suc j + suc j → e * 2 ^ 54 ≤ (t' + 9) * (A * a)
    → (suc j * a * P + F * e) * 2 ^ 54 ≤ (w + q + 9 * suc j) * (suc j * a * (F * A))
sum-over-alg j a F A w P q t' e h g k =
    let s : t' + 9 ≤ (q + 9) * suc j = omega arith in
    omega (arith, mul-le-mul_left (suc j * a) h, mul-le-mul_right (a * F * A) s, mul-le-mul_left F k)

module _ (a d u j t t' w : ℕ) (u-small : u ≤ 2 ^ 53) (u-under : u * a ≤ d * 2 ^ 54) (u-over : d * 2 ^ 54 ≤ (u + 1) * a)
    (p-under : t' * 2 ^ 54 ≤ t * u) (p-over : t * u ≤ (t' + 3) * 2 ^ 54) where
  pub summed-more : j < 8 → Summed a d j t w → Summed a d (j + 1) t' (w + t' / (j + 1))
  unfolding part whole
  summed-more l s =
      let q = t' / suc j in
      let q-under : q * suc j ≤ t' = div-mul-le_self t' (suc j) in
      let q-over : t' < q * suc j + suc j = lt-div-mul-add (zero-lt-suc j) in
      let q-small : q ≤ t' = div-le_self t' (suc j) in
      let t'-small : t' ≤ 2 ^ 54 = next_small a d u t t' u-small u-under u-over s.power_small p-under p-over in
      let nu : t' * (a ^ j * a) ≤ d ^ j * d * 2 ^ 54 = next_under a d u t t' u-small u-under u-over s.power_small p-under p-over (a ^ j) (d ^ j) s.power-under in
      let no : d ^ j * d * 2 ^ 54 ≤ (t' + 9) * (a ^ j * a) = next-over a d u t t' u-small u-under u-over s.power_small p-under p-over (a ^ j) (d ^ j) s.power-over in
      rw (add-one j) (record {
        terms = omega arith;
        power_small = t'-small;
        power-under = rw (pow-suc a j, pow-suc d j) nu;
        power-over = rw (pow-suc a j, pow-suc d j) no;
        sum-small = omega (arith, s.sum-small);
        sum-under = rw (whole_is j a, pow-suc d j) (sum-under-alg j a (fact j) (a ^ j) w (part j a d) q t' (d ^ j * d) (rw (whole_is j a) at s.sum-under) q-under nu);
        sum_over = rw (whole_is j a, pow-suc d j) (sum-over-alg j a (fact j) (a ^ j) w (part j a d) q t' (d ^ j * d) (rw (whole_is j a) at s.sum_over) q-over no);
      })

-- ---- the sum against the logarithm
rest-alg : (n a F A w P e : ℕ) → n ≡ 9 → P * 2 ^ 54 ≤ (w + 72) * (F * A) → e * 33 ^ 9 ≤ A * a
    → (n * a * P + 2 * F * e) * 2 ^ 54 ≤ (w + 159) * (n * a * (F * A))
rest-alg n a F A w P e s h g = rw s (omega (arith, mul-le-mul_left (9 * a) h, mul-le-mul_left (783 * F) g))

part-pow : (a d j : ℕ) → 33 * d ≤ a → d ^ j * 33 ^ j ≤ a ^ j
part-pow a d j h = rw (mul_comm (d ^ j) (33 ^ j), ← mul-pow 33 d j) (pow-le-pow_left h j)

more-le : (j a d w : ℕ) → j ≡ 8 → 33 * d ≤ a → part j a d * 2 ^ 54 ≤ (w + 9 * j) * whole j a → more j a d * 2 ^ 54 ≤ (w + 159) * whole (suc j) a
unfolding more whole
more-le j a d w e h g =
    let k : d ^ suc j * 33 ^ 9 ≤ a ^ j * a = rw (← pow-suc a j) (rw (ap suc e) (part-pow a d 9 h)) in
    rw (whole_is j a) (rest-alg (suc j) a (fact j) (a ^ j) w (part j a d) (d ^ suc j) (ap suc e) (rw (whole_is j a) at g') k)
  where
    g' : part j a d * 2 ^ 54 ≤ (w + 72) * whole j a
    g' = omega (arith, g, ap (λ (z : ℕ). z * whole j a) e)

-- w / 2^54 ≤ ln (a / b) ≤ (w + slack) / 2^54
pub record LnBetween (a b w slack : ℕ) : Type 0 where
  pub least : LnAtLeast a b (frac w (2 ^ 54))
  pub most : LnAtMost a b (frac (w + slack) (2 ^ 54))

summed-all : (a b j t w : ℕ) → 0 < b → b ≤ a → 33 * (a - b) ≤ a → 8 ≤ j → Summed a (a - b) j t w → LnBetween a b w 159
summed-all a b j t w B h l m s =
    let e : j ≡ 8 = omega (arith, s.terms) in
    let A : 0 < a = omega arith in
    let g : more j a (a - b) * 2 ^ 54 ≤ (w + 159) * whole (suc j) a = more-le j a (a - b) w e l s.sum_over in
    record {
      least = at-least-le {q = frac (part j a (a - b)) (whole j a)} (whole_pos j a A) (record { cross = s.sum-under }) (at-least-series j a b h);
      most = at-most-le {p = frac (more j a (a - b)) (whole (suc j) a)} (whole_pos (suc j) a A) (record { cross = g }) (at-most-series j a b h (omega arith));
    }

-- u is d / a in units, of at most 1 / 33
module _ (a d u : ℕ) (U : u ≤ 2 ^ 53) (uu : u * a ≤ d * 2 ^ 54) (uo : d * 2 ^ 54 ≤ (u + 1) * a) where
  terms-summed : (n j t w : ℕ) → n + j ≡ 8 → Summed a d j t w → (p : ℕ) × Summed a d 8 p (terms_from n u j t w)
  unfolding terms_from
  terms-summed zero j t w e s = (t, subst (λ (z : ℕ). Summed a d z t w) e' s)
    where
      e' : j ≡ 8
      e' = omega arith
  terms-summed (suc n) j t w e s =
      let m = mul_right t u s.power_small (omega arith) in
      terms-summed n (j + 1) (mul_units t u) (w + mul_units t u / (j + 1)) (omega arith)
      (summed-more a d u j t (mul_units t u) w U uu uo m.0 (le_of_lt m.1) (omega arith) s)

  pub series-summed : (p : ℕ) × Summed a d 8 p (ln_series u)
  unfolding ln_series
  series-summed = terms-summed 8 0 (2 ^ 54) 0 refl (summed-none a d)

-- u ≤ 1 / 33
pub quotient-small : (a d u : ℕ) → 0 < a → 33 * d ≤ a → u * a ≤ d * 2 ^ 54 → u ≤ 2 ^ 49
quotient-small a d u A l g = le_of_mul-le-mul_right {k = a} (omega arith) A

pub series-right : (a b : ℕ) → 0 < b → b ≤ a → 33 * (a - b) ≤ a → LnBetween a b (ln_series ((a - b) * 2 ^ 54 / a)) 159
series-right a b B h l =
    let A : 0 < a = omega arith in
    let u = (a - b) * 2 ^ 54 / a in
    let uu : u * a ≤ (a - b) * 2 ^ 54 = div-mul-le_self ((a - b) * 2 ^ 54) a in
    let uo : (a - b) * 2 ^ 54 < u * a + a = lt-div-mul-add A in
    let U = quotient-small a (a - b) u A l uu in
    let s = series-summed a (a - b) u (omega arith) uu (omega arith) in
    summed-all a b 8 s.0 (ln_series u) B h l (le_refl 8) s.1

-- of any u that is no more
pub series-small : (u : ℕ) → u ≤ 2 ^ 53 → ln_series u ≤ 8 * 2 ^ 54
series-small u U = (series-summed (2 ^ 54) u u U (le_refl _) (omega arith)).1.sum-small

-- ---- the table of steps: one test over all of its entries
-- s / 2^54 ≤ ln (c / 32) ≤ (s + 1) / 2^54, by sixty terms
step_holds : ℕ → ℕ → Bool
unfolding part whole more fact
step_holds c s = leb (s * whole 60 c) (part 60 c (c - 32) * 2 ^ 54) && leb (more 60 c (c - 32) * 2 ^ 54) ((s + 1) * whole 61 c)

steps_hold : ℕ → List ℕ → Bool
unfolding step_holds
steps_hold c [] = true
steps_hold c (s ∷ rest) = step_holds c s && steps_hold (suc c) rest

both : (a b : Bool) → T (a && b) → T a × T b
both true b t = (tt, t)
both false b t = absurd t

step-at : (c : ℕ) (table : List ℕ) → T (steps_hold c table) → (i : ℕ) → i < length table → T (step_holds (c + i) (get_or table i 0))
unfolding steps_hold
step-at c [] t i h = absurd (not-suc-le-zero h)
step-at c (s ∷ rest) t zero h = rw (add-zero c) (both (step_holds c s) (steps_hold (suc c) rest) t).0
step-at c (s ∷ rest) t (suc i) h = rw (e) (step-at (suc c) rest (both (step_holds c s) (steps_hold (suc c) rest) t).1 i (le_of_suc-le-suc h))
  where
    e : c + suc i ≡ suc c + i
    e = omega arith

all-steps : T (steps_hold 32 steps)
unfolding steps_hold
all-steps = tt

step_of : (c s : ℕ) → 32 ≤ c → c ≤ 64 → T (step_holds c s) → LnBetween c 32 s 1
unfolding step_holds
step_of c s l h t =
    let w = both (leb (s * whole 60 c) (part 60 c (c - 32) * 2 ^ 54)) (leb (more 60 c (c - 32) * 2 ^ 54) ((s + 1) * whole 61 c)) t in
    record {
      least = at-least-le {q = frac (part 60 c (c - 32)) (whole 60 c)} (whole_pos 60 c (omega arith)) (record { cross = leb→le _ _ w.0 }) (at-least-series 60 c 32 l);
      most = at-most-le {p = frac (more 60 c (c - 32)) (whole 61 c)} (whole_pos 61 c (omega arith)) (record { cross = leb→le _ _ w.1 }) (at-most-series 60 c 32 l (omega arith));
    }

pub step_right : (c : ℕ) → 32 ≤ c → c ≤ 64 → LnBetween c 32 (get_or steps (c - 32) 0) 1
step_right c l h =
    let i : c - 32 < length steps = omega arith in
    let e : 32 + (c - 32) ≡ c = omega arith in
    step_of c (get_or steps (c - 32) 0) l h (rw e at (step-at 32 steps all-steps (c - 32) i))

-- ---- the loop over the terms
pub power-falls : (t u : ℕ) → t ≤ 2 ^ 54 → u ≤ 2 ^ 53 → mul_units t u ≤ 2 ^ 54
power-falls t u h k =
    le_of_mul-le-mul_right {k = 2 ^ 54} (omega (arith, (mul_right t u h (omega arith)).0, mul-le-mul {n₂ = 2 ^ 54} {m₂ = 2 ^ 53} h k)) (lit< tt)

next : (u i t w : ℕ) → i < 8 → terms_from (8 - i) u i t w ≡ terms_from (8 - (i + 1)) u (i + 1) (mul_units t u) (w + mul_units t u / (i + 1))
unfolding terms_from
next u i t w h = let e : 8 - i ≡ suc (8 - (i + 1)) = omega arith in rw e refl

-- the j-th term
pub terms-step : (u j t w : ℕ) → 1 ≤ j → j ≤ 8
    → terms_from (9 - j) u (j - 1) t w ≡ terms_from (9 - (j + 1)) u (j + 1 - 1) (mul_units t u) (w + mul_units t u / j)
terms-step u j t w h k =
    let i = j - 1 in
    let a : 9 - j ≡ 8 - i = omega arith in
    let b : j ≡ i + 1 = omega arith in
    let c : 9 - (j + 1) ≡ 8 - (i + 1) = omega arith in
    let d : j + 1 - 1 ≡ i + 1 = omega arith in
    rw (a, c, d) (next u i t w (omega arith) ∙ ap (λ (m : ℕ). terms_from (8 - (i + 1)) u (i + 1) (mul_units t u) (w + mul_units t u / m)) (sym b))

pub terms-end : (u j i t w : ℕ) → 9 ≤ j → terms_from (9 - j) u i t w ≡ w
unfolding terms_from
terms-end u j i t w h = let e : 9 - j ≡ 0 = omega arith in rw e refl
