-- What the product and the sum of two terms lose, cut to 31 digits: at most one part in 2^30 each. Assumes nothing.
use mathlib.Core.Path.{◌≡◌, refl, sym, ap, ◌∙◌, subst}
use mathlib.Core.Bool.{Bool, true, false, cond, not}
use Prim.Native.Nat.{ℕ, suc, ◌+◌, ◌-◌, ◌*◌, ◌/◌, ◌^◌, ◌≤◌, ◌<◌}
use native.Mathlib.Nat.{le_trans, le_of_eq, le_of_lt, le_refl, mul-le-mul, mul-le-mul_right, mul-le-mul_left, mul_assoc, mul_comm, mul-mul-mul_comm, pow-suc, pow-zero, one-mul, sub-add_cancel, add_comm, div-mul-le_self, lt-div-mul-add, div-lt_iff_lt-mul, le-div_iff_mul-le, div-eq_of_lt, lt_of_lt_of_le, add-zero}
use native.Mathlib.Numerals.{add-one}
use native.Mathlib.Omega.{arith}
use lib.Dec.{T, ltb, ltb→lt, nltb→le, lit<}
use lib.Pow.{pow_pos, pow-add, pow_mono}
use borrow.Author.Tests.{lt-ltb}
use Rattle.partition.specs.declared.Term.{Term}
use Rattle.partition.specs.Terms.{term, size, Normal, shortened, times, carried, aligned, plus_lower, plus}
use Rattle.partition.proofs.Loss.{Loses, parts}

-- ---- tests
-- a property of what a test chooses, from both cases
pub by_test : (P : Bool → Type 0) (m n : ℕ) → (m < n → P true) → (n ≤ m → P false) → P (ltb m n)
by_test P m n f g = go (ltb m n) (ltb→lt m n) (nltb→le m n)
  where
    go : (b : Bool) → (T b → m < n) → (T (not b) → n ≤ m) → P b
    go true h k = f (h tt)
    go false h k = g (k tt)

-- ---- the one cut
cut-alg : (p q c s K : ℕ) → K ≤ q → p ≤ (q + 1) * c → p * s * K ≤ q * (c * s) * suc K
cut-alg p q c s K h g = omega (arith, mul-le-mul_right (s * K) g, mul-le-mul_right (c * s) h)

near-one : (x r : ℕ) → x * parts ≤ r * suc parts → x * parts ^ 1 ≤ r * suc parts ^ 1
near-one x r h = rw (pow-suc parts 0, pow-suc (suc parts) 0, pow-zero parts, pow-zero (suc parts), one-mul parts, one-mul (suc parts)) h

-- p units, cut to q times c of them
pub cut-loses : (p q c s : ℕ) → 2 ^ 30 ≤ q → q * c ≤ p → p ≤ (q + 1) * c → Loses 1 (p * s) (q * (c * s))
unfolding parts
cut-loses p q c s h l g = record {
  under = le_trans (le_of_eq (sym (mul_assoc q c s))) (mul-le-mul_right s l);
  near = near-one (p * s) (q * (c * s)) (cut-alg p q c s parts h g);
}

-- what a cut operation gives: a term in form that lost at most one part in 2^30, at a power that is bounded
pub record Cut (x most : ℕ) (t : Term) : Type 0 where
  pub form : Normal t
  pub near : Loses 1 x (size t)
  pub low : t.power ≤ most

-- ---- products
cut_at : (p c k e most : ℕ) → 2 ^ k ≡ c → 2 ^ 30 * c ≤ p → p < 2 ^ 31 * c → e + k ≤ most → Cut (p * 2 ^ e) most (term (p / c) (e + k))
cut_at p c k e most ck l h m =
    let C : 0 < c = subst (λ (z : ℕ). 0 < z) ck (pow_pos k) in
    let least : 2 ^ 30 ≤ p / c = (le-div_iff_mul-le C).1 l in
    let q = p / c in
    let g : p ≤ (q + 1) * c = omega (arith, lt-div-mul-add {a = p} C) in
    record {
      form = record { least = least; most = (div-lt_iff_lt-mul C).1 h };
      near = rw (pow-add 2 e k, ck, mul_comm (2 ^ e) c) (cut-loses p q c (2 ^ e) least (div-mul-le_self p c) g);
      low = m;
    }

product-alg : (a b x y : ℕ) → a * x * (b * y) ≡ a * b * (x * y)
product-alg a b x y = mul-mul-mul_comm a x b y

pub times_cut : (a b : Term) → Normal a → Normal b → Cut (size a * size b) (a.power + b.power + 31) (times a b)
unfolding times
times_cut a b n m =
    let p = a.digits * b.digits in
    let e = a.power + b.power in
    let l : 2 ^ 60 ≤ p = mul-le-mul {n₁ = 2 ^ 30} {m₁ = 2 ^ 30} n.least m.least in
    let h : p < 2 ^ 62 = mul-lt-both n.most m.most in
    rw (product-alg a.digits b.digits (2 ^ a.power) (2 ^ b.power), ← pow-add 2 a.power b.power)
    (by_test (λ (t : Bool). Cut (p * 2 ^ e) (e + 31) (shortened t p e)) p (2 ^ 61) (λ (k : p < 2 ^ 61). cut_at p (2 ^ 30) 30 e (e + 31) refl l k (omega arith)) (λ (k : 2 ^ 61 ≤ p). cut_at p (2 ^ 31) 31 e (e + 31) refl k h (le_refl _)))
  where
    mul-lt-both : {x y : ℕ} → x < 2 ^ 31 → y < 2 ^ 31 → x * y < 2 ^ 62
    mul-lt-both {x} {y} h k = omega (arith, mul-le-mul {n₁ = x} {m₁ = y} {n₂ = 2 ^ 31 - 1} {m₂ = 2 ^ 31 - 1} (omega arith) (omega arith))

-- ---- sums
-- a unit lies at the power of the lower: E = a c + b there, with c = 2^gap
aligned-under : (a b c : ℕ) → (a + b / c) * c ≤ a * c + b
aligned-under a b c = omega (arith, div-mul-le_self b c)

aligned-over : (a b c : ℕ) → 0 < c → a * c + b ≤ (a + b / c + 1) * c
aligned-over a b c C = omega (arith, lt-div-mul-add {a = b} C)

double-under : (s c E : ℕ) → s * c ≤ E → s / 2 * (2 * c) ≤ E
double-under s c E h = le_trans (halves (s / 2) s c (div-mul-le_self s 2)) h
  where
    halves : (q s c : ℕ) → q * 2 ≤ s → q * (2 * c) ≤ s * c
    halves q s c h = omega (arith, mul-le-mul_right c h)

double-over : (s c E : ℕ) → E ≤ (s + 1) * c → E ≤ (s / 2 + 1) * (2 * c)
double-over s c E h = le_trans h (halves (s / 2) s c (lt-div-mul-add {a = s} {b = 2} (lit< tt)))
  where
    halves : (q s c : ℕ) → s < q * 2 + 2 → (s + 1) * c ≤ (q + 1) * (2 * c)
    halves q s c h = omega (arith, mul-le-mul_right c h)

sum-alg : (a b c s : ℕ) → a * (c * s) + b * s ≡ (a * c + b) * s
sum-alg a b c s = omega arith

pub plus_lower-cut : (a b : Term) → Normal a → Normal b → b.power ≤ a.power → Cut (size a + size b) (a.power + 1) (plus_lower a b)
unfolding plus_lower
plus_lower-cut a b n m h =
    let gap = a.power - b.power in
    let c = 2 ^ gap in
    let u = 2 ^ b.power in
    let C : 0 < c = pow_pos gap in
    let E = a.digits * c + b.digits in
    let s = aligned a.digits b.digits gap in
    let split : 2 ^ a.power ≡ c * u = ap (λ (z : ℕ). 2 ^ z) (sym (sub-add_cancel h)) ∙ pow-add 2 gap b.power in
    let under : s * c ≤ E = aligned-under a.digits b.digits c in
    let over : E ≤ (s + 1) * c = aligned-over a.digits b.digits c C in
    let least : 2 ^ 30 ≤ s = omega (arith, n.least) in
    let part : b.digits / c ≤ b.digits = div-le c b.digits C in
    let below : s < 2 ^ 32 = omega (arith, n.most, m.most) in
    rw (ap (λ (z : ℕ). a.digits * z + b.digits * u) split, sum-alg a.digits b.digits c u)
    (by_test (λ (t : Bool). Cut (E * u) (a.power + 1) (carried t s a.power)) s (2 ^ 31)
    (λ (k : s < 2 ^ 31). record { form = record { least = least; most = k }; near = subst (λ (z : ℕ). Loses 1 (E * u) (s * z)) (sym split) (cut-loses E s c u least under over); low = omega arith })
    (λ (k : 2 ^ 31 ≤ s). record {
      form = record { least = (le-div_iff_mul-le {k = 2} (lit< tt)).1 k; most = (div-lt_iff_lt-mul {k = 2} (lit< tt)).1 below };
      near = subst (λ (z : ℕ). Loses 1 (E * u) (s / 2 * z)) (sym (doubled a.power c u split)) (cut-loses E (s / 2) (2 * c) u ((le-div_iff_mul-le {k = 2} (lit< tt)).1 k) (double-under s c E under) (double-over s c E over));
      low = le_refl _;
    }))
  where
    div-le : (c b : ℕ) → 0 < c → b / c ≤ b
    div-le c b C = le_trans (omega (arith, mul-le-mul_left (b / c) C)) (div-mul-le_self b c)

    doubled : (e c u : ℕ) → 2 ^ e ≡ c * u → 2 ^ (e + 1) ≡ 2 * c * u
    doubled e c u h = ap (λ (z : ℕ). 2 ^ z) (add-one e) ∙ pow-suc 2 e ∙ ap (λ (z : ℕ). z * 2) h ∙ omega arith

pub plus-cut : (a b : Term) (most : ℕ) → Normal a → Normal b → a.power ≤ most → b.power ≤ most → Cut (size a + size b) (most + 1) (plus a b)
unfolding plus
plus-cut a b most n m h k =
    by_test (λ (t : Bool). Cut (size a + size b) (most + 1) (cond t (plus_lower b a) (plus_lower a b))) a.power b.power
    (λ (l : a.power < b.power). weaker b.power k (rw (add_comm (size a) (size b)) (plus_lower-cut b a m n (le_of_lt l))))
    (λ (l : b.power ≤ a.power). weaker a.power h (plus_lower-cut a b n m l))
  where
    weaker : {x most : ℕ} {t : Term} (e : ℕ) → e ≤ most → Cut x (e + 1) t → Cut x (most + 1) t
    weaker {x} {most} {t} e h c = record { form = c.form; near = c.near; low = omega (arith, c.low) }

-- where the powers are 31 apart nothing is left of the lower
pub plus_lower-far : (a b : Term) → Normal a → Normal b → 31 ≤ a.power - b.power → a ≡ plus_lower a b
unfolding plus_lower
plus_lower-far a b n m h =
    let none : b.digits / 2 ^ (a.power - b.power) ≡ 0 = div-eq_of_lt (lt_of_lt_of_le m.most (pow_mono h)) in
    let e : aligned a.digits b.digits (a.power - b.power) ≡ a.digits = ap (λ (z : ℕ). a.digits + z) none ∙ add-zero a.digits in
    rw (e, lt-ltb a.digits (2 ^ 31) n.most) refl
