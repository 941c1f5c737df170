-- The logarithm of a ratio of whole numbers, by doublings of the smaller. Assumes nothing.
use mathlib.Core.Path.{◌≡◌, refl, sym, ap, ◌∙◌}
use mathlib.Core.Bool.{Bool, true, false, not}
use Prim.Native.Nat.{ℕ, zero, suc, ◌+◌, ◌-◌, ◌*◌, ◌/◌, ◌%◌, ◌^◌, ◌≤◌, ◌<◌}
use native.Mathlib.Nat.{le_trans, le_of_suc-le-suc, lt_of_not-le, not-le_of_lt, mul-le-mul, mul-le-mul_right, mul_right_comm, one-mul, pow-suc, le-div_iff_mul-le, div-lt_iff_lt-mul, mod-eq_of_lt, mul_comm}
use native.Mathlib.Numerals.{add-one}
use native.Mathlib.Omega.{arith}
use borrow.Author.Tests.{le-leb, lt-leb}
use lib.Dec.{T, leb, leb→le, nleb→lt, lit<}
use lib.Pow.{pow_pos, pow_mono}
use Rattle.logarithm.specs.Figure.{ln_ratio, ln_from, ln_whole}
use Rattle.logarithm.proofs.Bounds.{at-least-ratio, at-most-ratio}
use Rattle.logarithm.proofs.Right.{LnUnits, ratio-right}

-- c is b doubled k times, and still fits
pub record Doubled (a b c k : ℕ) : Type 0 where
  pub value : 2 ^ k * b ≡ c
  pub fits : c ≤ a

pub doubled-none : (a b : ℕ) → b ≤ a → Doubled a b b 0
doubled-none a b h = record { value = one-mul b; fits = h }

pub doubled-more : (a b c k : ℕ) → c * 2 ≤ a → Doubled a b c k → Doubled a b (c * 2) (k + 1)
doubled-more a b c k h d = record { value = rw (add-one k, pow-suc 2 k) (mul_right_comm (2 ^ k) 2 b ∙ ap (λ (z : ℕ). z * 2) d.value); fits = h }

module _ (a b : ℕ) (B : 0 < b) (A : a ≤ 2 ^ 48) where
  pub doubled-few : (c k : ℕ) → Doubled a b c k → k ≤ 48
  doubled-few c k d = le_of_suc-le-suc (lt_of_not-le (λ (g : 49 ≤ k).
      let h : 2 ^ 49 * 1 ≤ 2 ^ k * b = mul-le-mul {n₁ = 2 ^ 49} {m₁ = 1} (pow_mono g) B in
      not-le_of_lt (lit< {m = 2 ^ 48} {n = 2 ^ 49} tt) (omega (arith, d.value, d.fits))))

  pub doubled-positive : (c k : ℕ) → Doubled a b c k → 0 < c
  doubled-positive c k d = omega (arith, d.value, mul-le-mul_right b (pow_pos k))

  -- 2^k a / c is a / b
  at_right : (c k : ℕ) → Doubled a b c k → a ≤ 2 * c → LnUnits a b (ln_ratio a c k)
  at_right c k d l =
      let C : 0 < c = doubled-positive c k d in
      let e : 2 ^ k * a * b ≡ a * c = omega (arith, ap (λ (z : ℕ). a * z) d.value) in
      let u = ratio-right a c C d.fits l k (le_trans (doubled-few c k d) (omega arith)) in
      record { least = at-least-ratio a b C B e u.least; most = at-most-ratio a b C B e u.most; small = u.small }

  from-right : (left c k : ℕ) → left + k ≡ 48 → Doubled a b c k → LnUnits a b (ln_from left a c k)
  unfolding ln_from
  from-right zero c k e d = at_right c k d (le_trans A (last c k (omega arith) d.value))
    where
      last : (c k : ℕ) → k ≡ 48 → 2 ^ k * b ≡ c → 2 ^ 48 ≤ 2 * c
      last c k h v = let w : 2 ^ 48 * b ≡ c = rw h at v in omega arith
  from-right (suc left) c k e d =
      go (leb (c * 2) a) (leb→le (c * 2) a) (nleb→lt (c * 2) a) (λ (l : c * 2 ≤ a). from-right left (c * 2) (k + 1) (omega arith) (doubled-more a b c k l d))
    where
      go : (t : Bool) → (T t → c * 2 ≤ a) → (T (not t) → a < c * 2) → (c * 2 ≤ a → LnUnits a b (ln_from left a (c * 2) (k + 1)))
          → LnUnits a b (elim t [ true ↦ ln_from left a (c * 2) (k + 1) | false ↦ ln_ratio a c k ])
      go true p q r = r (p tt)
      go false p q r = let l : a < c * 2 = q tt in at_right c k d (omega arith)

  pub whole-right : b ≤ a → LnUnits a b (ln_whole a b)
  unfolding ln_whole
  whole-right h = from-right 48 b 0 refl (doubled-none a b h)

-- ---- one step, as the program takes it
chosen : (left a c k : ℕ) (t : Bool) → leb (c * 2) a ≡ t → ln_from (suc left) a c k ≡ elim t [ true ↦ ln_from left a (c * 2) (k + 1) | false ↦ ln_ratio a c k ]
unfolding ln_from
chosen left a c k t e = ap (λ (t : Bool). elim t [ true ↦ ln_from left a (c * 2) (k + 1) | false ↦ ln_ratio a c k ]) e

pub from_step : (a c k : ℕ) → k ≤ 47 → c * 2 ≤ a → ln_from (48 - k) a c k ≡ ln_from (48 - (k + 1)) a (c * 2) (k + 1)
from_step a c k h l = let e : 48 - k ≡ suc (48 - (k + 1)) = omega arith in rw e (chosen (48 - (k + 1)) a c k true (le-leb (c * 2) a l))

pub from_end : (a c k : ℕ) → a < c * 2 → ln_from (48 - k) a c k ≡ ln_ratio a c k
from_end a c k l = go (48 - k)
  where
    go : (left : ℕ) → ln_from left a c k ≡ ln_ratio a c k
    go zero = unfold ln_from in refl
    go (suc left) = chosen left a c k false (lt-leb (c * 2) a l)

-- and so many at once
pub from-doubled : (a b k : ℕ) → k ≤ 48 → 2 ^ k * b ≤ a → ln_from 48 a b 0 ≡ ln_from (48 - k) a (2 ^ k * b) k
from-doubled a b zero h l = rw one-mul refl
from-doubled a b (suc k) h l =
    let twice : 2 ^ suc k * b ≡ 2 ^ k * b * 2 = rw (pow-suc 2 k) (omega arith) in
    let next = from_step a (2 ^ k * b) k (omega arith) (omega arith) in
    from-doubled a b k (omega arith) (omega arith) ∙ rw (twice, ← add-one k) next

-- b shifted up as far as it fits, by the logarithm of the quotient in base 2
pub record Shifted (a b c k : ℕ) : Type 0 where
  pub positive : 0 < c
  pub fits : c ≤ a
  pub above : a ≤ 2 * c
  pub few : k ≤ 48
  pub same : ln_ratio a c k ≡ ln_whole a b

pub shifted : (a b k : ℕ) → 0 < b → a ≤ 2 ^ 48 → 2 ^ k ≤ a / b → a / b < 2 * 2 ^ k → Shifted a b (b * 2 ^ k % 2 ^ 64) k
unfolding ln_whole
shifted a b k B A h g =
    let c = 2 ^ k * b in
    let fits : c ≤ a = (le-div_iff_mul-le B).0 h in
    let above : a < 2 * 2 ^ k * b = (div-lt_iff_lt-mul B).0 g in
    let d : Doubled a b c k = record { value = refl; fits = fits } in
    let few = doubled-few a b B A c k d in
    let is : b * 2 ^ k % 2 ^ 64 ≡ c = mod-eq_of_lt (omega arith) ∙ mul_comm b (2 ^ k) in
    rw is record {
      positive = doubled-positive a b B A c k d;
      fits = fits;
      above = omega arith;
      few = few;
      same = sym (from-doubled a b k few fits ∙ from_end a c k (omega arith));
    }
