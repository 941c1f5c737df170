-- The weight of the exponential of a double: its sign and its power of two. Assumes nothing.
use mathlib.Core.Path.{◌≡◌, refl, sym, ap, ap₂, ◌∙◌}
use mathlib.Core.Bool.{Bool, true, false, not, cond}
use Prim.Native.Nat.{ℕ, zero, suc, ◌+◌, ◌-◌, ◌*◌, ◌/◌, ◌^◌, ◌≤◌, ◌<◌}
use native.Mathlib.Nat.{le_trans, le_of_eq, le_refl, le_of_mul-le-mul_right, mul-one, one-mul, div-mul-le_self, lt-div-mul-add, le-div_iff_mul-le, div-le_of_le-mul, add-suc, add-zero, pow-suc, zero-mul}
use native.Mathlib.Omega.{arith}
use lib.IntN.{ℤ, pos, negsuc, ◌-ℤ◌, sub_ℕ}
use lib.Signed.{mag, le_z}
use borrow.Author.Tests.{le-leb}
use lib.Dec.{T, ltb, ltb→lt, nltb→le, lit≤, lit<}
use lib.Pow.{pow_pos, pow-add}
use lib.Ieee.{Float, nan, inf, fin, binary64, up, down, lt, of_bits}
use lib.Ieee.Scale.{finite}
use lib.Ieee.Positive.{num, den, den_pos}
use mir.Syntax.{w32}
use mir.Val.{to_z, of_z, SFits}
use mir.Facts.{to_z-of_z, to_z_pos}
use Rattle.fractions.specs.Frac.{frac}
use Rattle.fractions.proofs.Frac.{le-frac-trans}
use Rattle.exponential.proofs.Steps.{weight-plus, weight-minus}
use Rattle.fractions.specs.Weight.{weight, unit}
use Rattle.exponential.specs.Near.{ExpNear, ExpOf, zero_float}
use Rattle.exponential.specs.Parts.{Weighed, Cut}

module _ (k : ℕ) (K : k ≤ 2 ^ 17) where
  read : to_z w32 k ≡ pos k
  read = to_z_pos w32 (omega arith)

  sub_cases : (P : ℤ → Type 0) → (k < 30 → P (negsuc (30 - suc k))) → (30 ≤ k → P (pos (k - 30))) → P (sub_ℕ k 30)
  sub_cases P f g = go (ltb k 30) (ltb→lt k 30) (nltb→le k 30)
    where
      go : (b : Bool) → (T b → k < 30) → (T (not b) → 30 ≤ k) → P (cond b (negsuc (30 - suc k)) (pos (k - 30)))
      go true h l = f (h tt)
      go false h l = g (l tt)

  pub plus-fits : SFits w32 (to_z w32 k -ℤ pos 30)
  plus-fits = rw read (sub_cases (λ z. SFits w32 z) (λ h. record { sfits = omega arith }) (λ h. record { sfits = omega arith }))

  plus-power : up (sub_ℕ k 30) * 2 ^ 30 ≡ 2 ^ k * down (sub_ℕ k 30)
  plus-power = sub_cases (λ z. up z * 2 ^ 30 ≡ 2 ^ k * down z) low high
    where
      low : k < 30 → 1 * 2 ^ 30 ≡ 2 ^ k * 2 ^ suc (30 - suc k)
      low h = let e : k + suc (30 - suc k) ≡ 30 = omega arith in sym (sym (pow-add 2 k (suc (30 - suc k))) ∙ ap (λ (z : ℕ). 2 ^ z) e)

      high : 30 ≤ k → 2 ^ (k - 30) * 2 ^ 30 ≡ 2 ^ k * 1
      high h = let e : k - 30 + 30 ≡ k = omega arith in sym (pow-add 2 (k - 30) 30) ∙ ap (λ (z : ℕ). 2 ^ z) e ∙ sym (mul-one (2 ^ k))

less : (c k : ℕ) → sub_ℕ 0 (suc c) ≡ negsuc c → negsuc c -ℤ pos k ≡ negsuc (c + k)
less c zero e = e ∙ ap negsuc (sym (add-zero c))
less c (suc k) e = ap negsuc (sym (add-suc c k))

module _ (c k : ℕ) (e : sub_ℕ 0 (suc c) ≡ negsuc c) (C : c ≤ 30) (K : k ≤ 2 ^ 17) where
  minus_is : negsuc c -ℤ to_z w32 k ≡ negsuc (c + k)
  minus_is = ap (λ (z : ℤ). negsuc c -ℤ z) (read k K) ∙ less c k e

  pub minus-fits : SFits w32 (negsuc c -ℤ to_z w32 k)
  minus-fits = rw minus_is (record { sfits = omega arith })

  minus-back : to_z w32 (of_z w32 (negsuc c -ℤ to_z w32 k)) ≡ negsuc (c + k)
  minus-back = to_z-of_z minus-fits ∙ minus_is

-- ---- the same weight in other terms
pub near_same : (s : Bool) (p q a b c d : ℕ) → 0 < b → a * d ≡ c * b → ExpNear s p q (frac a b) → ExpNear s p q (frac c d)
near_same s p q a b c d B e n = record {
  reached = λ m M. le-frac-trans B (n.reached m M) (record { cross = le_of_eq e });
  kept = λ m M. le-frac-trans B (record { cross = le_of_eq (sym e) }) (n.kept m M);
}

-- ---- the three ends of the program

in-range : (z : ℤ) → mag z < 400000 → (le_z (negsuc 399999) z ≡ true) × (le_z z (pos 400000) ≡ true)
in-range (pos k) h = (refl, le-leb k 400000 (omega arith))
in-range (negsuc k) h = (le-leb k 399999 (omega arith), refl)

none_below : (x : Float) → T (finite x) → lt x zero_float ≡ true → num x ≡ 0 → ⊥
unfolding lt
none_below nan p h e = absurd p
none_below (inf s) p h e = absurd p
none_below (fin false m k) p h e = let g : m * up k * 1 < 0 * down k = ltb→lt (m * up k * 1) (0 * down k) (rw h tt) in omega arith
none_below (fin true m k) p h e = let g : 0 < m * up k * 1 + 0 * down k = ltb→lt 0 (m * up k * 1 + 0 * down k) (rw h tt) in omega arith

module _ (x : Float) (y d k : ℕ) (p : T (finite x)) (c : Cut x y) (w : Weighed y d k) where
  pub finish-plus : lt x zero_float ≡ false → ExpOf x (weight d (to_z w32 (of_z w32 (to_z w32 k -ℤ pos 30))))
  finish-plus h =
      let e : to_z w32 (of_z w32 (to_z w32 k -ℤ pos 30)) ≡ sub_ℕ k 30 = to_z-of_z (plus-fits k w.power) ∙ ap (λ (z : ℤ). z -ℤ pos 30) (read k w.power) in
      rw e (record {
        in_form = record { least = w.least; most = w.most };
        exponent = in-range (sub_ℕ k 30) (sub_cases k w.power (λ z. mag z < 400000) (λ h. omega (arith, w.power)) (λ h. omega (arith, w.power)));
        near = rw h (weight-plus (num x) (den x) y d k (den_pos x) c.under c.above w (up (sub_ℕ k 30)) (down (sub_ℕ k 30)) (plus-power k w.power));
        one = zero_one;
      })
    where
      zero_one : num x ≡ 0 → weight d (sub_ℕ k 30) ≡ unit
      zero_one z =
          let a : y * den x ≤ 0 = le_trans c.under (le_of_eq (ap (λ (n : ℕ). n * 2 ^ 46) z ∙ zero-mul (2 ^ 46))) in
          let b : y ≡ 0 = y-none y (den x) (den_pos x) a in
          ap₂ (λ (n : ℕ) (z : ℤ). weight n z) (w.none b).0 (ap (λ (n : ℕ). sub_ℕ n 30) (w.none b).1)
        where
          y-none : (y d : ℕ) → 0 < d → y * d ≤ 0 → y ≡ 0
          y-none y d D h = let l : y ≤ 0 = le_of_mul-le-mul_right {k = d} (omega arith) D in omega arith

  quotient-under : 2 ^ 61 / d * d ≤ 2 ^ 61
  quotient-under = div-mul-le_self (2 ^ 61) d

  d-pos : 0 < d
  d-pos = omega (arith, w.least)

  quotient-over : 2 ^ 61 < 2 ^ 61 / d * d + d
  quotient-over = lt-div-mul-add d-pos

  quotient-least : 2 ^ 30 ≤ 2 ^ 61 / d
  quotient-least = (le-div_iff_mul-le {k = d} {x = 2 ^ 30} {y = 2 ^ 61} d-pos).1 (omega (arith, w.most))

  pub quotient-most : 2 ^ 61 / d ≤ 2 ^ 31
  quotient-most = div-le_of_le-mul d (omega (arith, w.least))

  near-below : ExpNear true (num x) (den x) (frac (2 ^ 61 / d * 1) (2 ^ suc (30 + k)))
  near-below = weight-minus (num x) (den x) y d k (den_pos x) c.under c.above w (2 ^ 61 / d) 1 (2 ^ suc (30 + k)) quotient-most quotient-under quotient-over (one-mul (2 ^ k * 2 ^ 31) ∙ sym (pow-add 2 k 31) ∙ ap (λ (z : ℕ). 2 ^ z) (omega arith))

  pub finish-minus : lt x zero_float ≡ true → (2 ^ 61 / d ≡ 2 ^ 31 → ⊥) → ExpOf x (weight (2 ^ 61 / d) (to_z w32 (of_z w32 (negsuc 30 -ℤ to_z w32 k))))
  finish-minus h n = rw (minus-back 30 k refl (lit≤ tt) w.power) (record {
    in_form = record { least = quotient-least; most = omega (arith, quotient-most) };
    exponent = in-range (negsuc (30 + k)) (omega (arith, w.power));
    near = rw h near-below;
    one = λ z. absurd (none_below x p h z);
  })

  pub finish-whole : lt x zero_float ≡ true → 2 ^ 61 / d ≡ 2 ^ 31 → ExpOf x (weight (2 ^ 30) (to_z w32 (of_z w32 (negsuc 29 -ℤ to_z w32 k))))
  finish-whole h e = rw (minus-back 29 k refl (lit≤ tt) w.power) (record {
    in_form = record { least = le_refl (2 ^ 30); most = lit< tt };
    exponent = in-range (negsuc (29 + k)) (omega (arith, w.power));
    near = rw h (near_same true (num x) (den x) (2 ^ 61 / d * 1) (2 ^ suc (30 + k)) (2 ^ 30 * 1) (2 ^ suc (29 + k)) (pow_pos (suc (30 + k))) same near-below);
    one = λ z. absurd (none_below x p h z);
  })
    where
      same : 2 ^ 61 / d * 1 * 2 ^ suc (29 + k) ≡ 2 ^ 30 * 1 * 2 ^ suc (30 + k)
      same = rw e (same-alg (2 ^ suc (29 + k)) (2 ^ suc (30 + k)) (pow_step k))
        where
          pow_step : (k : ℕ) → 2 ^ suc (30 + k) ≡ 2 ^ suc (29 + k) * 2
          pow_step k = ap (λ (z : ℕ). 2 ^ z) (omega arith) ∙ pow-suc 2 (suc (29 + k))

          same-alg : (A B : ℕ) → B ≡ A * 2 → 2 ^ 31 * 1 * A ≡ 2 ^ 30 * 1 * B
          same-alg A B e = omega arith

pub zero_is : of_bits binary64 0 ≡ zero_float
unfolding of_bits
zero_is = refl
