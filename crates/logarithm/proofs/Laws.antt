-- That the bounds are those of the natural logarithm. Assumes nothing.
use mathlib.Core.Path.{◌≡◌, refl}
use Prim.Native.Nat.{ℕ, suc, ◌+◌, ◌*◌, ◌≤◌, ◌<◌}
use native.Mathlib.Nat.{lt_of_not-le, mul-le-mul_left, mul-pos, zero-lt-suc}
use native.Mathlib.Omega.{arith}
use native.Mathlib.Decide.{dec_le}
use Rattle.fractions.specs.Frac.{Frac, frac, plus, LeFrac}
use Rattle.fractions.proofs.Frac.{le-frac-refl, le-frac-trans, plus-mono}
use Rattle.logarithm.specs.Logarithm.{lower, LnAtMost, LnAtLeast, LogarithmLaws}
use Rattle.logarithm.proofs.Sums.{lower-pos, upper_pos, ln-close, ln-between, lower-product, upper-product, ln-least, ln-most}
use Rattle.logarithm.proofs.Bounds.{at-most-ratio, at-least-ratio}

-- were it not so, the gap would be one part of the denominators at least
stable : (a b : ℕ) → (suc b ≤ a → ⊥) → a ≤ b
stable a b f = elim (dec_le a b) [ yes h ↦ h | no h ↦ absurd (f (lt_of_not-le h)) ]

gap-alg : (n b pn pd qn qd : ℕ) → n ≡ suc (pd * qd) → 0 < b → suc (pn * qd) ≤ qn * pd → qn * (n * b * pd) ≤ (1 * pd + pn * (n * b)) * qd → ⊥
gap-alg n b pn pd qn qd e B h g =
    let k : pd * qd < n * b = omega (arith, mul-le-mul_left n B) in
    omega (arith, mul-le-mul_left (n * b) h)

pub ln-unique : {a b : ℕ} {p q : Frac} → 0 < b → LnAtMost a b p → LnAtLeast a b q → LeFrac q p
ln-unique {a} {b} {p} {q} B u o = record { cross = stable _ _ gap }
  where
    gap : suc (p.num * q.den) ≤ q.num * p.den → ⊥
    gap h =
        let n = suc (p.den * q.den) in
        let N : 0 < n = zero-lt-suc _ in
        let g : LeFrac q (plus (frac 1 (n * b)) p) = le-frac-trans (upper_pos a b n (mul-pos N B)) (o.bound n N) (le-frac-trans {y = plus (frac 1 (n * b)) (lower a b n)} (mul-pos (mul-pos N B) (lower-pos a b n)) (ln-close a b n) (plus-mono (le-frac-refl _) (u.bound n N))) in
        gap-alg n b p.num p.den q.num q.den refl B h g.cross

pub logarithm-laws : LogarithmLaws
logarithm-laws = record {
  sound = λ a b B. record { below = λ n N. lower-pos a b n; above = λ n N. upper_pos a b n (mul-pos N B) };
  ordered = λ a b B. record { order = λ n m N M. ln-between a b n m B N M };
  close = ln-close;
  unique = λ a b p q B u o. ln-unique B u o;
  ratio_at_most = λ a b c d q B D e u. at-most-ratio c d B D e u;
  ratio_at_least = λ a b c d q B D e u. at-least-ratio c d B D e u;
  product_lower = lower-product;
  product_upper = upper-product;
  least = ln-least;
  most = ln-most;
}
