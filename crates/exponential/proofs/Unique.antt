-- The bounds leave room for one number only. Assumes nothing.
use mathlib.Core.Path.{◌≡◌, ap}
use Prim.Native.Nat.{ℕ, suc, ◌+◌, ◌-◌, ◌*◌, ◌≤◌, ◌<◌}
use native.Mathlib.Nat.{le_of_lt, lt_of_not-le, mul-le-mul_left, mul-pos, zero-lt-suc, sub-add_cancel}
use native.Mathlib.Omega.{arith}
use native.Mathlib.Decide.{dec_le}
use Rattle.fractions.specs.Frac.{Frac, frac, times, LeFrac}
use Rattle.fractions.proofs.Frac.{le-frac-refl, le-frac-trans, times-mono}
use Rattle.exponential.specs.Exponential.{exp_above, ExpAtMost, ExpAtLeast}
use Rattle.exponential.proofs.Bounds.{below-pos, above-pos, exp-close}

-- were it not so, the gap would be one part of the denominators at least
pub stable : (a b : ℕ) → (suc b ≤ a → ⊥) → a ≤ b
stable a b f = elim (dec_le a b) [ yes h ↦ h | no h ↦ absurd (f (lt_of_not-le h)) ]

far-alg : (m x un ud vn vd c : ℕ) → c + x ≡ m → suc (un * vd) ≤ vn * ud → vn * c * ud ≤ un * (vd * m) → m ≤ x * (vn * ud)
far-alg m x un ud vn vd c e h g = omega (arith, mul-le-mul_left m h, ap (λ (z : ℕ). vn * ud * z) e)

pub exp-unique : {p q : ℕ} {u v : Frac} → 0 < q → ExpAtMost p q u → ExpAtLeast p q v → LeFrac v u
exp-unique {p} {q} {u} {v} Q l o = record { cross = stable _ _ gap }
  where
    gap : suc (u.num * v.den) ≤ v.num * u.den → ⊥
    gap h =
        let w = v.num * u.den in
        let n = suc (p * p * w + p * p + p) in
        let N : 0 < n = zero-lt-suc _ in
        let nq : n ≤ n * q = omega (arith, mul-le-mul_left n Q) in
        let nqq : n * q ≤ n * q * q = omega (arith, mul-le-mul_left (n * q) Q) in
        let k : p < n * q = omega arith in
        let s : p * p ≤ n * q * q = omega arith in
        let g : LeFrac (times v (frac (n * q * q - p * p) (n * q * q))) u =
        le-frac-trans {y = times (exp_above p q n) (frac (n * q * q - p * p) (n * q * q))} (mul-pos (above-pos p q Q n k) (mul-pos (mul-pos N Q) Q)) (times-mono (o.bound n k) (le-frac-refl _))
        (le-frac-trans (below-pos p q Q n N) (exp-close p q n N (le_of_lt k) s) (l.bound n N)) in
        let f : n * q * q ≤ p * p * w = far-alg (n * q * q) (p * p) u.num u.den v.num v.den (n * q * q - p * p) (sub-add_cancel s) h g.cross in
        omega arith
