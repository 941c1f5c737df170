-- Laws of fractions. Assumes nothing.
use mathlib.Core.Path.{◌≡◌}
use Prim.Native.Nat.{ℕ, ◌+◌, ◌*◌, ◌<◌}
use native.Mathlib.Nat.{le_trans, le_of_eq, mul-le-mul, mul-le-mul_right, le_of_mul-le-mul_right, mul-one, mul_assoc, mul_comm, mul-mul-mul_comm}
use native.Mathlib.Omega.{arith}
use Rattle.fractions.specs.Frac.{Frac, none, one, plus, times, inverse, LeFrac}

-- ---- the order
pub le-frac-refl : (x : Frac) → LeFrac x x
le-frac-refl x = record { cross = omega arith }

pub le-frac-trans : {x y z : Frac} → 0 < y.den → LeFrac x y → LeFrac y z → LeFrac x z
le-frac-trans {x} {y} {z} h p q = record {
  cross = le_of_mul-le-mul_right (omega (arith, mul-le-mul_right z.den p.cross, mul-le-mul_right x.den q.cross)) h;
}

pub same-frac : {x y : Frac} → x.num ≡ y.num → x.den ≡ y.den → x ≡ y
same-frac p q = λ i. record { num = p i; den = q i }

-- ---- sums
pub plus-mono : {x y z w : Frac} → LeFrac x y → LeFrac z w → LeFrac (plus x z) (plus y w)
plus-mono {x} {y} {z} {w} p q = record {
  cross = omega (arith, mul-le-mul_right (z.den * w.den) p.cross, mul-le-mul_right (x.den * y.den) q.cross);
}

pub plus_assoc : (x y z : Frac) → plus x (plus y z) ≡ plus (plus x y) z
plus_assoc x y z = same-frac (omega arith) (omega arith)

pub plus_none : (x : Frac) → plus none x ≡ x
plus_none x = same-frac (omega arith) (omega arith)

pub le-plus-right : (x y : Frac) → LeFrac x (plus x y)
le-plus-right x y = record { cross = omega arith }

-- ---- products
pub times-mono : {x y z w : Frac} → LeFrac x y → LeFrac z w → LeFrac (times x z) (times y w)
times-mono {x} {y} {z} {w} g h = record { cross = rw (mul-mul-mul_comm x.num z.num y.den w.den, mul-mul-mul_comm y.num w.num x.den z.den) (mul-le-mul g.cross h.cross) }

pub times-assoc : (x y z : Frac) → times (times x y) z ≡ times x (times y z)
times-assoc x y z = same-frac (mul_assoc x.num y.num z.num) (mul_assoc x.den y.den z.den)

pub times-one : (x : Frac) → times x one ≡ x
times-one x = same-frac (mul-one x.num) (mul-one x.den)

pub times-swap : (x y z w : Frac) → times (times x y) (times z w) ≡ times (times x z) (times y w)
times-swap x y z w = same-frac (mul-mul-mul_comm x.num y.num z.num w.num) (mul-mul-mul_comm x.den y.den z.den w.den)

-- a factor over a sum, both ways
pub share : (f x y : Frac) → LeFrac (times f (plus x y)) (plus (times f x) (times f y))
share f x y = record { cross = le_of_eq (alg f.num f.den x.num x.den y.num y.den) }
  where
    alg : (f g a c b d : ℕ) → f * (a * d + b * c) * (g * c * (g * d)) ≡ (f * a * (g * d) + f * b * (g * c)) * (g * (c * d))
    alg f g a c b d = omega arith

pub gather : (f x y : Frac) → LeFrac (plus (times f x) (times f y)) (times f (plus x y))
gather f x y = record { cross = le_of_eq (alg f.num f.den x.num x.den y.num y.den) }
  where
    alg : (f g a c b d : ℕ) → (f * a * (g * d) + f * b * (g * c)) * (g * (c * d)) ≡ f * (a * d + b * c) * (g * c * (g * d))
    alg f g a c b d = omega arith

-- ---- inverses
pub inverse-le : {x y : Frac} → LeFrac x y → LeFrac (inverse y) (inverse x)
inverse-le {x} {y} h = record { cross = le_trans (le_of_eq (mul_comm y.den x.num)) (le_trans h.cross (le_of_eq (mul_comm y.num x.den))) }
