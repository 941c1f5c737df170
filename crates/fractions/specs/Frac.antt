-- Fractions of whole numbers, none negative: sum, product and inverse, and their order by cross products.
use Rattle.std.specs.Prelude.{ℕ, ◌+◌, ◌*◌, ◌≤◌}

-- num / den; where den is 0 it stands for no number, and laws ask that it is above 0
pub record Frac : Type 0 where
  pub num : ℕ
  pub den : ℕ

-- a / b
abbrev pub frac : ℕ → ℕ → Frac
frac a b = record { num = a; den = b }

-- 0
abbrev pub none : Frac
none = frac 0 1

-- 1
abbrev pub one : Frac
one = frac 1 1

-- x + y
abbrev pub plus : Frac → Frac → Frac
plus x y = frac (x.num * y.den + y.num * x.den) (x.den * y.den)

-- x × y
abbrev pub times : Frac → Frac → Frac
times x y = frac (x.num * y.num) (x.den * y.den)

-- 1 / x
abbrev pub inverse : Frac → Frac
inverse x = frac x.den x.num

-- x ≤ y
pub record LeFrac (x y : Frac) : Type 0 where
  pub cross : x.num * y.den ≤ y.num * x.den
