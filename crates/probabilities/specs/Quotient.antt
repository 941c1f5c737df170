-- What a division of two sums gives: 31 digits, no more than the exact quotient and less by one part in 2^30 at most; zero where the dividend is zero.
use Rattle.std.specs.Prelude.{◌≡◌, ◌+◌, ◌^◌, ◌≤◌}
use Rattle.std.specs.Int.Signed.{mag}
use Rattle.fractions.specs.Frac.{Frac, frac, times, inverse, LeFrac}
use Rattle.fractions.specs.declared.Weight.{Weight}
use Rattle.fractions.specs.Weight.{worth, InForm}
use Rattle.partition.specs.Sum.{zero_weight}

-- 1 less one part in 2^30 + 1
abbrev pub cut : Frac
cut = frac (2 ^ 30) (2 ^ 30 + 1)

-- the quotient of two weights in form
pub record Divided (v w r : Weight) : Type 0 where
  pub form : InForm r
  pub reached : LeFrac (times cut (times (worth v) (inverse (worth w)))) (worth r)
  pub kept : LeFrac (worth r) (times (worth v) (inverse (worth w)))

-- and of zero
pub record Quotiented (v w r : Weight) : Type 0 where
  pub none : v ≡ zero_weight → r ≡ zero_weight
  pub some : InForm v → Divided v w r

-- an exponent whose difference with another is a signed 32-bit number
abbrev pub Modest : Weight → Type 0
Modest w = mag w.power ≤ 2 ^ 28
