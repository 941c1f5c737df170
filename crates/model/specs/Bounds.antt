-- What the laws of energies ask of a model, and what they give: within document 01's limits no sum can overflow.
use Rattle.std.specs.Prelude.{◌≡◌, true, false, List, ℕ, ◌<◌, ◌≤◌, T, take, Float}
use Rattle.std.specs.Float.{binary64}
use Rattle.std.specs.Float.Ieee.{mul, fits}
use Rattle.doubles.specs.Decimal.{zero, plus}
use Rattle.doubles.specs.Range.{in_range}
use Rattle.doubles.specs.Sum.{sum_from}
use Rattle.doubles.specs.Size.{Within, negative_zero}
use Rattle.model.specs.Model.{Model, Friend, positions}
use Rattle.model.specs.Listed.{Ordered}

-- At most 64 strands, 0 included, on at most 128 positions; bonds at most 80,000 in size, those with 0 included, which need not be zero;
-- the potentials of friends at most 1,024; RT from 1/8 to 8.
pub record Bounded (m : Model) (strands : ℕ) : Type 0 where
  pub short : positions m ≤ 128
  pub null : 0 < strands
  pub few : strands ≤ 64
  pub order : Ordered m
  pub known : (i strand : ℕ) → Friend m i strand → strand < strands
  pub sites : (i strand : ℕ) → Friend m i strand → Within binary64 80000 (m.site i strand)
  pub pairs : (left right : ℕ) → left < strands → right < strands → Within binary64 80000 (m.pair left right)
  pub potentials : (i strand : ℕ) → Friend m i strand → Within binary64 1024 (m.potential strand)
  pub rt-double : T (fits binary64 m.rt)
  pub rt-range : in_range (plus 125 3) (plus 8 0) m.rt ≡ true

-- Each partial sum of the terms and its product with RT is finite, with a bound on its size, and no sum is −0.0.
pub record Finite (m : Model) (terms : List Float) : Type 0 where
  pub sums : (k : ℕ) → Within binary64 30720000 (sum_from zero (take k terms))
  pub products : (k : ℕ) → Within binary64 245760000 (mul binary64 (sum_from zero (take k terms)) m.rt)
  pub never-negative-zero : (k : ℕ) → negative_zero (sum_from zero (take k terms)) ≡ false
