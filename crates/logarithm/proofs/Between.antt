-- The figure of a double by the fields of its bits, as the program reads them. Assumes nothing.
use mathlib.Core.Path.{◌≡◌, refl}
use mathlib.Core.Bool.{true}
use Prim.Native.Nat.{ℕ, ◌+◌, ◌-◌, ◌/◌, ◌%◌, ◌^◌, ◌≤◌, ◌<◌}
use native.Mathlib.Nat.{mod-lt}
use native.Mathlib.Omega.{arith}
use lib.Dec.{T, lit<}
use lib.IntN.{pos}
use Rattle.std.proofs.lemmas.Bool.{lt-ltb, le-ltb}
use lib.Ieee.{Float, binary64, to_bits, of_bits, of_int, div, neg, in_float, fits}
use Rattle.logarithm.specs.Figure.{fixed, ln_ratio, ln_of_fields, ln_of}
use Rattle.logarithm.specs.Near.{has_logarithm}
use Rattle.logarithm.proofs.Double.{Read, reads, held, unit-is}
use Rattle.logarithm.proofs.Right.{ends, ratio-right}

-- a double that has a logarithm, and its bits
module _ (x : Float) (b : ℕ) (f : T (fits binary64 x)) (h : has_logarithm x ≡ true) (e : b ≡ to_bits binary64 x) where
  pub read : Read x b
  read = rw e (reads x f (ends x h).0 (ends x h).1)

  pub digits : b % 2 ^ 52 < 2 ^ 52
  digits = mod-lt b (lit< tt)

  -- below 1
  module _ (l : b / 2 ^ 52 < 1023) (t : ℕ) (g : t ≡ ln_ratio (2 ^ 53) (b % 2 ^ 52 + 2 ^ 52) (1022 - b / 2 ^ 52)) where
    pub below-held : T (in_float binary64 (pos t))
    below-held = held t (rw g (ratio-right (2 ^ 53) (b % 2 ^ 52 + 2 ^ 52) (omega arith) (omega (arith, digits)) (omega arith) (1022 - b / 2 ^ 52) (omega (arith, read.from))).small)

    pub below-figure : neg (div binary64 (of_int binary64 (pos t)) (of_bits binary64 4814348001659060224)) ≡ ln_of x
    unfolding ln_of ln_of_fields fixed
    below-figure = rw (unit-is, g, ← e, lt-ltb _ _ l) refl

  -- from 1 on
  module _ (l : 1023 ≤ b / 2 ^ 52) (t : ℕ) (g : t ≡ ln_ratio (b % 2 ^ 52 + 2 ^ 52) (2 ^ 52) (b / 2 ^ 52 - 1023)) where
    pub above-held : T (in_float binary64 (pos t))
    above-held = held t (rw g (ratio-right (b % 2 ^ 52 + 2 ^ 52) (2 ^ 52) (lit< tt) (omega arith) (omega (arith, digits)) (b / 2 ^ 52 - 1023) (omega (arith, read.upto))).small)

    pub above-figure : div binary64 (of_int binary64 (pos t)) (of_bits binary64 4814348001659060224) ≡ ln_of x
    unfolding ln_of ln_of_fields fixed
    above-figure = rw (unit-is, g, ← e, le-ltb _ _ l) refl
