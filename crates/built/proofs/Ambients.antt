-- From 200 to 500 K, RT lies from 1/8 to 8 and the excess within ±1,024: both rise with the temperature, so the ends are looked at. Assumes nothing.
use mathlib.Core.Path.{◌≡◌, refl, ap, ◌∙◌}
use mathlib.Core.Bool.{Bool, true, false, not, ◌||◌}
use Prim.Native.Nat.{ℕ}
use native.Mathlib.Omega.{arith}
use lib.Dec.{T, lit≤}
use lib.Ieee.{Float, binary64, fits, le, lt, eq, add, mul, sub, div}
use Rattle.reply.specs.First.{refused_if, answer}
use Rattle.reply.specs.declared.Refusal.TheVariants.{OutOfRange}
use Rattle.lists.proofs.Tests.{both}
use Rattle.doubles.specs.Decimal.{plus, minus, nearest}
use Rattle.doubles.specs.Range.{within, in_range}
use Rattle.doubles.specs.Size.{Real, Within, mag, sgn}
use Rattle.doubles.specs.Order.{Le, under}
use Rattle.doubles.proofs.Order.{Le-trans, Le-refl, le→Le, Le→le, le-yes→Le}
use Rattle.doubles.proofs.Sums.{sub-mono, sub_within}
use Rattle.doubles.proofs.Products.{mul-mono-left, mul-within}
use Rattle.doubles.proofs.Bounds.{test-within}
use Rattle.units.specs.Ambient.{Figures, refused, ambient_figures, gas_constant, excess_over37_c, ambient_at}
use Rattle.design.specs.Checks.{outside, beyond, ambient_out}
use Rattle.std.specs.Prelude.{None, Ok}
use Rattle.built.specs.Fits.{AmbientFits}

holds : (b : Bool) → T b → b ≡ true
holds true t = refl
holds false t = absurd t

-- between two values that pass a test of a range
between : (low x y z high : Float) → Real binary64 low → Real binary64 x → Real binary64 y → Real binary64 z → Real binary64 high → T (le low x) → Le binary64 x y → Le binary64 y z → T (le z high) → outside low high y ≡ false
between low x y z high l p q r h a b c d =
    rw (
      holds (le low y) (Le→le binary64 low y l q (Le-trans (le→Le binary64 low x l p a) b)),
      holds (le y high) (Le→le binary64 y high q h (Le-trans c (le→Le binary64 z high r h d))),
    ) refl

-- ---- the ends, and the two constants

cold : Within binary64 500 (nearest (plus 200 0))
unfolding nearest mag fits
cold = record { real = record { fit = tt; fini = tt }; size = lit≤ tt }

hot : Within binary64 500 (nearest (plus 500 0))
unfolding nearest mag fits
hot = record { real = record { fit = tt; fini = tt }; size = lit≤ tt }

gas : Within binary64 1 gas_constant
unfolding gas_constant nearest div mag fits
gas = record { real = record { fit = tt; fini = tt }; size = lit≤ tt }

gas-under : under binary64 gas_constant ≡ 0
unfolding gas_constant nearest div under sgn
gas-under = refl

body : Within binary64 311 (nearest (plus 31015 2))
unfolding nearest mag fits
body = record { real = record { fit = tt; fini = tt }; size = lit≤ tt }

eighth : Real binary64 (nearest (plus 125 3))
unfolding nearest fits
eighth = record { fit = tt; fini = tt }

eight : Real binary64 (nearest (plus 8 0))
unfolding nearest fits
eight = record { fit = tt; fini = tt }

lowest : Real binary64 (nearest (minus 1024 0))
unfolding nearest fits
lowest = record { fit = tt; fini = tt }

highest : Real binary64 (nearest (plus 1024 0))
unfolding nearest fits
highest = record { fit = tt; fini = tt }

rt-cold : T (le (nearest (plus 125 3)) (mul binary64 gas_constant (nearest (plus 200 0))))
unfolding gas_constant nearest div mul le lt eq
rt-cold = tt

rt-hot : T (le (mul binary64 gas_constant (nearest (plus 500 0))) (nearest (plus 8 0)))
unfolding gas_constant nearest div mul le lt eq
rt-hot = tt

excess-cold : T (le (nearest (minus 1024 0)) (sub binary64 (nearest (plus 200 0)) (nearest (plus 31015 2))))
unfolding nearest sub add le lt eq
excess-cold = tt

excess-hot : T (le (sub binary64 (nearest (plus 500 0)) (nearest (plus 31015 2))) (nearest (plus 1024 0)))
unfolding nearest sub add le lt eq
excess-hot = tt

-- ---- a temperature in the range

module _ (k : Float) (t : T (fits binary64 k)) (e : within (nearest (plus 200 0)) (nearest (plus 500 0)) k ≡ true) where
  here : Within binary64 500 k
  here = (test-within 500 (nearest (plus 200 0)) k (nearest (plus 500 0)) cold hot t e).0

  above : Le binary64 (nearest (plus 200 0)) k
  above = (test-within 500 (nearest (plus 200 0)) k (nearest (plus 500 0)) cold hot t e).1

  below : Le binary64 k (nearest (plus 500 0))
  below = le-yes→Le binary64 k (nearest (plus 500 0)) here.real hot.real (both (le (nearest (plus 200 0)) k) (le k (nearest (plus 500 0))) e).1

  product : (x : Float) → Within binary64 500 x → Real binary64 (mul binary64 gas_constant x)
  product x w = (mul-within binary64 1 500 gas_constant x gas w (lit≤ tt)).real

  less : (x : Float) → Within binary64 500 x → Real binary64 (sub binary64 x (nearest (plus 31015 2)))
  less x w = (sub_within binary64 500 311 x (nearest (plus 31015 2)) w body (lit≤ tt)).real

  rt-in : outside (nearest (plus 125 3)) (nearest (plus 8 0)) (mul binary64 gas_constant k) ≡ false
  rt-in =
      between _ (mul binary64 gas_constant (nearest (plus 200 0))) _ (mul binary64 gas_constant (nearest (plus 500 0))) _
      eighth (product _ cold) (product k here) (product _ hot) eight rt-cold
      (mul-mono-left binary64 gas_constant _ k gas.real cold.real here.real gas-under above)
      (mul-mono-left binary64 gas_constant k _ gas.real here.real hot.real gas-under below)
      rt-hot

  excess-in : beyond 1024 (excess_over37_c k) ≡ false
  unfolding excess_over37_c
  excess-in =
      between _ (sub binary64 (nearest (plus 200 0)) (nearest (plus 31015 2))) _ (sub binary64 (nearest (plus 500 0)) (nearest (plus 31015 2))) _
      lowest (less _ cold) (less k here) (less _ hot) highest excess-cold
      (sub-mono binary64 _ k _ _ cold.real here.real body.real body.real above (Le-refl binary64 _))
      (sub-mono binary64 k _ _ _ here.real hot.real body.real body.real below (Le-refl binary64 _))
      excess-hot

-- ---- what is given

none : (x y z : Bool) → x ≡ false → y ≡ false → z ≡ false → (x || (y || z)) ≡ false
none x y z p q r = rw (p, q, r) refl

pub ambient-fits : AmbientFits
unfolding ambient_at in_range ambient_out
ambient-fits k t a e = go (within (nearest (plus 200 0)) (nearest (plus 500 0)) k) refl e
  where
    go : (b : Bool) → within (nearest (plus 200 0)) (nearest (plus 500 0)) k ≡ b → ambient_figures (Ok a) ≡ answer (refused_if (not b) OutOfRange None (Ok tt)) refused (record { number = 0; rt = mul binary64 gas_constant k; strand_excess = excess_over37_c k; scaffold_excess = excess_over37_c k }) → ambient_out a ≡ false
    go true b p =
        none (outside (nearest (plus 125 3)) (nearest (plus 8 0)) a.rt.0) (beyond 1024 a.strand_excess.0) (beyond 1024 a.scaffold_excess.0)
        (ap (λ (f : Figures). outside (nearest (plus 125 3)) (nearest (plus 8 0)) f.rt) p ∙ rt-in k t b)
        (ap (λ (f : Figures). beyond 1024 f.strand_excess) p ∙ excess-in k t b)
        (ap (λ (f : Figures). beyond 1024 f.scaffold_excess) p ∙ excess-in k t b)
    go false b p = absurd (let z : ◌≡◌ {A = ℕ} 0 9 = ap (λ (f : Figures). f.number) p in omega arith)
