-- The double of a weight that is not zero lies above 0. Assumes nothing.
use mathlib.Core.Path.{◌≡◌, refl, subst}
use mathlib.Core.Bool.{Bool, true, false, cond}
use Prim.Native.Nat.{◌*◌, ◌<◌}
use native.Mathlib.Nat.{le_trans, lt_irrefl, zero-mul}
use Rattle.std.proofs.Common.{zero-le}
use lib.Dec.{T, lit<}
use lib.Ieee.{Float, nan, inf, fin, binary64, up, down, of_bits, round, le, lt, fits}
use lib.Ieee.Fits.{round-fits, down_pos}
use lib.Ieee.Order.{round_mono}
use borrow.Author.Tests.{ne_eqb}
use Rattle.doubles.specs.Size.{Real}
use Rattle.doubles.proofs.Order.{no→Le}
use Rattle.exponential.specs.Near.{zero_float}
use Rattle.probabilities.specs.Double.{least_double, double_of, ZeroAlone}
use Rattle.probabilities.proofs.Doubled.{least-real, zero-real, least-above}

nothing : round binary64 false 0 1 ≡ zero_float
unfolding round
nothing = refl

least-positive : lt zero_float least_double ≡ true
unfolding lt of_bits
least-positive = refl

above-inf : lt zero_float (inf false) ≡ true
unfolding lt
above-inf = refl

not-below : (r : Float) → T (fits binary64 r) → T (le zero_float r) → lt r least_double ≡ false → lt zero_float r ≡ true
unfolding le
not-below nan f h g = absurd h
not-below (inf true) f h g = absurd h
not-below (inf false) f h g = above-inf
not-below (fin s m e) f h g = go (lt zero_float (fin s m e)) refl
  where
    go : (b : Bool) → lt zero_float (fin s m e) ≡ b → b ≡ true
    go true k = refl
    go false k =
        let R : Real binary64 (fin s m e) = record { fit = f; fini = tt } in
        let a = no→Le binary64 (fin s m e) least_double R least-real g in
        let b = no→Le binary64 zero_float (fin s m e) zero-real R k in
        absurd (least-above (le_trans a.rise b.rise))

at-least : (r : Float) → T (fits binary64 r) → T (le zero_float r) → lt zero_float (cond (lt r least_double) least_double r) ≡ true
at-least r f h = go (lt r least_double) refl
  where
    go : (b : Bool) → lt r least_double ≡ b → lt zero_float (cond b least_double r) ≡ true
    go true e = least-positive
    go false e = not-below r f h e

pub zero-alone : ZeroAlone
unfolding double_of
zero-alone w some =
    let r = round binary64 false (w.digits * up w.power) (down w.power) in
    let from : T (le zero_float r) = subst (λ (x : Float). T (le x r)) nothing (round_mono binary64 0 1 (w.digits * up w.power) (down w.power) (lit< tt) (down_pos w.power) (rw (zero-mul (down w.power)) zero-le)) in
    rw (ne_eqb w.digits 0 (λ (e : w.digits ≡ 0). lt_irrefl 0 (subst (0 <◌) e some))) (at-least r (round-fits binary64 false (w.digits * up w.power) (down w.power)) from)
