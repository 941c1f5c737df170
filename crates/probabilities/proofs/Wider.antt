-- Laws of the order of fractions, and that a number lies between wider factors where it lies between narrower ones. Assumes nothing.
use mathlib.Core.Path.{◌≡◌, subst}
use Prim.Native.Nat.{ℕ, ◌<◌}
use native.Mathlib.Nat.{mul-pos}
use native.Mathlib.Omega.{arith}
use Rattle.fractions.specs.Frac.{Frac, plus, LeFrac}
use Rattle.fractions.specs.Number.{Number, Sound, Within}
use Rattle.fractions.proofs.Frac.{le-frac-refl, le-frac-trans, times-mono}

pub le-of-same : {x y : Frac} → x ≡ y → LeFrac x y
le-of-same {x} e = subst (λ z. LeFrac x z) e (le-frac-refl x)

pub le-plus-left : (x y : Frac) → LeFrac x (plus y x)
le-plus-left x y = record { cross = omega arith }

pub within_wider : {from : ℕ} {less over less' over' : Frac} {x : Number} {w : Frac} → 0 < less.den → 0 < over.den → Sound from x → LeFrac less' less → LeFrac over over'
    → Within from less over x w → Within from less' over' x w
within_wider {from} {less} {over} {less'} {over'} {x} L O X h k p = record {
  positive = p.positive;
  reached = λ n N. le-frac-trans (mul-pos L (X.below n N)) (times-mono h (le-frac-refl (x.lower n))) (p.reached n N);
  kept = λ n N. le-frac-trans (mul-pos O (X.above n N)) (p.kept n N) (times-mono k (le-frac-refl (x.upper n)));
}
