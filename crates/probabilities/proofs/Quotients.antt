-- The quotient of two sums, each within one part in 2^14, cut to 31 digits, lies within one part in 2^12 of the exact one. Assumes nothing.
use Prim.Native.Nat.{ℕ, ◌≤◌, ◌<◌}
use native.Mathlib.Nat.{mul-pos}
use native.Mathlib.Omega.{arith}
use lib.Dec.{lit≤, lit<}
use Rattle.probabilities.specs.Quotient.{cut}
use Rattle.fractions.specs.Frac.{Frac, frac, times, inverse, LeFrac}
use Rattle.fractions.proofs.Frac.{le-frac-refl, le-frac-trans, times-mono}
use Rattle.fractions.specs.Number.{Number, quotient_of, less_part, more_part, WithinPart}
use Rattle.fractions.proofs.Within.{within-quotient, within-rounded}

-- a quotient that was cut: r ≤ v / w ≤ r (1 + 2^-30)
pub quotient-within : (from : ℕ) (x y : Number) (v w r : Frac) → 0 < w.num → 0 < r.den
    → ((n : ℕ) → from ≤ n → (0 < (x.lower n).den) × (0 < (x.upper n).den) × (0 < (y.lower n).num) × (0 < (y.upper n).num))
    → WithinPart 14 from x v → WithinPart 14 from y w → LeFrac (times cut (times v (inverse w))) r → LeFrac r (times v (inverse w)) → WithinPart 12 from (quotient_of x y) r
unfolding quotient_of
quotient-within from x y v w r W R S p q h k =
    let one : LeFrac r (times (frac 1 1) (times v (inverse w))) = record { cross = omega (arith, k.cross) } in
    let z = within-rounded cut (frac 1 1) (lit< tt) (lit< tt) R h one (within-quotient W p q) in
    record {
      positive = R;
      reached = λ n N. le-frac-trans {y = times (times cut (times (less_part 14) (inverse (more_part 14)))) ((quotient_of x y).lower n)} (mul-pos (lit< tt) (mul-pos (S n N).0 (S n N).3)) (times-mono (record { cross = lit≤ tt }) (le-frac-refl _)) (z.reached n N);
      kept = λ n N. le-frac-trans {y = times (times (frac 1 1) (times (more_part 14) (inverse (less_part 14)))) ((quotient_of x y).upper n)} (mul-pos (lit< tt) (mul-pos (S n N).1 (S n N).2)) (z.kept n N) (times-mono (record { cross = lit≤ tt }) (le-frac-refl _));
    }
