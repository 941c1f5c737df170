-- A weight near the exponential, from fractions that bound it. Assumes nothing.
use mathlib.Core.Bool.{true, false}
use Prim.Native.Nat.{ℕ, zero, suc, ◌*◌, ◌<◌}
use native.Mathlib.Nat.{mul-pos, zero-mul, not-suc-le-zero, zero-lt-suc}
use lib.Pow.{pow_pos}
use Rattle.fractions.specs.Frac.{Frac, times, inverse, LeFrac}
use Rattle.fractions.proofs.Frac.{le-frac-refl, le-frac-trans, times-mono, inverse-le}
use Rattle.fractions.specs.Number.{less_part, more_part}
use Rattle.exponential.specs.Exponential.{ExpAtMost, ExpAtLeast}
use Rattle.exponential.specs.Near.{ExpNear}

some : (p q n : ℕ) → p < n * q → 0 < n
some p q zero h = absurd (not-suc-le-zero (rw (zero-mul q) at h))
some p q (suc n) h = zero-lt-suc n

module _ (p q : ℕ) {v u w : Frac} (o : ExpAtLeast p q v) (b : ExpAtMost p q u) where
  pub near-plus : 0 < u.den → 0 < v.den → LeFrac (times (less_part 24) u) w → LeFrac w (times (more_part 24) v) → ExpNear false p q w
  near-plus U W h g = record {
    reached = λ n N. le-frac-trans (mul-pos (pow_pos 24) U) (times-mono (le-frac-refl (less_part 24)) (b.bound n (some p q n N))) h;
    kept = λ n N. le-frac-trans (mul-pos (pow_pos 24) W) g (times-mono (le-frac-refl (more_part 24)) (o.bound n N));
  }

  pub near-minus : 0 < u.num → 0 < v.num → LeFrac (times (less_part 24) (inverse v)) w → LeFrac w (times (more_part 24) (inverse u)) → ExpNear true p q w
  near-minus U W h g = record {
    reached = λ n N. le-frac-trans (mul-pos (pow_pos 24) W) (times-mono (le-frac-refl (less_part 24)) (inverse-le (o.bound n N))) h;
    kept = λ n N. le-frac-trans (mul-pos (pow_pos 24) U) g (times-mono (le-frac-refl (more_part 24)) (inverse-le (b.bound n (some p q n N))));
  }
