-- The figure is finite and at most 128 in size: it is below 2^53 units of 2^-46. Assumes nothing.
use mathlib.Core.Path.{◌≡◌, refl, ap}
use mathlib.Core.Bool.{Bool, false, cond}
use Prim.Native.Nat.{ℕ, ◌+◌, ◌-◌, ◌*◌, ◌/◌, ◌%◌, ◌^◌, ◌≤◌, ◌<◌}
use native.Mathlib.Nat.{mul-le-mul_right, le_of_lt}
use native.Mathlib.Decide.{dec_lt}
use native.Mathlib.Omega.{arith}
use lib.Dec.{T, ltb, lit<}
use lib.IntN.{pos}
use lib.Ieee.{Float, div, nan, inf, fin, binary64, neg, of_int, fits, to_bits}
use lib.Ieee.Exact.{HasValue}
use lib.Ieee.Fits.{div-fits}
use Rattle.std.proofs.lemmas.Bool.{lt-ltb, le-ltb}
use Rattle.doubles.specs.Size.{mag, Within}
use Rattle.doubles.proofs.Size.{unit-mag}
use Rattle.doubles.proofs.Bounds.{neg-within}
use Rattle.logarithm.specs.Figure.{mul_units, terms_from, ln_series, ln_reduced, fixed, ln_ratio, ln_of_fields, ln_of}
use Rattle.logarithm.specs.Near.{LogarithmsSmall, LogarithmOfOne}
use Rattle.logarithm.proofs.Near.{value-finite}
use Rattle.logarithm.proofs.Double.{fixed-value}
use Rattle.logarithm.proofs.Right.{ratio-right}
use Rattle.logarithm.proofs.Between.{read, digits}

scaled : (x : Float) (s : Bool) (a c k : ℕ) → HasValue x s a c → HasValue x s (a * k) (c * k)
scaled nan s a c k v = absurd v
scaled (inf t) s a c k v = absurd v
scaled (fin t m e) s a c k v = (v.0, omega (arith, ap (λ (z : ℕ). z * k) v.1))

fixed-fits : (t : ℕ) → T (fits binary64 (fixed t))
unfolding fixed
fixed-fits t = div-fits binary64 (of_int binary64 (pos t)) (fin false 1 (pos 46))

-- so many units are at most 128
fixed-small : (t : ℕ) → t < 2 ^ 53 → Within binary64 128 (fixed t)
fixed-small t h =
    let v = fixed-value t h in
    let m : mag binary64 (fixed t) ≡ t * 2 ^ 1028 = unit-mag binary64 (fixed t) false (t * 2 ^ 1028) (scaled (fixed t) false t (2 ^ 46) (2 ^ 1028) v) in
    record { real = record { fit = fixed-fits t; fini = value-finite (fixed t) false t (2 ^ 46) v }; size = rw m (mul-le-mul_right (2 ^ 1028) (le_of_lt h)) }

pub small : LogarithmsSmall
unfolding ln_of ln_of_fields
small x f e = go (dec_lt (b / 2 ^ 52) 1023)
  where
    b : ℕ
    b = to_bits binary64 x

    go : Dec (b / 2 ^ 52 < 1023) → Within binary64 128 (cond (ltb (b / 2 ^ 52) 1023) (neg (fixed (ln_ratio (2 ^ 53) (b % 2 ^ 52 + 2 ^ 52) (1022 - b / 2 ^ 52)))) (fixed (ln_ratio (b % 2 ^ 52 + 2 ^ 52) (2 ^ 52) (b / 2 ^ 52 - 1023))))
    go (yes l) =
        let r = read x b f e refl in
        let d = digits x b f e refl in
        rw (lt-ltb (b / 2 ^ 52) 1023 l) (neg-within (fixed-small _ (ratio-right (2 ^ 53) (b % 2 ^ 52 + 2 ^ 52) (omega arith) (omega (arith, d)) (omega arith) (1022 - b / 2 ^ 52) (omega (arith, r.from))).small))
    go (no n) =
        let r = read x b f e refl in
        let d = digits x b f e refl in
        let l : 1023 ≤ b / 2 ^ 52 = omega arith in
        rw (le-ltb (b / 2 ^ 52) 1023 l) (fixed-small _ (ratio-right (b % 2 ^ 52 + 2 ^ 52) (2 ^ 52) (lit< tt) (omega arith) (omega (arith, d)) (b / 2 ^ 52 - 1023) (omega (arith, r.upto))).small)

-- of 1 it is 0.0, exactly
pub of_one : LogarithmOfOne
unfolding ln_of ln_of_fields fixed ln_ratio ln_reduced ln_series terms_from mul_units to_bits div of_int
of_one = refl
