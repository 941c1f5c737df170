-- The size of a double in units of 2^-46 meets its contract. Assumes nothing.
use Prim.Native.Nat.{ℕ, ◌+◌, ◌-◌, ◌*◌, ◌/◌, ◌%◌, ◌^◌, ◌<◌}
use native.Mathlib.Nat.{mod-lt, mod-eq_of_lt}
use native.Mathlib.Omega.{arith}
use lib.Pow.{pow_pos}
use lib.Ieee.{Float, binary64, to_bits}
use borrow.Author.Rules.{rules}
use Rattle.exponential.proofs.Cut.{inside, sized, exponent-most, cut-none, cut-part, cut-whole}
use Rattle.exponential.proofs.size_units.Goals as goal

abbrev field : Float → ℕ
field x = to_bits binary64 x % 2 ^ 63 / 2 ^ 52

abbrev digits : Float → ℕ
digits x = to_bits binary64 x % 2 ^ 63 % 2 ^ 52

few : (x : Float) → digits x < 2 ^ 52
few x = mod-lt (to_bits binary64 x % 2 ^ 63) (pow_pos 52)

pub returns-then-exponent-lt977 : goal.returns-then-exponent-lt977
returns-then-exponent-lt977 c = cut-none c.args.x (digits c.args.x) (inside c.args.x c.requires).1 (few c.args.x) (field c.args.x) (sized c.args.x (search rules) (inside c.args.x c.requires).0) c.if-exponent-lt977.true

pub returns-then-exponent-lt1029 : goal.returns-then-exponent-lt1029
returns-then-exponent-lt1029 c = cut-part c.args.x (digits c.args.x) (inside c.args.x c.requires).1 (few c.args.x) (field c.args.x) (sized c.args.x (search rules) (inside c.args.x c.requires).0) c.if-exponent-lt977.false c.if-exponent-lt1029.true

pub overflow_shl-result : goal.overflow_shl-result
overflow_shl-result c = omega (arith, exponent-most c.args.x (digits c.args.x) (inside c.args.x c.requires).1 (few c.args.x) (field c.args.x) (sized c.args.x (search rules) (inside c.args.x c.requires).0))

pub returns : goal.returns
returns c =
    let w = cut-whole c.args.x (digits c.args.x) (inside c.args.x c.requires).1 (few c.args.x) (field c.args.x) (sized c.args.x (search rules) (inside c.args.x c.requires).0) c.if-exponent-lt1029.false in
    rw (mod-eq_of_lt {n = (digits c.args.x + 2 ^ 52) * 2 ^ (field c.args.x - 1029)} {m = 2 ^ 64} (omega (arith, w.small))) w
