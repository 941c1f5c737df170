-- A term of a row as a cell holds it meets its contract. Assumes nothing.
use mathlib.Core.Path.{◌≡◌, ap, ap₂, ◌∙◌}
use Prim.Native.Nat.{ℕ, ◌%◌}
use native.Mathlib.Nat.{mod-eq_of_lt, mod-lt}
use native.Mathlib.Omega.{arith}
use lib.Dec.{lit<}
use lib.IntN.{ℤ, pos}
use Rattle.std.specs.Int.{w32}
use Rattle.std.proofs.Math.Facts.{to_z_pos}
use Rattle.fractions.specs.Weight.{weight}
use Rattle.partition_sums.specs.inner.Rows.{row_term}
use Rattle.partition_sums.proofs.ends.celled.Goals as goal

pub returns : goal.returns
returns c =
    let t = row_term c.args.row.now c.args.strand in
    rw c.from.ensures
    (λ f.
    let digits : t.digits % 4294967296 ≡ t.digits = mod-eq_of_lt (omega (arith, f.form.most)) in
    let power : t.power % 2147483648 ≡ t.power = mod-eq_of_lt (omega (arith, f.low)) in
    ap₂ (λ (d : ℕ) (e : ℤ). weight d e) digits (to_z_pos w32 (mod-lt t.power (lit< tt)) ∙ ap pos power))
