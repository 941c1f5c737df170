use mathlib.Core.Path.{sym}
use Rattle.std.proofs.Common.{rules}
use Rattle.design.specs.Design.{strand_bond_in}
use Rattle.design.proofs.tables.fill_strand_bonds.Goals as goal

pub returns : goal.returns
returns c = rw (sym c.strands-strands.ensures) (c.fill_rows.ensures (strand_bond_in c.args.design.now) (λ x y bond h k answers. search rules))
