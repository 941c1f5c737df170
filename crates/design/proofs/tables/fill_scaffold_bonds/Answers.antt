use mathlib.Core.Path.{sym}
use Rattle.std.proofs.Common.{rules}
use Rattle.design.specs.Design.{scaffold_bond_in}
use Rattle.design.proofs.tables.fill_scaffold_bonds.Goals as goal

pub returns : goal.returns
returns c = rw (sym c.strands.ensures, sym c.positions.ensures) (c.fill_rows.ensures (scaffold_bond_in c.args.design.now) (λ position strand bond h k answers. search rules))
