-- `sdc_common::unfit_glue` meets its contract: an absent name is not looked at. Assumes nothing.
use borrow.Author.Tests.{eq-eqb, ne_eqb}
use Rattle.sdc_common.specs.Lent.{unfit_glue}
use Rattle.sdc_common.proofs.names.unfit_glue.Goals as goal

pub returns-else-name-ne-ABSENT : goal.returns-else-name-ne-ABSENT
unfolding unfit_glue
returns-else-name-ne-ABSENT c = simp (eq-eqb c.args.name.mark 0 c.if-name-ne-ABSENT.false)

pub returns-then-name-ne-PRESENT : goal.returns-then-name-ne-PRESENT
unfolding unfit_glue
returns-then-name-ne-PRESENT c = simp (ne_eqb c.args.name.mark 0 c.if-name-ne-ABSENT.true, ne_eqb c.args.name.mark 1 c.if-name-ne-PRESENT.true)

pub returns-else-name-ne-PRESENT : goal.returns-else-name-ne-PRESENT
unfolding unfit_glue
returns-else-name-ne-PRESENT c = simp (ne_eqb c.args.name.mark 0 c.if-name-ne-ABSENT.true, eq-eqb c.args.name.mark 1 c.if-name-ne-PRESENT.false) c.is_unfit_name.ensures
