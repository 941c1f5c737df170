-- The look at a row meets its contract. Assumes nothing.
use mathlib.Core.Path.{◌∙◌}
use Rattle.std.proofs.Common.{rules, tests}
use Rattle.std.proofs.lemmas.List.{get_or_read}
use Rattle.std.proofs.lemmas.Iterator.{YieldsList-from_slice}
use Rattle.std.proofs.lemmas.Iterator.Adapters.{serves_from_places}
use Rattle.std.proofs.lemmas.Iterator.Search.{any_from_yields_List}
use Rattle.partition_sums.specs.inner.Rows.{out_in}
use Rattle.lists.proofs.Searches.{any_is}
use Rattle.partition_sums.proofs.forms.row_out.Goals as goal

pub any-requires-clause-callable : goal.any-requires-clause-callable
any-requires-clause-callable c =
    serves_from_places (YieldsList-from_slice c.args.strands.now cc) (λ x q k. search rules)
    (λ x k g e _ _ _ _ _ _. rw (get_or_read c.args.strands.now k x.now g e 0) (c.requires k g))

pub returns : goal.returns
returns c =
    let p = out_in c.args.row.now.digits.now c.args.row.now.powers.now in
    any_from_yields_List p _ _ _ c.any.ensures.ran (YieldsList-from_slice c.args.strands.now cc) (λ x b q k. search (rules, tests))
    ∙ any_is p c.args.strands.now
