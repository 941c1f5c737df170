use mathlib.Core.Path.{◌≡◌, refl, ◌∙◌}
use Rattle.std.proofs.Common.{rules, tests}
use Rattle.std.specs.List.{list_any, range_with_len}
use Rattle.std.proofs.lemmas.Iterator.{YieldsList-from_range}
use Rattle.std.proofs.lemmas.Iterator.Search.{any_from_yields_List}
use Rattle.design.specs.Checks.{null_cells}
use Rattle.lists.proofs.Searches.{any_up_to_is}
use Rattle.design.proofs.checks.null_cells.Goals as goal

pub returns : goal.returns
returns c =
    let test = null_cells c.args.design.now.dg c.args.design.now.ds in
    let found : c.any.result ≡ list_any test (range_with_len 0 64) = any_from_yields_List test _ _ c.any.result c.any.ensures.ran (YieldsList-from_range 0 64 64 refl refl) (λ x b q k. search (rules, tests)) in
    found ∙ any_up_to_is test 64
