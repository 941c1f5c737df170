use mathlib.Core.Path.{◌∙◌}
use lib.Ieee.{neg}
use Rattle.std.proofs.Common.{rules, tests}
use Rattle.std.proofs.lemmas.Iterator.{YieldsList-from_slice}
use Rattle.std.proofs.lemmas.Iterator.Search.{any_from_yields_List}
use Rattle.lists.proofs.Searches.{any_is}
use Rattle.design.specs.Checks.{outside}
use Rattle.design.proofs.ranges.one_beyond.Goals as goal

pub returns : goal.returns
returns c =
    let p = outside (neg c.args.most) c.args.most in
    let xs = c.args.numbers.now in
    any_from_yields_List p _ _ c.any.result c.any.ensures.ran (YieldsList-from_slice xs cc) (λ x b q k. search (rules, tests)) ∙ any_is p xs
