use mathlib.Core.Path.{◌∙◌}
use mathlib.Core.Bool.{false, ◌||◌}
use lib.Dec.{ltb}
use Rattle.std.proofs.Common.{rules, tests}
use Rattle.std.proofs.lemmas.Iterator.{YieldsList-from_slice}
use Rattle.std.proofs.lemmas.Iterator.Consumers.{fold_from_yields_List}
use Rattle.design.proofs.Folded.{fold_any}
use Rattle.design.proofs.checks.some_above.Goals as goal

pub returns : goal.returns
returns c =
    let test = ltb c.args.most in
    fold_from_yields_List _ (λ above number. above || test number) false c.fold.result c.fold.ensures.ran (YieldsList-from_slice c.args.numbers.now cc) (λ above x b q k. (search (rules, tests), search (rules, tests)))
    ∙ fold_any test c.args.numbers.now
