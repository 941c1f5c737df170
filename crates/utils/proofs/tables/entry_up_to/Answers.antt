-- `utils::entry_up_to` meets its contract: the lengths after the first that are no longer. Assumes nothing.
use Rattle.std.proofs.Common.{◌≡◌, ◌∙◌, ℕ, Bool, drop, rules, tests}
use Rattle.std.specs.Prelude.{leb}
use Rattle.std.proofs.lemmas.Iterator.{YieldsList-from_slice}
use Rattle.std.proofs.lemmas.Iterator.Consumers.{count_from_yields_List}
use Rattle.std.proofs.lemmas.Iterator.Search.{YieldsList-from_take_while}
use Rattle.std.proofs.lemmas.List.Folds.{length-prefix_len}
use Rattle.std.specs.List.{prefix_len}
use Rattle.utils.proofs.Lengths.{lengths, entry-counted}
use Rattle.utils.proofs.tables.entry_up_to.Goals as goal

pub returns : goal.returns
returns c =
    let n = c.args.length in
    let no_longer : ℕ → Bool = λ l. leb l n in
    let after = drop 1 lengths in
    let counted : c.count.result ≡ prefix_len no_longer after =
    count_from_yields_List _ _ c.count.ensures.ran (YieldsList-from_take_while _ no_longer (YieldsList-from_slice after cc) c.take_while.ensures.closure c.take_while.ensures.done (λ x b q k. search (rules, tests)))
    ∙ length-prefix_len no_longer after in
    entry-counted n c.count.result c.requires counted
