use mathlib.Core.Path.{◌∙◌}
use borrow.Author.Tests.{tests}
use borrow.Author.Rules.{rules}
use Rattle.std.proofs.lemmas.Iterator.{YieldsList-from_slice}
use Rattle.std.proofs.lemmas.Iterator.Search.{any_from_yields_List}
use Rattle.deck.specs.Deck.{too_high}
use Rattle.lists.proofs.Searches.{any_is}
use Rattle.deck.proofs.writing.some_too_high.Goals as goal

pub returns : goal.returns
returns c =
    any_from_yields_List too_high _ _ _ c.any.ensures.ran (YieldsList-from_slice c.args.configuration.now cc) (λ x b q k. search (rules, tests))
    ∙ any_is too_high c.args.configuration.now
