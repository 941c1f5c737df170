-- `sdc_common::stars_of` meets its contract: it counts from the end. Assumes nothing.
use Rattle.std.proofs.Common.{rules, tests}
use mathlib.Core.Path.{ap, ◌∙◌}
use Prim.Native.Nat.{ℕ}
use mathlib.Core.List.{reverse}
use lib.ListN.{length, length-reverse}
use Rattle.std.specs.Prelude.{Option}
use Rattle.std.specs.Option.{unwrap_or}
use Rattle.std.proofs.lemmas.Iterator.Adapters.{YieldsList-from_rev_slice}
use Rattle.std.proofs.lemmas.Iterator.Search.{position_from_yields_List}
use Rattle.lists.proofs.Searches.{position_first}
use Rattle.sdc_common.proofs.Bases.{is_other, stars-first}
use Rattle.sdc_common.proofs.names.stars_of.Goals as goal

pub returns : goal.returns
returns c =
    let name = c.args.name.now in
    let by_call = position_from_yields_List is_other _ _ c.position.result c.position.ensures.ran (YieldsList-from_rev_slice name cc) (λ x b q k. search (rules, tests)) in
    c.unwrap_or.ensures ∙ ap (λ (r : Option ℕ). unwrap_or r (length name)) by_call ∙ rw (← length-reverse name) (position_first is_other (reverse name)) ∙ stars-first name
