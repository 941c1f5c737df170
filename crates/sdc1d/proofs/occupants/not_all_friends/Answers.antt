-- The search over the positions finds a stranger where there is one. Assumes nothing.
use mathlib.Core.Path.{◌≡◌, refl, sym, ◌∙◌}
use native.Mathlib.Omega.{arith}
use Rattle.std.proofs.Common.{rules, tests}
use Rattle.std.specs.List.{list_any, range_with_len}
use Rattle.std.proofs.lemmas.Iterator.{YieldsList-from_range}
use Rattle.std.proofs.lemmas.Iterator.Search.{any_from_yields_List}
use Rattle.design.specs.Design.{strands}
use Rattle.design.specs.Checks.{no_friend_at, not_all_friends}
use Rattle.lists.proofs.Searches.{any_up_to_is}
use Rattle.sdc1d.proofs.occupants.not_all_friends.Goals as goal

pub returns : goal.returns
unfolding not_all_friends
returns c =
    let d = c.args.design.now in
    let test = no_friend_at d.scaffold d.marks d.glues d.dg d.ds (strands d) c.args.configuration.now in
    let found : c.any.result ≡ list_any test (range_with_len 0 c.positions.result) = any_from_yields_List test _ _ c.any.result c.any.ensures.ran (YieldsList-from_range 0 c.positions.result c.positions.result refl (omega arith)) (λ x b q k. search (rules, tests)) in
    rw (sym c.positions.ensures) (found ∙ any_up_to_is test c.positions.result)
