-- A configuration that no check refuses is a state. Assumes nothing.
use mathlib.Core.Path.{◌≡◌, ◌∙◌, sym}
use mathlib.Core.Bool.{false}
use lib.ListN.{length}
use borrow.Author.Tests.{eqb-true, not-false}
use Rattle.std.specs.Prelude.{Result, Ok, Err, OnOk}
use Rattle.reply.specs.declared.Refusal.TheVariants.{NotAFriend}
use Rattle.reply.proofs.Asked.{admits}
use Rattle.design.specs.Design.{positions}
use Rattle.design.specs.Checks.{not_all_friends}
use Rattle.design.proofs.FriendLaws.{friends-right}
use Rattle.sdc1d.proofs.energy_admitted.Goals as goal

-- what holds of any result holds of one that gives something
on-ok : {A E P : Type 0} (r : Result A E) → P → OnOk r P
on-ok (Ok x) p = p
on-ok (Err e) p = tt

pub returns-clause-state : goal.returns-clause-state
returns-clause-state c =
    let d = c.args.design.now in
    let s = c.args.configuration.now in
    let none : not_all_friends d s ≡ false = sym c.not_all_friends.ensures ∙ admits NotAFriend c.not_all_friends.result c.in_ok-refused_if.ensures in
    let many : length s ≡ positions d = eqb-true _ _ (not-false _ c.in_ok-tabled.ensures.own) ∙ c.positions.ensures in
    on-ok c.admitted.result (((friends-right d).states s many).0 none)
