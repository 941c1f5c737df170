-- The weight of a friend at its position meets its contract. Assumes nothing.
use mathlib.Core.Path.{sym, ◌∙◌}
use Rattle.design.proofs.FriendLaws.{tested-friend}
use Rattle.probabilities.proofs.NearWeights.{no-friend, place-taken, place-near}
use Rattle.probabilities.proofs.weights.place_weight.Goals as goal

pub place_argument-requires : goal.place_argument-requires
place_argument-requires c =
    let a = c.args in
    let r = c.requires in
    tested-friend a.admitted.now a.position a.strand r.position_in_bounds r.strand_in_bounds (sym (rw c.admitted.view_is at c.is_friend_at.ensures) ∙ c.if-is_friend_at.true)

pub exp_weight-requires : goal.exp_weight-requires
exp_weight-requires c =
    let a = c.args in
    let d = a.admitted.now in
    let r = c.requires in
    let is = c.admitted.view_is in
    place-taken d (rw is at c.hold_doubles.ensures) (rw is at c.admitted.invariant.0.admitted) a.position a.strand r.position_in_bounds r.strand_in_bounds (sym (rw is at c.is_friend_at.ensures) ∙ c.if-is_friend_at.true) c.place_argument.ensures

pub returns-then-is_friend_at : goal.returns-then-is_friend_at
returns-then-is_friend_at c =
    let a = c.args in
    let d = a.admitted.now in
    let is = c.admitted.view_is in
    place-near d (rw is at c.hold_doubles.ensures) (rw is at c.admitted.invariant.0.admitted) a.position a.strand c.place_argument.ensures c.exp_weight.ensures

pub returns-else-is_friend_at : goal.returns-else-is_friend_at
returns-else-is_friend_at c f =
    let a = c.args in
    absurd (no-friend a.admitted.now a.position a.strand (sym (rw c.admitted.view_is at c.is_friend_at.ensures) ∙ c.if-is_friend_at.false) f)
