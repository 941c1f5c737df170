-- One place of the state sum meets its contract: the terms are added in the order of the definition. Assumes nothing.
use mathlib.Core.Path.{◌≡◌}
use mathlib.Core.List.{◌∷◌}
use Prim.Native.Nat.{◌+◌}
use native.Mathlib.Numerals.{add-one}
use lib.ListN.{get_or, drop, drop_of_length-le}
use lib.Seq.{drop-cons}
use Rattle.model.proofs.Sums.{place-empty, place-joined, place-last}
use Rattle.ensemble.proofs.energies.Places.add_state_place.Goals as goal

pub returns-then-self-id-eq0 : goal.returns-then-self-id-eq0
returns-then-self-id-eq0 c = λ m t. let a = c.args in place-empty m a.id a.sum (drop (a.id + 1) a.self.now.configuration.now) c.if-self-id-eq0.true

pub returns-then-right-self : goal.returns-then-right-self
returns-then-right-self c = λ m t.
    let a = c.args in
    let s = a.self.now.configuration.now in
    let inside = c.requires in
    let occupied = c.if-self-id-eq0.false in
    let right : drop (a.id + 1) s ≡ get_or s (a.id + 1) 0 ∷ drop (a.id + 1 + 1) s = rw (add-one (a.id + 1)) (drop-cons s (a.id + 1) 0 c.if-right-self.true) in
    place-joined m a.id a.sum occupied (t.site a.id inside occupied) (t.potential a.id inside occupied) (t.pair a.id c.if-right-self.true) right

pub returns : goal.returns
returns c = λ m t.
    let a = c.args in
    let inside = c.requires in
    let occupied = c.if-self-id-eq0.false in
    place-last m a.id a.sum occupied (t.site a.id inside occupied) (t.potential a.id inside occupied) (drop_of_length-le a.self.now.configuration.now c.if-right-self.false)
