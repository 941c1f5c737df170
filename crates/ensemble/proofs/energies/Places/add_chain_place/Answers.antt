-- One place of the chain sum meets its contract: the terms are added in the order of the definition. Assumes nothing.
use mathlib.Core.Path.{◌≡◌, ap, ◌∙◌}
use Prim.Native.Nat.{ℕ, ◌+◌, ◌-◌}
use native.Mathlib.Omega.{arith}
use Rattle.model.specs.Energy.{left_of}
use Rattle.model.specs.Model.{occupant}
use Rattle.model.proofs.Sums.{chain-empty, chain-joined, chain_first, left-before}
use Rattle.ensemble.specs.Layout.{terms_at}
use Rattle.ensemble.proofs.energies.Places.add_chain_place.Goals as goal

pub returns-then-self-position-eq0 : goal.returns-then-self-position-eq0
returns-then-self-position-eq0 c = λ m t. let a = c.args in chain-empty m a.position a.sum (left_of a.self.now.configuration.now a.position) c.if-self-position-eq0.true

pub returns-then-position-eq0 : goal.returns-then-position-eq0
returns-then-position-eq0 c = λ m t.
    let a = c.args in
    let inside = c.requires in
    let occupied = c.if-self-position-eq0.false in
    chain_first m a.position a.sum occupied (t.site a.position inside occupied) (t.potential a.position inside occupied) (ap (left_of a.self.now.configuration.now) c.if-position-eq0.true)

pub returns : goal.returns
returns c = λ m t.
    let a = c.args in
    let s = a.self.now.configuration.now in
    let inside = c.requires in
    let occupied = c.if-self-position-eq0.false in
    let later = c.if-position-eq0.false in
    let i = a.position - 1 in
    let same : i + 1 ≡ a.position = omega arith in
    let pair : (terms_at a.self.now.terms.now i).pair ≡ m.pair (occupant s i) (occupant s a.position) = t.pair i (rw same inside) ∙ ap (λ (k : ℕ). m.pair (occupant s i) (occupant s k)) same in
    chain-joined m a.position a.sum occupied (t.site a.position inside occupied) (t.potential a.position inside occupied) pair (left-before s a.position later)
