use mathlib.Core.Path.{sym, ap, ◌∙◌}
use Prim.Native.Nat.{◌+◌}
use lib.ListN.{drop}
use lib.Ieee.{Float}
use Rattle.doubles.specs.Sum.{sum_from}
use Rattle.model.specs.Energy.{state_terms}
use Rattle.model.proofs.Sums.{state-more, state-done}
use Rattle.ensemble.proofs.energies.Places.state_sum.Goals as goal

pub loop-id-preserved : goal.loop-id-preserved
loop-id-preserved c = λ m t.
    let l = c.loop-id in
    let s = c.args.self.now.configuration.now in
    let rest : Float → Float = λ sum. sum_from sum (state_terms m (l.id + 1) (drop (l.id + 1) s)) in
    l.invariant m t ∙ state-more m s l.sum l.id c.loop-id-test.true ∙ ap rest (sym (c.add_state_place-sum.ensures m t))

pub returns : goal.returns
returns c = λ m t. sym (c.loop-id.invariant m t ∙ state-done m c.args.self.now.configuration.now c.loop-id.sum c.loop-id.id c.loop-id-test.false)
