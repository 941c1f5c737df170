use mathlib.Core.Path.{refl, sym, ap, ◌∙◌}
use Prim.Native.Nat.{◌+◌}
use lib.ListN.{drop}
use lib.Ieee.{Float, of_bits}
use Rattle.doubles.specs.Sum.{sum_from}
use Rattle.model.specs.Energy.{left_of, chain_terms, chain_energy}
use Rattle.model.proofs.Sums.{chain_more, chain-done}
use Rattle.ensemble.proofs.energies.Places.chain_sum.Goals as goal

pub loop-position-init : goal.loop-position-init
unfolding of_bits chain_energy
loop-position-init c = λ m t. refl

pub loop-position-preserved : goal.loop-position-preserved
loop-position-preserved c = λ m t.
    let l = c.loop-position in
    let s = c.args.self.now.configuration.now in
    let rest : Float → Float = λ sum. sum_from sum (chain_terms m (l.position + 1) (left_of s (l.position + 1)) (drop (l.position + 1) s)) in
    l.invariant m t ∙ chain_more m s l.sum l.position c.loop-position-test.true ∙ ap rest (sym (c.add_chain_place-sum.ensures m t))

pub returns : goal.returns
returns c = λ m t. sym (c.loop-position.invariant m t ∙ chain-done m c.args.self.now.configuration.now c.loop-position.sum c.loop-position.position c.loop-position-test.false)
