-- The free sum's answer is what is said of it. Assumes nothing.
use mathlib.Core.Path.{sym}
use Rattle.design.specs.Design.{model_of}
use Rattle.probabilities.proofs.Summable.{free-summed}
use Rattle.probabilities.proofs.free_sum_of_energies.Goals as goal

pub returns : goal.returns
returns c =
    let d = c.args.design.now in
    let f = rw c.in_ok-admitted.ensures.same at c.formed.ensures in
    (sym c.in_ok-admitted.ensures.value, (free-summed c.formed.result (model_of d) f.options f.near c.free_sum.result c.free_sum.ensures).right)
