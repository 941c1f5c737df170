-- A place's argument is the model's. Assumes nothing.
use mathlib.Core.Path.{sym, ap, ◌∙◌}
use Prim.Native.Nat.{ℕ}
use lib.ListN.{get_or}
use Rattle.doubles.specs.Decimal.{zero}
use Rattle.probabilities.proofs.NearWeights.{place-is}
use Rattle.probabilities.proofs.weights.place_argument.Goals as goal

pub returns : goal.returns
returns c =
    let a = c.args in
    let bond = rw c.scaffold_glue.ensures at c.scaffold_bond-bond.ensures in
    let potential = c.potentials.ensures.friends a.position a.strand c.requires in
    place-is a.admitted.now a.position a.strand (rw c.admitted.view_is at bond) (c.number_at-potential.ensures ∙ ap (λ (k : ℕ). get_or c.potentials.result.now k zero) c.from.ensures ∙ sym potential)
