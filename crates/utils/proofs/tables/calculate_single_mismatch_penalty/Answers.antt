-- `utils::calculate_single_mismatch_penalty` meets its contract: each way through is one case of `mismatch_dg`. Assumes nothing.
use mathlib.Core.Path.{sym, ◌∙◌}
use lib.Ieee.{of_bits}
use Rattle.utils.specs.Figures.{mismatch_dg}
use Rattle.utils.proofs.tables.calculate_single_mismatch_penalty.Goals as goal

pub returns-then-good_match : goal.returns-then-good_match
unfolding mismatch_dg
returns-then-good_match c =
    let first = sym c.good_match.ensures ∙ c.if-good_match.true in
    simp first c.calc_penalty.ensures

pub returns-then-good_match-2 : goal.returns-then-good_match-2
unfolding mismatch_dg
returns-then-good_match-2 c =
    let first = sym c.good_match.ensures ∙ c.if-good_match.false in
    let second = sym c.good_match-2.ensures ∙ c.if-good_match-2.true in
    simp (first, second) c.calc_penalty-then-good_match-2.ensures

pub returns : goal.returns
unfolding mismatch_dg of_bits
returns c =
    let first = sym c.good_match.ensures ∙ c.if-good_match.false in
    let second = sym c.good_match-2.ensures ∙ c.if-good_match-2.false in
    simp (first, second)
