-- The strength of one or two sequences (`sequences_strength`): (dG + 1.96) − (excess × (dS + 0.0057)), the excess handed in.
use Rattle.std.specs.Prelude.{Bool, not, List, [], ◌∷◌, ◌++◌, ℕ, Float}
use Rattle.std.specs.Float.{binary64}
use Rattle.std.specs.Float.Ieee.{add, sub, mul}
use Rattle.doubles.specs.Decimal.{plus, minus}
use Rattle.doubles.specs.Range.{in_range}
use Rattle.reply.specs.First.{Check, ◌if◌, first_of, answer}
use Rattle.reply.specs.declared.Refusal.TheVariants.{OutOfRange}
use Rattle.utils.specs.Answers.{DgFigures, refused_dg, given_dg}
use Rattle.utils.specs.Bases.{bases}
use Rattle.utils.specs.Figures.{stack_dg, stack_ds, start_dg, start_ds}
use Rattle.utils.specs.Single.{stack_sum, sequence_checks}
use Rattle.utils.specs.Pair.{pair_sums, pair_checks}

-- (dG + 1.96) − (excess × (dS + 0.0057))
unfoldable pub strength_at : Float → Float → Float → Float
strength_at excess dg ds = sub binary64 (add binary64 dg start_dg) (mul binary64 excess (add binary64 ds start_ds))

-- excess temperatures: ±1,024
unfoldable pub excess_in_range : Float → Bool
excess_in_range excess = in_range (minus 1024 0) (plus 1024 0) excess

-- what is refused of an excess
abbrev pub excess_checks : Float → List Check
excess_checks excess = OutOfRange if not (excess_in_range excess) ∷ []

-- the strength of one sequence, or its refusal
unfoldable pub sequence_strength : List ℕ → Float → DgFigures
sequence_strength sequence excess =
    answer (first_of (sequence_checks sequence ++ excess_checks excess)) refused_dg
    (given_dg (strength_at excess (stack_sum stack_dg (bases sequence)) (stack_sum stack_ds (bases sequence))))

-- the strength of two sequences, or their refusal
unfoldable pub pair_strength : List ℕ → List ℕ → Float → DgFigures
pair_strength a b excess =
    let sums = pair_sums (bases a) (bases b) in
    answer (first_of (pair_checks a b ++ excess_checks excess)) refused_dg (given_dg (strength_at excess sums.dg sums.ds))
