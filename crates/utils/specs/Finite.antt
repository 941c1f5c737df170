-- Within document 01's limits no sum over sequences can overflow: at most 256 bases, and an excess of at most 1,024 in size.
use Rattle.std.specs.Prelude.{List, ℕ, ◌≤◌, T, Float, length}
use Rattle.std.specs.Float.{binary64}
use Rattle.std.specs.Float.Ieee.{fits}
use Rattle.doubles.specs.Size.{Within}
use Rattle.utils.specs.Bases.{Base}
use Rattle.utils.specs.Figures.{stack_dg, stack_ds}
use Rattle.utils.specs.Single.{stack_sum, string_dna_dg_ds}
use Rattle.utils.specs.Pair.{pair_sums, sequence_pair_dg_ds}
use Rattle.utils.specs.Strength.{sequence_strength, pair_strength}

-- The sums over strands, finite and with a bound on their size, at each step too: the beginning of a strand is a strand.
pub record SumsFinite : Type 0 where
  -- one strand, at most 255 stacks: 3 for each in dG, and 1/32 in dS
  pub stack_energy : (s : List Base) → length s ≤ 256 → Within binary64 765 (stack_sum stack_dg s)
  pub stack_entropy : (s : List Base) → length s ≤ 256 → Within binary64 8 (stack_sum stack_ds s)
  -- two strands, of which the shorter ends the windows: 4 for each in dG, whatever the mismatches and loops, and 1/32 in dS
  pub pair_energy : (a b : List Base) → length a ≤ 256 → Within binary64 1020 (pair_sums a b).dg
  pub pair_entropy : (a b : List Base) → length a ≤ 256 → Within binary64 8 (pair_sums a b).ds

-- The answers, to whatever is sent: a refusal has 0.0. Figures are within the ranges of cells, dG ±1,024 and dS ±8. No step of a strength
-- overflows either: neither an infinity nor a NaN comes to be finite by adding, subtracting or multiplying.
pub record AnswersFinite : Type 0 where
  -- with the initiation, 2 in dG and 1/32 in dS
  pub sequence_dg : (sequence : List ℕ) → Within binary64 767 (string_dna_dg_ds sequence).dg
  pub sequence_ds : (sequence : List ℕ) → Within binary64 8 (string_dna_dg_ds sequence).ds
  -- without it
  pub pair_dg : (a b : List ℕ) → Within binary64 1020 (sequence_pair_dg_ds a b).dg
  pub pair_ds : (a b : List ℕ) → Within binary64 8 (sequence_pair_dg_ds a b).ds
  -- 767 + 1,024 × 8, and 1,022 + 1,024 × 8, for any double as the excess
  pub sequence_strength_dg : (sequence : List ℕ) (excess : Float) → T (fits binary64 excess) → Within binary64 8959 (sequence_strength sequence excess).dg
  pub pair_strength_dg : (a b : List ℕ) (excess : Float) → T (fits binary64 excess) → Within binary64 9214 (pair_strength a b excess).dg
