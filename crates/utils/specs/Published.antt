-- The energies beside the paper. That the code's arrays hold these doubles is proved in the contracts of src/tables.rt; here stands what the
-- doubles of Figures.antt, defined as those nearest to the decimals of Paper.antt, leave to be asked: that the decimals cover every window once,
-- where the entropies part from the paper's, and that dG, dH and dS agree with each other.
use Rattle.std.specs.Prelude.{◌≡◌, Bool, true, false, not, ◌&&◌, ◌||◌, List, map, ℕ, ◌+◌, ◌-◌, ◌*◌, ◌^◌, ◌<◌, leb, get_or, length, Ok}
use Rattle.std.specs.Float.Ieee.{neg}
use Rattle.lists.specs.Build.{keep}
use Rattle.doubles.specs.Decimal.{Decimal, minus, nearest}
use Rattle.doubles.specs.Sum.{sum_from}
use Rattle.reply.specs.First.{first_of}
use Rattle.utils.specs.Answers.{given_dg_ds}
use Rattle.utils.specs.Bases.{Base, bases, complement, complementary, same}
use Rattle.utils.specs.Paper.{Stack, table1, is_for, absent, stack_of, kilo, initiation_dg, initiation_ds, terminal_dg, terminal_ds, symmetry_dg, symmetry_ds, mismatch_of, table4, no_loop, loop_figure}
use Rattle.utils.specs.Figures.{stack_dg, entropy_of, stack_ds, start_dg, start_ds, printed_start_ds, end_dg, end_ds, symmetric_dg, symmetric_ds, mismatch_dg, loop_rows, loop_energy}
use Rattle.utils.specs.Single.{stack_sum, sequence_checks}
use Rattle.utils.specs.Terms.{reverse_complement, self_complementary, terms_after, published_dna_dg_ds}
use Rattle.utils.specs.declared.bases.DnaNucleotideBase.TheVariants.{A, T, G, C}
use Rattle.utils.specs.declared.tables.LoopKind.{LoopKind}

-- the windows whose entropy is not the paper's: TA, and GG and CC, which are one motif
abbrev pub parts : Base → Base → Bool
parts a b = same a T && same b A || same a G && same b G || same a C && same b C

-- each figure against the paper's: equal, but for the entries that are named
pub record AsPublished : Type 0 where
  -- each of the sixteen windows has one printed stack, as it is or turned by 180°
  pub once : (a b : Base) → length (keep (is_for a b) table1) ≡ 1
  -- each printed stack is found for its own two bases, and turned by 180°
  pub printed : (i : ℕ) → i < length table1 → stack_of (get_or table1 i absent).first (get_or table1 i absent).second ≡ get_or table1 i absent
  pub turned : (a b : Base) → stack_of (complement b) (complement a) ≡ stack_of a b
  -- good windows
  pub stack_energy : (a b : Base) → stack_dg a b ≡ nearest (stack_of a b).dg
  pub stack_entropy : (a b : Base) → parts a b ≡ false → stack_ds a b ≡ nearest (kilo (stack_of a b).ds)
  -- −0.0213 for −0.0204, and −0.0199 for −0.0190
  pub entropy_t_a : (stack_ds T A ≡ nearest (minus 213 4)) × (kilo (stack_of T A).ds ≡ minus 204 4)
  pub entropy_g_g : (stack_ds G G ≡ nearest (minus 199 4)) × (kilo (stack_of G G).ds ≡ minus 190 4)
  pub entropy_c_c : (stack_ds C C ≡ nearest (minus 199 4)) × (kilo (stack_of C C).ds ≡ minus 190 4)
  -- bad windows, read from whichever strand has the pair first
  pub pair_then_mismatch : (a1 a2 b1 b2 : Base) → complementary a1 b1 ≡ true → mismatch_dg a1 a2 b1 b2 ≡ nearest (mismatch_of a1 a2 b2)
  pub mismatch_then_pair : (a1 a2 b1 b2 : Base) → complementary a1 b1 ≡ false → complementary a2 b2 ≡ true → mismatch_dg a1 a2 b1 b2 ≡ nearest (mismatch_of b2 b1 a1)
  -- initiation: its entropy has the opposite sign
  pub initiation_energy : start_dg ≡ nearest initiation_dg
  pub initiation_entropy : start_ds ≡ neg (nearest (kilo initiation_ds))
  -- each row of the loop table from length 3 on: all but the two that are for bulges alone
  pub loops : (kind : LoopKind) (i : ℕ) → i < length loop_rows → loop_energy kind (get_or loop_rows i no_loop).length ≡ nearest (loop_figure kind (get_or loop_rows i no_loop))
  pub shorter : length table4 ≡ 2 + length loop_rows

-- the size of a decimal of at most six places, in millionths
abbrev pub millionths : Decimal → ℕ
millionths d = d.digits * 10 ^ (6 - d.places)

-- 310.15 K times an entropy of at most one place in cal/mol/K, in millionths of kcal/mol
abbrev pub heat_at37_c : Decimal → ℕ
heat_at37_c d = 31015 * d.digits * 10 ^ (1 - d.places)

-- dG = dH − 310.15 dS within 0.02 kcal/mol, all three below zero
abbrev pub agrees : Stack → Decimal → Bool
agrees s ds =
    s.dh.negative && ds.negative && s.dg.negative
    && leb (millionths s.dh) (millionths s.dg + heat_at37_c ds + 20000)
    && leb (millionths s.dg + heat_at37_c ds) (millionths s.dh + 20000)

-- whole numbers that owe nothing to the Rust's tables: enthalpies and entropies were transcribed by others than the energies
pub record Consistent : Type 0 where
  -- the entropies here agree with the printed energies and enthalpies in all sixteen windows
  pub taken : (a b : Base) → agrees (stack_of a b) (entropy_of a b) ≡ true
  -- the printed entropies do so in every window but those that part
  pub as_printed : (a b : Base) → agrees (stack_of a b) (stack_of a b).ds ≡ not (parts a b)

-- the published mode's terms after the pairs, against the paper
pub record PublishedTerms : Type 0 where
  -- each is the double nearest to the paper's decimal, dG and dS
  pub initiation : (start_dg ≡ nearest initiation_dg) × (printed_start_ds ≡ nearest (kilo initiation_ds))
  pub terminal : (end_dg ≡ nearest terminal_dg) × (end_ds ≡ nearest (kilo terminal_ds))
  pub symmetry : (symmetric_dg ≡ nearest symmetry_dg) × (symmetric_ds ≡ nearest (kilo symmetry_ds))
  -- the symmetry's are there exactly where the other strand reads the same
  pub symmetric : (s : List Base) → self_complementary s ≡ true → reverse_complement s ≡ s
  pub unsymmetric : (s : List Base) → self_complementary s ≡ false → reverse_complement s ≡ s → ⊥
  -- the answer is the pairs' sum followed by the paper's terms
  pub answer : (s : List ℕ) → first_of (sequence_checks s) ≡ Ok tt
      → published_dna_dg_ds s
      ≡ given_dg_ds (sum_from (stack_sum stack_dg (bases s)) (map nearest (terms_after initiation_dg terminal_dg symmetry_dg (bases s))))
      (sum_from (stack_sum stack_ds (bases s)) (map nearest (terms_after (kilo initiation_ds) (kilo terminal_ds) (kilo symmetry_ds) (bases s))))
