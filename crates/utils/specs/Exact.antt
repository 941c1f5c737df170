-- Whole duplexes without rounding: the decimals of a sequence added as whole numbers, and how near the answers of both modes lie to that.
use Rattle.std.specs.Prelude.{◌≡◌, Bool, cond, List, [], ◌∷◌, ◌++◌, map, ℕ, ◌+◌, ◌*◌, ◌^◌, Float, Ok}
use Rattle.std.specs.Float.{binary64}
use Rattle.doubles.specs.Decimal.{Decimal, plus}
use Rattle.doubles.specs.Order.{over_part, under_part}
use Rattle.doubles.specs.Size.{Within}
use Rattle.doubles.specs.Near.{two_to_minus, NearFraction}
use Rattle.reply.specs.First.{first_of}
use Rattle.utils.specs.Bases.{Base, bases}
use Rattle.utils.specs.Paper.{stack_of, initiation_dg, initiation_ds, terminal_dg, terminal_ds, symmetry_dg, symmetry_ds, kilo}
use Rattle.utils.specs.Figures.{entropy_of}
use Rattle.utils.specs.Single.{Neighbours, neighbours, sequence_checks, string_dna_dg_ds}
use Rattle.utils.specs.Terms.{is_a_or_t, first_base, last_base, self_complementary, terms_after, published_dna_dg_ds}

-- the digits of a decimal that is above zero, and of one that is below
abbrev pub above : Decimal → ℕ
above d = over_part d.negative d.digits

abbrev pub below : Decimal → ℕ
below d = under_part d.negative d.digits

-- such digits of several decimals together
unfoldable pub together : (Decimal → ℕ) → List Decimal → ℕ
together part [] = 0
together part (d ∷ ds) = part d + together part ds

-- the decimals of the stacks, in hundredths of kcal/mol
abbrev pub dg_of : Neighbours → Decimal
dg_of n = (stack_of n.first n.second).dg

-- in ten-thousandths of kcal/mol/K, with the entropies that the Rust takes
abbrev pub ds_of : Neighbours → Decimal
ds_of n = kilo (entropy_of n.first n.second)

-- the decimals of a sequence in each mode: its stacks, then the terms
abbrev pub old_dg : List Base → List Decimal
old_dg s = map dg_of (neighbours s) ++ (initiation_dg ∷ [])

abbrev pub old_ds : List Base → List Decimal
old_ds s = map ds_of (neighbours s) ++ (plus 57 4 ∷ [])

abbrev pub paper_dg : List Base → List Decimal
paper_dg s = map dg_of (neighbours s) ++ terms_after initiation_dg terminal_dg symmetry_dg s

abbrev pub paper_ds : List Base → List Decimal
paper_ds s = map ds_of (neighbours s) ++ terms_after (kilo initiation_ds) (kilo terminal_ds) (kilo symmetry_ds) s

-- x lies within 2⁻ⁿ of the exact sum of decimals that have so many places
abbrev pub NearSum : ℕ → ℕ → Float → List Decimal → Type 0
NearSum n places x ds = NearFraction binary64 (two_to_minus binary64 n) x (together above ds) (together below ds) (10 ^ places)

-- 1 where it is so
abbrev pub count : Bool → ℕ
count b = cond b 1 0

-- the ends whose pair is A-as-T
abbrev pub weak_ends : List Base → ℕ
weak_ends s = count (is_a_or_t (first_base s)) + count (is_a_or_t (last_base s))

-- for every sequence of 2 to 256 bases
pub record WholeDuplexes : Type 0 where
  -- dG within 2⁻³⁴ kcal/mol of the exact sum in hundredths, dS within 2⁻³⁴ kcal/mol/K of that in ten-thousandths
  pub old_energy : (s : List ℕ) → first_of (sequence_checks s) ≡ Ok tt → NearSum 34 2 (string_dna_dg_ds s).dg (old_dg (bases s))
  pub old_entropy : (s : List ℕ) → first_of (sequence_checks s) ≡ Ok tt → NearSum 34 4 (string_dna_dg_ds s).ds (old_ds (bases s))
  pub paper_energy : (s : List ℕ) → first_of (sequence_checks s) ≡ Ok tt → NearSum 34 2 (published_dna_dg_ds s).dg (paper_dg (bases s))
  pub paper_entropy : (s : List ℕ) → first_of (sequence_checks s) ≡ Ok tt → NearSum 34 4 (published_dna_dg_ds s).ds (paper_ds (bases s))
  -- the published answers, to whatever is sent, are finite; a refusal has 0.0
  pub paper_finite : (s : List ℕ) → Within binary64 773 (published_dna_dg_ds s).dg × Within binary64 12 (published_dna_dg_ds s).ds
  -- the exact energies of the modes part by 0.05 for each A-as-T end and 0.43 for a self-complementary sequence
  pub dg_apart : (s : List Base) → together above (paper_dg s) ≡ together above (old_dg s) + (5 * weak_ends s + 43 * count (self_complementary s))
  pub dg_alike : (s : List Base) → together below (paper_dg s) ≡ together below (old_dg s)
  -- the exact entropies: 0.0069 for each such end over zero where the old mode has 0.0057, and 0.0057 and 0.0014 more under it
  pub ds_above : (s : List Base) → together above (paper_ds s) + 57 ≡ together above (old_ds s) + 69 * weak_ends s
  pub ds_below : (s : List Base) → together below (paper_ds s) ≡ together below (old_ds s) + (57 + 14 * count (self_complementary s))
