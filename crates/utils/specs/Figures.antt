-- The doubles that the energies are made of: each the one nearest to the paper's decimal, but for the entropies that the Rust has otherwise and for loops
-- between the paper's lengths.
use Rattle.std.specs.Prelude.{Bool, cond, ◌&&◌, ◌||◌, List, [], ◌∷◌, ℕ, ◌+◌, ◌*◌, ◌/◌, ◌^◌, eqb, leb, Float, get_or}
use Rattle.lists.specs.Build.{keep}
use Rattle.doubles.specs.Decimal.{Decimal, plus, minus, nearest, zero}
use Rattle.logarithm.specs.Figure.{mul_units, ln_whole, fixed}
use Rattle.utils.specs.Bases.{Base, same, complementary}
use Rattle.utils.specs.Paper.{stack_of, initiation_dg, initiation_ds, terminal_dg, terminal_ds, symmetry_dg, symmetry_ds, kilo, mismatch_of, Loop, no_loop, table4, loop_figure}
use Rattle.utils.specs.declared.bases.DnaNucleotideBase.TheVariants.{A, T, G, C}
use Rattle.utils.specs.declared.tables.LoopKind.{LoopKind}

-- dG of a good window
unfoldable pub stack_dg : Base → Base → Float
stack_dg a b = nearest (stack_of a b).dg

-- the Rust's entropies, in cal/mol/K: for TA, and for GG and CC, those of SantaLucia 1998
unfoldable pub entropy_of : Base → Base → Decimal
entropy_of a b =
    cond (same a T && same b A) (minus 213 1) (cond (same a G && same b G || same a C && same b C) (minus 199 1) (stack_of a b).ds)

-- dS of a good window, in kcal/mol/K
unfoldable pub stack_ds : Base → Base → Float
stack_ds a b = nearest (kilo (entropy_of a b))

-- dG of the initiation
unfoldable pub start_dg : Float
start_dg = nearest initiation_dg

-- the paper has −0.0057
unfoldable pub start_ds : Float
start_ds = nearest (plus 57 4)

-- what the published mode adds: the initiation's dS as printed, and the terms for ends and symmetry
unfoldable pub printed_start_ds : Float
printed_start_ds = nearest (kilo initiation_ds)

unfoldable pub end_dg : Float
end_dg = nearest terminal_dg

unfoldable pub end_ds : Float
end_ds = nearest (kilo terminal_ds)

unfoldable pub symmetric_dg : Float
symmetric_dg = nearest symmetry_dg

unfoldable pub symmetric_ds : Float
symmetric_ds = nearest (kilo symmetry_ds)

-- dG of a mismatch, 5'-PX-3' over 3'-P*Y-5'
unfoldable pub penalty : Base → Base → Base → Float
penalty p x y = nearest (mismatch_of p x y)

-- dG of a bad window, a1 a2 over b1 b2: read from whichever strand has the pair first; 0.0 where neither place pairs
unfoldable pub mismatch_dg : Base → Base → Base → Base → Float
mismatch_dg a1 a2 b1 b2 =
    cond (complementary a1 b1) (penalty a1 a2 b2) (cond (complementary a2 b2) (penalty b2 b1 a1) zero)

-- ---- loops

-- the shortest of LENGTHS; shorter loops are printed for bulges alone
abbrev pub shortest : ℕ
shortest = 3

-- the rows whose lengths are LENGTHS
unfoldable pub loop_rows : List Loop
loop_rows = keep (λ l. leb shortest l.length) table4

-- dG of an entry of LOOP_TABLE
unfoldable pub loop_entry : LoopKind → ℕ → Float
loop_entry kind at = nearest (loop_figure kind (get_or loop_rows at no_loop))

-- the last of these rows that is no longer than n, or else the one found before; they stand in rising order
unfoldable pub row_up_to : ℕ → Loop → List Loop → Loop
row_up_to n found [] = found
row_up_to n found (l ∷ ls) = cond (leb l.length n) (row_up_to n l ls) found

-- the longest entry at or below a length
unfoldable pub entry_up_to : ℕ → Loop
entry_up_to n = row_up_to n no_loop loop_rows

-- R × 310.15 × 2.44 in units of 2^-53, cut to a whole number; specs/LoopsNear.antt has it as a fraction
abbrev pub gain_units : ℕ
gain_units = 13545464151244108

-- tenths of a kcal/mol, and R × 310.15 × 2.44 × ln (n / base), added in units of 2^-46
unfoldable pub between_units : ℕ → ℕ → ℕ → ℕ
between_units tenths base n = tenths * 2 ^ 46 / 10 + 2 * mul_units gain_units (ln_whole n base)

-- dG of a loop by the longest entry up to its length: the entry's where it has the length itself, and otherwise with what the ratio adds
unfoldable pub energy_from : LoopKind → Loop → ℕ → Float
energy_from kind entry n = cond (eqb entry.length n) (nearest (loop_figure kind entry)) (fixed (between_units (loop_figure kind entry).digits entry.length n))

-- dG of a loop of any length that is admitted
unfoldable pub loop_energy : LoopKind → ℕ → Float
loop_energy kind n = energy_from kind (entry_up_to n) n

-- the longest loop: document 02's 254, as long as one can be between two strands of 256
abbrev pub longest : ℕ
longest = 254

-- a length that has an energy
abbrev pub admitted_length : ℕ → Bool
admitted_length n = leb shortest n && leb n longest
