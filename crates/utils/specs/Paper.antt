-- The figures of SantaLucia and Hicks, "The thermodynamics of DNA structural motifs", Annu. Rev. Biophys. Biomol. Struct. 33 (2004), 415–440:
-- exact decimals, at 37 °C and 1 M NaCl. Energies and enthalpies in kcal/mol, entropies in cal/mol/K. The paper itself could not be had;
-- above each table stands whose transcription it is, and what it was held against.
use Rattle.std.specs.Prelude.{Bool, cond, ◌&&◌, ◌||◌, List, [], ◌∷◌, ℕ, ◌+◌}
use Rattle.doubles.specs.Decimal.{Decimal, plus, minus}
use Rattle.utils.specs.Bases.{Base, complement, same}
use Rattle.utils.specs.declared.bases.DnaNucleotideBase.TheVariants.{A, T, G, C}
use Rattle.utils.specs.declared.tables.LoopKind.{LoopKind}
use Rattle.utils.specs.declared.tables.LoopKind.TheVariants.{Internal, Bulge, HairPin}

-- ---- Table 1: stacks of two pairs. dH and dS by Biopython's DNA_NN4, which cites the paper; dG by document 01, which calls the Rust's the
-- paper's. `Consistent` in Published.antt holds the one against the other.

-- 5'-first second-3' over its complement
pub record Stack : Type 0 where
  pub first : Base
  pub second : Base
  pub dh : Decimal
  pub ds : Decimal
  pub dg : Decimal

-- a stack out of its two bases, dH, dS and dG
abbrev pub stack : Base → Base → Decimal → Decimal → Decimal → Stack
stack first second dh ds dg = record { first = first; second = second; dh = dh; ds = ds; dg = dg }

-- the ten that are printed
unfoldable pub table1 : List Stack
table1 =
    stack A A (minus 76 1) (minus 213 1) (minus 100 2)
    ∷ stack A T (minus 72 1) (minus 204 1) (minus 88 2)
    ∷ stack T A (minus 72 1) (minus 204 1) (minus 58 2)
    ∷ stack C A (minus 85 1) (minus 227 1) (minus 145 2)
    ∷ stack G T (minus 84 1) (minus 224 1) (minus 144 2)
    ∷ stack C T (minus 78 1) (minus 210 1) (minus 128 2)
    ∷ stack G A (minus 82 1) (minus 222 1) (minus 130 2)
    ∷ stack C G (minus 106 1) (minus 272 1) (minus 217 2)
    ∷ stack G C (minus 98 1) (minus 244 1) (minus 224 2)
    ∷ stack G G (minus 80 1) (minus 190 1) (minus 184 2)
    ∷ []

-- an entry is for a window as printed, or turned by 180°: read off the other strand
abbrev pub is_for : Base → Base → Stack → Bool
is_for a b s = same a s.first && same b s.second || same (complement b) s.first && same (complement a) s.second

-- what stands for a stack that is not there; by `once` in Published.antt none of the sixteen is missing
abbrev pub absent : Stack
absent = stack A A (plus 0 0) (plus 0 0) (plus 0 0)

-- the first entry for a window
unfoldable pub find : Base → Base → List Stack → Stack
find a b [] = absent
find a b (s ∷ rest) = cond (is_for a b s) s (find a b rest)

-- the stack of a window, one of sixteen
unfoldable pub stack_of : Base → Base → Stack
stack_of a b = find a b table1

-- dG of initiation, by document 01
unfoldable pub initiation_dg : Decimal
initiation_dg = plus 196 2

-- dS of initiation, by document 01 and DNA_NN4
unfoldable pub initiation_ds : Decimal
initiation_ds = minus 57 1

-- dG and dS for each end whose pair is A-as-T, by document 02 and DNA_NN4
unfoldable pub terminal_dg : Decimal
terminal_dg = plus 5 2

unfoldable pub terminal_ds : Decimal
terminal_ds = plus 69 1

-- dG and dS of a self-complementary sequence, by document 02 and DNA_NN4
unfoldable pub symmetry_dg : Decimal
symmetry_dg = plus 43 2

unfoldable pub symmetry_ds : Decimal
symmetry_ds = minus 14 1

-- cal/mol/K as kcal/mol/K
abbrev pub kilo : Decimal → Decimal
kilo d = record { negative = d.negative; digits = d.digits; places = d.places + 3 }

-- ---- Table 2: dG of single mismatches, 5'-PX-3' over 3'-P*Y-5', as the Rust gives them. Each lies within 0.07 kcal/mol of what Biopython's
-- DNA_IMM1, the primary measurements, makes of it.

-- a row of the table: its figure for each Y
pub record Row : Type 0 where
  pub y_a : Decimal
  pub y_c : Decimal
  pub y_g : Decimal
  pub y_t : Decimal

-- a row out of its four figures, in the paper's order A, C, G, T
abbrev row : Decimal → Decimal → Decimal → Decimal → Row
row a c g t = record { y_a = a; y_c = c; y_g = g; y_t = t }

-- X and Y pair: no mismatch, and nothing is printed
abbrev blank : Decimal
blank = plus 0 0

-- the rows of the table, by P and X
unfoldable pub table2 : Base → Base → Row
table2 G A = row (plus 17 2) (plus 81 2) (minus 25 2) blank
table2 G C = row (plus 47 2) (plus 79 2) blank (plus 62 2)
table2 G G = row (minus 52 2) blank (minus 111 2) (plus 8 2)
table2 G T = row blank (plus 98 2) (minus 59 2) (plus 45 2)
table2 C A = row (plus 43 2) (plus 75 2) (plus 3 2) blank
table2 C C = row (plus 79 2) (plus 70 2) blank (plus 62 2)
table2 C G = row (plus 11 2) blank (minus 11 2) (minus 47 2)
table2 C T = row blank (plus 40 2) (minus 32 2) (minus 12 2)
table2 A A = row (plus 61 2) (plus 88 2) (plus 14 2) blank
table2 A C = row (plus 77 2) (plus 133 2) blank (plus 64 2)
table2 A G = row (plus 2 2) blank (minus 13 2) (plus 71 2)
table2 A T = row blank (plus 73 2) (plus 7 2) (plus 69 2)
table2 T A = row (plus 69 2) (plus 92 2) (plus 42 2) blank
table2 T C = row (plus 133 2) (plus 105 2) blank (plus 97 2)
table2 T G = row (plus 74 2) blank (plus 44 2) (plus 43 2)
table2 T T = row blank (plus 75 2) (plus 34 2) (plus 68 2)

-- the figure of a row under Y
abbrev column : Base → Row → Decimal
column A r = r.y_a
column C r = r.y_c
column G r = r.y_g
column T r = r.y_t

-- the figure of a mismatch
unfoldable pub mismatch_of : Base → Base → Base → Decimal
mismatch_of p x y = column y (table2 p x)

-- ---- Table 4: dG of loops, in tenths, as the Rust gives them from length 3 on. All 45 agree with primer3's loops.ds, and the bulges of 1 and 2
-- are that file's.

-- a row of the table: a length, and the dG of each kind of loop
pub record Loop : Type 0 where
  pub length : ℕ
  pub internal : ℕ
  pub bulge : ℕ
  pub hairpin : ℕ

-- a row out of its length and three figures
abbrev loop : ℕ → ℕ → ℕ → ℕ → Loop
loop length internal bulge hairpin = record { length = length; internal = internal; bulge = bulge; hairpin = hairpin }

-- a length that is printed for bulges alone
abbrev bulge_only : ℕ → ℕ → Loop
bulge_only length bulge = loop length 0 bulge 0

-- the rows of the table, in the order of the lengths
unfoldable pub table4 : List Loop
table4 =
    bulge_only 1 40
    ∷ bulge_only 2 29
    ∷ loop 3 32 31 35
    ∷ loop 4 36 32 35
    ∷ loop 5 40 33 33
    ∷ loop 6 44 35 40
    ∷ loop 7 46 37 42
    ∷ loop 8 48 39 43
    ∷ loop 9 49 41 45
    ∷ loop 10 49 43 46
    ∷ loop 12 52 45 50
    ∷ loop 14 54 48 51
    ∷ loop 16 56 50 53
    ∷ loop 18 58 52 55
    ∷ loop 20 59 53 57
    ∷ loop 25 63 56 61
    ∷ loop 30 66 59 63
    ∷ []

-- what stands for a row that is not there
abbrev pub no_loop : Loop
no_loop = loop 0 0 0 0

-- the decimal of a row under a kind
abbrev pub loop_figure : LoopKind → Loop → Decimal
loop_figure Internal l = plus l.internal 1
loop_figure Bulge l = plus l.bulge 1
loop_figure HairPin l = plus l.hairpin 1
