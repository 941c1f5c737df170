-- Document 01's two positions with tables lent beside them, on which readings of document 02 part; proofs/Cases.antt works each of them out.
use Rattle.std.specs.Prelude.{◌≡◌, List, [], ◌∷◌, ℕ, set, replicate, Float, None, Some}
use Rattle.std.specs.Float.{nan}
use Rattle.doubles.specs.Decimal.{plus, minus, nearest, zero}
use Rattle.reply.specs.Figures.{given, refused_with}
use Rattle.reply.specs.declared.Refusal.TheVariants.{WrongSize, OutOfRange}
use Rattle.units.specs.declared.Ambient.{Ambient}
use Rattle.design.specs.declared.Amounts.TheVariants.{Potentials}
use Rattle.design.specs.Design.{Design, design}
use Rattle.bond_tables.specs.Answers.{energy_over_answer, search_over_answer, search_over_entries}

-- RT 0.5, and no excess
abbrev pub half : Ambient
half = record { rt = record { 0 = nearest (plus 5 1) }; strand_excess = record { 0 = zero }; scaffold_excess = record { 0 = zero } }

-- a friend at each position, strand 1 and strand 2; a dS cell that is out or not
unfoldable pub two_positions : Float → Design
unfolding nearest
two_positions ds =
    design (1 ∷ 2 ∷ []) (0 ∷ 0 ∷ []) (0 ∷ 0 ∷ 0 ∷ 0 ∷ 1 ∷ 0 ∷ 0 ∷ 2 ∷ 0 ∷ [])
    (set (set (replicate 4096 zero) 65 (nearest (minus 5 1))) 130 (nearest (minus 2 0)))
    (set (replicate 4096 zero) 4095 ds)
    (zero ∷ zero ∷ zero ∷ []) Potentials half

-- the strand bonds: strand 0 with strand 0 as given, strand 0 with strand 2 −3, all else 0
abbrev pub strand_cells : Float → List Float
strand_cells first = first ∷ zero ∷ nearest (minus 3 0) ∷ replicate 6 zero

-- the scaffold bonds of the two friends −1, all else 0
abbrev pub scaffold_cells : List Float
scaffold_cells = zero ∷ nearest (minus 1 0) ∷ zero ∷ zero ∷ zero ∷ nearest (minus 1 0) ∷ []

-- ---- a bond with an empty place counts

-- the chain reads it from an empty left neighbour, the state energy does not: so [0, 2] is shown with −2.0, and has the state energy −0.5
pub record EmptyPlacesCount : Type 0 where
  pub energy : (x y : ℕ) → search_over_answer (two_positions zero) (strand_cells zero) scaffold_cells (x ∷ y ∷ []) ≡ given (nearest (minus 2 0))
  pub shown : (x y : ℕ) → search_over_entries (two_positions zero) (strand_cells zero) scaffold_cells (x ∷ y ∷ []) ≡ 0 ∷ 2 ∷ []
  pub state : energy_over_answer (two_positions zero) (strand_cells zero) scaffold_cells (0 ∷ 2 ∷ []) ≡ given (nearest (minus 5 1))

-- ---- a cell that no state uses is looked at too

-- 80,000 is in range; a NaN is 9 without a place, and where a glue cell is out with that cell's place
pub record EveryCell : Type 0 where
  pub end : (x y : ℕ) → search_over_answer (two_positions zero) (strand_cells (nearest (plus 80000 0))) scaffold_cells (x ∷ y ∷ []) ≡ given (nearest (minus 2 0))
  pub above : (x y : ℕ) → search_over_answer (two_positions zero) (strand_cells (nearest (minus 80001 0))) scaffold_cells (x ∷ y ∷ []) ≡ refused_with zero OutOfRange None
  pub none : (x y : ℕ) → search_over_answer (two_positions zero) (strand_cells nan) scaffold_cells (x ∷ y ∷ []) ≡ refused_with zero OutOfRange None
  pub glue : (x y : ℕ) → search_over_answer (two_positions nan) (strand_cells nan) scaffold_cells (x ∷ y ∷ []) ≡ refused_with zero OutOfRange (Some 8191)
  pub long : (x y : ℕ) → search_over_answer (two_positions nan) (strand_cells nan) (zero ∷ scaffold_cells) (x ∷ y ∷ []) ≡ refused_with zero WrongSize None
