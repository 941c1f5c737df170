-- Designs that come with concentrations, worked out: which of these are looked at and how far they may go, the number of the reply where there are two
-- faults, and that a concentration answers as its logarithm.
use Rattle.std.specs.Prelude.{◌≡◌, List, [], ◌∷◌, false, true, ◌-◌, ◌+◌, ◌^◌, ℕ, set, replicate, Float, None, Some, pos}
use Rattle.std.specs.Float.{nan, inf, fin, binary64}
use Rattle.std.specs.Float.Ieee.{round}
use Rattle.doubles.specs.Decimal.{plus, minus, nearest, zero}
use Rattle.units.specs.declared.Ambient.{Ambient}
use Rattle.reply.specs.Figures.{refused_with}
use Rattle.reply.specs.declared.Refusal.TheVariants.{WrongSize, OutOfRange, NullBinds, NotAFriend, TooManyStates, RankTooHigh, TooDilute}
use Rattle.design.specs.declared.Amounts.TheVariants.{Concentrations}
use Rattle.design.specs.Design.{Design, design}
use Rattle.design.specs.Answers.{count_answer, rank_answer, state_energy_answer}
use Rattle.mfe.specs.Answers.{search_answer, search_entries}
use Rattle.bench_table.specs.Designs.{half, zeros}
use Rattle.bench_table.specs.Faults.{cold, bound, null_bound, mild, one}

-- one position, of which strand 1 is a friend and strand 2 is not; the concentrations of strand 1 and of strand 2, and none of strand 0
abbrev pub solution : List Float → List Float → Float → Float → Ambient → Design
solution dg ds friend other ambient =
    design (1 ∷ []) (0 ∷ []) (0 ∷ 0 ∷ 0 ∷ 0 ∷ 1 ∷ 0 ∷ 0 ∷ 2 ∷ 0 ∷ []) dg ds (nan ∷ friend ∷ other ∷ []) Concentrations ambient

-- 2^-60, and the double below it; 2^10, and the double above it
abbrev pub least : Float
least = round binary64 false 1 (2 ^ 60)

abbrev pub below_least : Float
below_least = round binary64 false (2 ^ 53 - 1) (2 ^ 113)

abbrev pub most : Float
most = round binary64 false (2 ^ 10) 1

abbrev pub above_most : Float
above_most = round binary64 false (2 ^ 52 + 1) (2 ^ 42)

-- 1 mol/L
abbrev pub one_molar : Float
one_molar = nearest (plus 1 0)

-- both ends are taken, and nothing outside them; strand 0's concentration and that of a strand that is no friend are not looked at
pub record ConcentrationEnds : Type 0 where
  pub least_taken : (x : ℕ) → (search_answer (solution bound zeros least nan half) (x ∷ [])).number ≡ 0
  pub most_taken : (x : ℕ) → (search_answer (solution bound zeros most (inf true) half) (x ∷ [])).number ≡ 0
  pub below : (x : ℕ) → search_answer (solution bound zeros below_least zero half) (x ∷ []) ≡ refused_with zero TooDilute None
  pub above : (x : ℕ) → search_answer (solution bound zeros above_most zero half) (x ∷ []) ≡ refused_with zero TooDilute None
  pub nothing : (x : ℕ) → search_answer (solution bound zeros zero one_molar half) (x ∷ []) ≡ refused_with zero TooDilute None
  pub minus_zero : (x : ℕ) → search_answer (solution bound zeros (fin true 0 (pos 0)) one_molar half) (x ∷ []) ≡ refused_with zero TooDilute None
  pub negative : (x : ℕ) → search_answer (solution bound zeros (nearest (minus 1 0)) one_molar half) (x ∷ []) ≡ refused_with zero TooDilute None
  pub no_number : (x : ℕ) → search_answer (solution bound zeros nan one_molar half) (x ∷ []) ≡ refused_with zero TooDilute None
  pub endless : (x : ℕ) → search_answer (solution bound zeros (inf false) one_molar half) (x ∷ []) ≡ refused_with zero TooDilute None

-- Of two faults at once, one of them a dilute concentration, the lower number is given.
pub record DiluteAndMore : Type 0 where
  pub entry : (x y : ℕ) → search_answer (solution bound zeros zero zero half) (x ∷ y ∷ []) ≡ refused_with zero WrongSize None
  pub cell : (x : ℕ) → search_answer (solution (set bound 4095 nan) zeros zero zero half) (x ∷ []) ≡ refused_with zero OutOfRange (Some 4095)
  pub null : (x : ℕ) → search_answer (solution null_bound zeros zero zero half) (x ∷ []) ≡ refused_with zero NullBinds None
  pub stranger : state_energy_answer (solution bound zeros zero zero half) (2 ∷ []) ≡ refused_with zero NotAFriend None
  pub many :
      count_answer (design (replicate 21 1) (replicate 21 0) (0 ∷ 0 ∷ 0 ∷ 0 ∷ 1 ∷ 0 ∷ []) bound zeros mild Concentrations half) ≡ refused_with 0 TooManyStates None
  pub rank : (x : ℕ) → rank_answer (solution bound zeros zero zero half) 2 (x ∷ []) ≡ refused_with tt RankTooHigh None
  pub ambient : (x : ℕ) → search_answer (solution bound zeros zero zero cold) (x ∷ []) ≡ refused_with zero TooDilute None

-- at 1 mol/L a design answers as at potential 0.0
pub record AsItsLogarithm : Type 0 where
  pub answer : (x : ℕ) → search_answer (solution bound zeros one_molar nan half) (x ∷ []) ≡ search_answer (one bound zeros mild half) (x ∷ [])
  pub entries : (x : ℕ) → search_entries (solution bound zeros one_molar nan half) (x ∷ []) ≡ search_entries (one bound zeros mild half) (x ∷ [])
