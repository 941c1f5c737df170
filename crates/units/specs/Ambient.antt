-- The ambient helper of document 01: RT = (1.98720425864083 / 1000.0) × T, and both excesses T − 310.15.
use Rattle.std.specs.Prelude.{not, List, [], ◌∷◌, ℕ, Float, Result, Ok, Err}
use Rattle.std.specs.Float.{binary64}
use Rattle.std.specs.Float.Ieee.{mul, div, sub}
use Rattle.doubles.specs.Decimal.{nearest, plus, zero}
use Rattle.doubles.specs.Range.{in_range}
use Rattle.reply.specs.Number.{number_of, answered}
use Rattle.reply.specs.First.{Check, ◌if◌, first_of, answer}
use Rattle.reply.specs.declared.Refusal.TheVariants.{OutOfRange}
use Rattle.reply.specs.declared.Refusal.{Refusal}
use Rattle.units.specs.declared.Ambient.{Ambient}

-- document 01's number and figures of an answer
pub record Figures : Type 0 where
  pub number : ℕ
  pub rt : Float
  pub strand_excess : Float
  pub scaffold_excess : Float

-- a refusal carries no other figure
abbrev pub refused : ℕ → Figures
refused number = record { number = number; rt = zero; strand_excess = zero; scaffold_excess = zero }

-- an answer of the code as its number and figures
abbrev pub ambient_figures : Result Ambient Refusal → Figures
ambient_figures (Ok a) =
    record { number = answered; rt = a.rt.0; strand_excess = a.strand_excess.0; scaffold_excess = a.scaffold_excess.0 }
ambient_figures (Err refusal) = refused (number_of refusal)

-- the gas constant, in kcal/mol/K
unfoldable pub gas_constant : Float
gas_constant = div binary64 (nearest (plus 198720425864083 14)) (nearest (plus 1000 0))

-- the excess over 37 °C
unfoldable pub excess_over37_c : Float → Float
excess_over37_c kelvin = sub binary64 kelvin (nearest (plus 31015 2))

-- kelvin in the ambient helper: 200 to 500
abbrev pub ambient_checks : Float → List Check
ambient_checks kelvin = OutOfRange if not (in_range (plus 200 0) (plus 500 0) kelvin) ∷ []

-- the call's answer at a temperature
unfoldable pub ambient_at : Float → Figures
ambient_at kelvin =
    answer (first_of (ambient_checks kelvin)) refused
    (record {
      number = answered;
      rt = mul binary64 gas_constant kelvin;
      strand_excess = excess_over37_c kelvin;
      scaffold_excess = excess_over37_c kelvin;
    })
