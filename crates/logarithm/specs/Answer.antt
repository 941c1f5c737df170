-- The logarithm call: 15 for an argument that is not finite or lies outside 2^-60 to 2^10, and otherwise the figure.
use Rattle.std.specs.Prelude.{not, List, [], ◌∷◌, Float, None, Result, Ok, Err}
use Rattle.doubles.specs.Decimal.{zero}
use Rattle.reply.specs.First.{Check, ◌if◌, first_of}
use Rattle.reply.specs.Figures.{Figures, given, refused_with, figures_of}
use Rattle.reply.specs.declared.Refusal.{Refusal}
use Rattle.reply.specs.declared.Refusal.TheVariants.{TooDilute}
use Rattle.logarithm.specs.Figure.{ln_of}
use Rattle.logarithm.specs.Near.{has_logarithm}

-- when the call refuses
abbrev pub ln_checks : Float → List Check
ln_checks x = TooDilute if not (has_logarithm x) ∷ []

-- what it answers; the theorem `Logarithms` of specs/Near.antt says how near the figure lies
unfoldable pub ln_answer : Float → Figures Float
ln_answer x = figures_of (first_of (ln_checks x)) zero (ln_of x)

-- an answer of the code as its number and figure
abbrev pub ln_figures : Result Float Refusal → Figures Float
ln_figures (Ok figure) = given figure
ln_figures (Err refusal) = refused_with zero refusal None
