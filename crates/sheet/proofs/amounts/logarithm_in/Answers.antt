-- `sheet::amounts::logarithm_in` meets its contract. Assumes nothing.
use mathlib.Core.Path.{◌≡◌, refl, ap, ◌∙◌}
use mathlib.Core.Bool.{Bool, true, false, cond}
use lib.Ieee.{Float, of_bits}
use Rattle.std.specs.Prelude.{Result, Ok, Err}
use Rattle.std.specs.Result.{result_unwrap_or}
use Rattle.doubles.specs.Decimal.{zero}
use Rattle.reply.specs.declared.Refusal.{Refusal}
use Rattle.reply.specs.declared.Refusal.TheVariants.{TooDilute}
use Rattle.logarithm.specs.Figure.{ln_of}
use Rattle.logarithm.specs.Near.{has_logarithm}
use Rattle.logarithm.proofs.Told.{told}
use Rattle.sheet.proofs.amounts.logarithm_in.Goals as goal

figure : (has : Bool) (x : Float) → result_unwrap_or (cond has (Ok x) (Err TooDilute)) zero ≡ cond has x zero
figure true x = refl
figure false x = refl

pub returns : goal.returns
unfolding of_bits
returns c =
    let x = c.args.concentration in
    c.unwrap_or.ensures ∙ ap (λ (r : Result Float Refusal). result_unwrap_or r zero) (told c.ln.result x c.ln.ensures) ∙ figure (has_logarithm x) (ln_of x)
