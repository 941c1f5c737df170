-- `sheet::amounts::has_none` meets its contract. Assumes nothing.
use mathlib.Core.Path.{◌≡◌, refl, ap, ◌∙◌}
use mathlib.Core.Bool.{Bool, true, false, cond, not}
use lib.Ieee.{Float}
use Rattle.std.specs.Prelude.{Ok, Err, is_err}
use Rattle.reply.specs.declared.Refusal.TheVariants.{TooDilute}
use Rattle.logarithm.specs.Figure.{ln_of}
use Rattle.logarithm.specs.Near.{has_logarithm}
use Rattle.logarithm.proofs.Told.{told}
use Rattle.sheet.proofs.amounts.has_none.Goals as goal

none : (has : Bool) (x : Float) → is_err (cond has (Ok x) (Err TooDilute)) ≡ not has
none true x = refl
none false x = refl

pub returns : goal.returns
returns c =
    let x = c.args.concentration in
    c.is_err.ensures.value ∙ ap is_err (told c.ln.result x c.ln.ensures) ∙ none (has_logarithm x) (ln_of x)
