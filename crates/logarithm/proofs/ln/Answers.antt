-- Assumes nothing.
use mathlib.Core.Path.{◌≡◌, ◌∙◌, refl, ap, sym}
use mathlib.Core.Bool.{Bool, true, false, not}
use Rattle.reply.specs.declared.Refusal.TheVariants.{TooDilute}
use Rattle.reply.proofs.Asked.{admits, exits}
use Rattle.logarithm.specs.Near.{has_logarithm}
use Rattle.logarithm.specs.Answer.{ln_figures, ln_answer}
use Rattle.logarithm.proofs.ln.Goals as goal

turned : (b : Bool) → not b ≡ false → b ≡ true
turned true e = refl
turned false e = sym e

pub ln_between-requires : goal.ln_between-requires
ln_between-requires c =
    let told = c.in_ok-refused_if.ensures in
    turned (has_logarithm c.args.x) (rw c.has_logarithm.ensures at (admits TooDilute (not c.has_logarithm.result) (told)))

pub returns-in_err-refused_if : goal.returns-in_err-refused_if
unfolding ln_answer
returns-in_err-refused_if c =
    let exit = exits c.from_residual.result TooDilute (not c.has_logarithm.result) _ c.from_residual.ensures.1 c.in_err-refused_if.ensures in
    let out : not (has_logarithm c.args.x) ≡ true = rw c.has_logarithm.ensures at exit.0 in
    ap ln_figures exit.1 ∙ rw out refl

pub returns : goal.returns
unfolding ln_answer
returns c =
    let told = c.in_ok-refused_if.ensures in
    let inside : not (has_logarithm c.args.x) ≡ false = rw c.has_logarithm.ensures at (admits TooDilute (not c.has_logarithm.result) told) in
    rw (inside, c.ln_between.ensures) refl
