use mathlib.Core.Path.{◌≡◌, sym, ap, ◌∙◌}
use mathlib.Core.Bool.{Bool, true, false, not}
use mathlib.Core.List.{[], ◌∷◌}
use lib.Ieee.{neg, of_bits}
use Rattle.std.specs.Prelude.{Some}
use Rattle.std.proofs.lemmas.Result.{err_from_is_err_and}
use Rattle.doubles.specs.Decimal.{nearest}
use Rattle.reply.specs.First.{first_of, ◌if◌at◌}
use Rattle.reply.specs.declared.Refusal.TheVariants.{AmbientOut}
use Rattle.design.specs.Checks.{rt_out, strand_excess_out, ambient_out, bad_ambient}
use Rattle.design.proofs.Replies.{told-true, told-false}
use Rattle.design.proofs.checks.ambient_reply.Goals as goal

pub returns-in_err-refused_at : goal.returns-in_err-refused_at
unfolding ambient_out bad_ambient nearest neg of_bits
returns-in_err-refused_at c =
    let p = err_from_is_err_and c.from_residual.result c.from_residual.ensures.1 in
    let told = told-true (not c.in_range-rt_in.result) AmbientOut (Some 0) c.in_err-refused_at.ensures in
    let rt : rt_out c.args.ambient ≡ true = ap not (sym c.in_range-rt_in.ensures) ∙ told in
    rw (p.1, p.2) (simp rt (rw told at c.in_err-refused_at.ensures))

pub returns-in_err-refused_at-2 : goal.returns-in_err-refused_at-2
unfolding ambient_out bad_ambient nearest neg of_bits
returns-in_err-refused_at-2 c =
    let p = err_from_is_err_and c.from_residual-in_err-refused_at-2.result c.from_residual-in_err-refused_at-2.ensures.1 in
    let told = told-true (not c.in_range-strand_in.result) AmbientOut (Some 1) c.in_err-refused_at-2.ensures in
    let rt : rt_out c.args.ambient ≡ false = ap not (sym c.in_range-rt_in.ensures) ∙ told-false (not c.in_range-rt_in.result) AmbientOut (Some 0) c.in_ok-refused_at.ensures in
    let strand : strand_excess_out c.args.ambient ≡ true = ap not (sym c.in_range-strand_in.ensures) ∙ told in
    rw (p.1, p.2) (simp (rt, strand) (rw told at c.in_err-refused_at-2.ensures))

pub returns : goal.returns
unfolding ambient_out bad_ambient nearest neg of_bits
returns c =
    let rt : rt_out c.args.ambient ≡ false = ap not (sym c.in_range-rt_in.ensures) ∙ told-false (not c.in_range-rt_in.result) AmbientOut (Some 0) c.in_ok-refused_at.ensures in
    let strand : strand_excess_out c.args.ambient ≡ false = ap not (sym c.in_range-strand_in.ensures) ∙ told-false (not c.in_range-strand_in.result) AmbientOut (Some 1) c.in_ok-refused_at-2.ensures in
    simp (rt, strand) (c.refused_at-3.ensures ∙ ap (λ (b : Bool). first_of (AmbientOut if not b at 2 ∷ [])) c.in_range-scaffold_in.ensures)
