-- `utils::pair_strength` meets its contract: first the pair's checks, then the excess's, then the strength. Assumes nothing.
use mathlib.Core.Path.{◌≡◌, refl, sym, ap, ◌∙◌}
use mathlib.Core.List.{List, ◌++◌}
use Prim.Native.Nat.{ℕ}
use lib.Ieee.{Float}
use Rattle.reply.specs.First.{first_of}
use Rattle.reply.specs.Number.{number_of}
use Rattle.reply.specs.declared.Refusal.{Refusal}
use Rattle.reply.specs.declared.Refused.{Refused}
use Rattle.reply.proofs.Answer.{is-admitted, is-refused}
use Rattle.reply.proofs.First.{reply-append}
use Rattle.reply.proofs.Bare.{same-error, admitted, answers-later}
use Rattle.utils.specs.Answers.{DgDsFigures, refused_dg_ds, given_dg_ds, dg_ds_figures, DgFigures, refused_dg, given_dg, dg_figures}
use Rattle.utils.specs.Bases.{bases}
use Rattle.utils.specs.Pair.{pair_sums, pair_checks, sequence_pair_dg_ds}
use Rattle.utils.specs.Strength.{strength_at, excess_checks, pair_strength}
use Rattle.std.specs.Prelude.{Ok, Err}
use Rattle.utils.proofs.pair_strength.Goals as goal

number_of_dg_ds : DgDsFigures → ℕ
number_of_dg_ds f = f.number

module _ (a b : List ℕ) where
  figures : DgDsFigures
  figures = given_dg_ds (pair_sums (bases a) (bases b)).dg (pair_sums (bases a) (bases b)).ds

  -- a pair that is answered is admitted, and its figures are the sums
  given_pair : (dg ds : Float) → given_dg_ds dg ds ≡ sequence_pair_dg_ds a b → (first_of (pair_checks a b) ≡ Ok tt) × (given_dg_ds dg ds ≡ figures)
  unfolding sequence_pair_dg_ds number_of_dg_ds figures
  given_pair dg ds e = is-admitted number_of_dg_ds refused_dg_ds (λ n. refl) figures (first_of (pair_checks a b)) (given_dg_ds dg ds) refl e

  refused-pair : (why : Refusal) → refused_dg_ds (number_of why) ≡ sequence_pair_dg_ds a b → (e : Refused) × ((first_of (pair_checks a b) ≡ Err e) × (e.refusal ≡ why))
  unfolding sequence_pair_dg_ds number_of_dg_ds figures
  refused-pair why e = is-refused number_of_dg_ds refused_dg_ds (λ n. refl) figures (first_of (pair_checks a b)) why refl e

strength_of : Float → DgDsFigures → DgFigures
strength_of excess f = given_dg (strength_at excess f.dg f.ds)

pub returns-in_err-sums : goal.returns-in_err-sums
unfolding pair_strength
returns-in_err-sums c =
    let a = c.args.a.now in
    let b = c.args.b.now in
    let excess = c.args.excess.0 in
    let refused = refused-pair a b c.in_err-sums.field-0.0 (ap dg_ds_figures (sym c.in_err-sums.was) ∙ c.sequence_pair_dg_ds.ensures) in
    ap dg_figures (same-error _ c.from_residual.ensures) ∙ rw (reply-append (pair_checks a b) (excess_checks excess) refused.1.0, refused.1.1)

pub returns-in_err-refused_if : goal.returns-in_err-refused_if
unfolding pair_strength
returns-in_err-refused_if c =
    let a = c.args.a.now in
    let b = c.args.b.now in
    let pair = given_pair a b c.in_ok-sums.sums.dg.0 c.in_ok-sums.sums.ds.0 (ap dg_ds_figures (sym c.in_ok-sums.was) ∙ c.sequence_pair_dg_ds.ensures) in
    ap dg_figures (same-error _ c.from_residual-in_err-refused_if.ensures)
    ∙ answers-later (pair_checks a b) (excess_checks c.args.excess.0) refused_dg _ pair.0 (rw c.excess_in_range.ensures at c.in_err-refused_if.ensures)

pub returns : goal.returns
unfolding pair_strength strength_of figures
returns c =
    let a = c.args.a.now in
    let b = c.args.b.now in
    let excess = c.args.excess.0 in
    let pair = given_pair a b c.in_ok-sums.sums.dg.0 c.in_ok-sums.sums.ds.0 (ap dg_ds_figures (sym c.in_ok-sums.was) ∙ c.sequence_pair_dg_ds.ensures) in
    let reply : first_of (pair_checks a b ++ excess_checks excess) ≡ Ok tt =
    reply-append (pair_checks a b) (excess_checks excess) pair.0 ∙ admitted _ (rw c.excess_in_range.ensures at c.in_ok-refused_if.ensures) in
    rw reply (ap given_dg c.strength.ensures ∙ ap (strength_of excess) pair.1)
