use mathlib.Core.Path.{◌≡◌, refl, ◌∙◌}
use mathlib.Core.Bool.{true, false}
use Prim.Native.Nat.{ℕ, ◌<◌}
use native.Mathlib.Omega.{arith}
use lib.ListN.{length, length-set}
use borrow.Author.Count.{below_more}
use Rattle.std.proofs.lemmas.Result.{err_from_is_err_and}
use Rattle.doubles.specs.Decimal.{zero}
use Rattle.logarithm.specs.Figure.{ln_of}
use Rattle.logarithm.specs.Near.{has_logarithm}
use Rattle.design.specs.Design.{amount}
use Rattle.design.specs.Checks.{somewhere, thin, dilute}
use Rattle.design.specs.Filling.{logarithm_in}
use Rattle.design.proofs.Parts.{places_more}
use Rattle.design.proofs.ReadLogarithms.{admits-thin, refuses-thin, dilute-at, not-dilute}
use Rattle.design.proofs.Design.fill_logarithms.Goals as goal

pub loop-strand-preserved : goal.loop-strand-preserved
loop-strand-preserved c =
    let d = c.args.self.now in
    let l = c.loop-strand in
    let x = l.strand in
    let inside : x < length l.logarithms = omega (arith, c.requires.room) in
    let read = admits-thin (somewhere d.scaffold d.marks d.glues d.dg d.ds x) (has_logarithm (amount d x)) (ln_of (amount d x)) c.in_ok-logarithms.field-0 (c.in_ok-logarithms.ensures) in (
      length-set l.logarithms x c.in_ok-logarithms.field-0 ∙ l.invariant.0,
      below_more (λ (k : ℕ). thin d k ≡ false) x l.invariant.1 read.0,
      places_more (λ (k : ℕ). logarithm_in (amount d k)) l.logarithms zero x inside read.1 l.invariant.2,
    )

pub returns-in_err-logarithms-clause-value : goal.returns-in_err-logarithms-clause-value
returns-in_err-logarithms-clause-value c =
    let d = c.args.self.now in
    let x = c.loop-strand.strand in
    let p = err_from_is_err_and c.from_residual.result c.from_residual.ensures.1 in
    let read = refuses-thin (somewhere d.scaffold d.marks d.glues d.dg d.ds x) (has_logarithm (amount d x)) (ln_of (amount d x)) c.in_err-logarithms.field-0.0 c.in_err-logarithms.ensures in
    let out : dilute d ≡ true = dilute-at d c.requires.given x (omega (arith, c.strands-strand-end.ensures)) read.0 in
    rw (p.1, p.2, read.1, out) refl

pub returns-clause-value : goal.returns-clause-value
returns-clause-value c =
    let d = c.args.self.now in
    rw (not-dilute d c.requires.given (λ k h. c.loop-strand.invariant.1 k (omega (arith, c.strands-strand-end.ensures)))) refl
