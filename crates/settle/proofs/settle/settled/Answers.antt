-- `settle::settle::settled` meets its contract. Assumes nothing.
use mathlib.Core.Path.{subst, ◌≡◌, refl, sym, ap, ◌∙◌}
use mathlib.Core.List.{List}
use Prim.Native.Nat.{ℕ, ◌+◌, ◌*◌}
use native.Mathlib.Omega.{arith}
use lib.Ieee.{of_bits}
use lib.ListN.{take, replicate}
use Rattle.std.proofs.Common.{rules}
use Rattle.std.specs.Prelude.{Float, Err, IfOk}
use Rattle.std.proofs.lemmas.List.{take-replicate}
use Rattle.doubles.specs.Decimal.{zero}
use Rattle.sdc1d_params.specs.Params.{lent_of}
use Rattle.sdc1d_params.specs.Tables.{empty_table}
use Rattle.sheet.specs.Said.{marks_said, potentials_said, ring_said}
use Rattle.settle.specs.Searches.{AnsweredBy}
use Rattle.settle.specs.Files.{lent_said, room_for, said_told, design_told}
use Rattle.design.specs.Design.{Design}
use Rattle.settle.proofs.Said.{designed}
use Rattle.settle.proofs.settle.settled.Goals as goal

pub build-requires : goal.build-requires
unfolding empty_table of_bits
build-requires c =
    let s = c.args.sheet.now in
    let sound = s.sound in
    let n = 3 * (s.counts.strands + 3) in
    let m = s.counts.positions in
    let few = sound.strands.1 in
    let short = sound.positions.1 in
    let cells : List Float = replicate 4096 zero in
    let glues : take n (replicate {A = ℕ} 192 0) ≡ replicate n 0 = take-replicate n 192 0 (omega arith) in
    let scaffold : take m (replicate {A = ℕ} 128 0) ≡ replicate m 0 = take-replicate m 128 0 (omega arith) in
    let zeros : lent_of (take n (replicate {A = ℕ} 192 0)) (take m (replicate {A = ℕ} 128 0)) cells cells ≡ lent_said s.rows.now = rw (glues, scaffold, sound.strands.0, sound.positions.0) refl in
    record { lent = zeros }

pub returns-in_err-build-clause-told : goal.returns-in_err-build-clause-told
unfolding design_told
returns-in_err-build-clause-told c =
    let u = c.in_err-build.field-0.0 in
    let out : c.from_residual.result ≡ Err u = search rules in
    let ends = rw c.in_err-build.was at c.build.ensures.ends in
    rw out (sym (ends _))

pub returns-in_err-ambient-clause-told : goal.returns-in_err-ambient-clause-told
unfolding design_told
returns-in_err-ambient-clause-told c =
    let u = c.in_err-ambient.field-0.0 in
    let out : c.from_residual-in_err-ambient.result ≡ Err u = search rules in
    let goes = rw c.in_ok-build.was at c.build.ensures.goes_on in
    let ends = rw c.in_err-ambient.was at c.ambient_of.ensures.ends in
    rw out (sym (goes _ ∙ ends _))

pub returns-clause-told : goal.returns-clause-told
unfolding design_told
returns-clause-told c =
    let s = c.args.sheet.now in
    let goes = rw c.in_ok-build.was at c.build.ensures.goes_on in
    let built = rw c.in_ok-build.was at c.build.ensures.built in
    let goes' = rw c.in_ok-ambient.was at c.ambient_of.ensures.goes_on in
    let given = rw c.in_ok-ambient.was at c.ambient_of.ensures.given in
    let rows = s.rows.now in
    let sound = s.sound in
    let few = sound.strands.1 in
    let short = sound.positions.1 in
    let marks = c.marks.ensures ∙ ap (λ (k : ℕ). marks_said k rows) (search rules) in
    let potentials = c.potentials.ensures ∙ ap (λ (k : ℕ). potentials_said k rows) (search rules) in
    let same = c.new-design.ensures ∙ designed c.args.which s.text.now rows _ _ _ _ built marks potentials given in
    c.said.ensures.told ∙ ap (said_told s.text.now rows) same ∙ sym (goes _ ∙ goes' _)

pub returns-clause-lowest : goal.returns-clause-lowest
returns-clause-lowest c =
    let s = c.args.sheet.now in
    let built = rw c.in_ok-build.was at c.build.ensures.built in
    let given = rw c.in_ok-ambient.was at c.ambient_of.ensures.given in
    let rows = s.rows.now in
    let sound = s.sound in
    let few = sound.strands.1 in
    let short = sound.positions.1 in
    let marks = c.marks.ensures ∙ ap (λ (k : ℕ). marks_said k rows) (search rules) in
    let potentials = c.potentials.ensures ∙ ap (λ (k : ℕ). potentials_said k rows) (search rules) in
    let same = c.new-design.ensures ∙ designed c.args.which s.text.now rows _ _ _ _ built marks potentials given in
    subst (λ (d : Design). IfOk c.said.result (λ f. AnsweredBy (ring_said rows) d (room_for rows))) same c.said.ensures.lowest
