use mathlib.Core.Path.{◌≡◌, ◌∙◌, refl, subst, sym, ap}
use mathlib.Core.List.{[], ◌++◌, append_assoc, append-nil}
use Prim.Native.Nat.{◌-◌}
use native.Mathlib.Omega.{arith}
use Rattle.std.specs.Io.KnownBytes.{Appends}
use Rattle.std.proofs.KnownBytes.{Appends-trans, Appends-nil}
use Rattle.std.proofs.lemmas.List.{nil_from_length, take_all}
use lib.ListN.{length, take, drop, length-drop}
use Rattle.answers.specs.Shown.{run_text, shown_bytes}
use Rattle.answers.specs.Text.{pieces}
use Rattle.answers.proofs.Runs.{bytes_text, run-first}
use Rattle.answers.proofs.print.Printer.print_bytes.Goals as goal

pub loop-run-init : goal.loop-run-init
loop-run-init g c = ([], Appends-nil _, refl)

pub loop-run-preserved : goal.loop-run-preserved
loop-run-preserved g c =
    let style = c.args.style in
    let as_text = c.is_text-as_text.result in
    let l = c.loop-run in
    let w = l.invariant in
    let run = c.in-Some.run'.now in
    let rest = l.rest.now in
    let left = take (length rest - length run) (drop (length run) rest) in
    let all : left ≡ drop (length run) rest = take_all (length rest - length run) (drop (length run) rest) (omega (arith, length-drop (length run) rest)) in
    let is = c.in-Some.ensures in
    let first = run-first style as_text run left rest (is.1 ∙ ap (run ++◌) (sym all)) is.2 in
    let more = rw c.in_ok-print_run.was at c.print_run.ensures in
    (_, Appends-trans _ _ _ w.0 _ w.1 more, append_assoc w.0 (run_text style as_text run) (bytes_text style as_text left) ∙ ap (w.0 ++◌) (sym first) ∙ w.2)

pub returns : goal.returns
unfolding shown_bytes pieces
returns g c =
    let l = c.loop-run in
    let w = l.invariant in
    let all = sym (append-nil w.0) ∙ rw (nil_from_length l.rest.now c.in_default.ensures) at w.2 in
    subst (Appends _ _) (rw c.is_text-as_text.ensures at all) w.1
