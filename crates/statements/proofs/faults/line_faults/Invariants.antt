-- `statements::faults::line_faults` meets its contract: the faults that are left, laid from here on, give the whole. Assumes nothing.
use mathlib.Core.Path.{◌≡◌}
use Prim.Native.Nat.{◌≤◌, ◌+◌, ◌-◌}
use lib.ListN.{length, take}
use lib.Seq.{sets}
use Rattle.std.specs.Prelude.{min}
use Rattle.statements.specs.inner.Lines.{lines_left}
use Rattle.statements.specs.Faults.{faults_from, faults_of}
use Rattle.statements.proofs.faults.line_faults.Given as goal

abbrev pub invariant-loop-line : goal.invariant-loop-line
invariant-loop-line l =
    let left = l.line-iterator in
    let faults = faults_from l.text left.number (lines_left left) in
    let n = length l.initial.room in
    (left.text.now ≡ l.text) × (length l.room ≡ n) × (l.next ≤ n)
    × (min n (l.next + length faults) ≡ min n (length (faults_of l.text)))
    × (sets l.room l.next (take (n - l.next) faults) ≡ sets l.initial.room 0 (take n (faults_of l.text)))
