-- `settle::settle::marks_of` meets its contract. Assumes nothing.
use mathlib.Core.Path.{ap, ◌∙◌}
use Prim.Native.Nat.{ℕ}
use Rattle.std.proofs.Common.{rules}
use Rattle.sheet.specs.Said.{marks_said}
use Rattle.settle.proofs.Taken.{taken}
use Rattle.settle.proofs.settle.marks_of.Goals as goal

pub returns : goal.returns
returns c =
    let s = c.args.sheet.now in
    let sound = s.sound in
    taken s.counts.positions c.marks.new.marks _ (search rules) ∙ c.marks.ensures ∙ ap (λ (k : ℕ). marks_said k s.rows.now) (search rules)
