-- `settle::settle::glues_of` meets its contract. Assumes nothing.
use mathlib.Core.Path.{ap, ◌∙◌}
use Prim.Native.Nat.{ℕ}
use Rattle.std.proofs.Common.{rules}
use Rattle.sheet.specs.Said.{glues_shown}
use Rattle.settle.proofs.Taken.{taken}
use Rattle.settle.proofs.settle.glues_of.Goals as goal

pub returns : goal.returns
returns c =
    let s = c.args.sheet.now in
    let sound = s.sound in
    taken s.counts.positions c.glues.new.glues _ (search rules) ∙ c.glues.ensures ∙ ap (λ (k : ℕ). glues_shown k s.rows.now) (search rules)
