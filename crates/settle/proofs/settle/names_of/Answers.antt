-- `settle::settle::names_of` meets its contract. Assumes nothing.
use mathlib.Core.Path.{ap, ◌∙◌}
use Prim.Native.Nat.{ℕ}
use Rattle.std.proofs.Common.{rules}
use Rattle.sheet.specs.Said.{strands_shown}
use Rattle.settle.proofs.Taken.{taken}
use Rattle.settle.proofs.settle.names_of.Goals as goal

pub returns : goal.returns
returns c =
    let s = c.args.sheet.now in
    let sound = s.sound in
    taken s.counts.strands c.strands.new.names _ (search rules) ∙ c.strands.ensures ∙ ap (λ (k : ℕ). strands_shown k s.rows.now) (search rules)
