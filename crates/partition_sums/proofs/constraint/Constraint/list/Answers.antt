-- A position has a list where it has a start. Assumes nothing.
use mathlib.Core.Path.{ap, ◌∙◌}
use mathlib.Core.List.{List, []}
use Prim.Native.Nat.{ℕ}
use lib.ListN.{get_or}
use Rattle.partition_sums.proofs.Constraints.{has_start, list-part}
use Rattle.partition_sums.proofs.constraint.Constraint.list.Goals as goal

pub returns : goal.returns
returns c =
    let s = c.self.inside in
    list-part s.numbers.now s.starts.now s.lengths.now c.args.position (has_start s.numbers.now s.starts.now s.lengths.now c.args.position c.self.view_is c.requires)
    ∙ ap (λ (lists : List (List ℕ)). get_or lists c.args.position []) c.self.view_is
