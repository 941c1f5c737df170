-- `sdc_common::rows` meets its contract. Assumes nothing.
use mathlib.Core.Path.{ap, ◌∙◌}
use mathlib.Core.List.{List, []}
use Prim.Native.Nat.{ℕ}
use lib.ListN.{get_or}
use Rattle.sdc_common.specs.Lent.{name_at}
use Rattle.sdc_common.proofs.Rows.{row-is}
use Rattle.sdc_common.proofs.names.rows.Goals as goal

pub returns-clause-by_index : goal.returns-clause-by_index
returns-clause-by_index c = λ k h. ap (λ (rows : List (List ℕ)). name_at (get_or rows k []) 0) c.as_chunks.ensures.front ∙ row-is c.args.names.now k h
