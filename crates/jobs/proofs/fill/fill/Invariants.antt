-- `jobs::fill` meets its contract: the cells so far are as any function says that the rule computes. Assumes nothing.
use mathlib.Core.Path.{◌≡◌}
use Prim.Native.Nat.{ℕ}
use lib.ListN.{get_or}
use Rattle.lists.proofs.Counted.{stored}
use Rattle.jobs.proofs.fill.fill.Given as goal

abbrev pub invariant-loop-k : goal.invariant-loop-k
invariant-loop-k g l = (f : ℕ → g.row.T.Denot) → ((word : ℕ) (x : g.row.T.Denot) → g.F.Fn.post l.rule (word, tt) x → x ≡ f word) → l.cells ≡ stored (λ i. f (get_or l.jobs i 0)) l.k l.initial.cells
