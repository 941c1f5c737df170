-- `sheet::parts::fill` meets its contract: the entries so far are as any function says that the rule computes. Assumes nothing.
use mathlib.Core.Path.{◌≡◌}
use Prim.Native.Nat.{ℕ}
use Rattle.sheet.proofs.Fill.{Filled}
use Rattle.sheet.proofs.parts.fill.Given as goal

abbrev pub invariant-loop-k : goal.invariant-loop-k
invariant-loop-k g l = (f : ℕ → g.row.T.Denot) → ((k : ℕ) (x : g.row.T.Denot) → g.F.Fn.post l.rule (k, tt) x → x ≡ f k) → Filled f l.initial.out l.k l.out
