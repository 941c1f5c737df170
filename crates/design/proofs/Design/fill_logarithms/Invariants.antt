-- The invariant: no strand passed is thin, and the entry of each holds what is read. Assumes nothing.
use mathlib.Core.Path.{◌≡◌}
use mathlib.Core.Bool.{false}
use Prim.Native.Nat.{ℕ, ◌<◌}
use lib.ListN.{length, get_or}
use Rattle.doubles.specs.Decimal.{zero}
use Rattle.design.specs.Design.{amount}
use Rattle.design.specs.Checks.{thin}
use Rattle.design.specs.Filling.{logarithm_in}
use Rattle.design.proofs.Design.fill_logarithms.Given as goal

abbrev pub invariant-loop-strand : goal.invariant-loop-strand
invariant-loop-strand l =
    (length l.logarithms ≡ length l.fn.logarithms)
    × ((k : ℕ) → k < l.strand → thin l.self k ≡ false)
    × ((k : ℕ) → k < l.strand → get_or l.logarithms k zero ≡ logarithm_in (amount l.self k))
