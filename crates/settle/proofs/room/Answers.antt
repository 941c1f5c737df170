-- `settle::room` has as many bytes as it says. Assumes nothing.
use Rattle.std.proofs.Common.{◌≡◌, ℕ, length, replicate, sym}
use lib.ListN.{length-replicate}
use Rattle.settle.proofs.room.Goals as goal

as_long : (n : ℕ) → n ≡ length (replicate {A = ℕ} n 0)
as_long n = sym (length-replicate n 0)

pub returns : goal.returns
returns c = as_long 1048577
