-- A text that has room in a lent slice, and one that has none. Assumes nothing.
use mathlib.Core.Path.{◌≡◌, subst}
use mathlib.Core.List.{List, ◌++◌}
use Prim.Native.Nat.{ℕ, ◌≤◌, ◌<◌}
use lib.ListN.{length, take, drop}
use Rattle.std.proofs.Math.Seq.{take-append_seam}
use borrow.Author.Tests.{lt-ltb, le-ltb}
use Rattle.std.proofs.Common.{Ok, Err}
use Rattle.lists.specs.Front.{over}
use Rattle.decimals.specs.Print.{printed, laid}
use Rattle.decimals.specs.declared.PrintFault.TheVariants.{TooShort}

module _ (text out : List ℕ) (n : ℕ) (e : length text ≡ n) where
  pub no_room : length out < n → (Err TooShort ≡ printed text out) × (out ≡ laid text out)
  no_room h = let t = lt-ltb (length out) (length text) (rw e h) in (rw t, rw t)

  pub room : n ≤ length out → (Ok n ≡ printed text out) × (text ++ drop n out ≡ laid text out)
  unfolding over
  room h = let t = le-ltb (length out) (length text) (rw e h) in (rw (t, e), rw (t, e))

  -- the text stands in front
  pub front : take n (text ++ drop n out) ≡ text
  front = subst (λ (k : ℕ). take k (text ++ drop n out) ≡ text) e (take-append_seam text (drop n out))
