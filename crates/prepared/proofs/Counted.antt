-- A count that is held just past the limit tells what the number of states itself tells. Assumes nothing.
use mathlib.Core.Path.{◌≡◌, sym, ap, ◌∙◌}
use Prim.Native.Nat.{ℕ, ◌<◌, ◌≤◌, min}
use native.Mathlib.Omega.{arith}
use native.Mathlib.Decide.{dec_lt}
use lib.Dec.{ltb}
use borrow.Author.Tests.{lt-ltb}

module _ (n : ℕ) {r : ℕ} (held : r ≡ min n 1048577) where
  -- whether there are too many
  pub many-told : ltb 1048576 r ≡ ltb 1048576 n
  many-told = go (dec_lt 1048576 n)
    where
      go : Dec (1048576 < n) → ltb 1048576 r ≡ ltb 1048576 n
      go (yes h) = let l : 1048576 < r = omega arith in lt-ltb 1048576 r l ∙ sym (lt-ltb 1048576 n h)
      go (no h) = let same : r ≡ n = omega arith in ap (ltb 1048576) same

  -- where there are not, how many
  pub counted : n ≤ 1048576 → r ≡ n
  counted h = omega arith
