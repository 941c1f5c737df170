-- A lent slice that a loop fills, entry by entry. Assumes nothing.
use mathlib.Core.Path.{◌≡◌, ap, ◌∙◌}
use mathlib.Core.List.{List, ◌∷◌}
use Prim.Native.Nat.{ℕ, suc, ◌+◌, ◌-◌, ◌<◌, ◌≤◌}
use native.Mathlib.Omega.{arith}
use lib.ListN.{length, set, take}
use Rattle.lists.proofs.Counted.{stored, stored-none, stored-length, stored_more}

-- the first m entries are as f says, and the others as they were
pub record Filled {A : Type 0} (f : ℕ → A) (before : List A) (m : ℕ) (now : List A) : Type 0 where
  pub fits : m ≤ length before
  pub is : now ≡ stored f m before

module _ {A : Type 0} where
  pub filled_none : (f : ℕ → A) (before : List A) → Filled f before 0 before
  filled_none f before = record { fits = omega arith; is = stored-none f before }

  pub filled-length : {f : ℕ → A} {before : List A} {m : ℕ} {now : List A} → Filled f before m now → length now ≡ length before
  filled-length {f} {before} {m} w = ap length w.is ∙ stored-length f m before w.fits

  pub filled_more : {f : ℕ → A} {before : List A} {m : ℕ} {now : List A} {v : A} → Filled f before m now → m < length now → v ≡ f m → Filled f before (m + 1) (set now m v)
  filled_more {f} {before} {m} {now} {v} w h e =
      let l : m < length before = omega (arith, filled-length w) in
      record { fits = omega arith; is = rw w.is (stored_more f m before v l e) }

-- of a list that is cut to what there is room for, one more
pub take_next : {A : Type 0} (most n : ℕ) (x : A) (xs : List A) → n < most → take (most - n) (x ∷ xs) ≡ x ∷ take (most - (n + 1)) xs
take_next most n x xs h = let e : most - n ≡ suc (most - (n + 1)) = omega arith in rw e
