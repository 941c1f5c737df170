-- The number of states: that of the listing's choices, and as a loop over the positions multiplies it. Assumes nothing.
use mathlib.Core.Path.{◌≡◌, refl, sym, ap, ap₂, ◌∙◌}
use mathlib.Core.List.{List, [], ◌∷◌, map}
use Prim.Native.Nat.{ℕ, zero, suc, ◌+◌, ◌*◌, ◌<◌, ◌≤◌, min}
use native.Mathlib.Nat.{mul-pos, mul_assoc, mul-one, mul-le-mul_left, zero-lt-suc, le_trans, le_of_eq}
use native.Mathlib.Decide.{dec_le}
use native.Mathlib.Omega.{arith}
use lib.ListN.{length, get_or, length-append}
use Rattle.lists.specs.Build.{product}
use Rattle.model.specs.Model.{Model, options, options_of}
use Rattle.model.specs.States.{choices, friends_plus_one, count}

-- the states of the positions that are left
abbrev pub ways : List (List ℕ) → ℕ
ways later = product (map friends_plus_one later)

pub ways-pos : (later : List (List ℕ)) → 0 < ways later
unfolding product
ways-pos [] = zero-lt-suc 0
ways-pos (here ∷ later) = let h : 0 < length here + 1 = omega arith in mul-pos h (ways-pos later)

-- one option more than friends
pub choices-ways : (later : List (List ℕ)) → choices (map options_of later) ≡ ways later
unfolding choices product
choices-ways [] = refl
choices-ways (here ∷ later) = ap₂ ◌*◌ (length-append here (0 ∷ [])) (choices-ways later)

pub count-choices : (m : Model) → choices (options m) ≡ count m
unfolding count
count-choices m = choices-ways m.friends

-- ---- a loop that counts up to a limit

-- a product is at least its factor
grows : (a b : ℕ) → 0 < b → a ≤ a * b
grows a b h = le_trans (le_of_eq (sym (mul-one a))) (mul-le-mul_left a h)

pub held_more : (most states friends later : ℕ) → 0 < later → min (states * (friends * later)) most ≡ min (min (states * friends) most * later) most
held_more most states friends later h = sym (ap (λ (n : ℕ). min n most) (mul_assoc states friends later)) ∙ go (states * friends) (dec_le (states * friends) most)
  where
    go : (n : ℕ) → Dec (n ≤ most) → min (n * later) most ≡ min (min n most * later) most
    go n (yes l) = let e : min n most ≡ n = omega arith in rw e
    go n (no l) =
        let e : min n most ≡ most = omega arith in
        rw e (omega (arith, grows most later h, grows n later h))

-- past the friends stands 0
pub option-or-empty : (friends : List ℕ) (k : ℕ) → get_or (options_of friends) k 0 ≡ get_or friends k 0
option-or-empty [] zero = refl
option-or-empty [] (suc k) = refl
option-or-empty (x ∷ friends) zero = refl
option-or-empty (x ∷ friends) (suc k) = option-or-empty friends k
