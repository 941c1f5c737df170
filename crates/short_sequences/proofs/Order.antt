-- Where the options of each place rise, the ways to take one at each come in alphabetical order. Assumes nothing.
use mathlib.Core.Path.{◌≡◌, refl, ap}
use mathlib.Core.Logic.{inl, inr}
use mathlib.Core.List.{List, [], ◌∷◌}
use Prim.Native.Nat.{ℕ, zero, suc, ◌+◌, ◌*◌, ◌/◌, ◌%◌, ◌<◌, ◌≤◌}
use native.Mathlib.Nat.{mul-zero, suc-mul, mul-le-mul_right, not-suc-le-zero, mod-lt, div-lt_iff_lt-mul, div-add-mod'}
use native.Mathlib.Decide.{dec_lt}
use native.Mathlib.Omega.{arith}
use lib.ListN.{length, get_or}
use Rattle.lists.specs.Build.{product}
use Rattle.lists.specs.Each.{Each}
use Rattle.lists.specs.Order.{Rising}
use Rattle.model.specs.States.{choices, choice_at}
use Rattle.short_sequences.specs.Listed.{Alphabetical}

-- one option for each place
pub length-choice_at : (each : List (List ℕ)) (rank : ℕ) → length (choice_at each rank) ≡ length each
unfolding choice_at
length-choice_at [] rank = refl
length-choice_at (here ∷ later) rank = ap suc (length-choice_at later (rank % choices later))

-- a factor of a product above a number is not 0
positive : (n q k : ℕ) → k < q * n → 0 < n
positive zero q k l = absurd (not-suc-le-zero (rw (mul-zero q) at l))
positive (suc n) q k l = omega arith

-- of two numbers in order, the quotients are in order, or are the same and the remainders in order
data Parted (r q n : ℕ) : Type 0 where
  above : r / n < q / n → Parted r q n
  within : r / n ≡ q / n → r % n < q % n → Parted r q n

parted : (r q n : ℕ) → 0 < n → r < q → Parted r q n
parted r q n p h = go (dec_lt (r / n) (q / n)) (dec_lt (q / n) (r / n))
  where
    -- a quotient that is smaller by 1 or more makes the number smaller
    falls : (a b x y : ℕ) → b < a → x < n → y < n → a * n + x < b * n + y → ⊥
    falls a b x y l u v less = let m : suc b * n ≤ a * n = mul-le-mul_right n l in omega (arith, suc-mul b n, m)

    go : Dec (r / n < q / n) → Dec (q / n < r / n) → Parted r q n
    go (yes a) b = above a
    go (no a) (yes b) = absurd (falls (r / n) (q / n) (r % n) (q % n) b (mod-lt r p) (mod-lt q p) (rw (div-add-mod' r n, div-add-mod' q n) h))
    go (no a) (no b) =
        let e : r / n ≡ q / n = omega arith in
        let s : q / n * n + r % n < q / n * n + q % n = rw (← e) (rw (div-add-mod' r n) (rw e (rw (div-add-mod' q n) h))) in
        within e (omega arith)

pub in_order : (each : List (List ℕ)) → Each Rising each → (r q : ℕ) → r < q → q < choices each → Alphabetical (choice_at each r) (choice_at each q)
unfolding choices product choice_at
in_order [] e r q h k = omega arith
in_order (here ∷ later) e r q h k = go (parted r q n p h) (λ l. in_order later e.1 (r % n) (q % n) l (mod-lt q p))
  where
    n : ℕ
    n = choices later

    p : 0 < n
    p = positive n (length here) q k

    go : Parted r q n → (r % n < q % n → Alphabetical (choice_at later (r % n)) (choice_at later (q % n)))
        → Alphabetical (choice_at (here ∷ later) r) (choice_at (here ∷ later) q)
    go (above a) rest = inl (e.0 (r / n) (q / n) a ((div-lt_iff_lt-mul p).1 k))
    go (within s a) rest = inr (ap (λ (i : ℕ). get_or here i 0) s, rest a)
