-- The sequences of one length, and of several lengths one after the other: how many there are, and which comes at a rank. Assumes nothing.
use mathlib.Core.Path.{◌≡◌, refl, sym, ap, ◌∙◌}
use mathlib.Core.List.{[], ◌∷◌, ◌++◌}
use Prim.Native.Nat.{ℕ, zero, suc, ◌+◌, ◌-◌, ◌*◌, ◌/◌, ◌%◌, ◌^◌, ◌<◌, ◌≤◌}
use native.Mathlib.Nat.{pow-succ'}
use native.Mathlib.Decide.{dec_lt}
use native.Mathlib.Numerals.{add-one}
use native.Mathlib.Omega.{arith}
use lib.ListN.{length, get_or, replicate, length-append, get_or-append}
use lib.Seq.{get_or-append-add}
use Rattle.lists.specs.Build.{product}
use Rattle.model.specs.States.{choices, choice_at}
use Rattle.model.proofs.Choices.{length-listing, listing-at}
use Rattle.short_sequences.specs.Sequences.{letters, of_length, of_lengths}

-- ---- of one length

pub count-letters : (n : ℕ) → choices (replicate n letters) ≡ 4 ^ n
unfolding choices product
count-letters zero = refl
count-letters (suc n) = ap (λ (k : ℕ). 4 * k) (count-letters n) ∙ sym (pow-succ' 4 n)

pub length-of_length : (n : ℕ) → length (of_length n) ≡ 4 ^ n
length-of_length n = length-listing (replicate n letters) ∙ count-letters n

pub of-length-at : (n rank : ℕ) → rank < 4 ^ n → get_or (of_length n) rank [] ≡ choice_at (replicate n letters) rank
of-length-at n rank h = listing-at (replicate n letters) rank (rw (count-letters n) h)

-- the first letter of one, and its rank among those of one place less
pub first-letter : (n rank : ℕ) → choice_at (replicate (suc n) letters) rank ≡ get_or letters (rank / 4 ^ n) 0 ∷ choice_at (replicate n letters) (rank % 4 ^ n)
unfolding choice_at
first-letter n rank = rw (count-letters n)

pub some-power : (n : ℕ) → 0 < 4 ^ n
some-power zero = omega arith
some-power (suc n) = let some : 0 < 4 ^ n = some-power n in rw (pow-succ' 4 n) (omega arith)

-- ---- of several

-- how many sequences so many lengths have
abbrev pub powers : ℕ → ℕ → ℕ
powers zero n = 0
powers (suc more) n = 4 ^ n + powers more (suc n)

pub length-of_lengths : (more n : ℕ) → length (of_lengths more n) ≡ powers more n
unfolding of_lengths
length-of_lengths zero n = refl
length-of_lengths (suc more) n = rw (length-append (of_length n) (of_lengths more (suc n)), length-of_length n, length-of_lengths more (suc n))

pub shortest-at : (more n rank : ℕ) → rank < 4 ^ n → get_or (of_lengths (suc more) n) rank [] ≡ choice_at (replicate n letters) rank
unfolding of_lengths
shortest-at more n rank h =
    get_or-append (of_length n) (of_lengths more (suc n)) [] rank (rw (length-of_length n) h) ∙ of-length-at n rank h

pub longer-at : (more n rank : ℕ) → 4 ^ n ≤ rank → get_or (of_lengths (suc more) n) rank [] ≡ get_or (of_lengths more (suc n)) (rank - 4 ^ n) []
unfolding of_lengths
longer-at more n rank h =
    let e : rank ≡ length (of_length n) + (rank - 4 ^ n) = rw (length-of_length n) (omega arith) in
    ap (λ (r : ℕ). get_or (of_length n ++ of_lengths more (suc n)) r []) e ∙ get_or-append-add (of_length n) (of_lengths more (suc n)) (rank - 4 ^ n) []

-- ---- from a length on up to 8 bases, as the search for the length of a rank goes through them

module _ (n rank : ℕ) (short : n ≤ 8) (inside : rank < powers (9 - n) n) where
  more : 9 - n ≡ suc (9 - suc n)
  more = omega arith

  within : rank < 4 ^ n + powers (9 - suc n) (suc n)
  within = rw more at inside

  pub at-shortest : rank < 4 ^ n → get_or (of_lengths (9 - n) n) rank [] ≡ choice_at (replicate n letters) rank
  at-shortest h = rw more (shortest-at (9 - suc n) n rank h)

  module _ (h : 4 ^ n ≤ rank) where
    pub at-longer : get_or (of_lengths (9 - n) n) rank [] ≡ get_or (of_lengths (9 - (n + 1)) (n + 1)) (rank - 4 ^ n) []
    at-longer = rw (more, add-one) (longer-at (9 - suc n) n rank h)

    pub longer-inside : rank - 4 ^ n < powers (9 - (n + 1)) (n + 1)
    longer-inside = let k = within in rw add-one (omega arith)

    pub not-longest : n < 8
    not-longest = go (dec_lt n 8)
      where
        go : Dec (n < 8) → n < 8
        go (yes l) = l
        go (no l) = let e : n ≡ 8 = omega arith in absurd (let k : rank < 4 ^ 8 + 0 = rw e at within in let g : 4 ^ 8 ≤ rank = rw e at h in omega arith)
