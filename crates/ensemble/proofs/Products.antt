-- A product of numbers, as a loop over them meets it: multiplied up to a limit, and divided by one number after the other. Assumes nothing.
use mathlib.Core.Path.{◌≡◌, refl}
use mathlib.Core.List.{List}
use Prim.Native.Nat.{ℕ, zero, suc, ◌+◌, ◌*◌, ◌/◌, ◌%◌, ◌<◌, ◌≤◌, min}
use native.Mathlib.Nat.{zero-mul, mul-zero, mul_comm, mul-div_cancel_left, mod-lt, div-lt_iff_lt-mul, zero-lt-suc}
use native.Mathlib.Numerals.{add-one}
use native.Mathlib.Omega.{arith}
use lib.ListN.{length, get_or, drop, drop_of_length-le}
use lib.Seq.{drop-cons}
use Rattle.lists.specs.Build.{product}
use Rattle.model.proofs.Count.{held_more}

module _ (numbers : List ℕ) (i : ℕ) where
  pub product-more : i < length numbers → product (drop i numbers) ≡ get_or numbers i 0 * product (drop (i + 1) numbers)
  unfolding product
  product-more h = rw (add-one, drop-cons numbers i 0 h) refl

  pub product-past : length numbers ≤ i → product (drop i numbers) ≡ 1
  unfolding product
  product-past h = rw (drop_of_length-le numbers h) refl

-- ---- up to a limit

-- no later number need be positive: where the rest is 0, both sides are
pub held-times : (most states number later : ℕ) → min (states * (number * later)) most ≡ min (min (states * number) most * later) most
held-times most states number zero = rw (mul-zero number, mul-zero states, mul-zero (min (states * number) most)) refl
held-times most states number (suc later) = held_more most states number (suc later) (zero-lt-suc later)

-- ---- divided by its first factor

-- the factors of a positive product are positive
pub factor-positive : (a b : ℕ) → 0 < a * b → 0 < a
factor-positive zero b h = rw zero-mul at h
factor-positive (suc a) b h = zero-lt-suc a

module _ (first rest whole rank : ℕ) (e : whole ≡ first * rest) (h : rank < whole) where
  whole-positive : 0 < first * rest
  whole-positive = omega arith

  pub first-positive : 0 < first
  first-positive = factor-positive first rest whole-positive

  pub rest-positive : 0 < rest
  rest-positive = factor-positive rest first (rw (mul_comm rest first) whole-positive)

  pub divided : whole / first ≡ rest
  divided = rw e (mul-div_cancel_left rest first-positive)

  -- the rank among the rest
  pub rank_left : rank % rest < rest
  rank_left = mod-lt rank rest-positive

  -- and which of the first
  pub rank-first : rank / rest < first
  rank-first = (div-lt_iff_lt-mul rest-positive).1 (let l : rank < first * rest = omega arith in l)
