-- The sum over a sequence's neighbours, taken up after the first i places. Assumes nothing.
use mathlib.Core.Path.{◌≡◌, refl, ap, sym, ◌∙◌}
use mathlib.Core.List.{List, [], ◌∷◌, map}
use Prim.Native.Nat.{ℕ, suc, ◌<◌, ◌≤◌}
use native.Mathlib.Nat.{le_of_suc-le-suc, not-suc-le-zero}
use native.Mathlib.Omega.{arith}
use lib.Ieee.{Float, binary64, add}
use lib.ListN.{length, get_or, drop, take, length-map, get_or-map}
use Rattle.doubles.specs.Sum.{sum_from}
use Rattle.utils.specs.Bases.{Base, base_of, bases}
use Rattle.utils.specs.Single.{neighbours, at_neighbours}

-- the byte's base at a place of the sequence
pub base-at : (s : List ℕ) (i : ℕ) → get_or (bases s) i (base_of 0) ≡ base_of (get_or s i 0)
unfolding bases
base-at s i = get_or-map base_of s i 0

pub bases-length : (s : List ℕ) → length (bases s) ≡ length s
unfolding bases
bases-length s = length-map s base_of

-- a pair of neighbours is the first two places of what is left
pub first-two : (rest pair : List ℕ) (size : ℕ) → size ≡ 2 → size ≤ length rest → pair ≡ take size rest
    → (2 ≤ length rest) × (get_or pair 0 0 ≡ get_or rest 0 0) × (get_or pair 1 0 ≡ get_or rest 1 0)
first-two [] pair size e h p = absurd (omega (arith, e))
first-two (x ∷ []) pair size e h p = absurd (omega (arith, e))
first-two (x ∷ y ∷ rest) pair size e h p = rw (p, e) (lit≤-two rest, refl, refl)
  where
    lit≤-two : (s : List ℕ) → 2 ≤ suc (suc (length s))
    lit≤-two s = omega arith

-- the sum of what is left, out of that so far
unfoldable pub sum_rest : (Base → Base → Float) → Float → List ℕ → Float
sum_rest f sum rest = sum_from sum (map (at_neighbours f) (neighbours (bases rest)))

-- the loop's step: a sum that is to be carried on over what is left is to be carried on over what is left after one place, with one stack more
pub carry-on : (f : Base → Base → Float) (sum : Float) (rest : List ℕ) {total next : Float} → 2 ≤ length rest → total ≡ sum_rest f sum rest
    → next ≡ add binary64 sum (f (base_of (get_or rest 0 0)) (base_of (get_or rest 1 0))) → total ≡ sum_rest f next (drop 1 rest)
unfolding sum_rest sum_from neighbours bases
carry-on f sum [] h e n = absurd (not-suc-le-zero h)
carry-on f sum (x ∷ []) h e n = absurd (not-suc-le-zero (le_of_suc-le-suc h))
carry-on f sum (x ∷ y ∷ rest) h e n = e ∙ ap (λ (z : Float). sum_rest f z (y ∷ rest)) (sym n)

pub sum-done : (f : Base → Base → Float) (sum : Float) (rest : List ℕ) → length rest < 2 → sum_rest f sum rest ≡ sum
unfolding sum_rest sum_from neighbours bases
sum-done f sum [] h = refl
sum-done f sum (x ∷ []) h = refl
sum-done f sum (x ∷ y ∷ rest) h = absurd (omega arith)
