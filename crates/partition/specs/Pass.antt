-- The pass over the positions, from the last to the first: for each option of a position a term that holds all that can follow it. It needs no trust:
-- proofs/Summed.antt shows that its sum is the one that is asked for.
use Rattle.std.specs.Prelude.{Bool, true, false, ℕ, zero, suc, get_or, drop}
use mathlib.Core.List.{List, [], ◌∷◌}
use Rattle.lists.specs.Build.{keep}
use Rattle.partition.specs.declared.Term.{Term}
use Rattle.partition.specs.Terms.{term, times, plus}
use Rattle.partition.specs.Constraint.{allows}

-- ---- sums, in the order of the options

-- a sum, and the terms of further options
unfoldable pub sum_from : (ℕ → Term) → Term → List ℕ → Term
unfolding plus
sum_from f t [] = t
sum_from f t (x ∷ xs) = sum_from f (plus t (f x)) xs

-- of one option or more; of none it has no meaning
unfoldable pub sum_terms : (ℕ → Term) → List ℕ → Term
unfolding sum_from
sum_terms f [] = term 0 0
sum_terms f (x ∷ xs) = sum_from f (f x) xs

-- ---- the pass, over the factors of places and of pairs

module _ (place pair : ℕ → ℕ → Term) where
  -- the term of an occupant of a position with all that can follow it
  unfoldable pub passed : ℕ → List (List ℕ) → ℕ → Term
  unfolding times sum_terms
  passed i [] x = place i x
  passed i (next ∷ later) x = times (place i x) (sum_terms (λ y. times (pair x y) (passed (suc i) later y)) next)

  -- over the options of one position or more
  unfoldable pub passed_whole : List ℕ → List (List ℕ) → Term
  unfolding passed sum_terms
  passed_whole here later = sum_terms (passed 0 later) here

-- ---- the pass the other way: what can stand before an occupant

module _ (place pair : ℕ → ℕ → Term) (start : Term) (options : List (List ℕ)) where
  -- the term of all that can stand before an occupant of a position, their pairs with it among them; before the first position, the start
  unfoldable pub before : ℕ → ℕ → Term
  unfolding times sum_terms
  before zero x = start
  before (suc i) x = sum_terms (λ z. times (times (before i z) (place i z)) (pair z x)) (get_or options i [])

  -- the term of all states that have an occupant at a position: what can stand before it, times it with what can follow
  abbrev pub through : ℕ → ℕ → Term
  through i x = times (before i x) (passed place pair i (drop (suc i) options) x)

-- ---- the options that a constraint leaves

-- those of each position that its list allows, in their order
unfoldable pub allowed : List (List ℕ) → List (List ℕ) → List (List ℕ)
unfolding keep allows
allowed [] options = []
allowed (c ∷ cs) [] = []
allowed (c ∷ cs) (here ∷ later) = keep (allows c) here ∷ allowed cs later

-- some position has no option left
unfoldable pub none_left : List (List ℕ) → Bool
none_left [] = false
none_left ([] ∷ options) = true
none_left ((x ∷ here) ∷ options) = none_left options
