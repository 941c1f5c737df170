-- Both sums as a loop over the positions makes them: the places from a position on are that place, and those after it. Assumes nothing.
use mathlib.Core.Path.{◌≡◌, refl}
use mathlib.Core.List.{List, [], ◌∷◌}
use mathlib.Core.Option.{Option, none, some}
use Prim.Native.Nat.{ℕ, zero, suc, ◌+◌, ◌-◌, ◌<◌, ◌≤◌}
use native.Mathlib.Numerals.{add-one, sub-one}
use lib.ListN.{length, get_or, drop, drop_of_length-le}
use lib.Seq.{drop-cons}
use lib.Ieee.{Float, binary64, add, sub}
use borrow.Author.Tests.{eq-eqb, ne_eqb}
use Rattle.doubles.specs.Sum.{sum_from}
use Rattle.doubles.proofs.Sums.{sum-append, sub_is}
use Rattle.model.specs.Model.{Model, occupant}
use Rattle.model.specs.Energy.{state_place, state_terms, left_of, chain_place, chain_terms}

module _ (m : Model) (s : List ℕ) (sum : Float) (i : ℕ) where
  pub state-more : i < length s
      → sum_from sum (state_terms m i (drop i s)) ≡ sum_from (sum_from sum (state_place m i (occupant s i) (drop (i + 1) s))) (state_terms m (i + 1) (drop (i + 1) s))
  unfolding state_terms
  state-more h = rw (add-one, drop-cons s i 0 h) (sum-append sum (state_place m i (get_or s i 0) (drop (suc i) s)) (state_terms m (suc i) (drop (suc i) s)))

  pub state-done : length s ≤ i → sum_from sum (state_terms m i (drop i s)) ≡ sum
  unfolding state_terms sum_from
  state-done h = rw (drop_of_length-le s h)

  pub chain_more : i < length s
      → sum_from sum (chain_terms m i (left_of s i) (drop i s)) ≡ sum_from (sum_from sum (chain_place m i (left_of s i) (occupant s i))) (chain_terms m (i + 1) (left_of s (i + 1)) (drop (i + 1) s))
  unfolding chain_terms
  chain_more h = rw (add-one, drop-cons s i 0 h) (sum-append sum (chain_place m i (left_of s i) (get_or s i 0)) (chain_terms m (suc i) (left_of s (suc i)) (drop (suc i) s)))

  pub chain-done : length s ≤ i → sum_from sum (chain_terms m i (left_of s i) (drop i s)) ≡ sum
  unfolding chain_terms sum_from
  chain-done h = rw (drop_of_length-le s h)

-- ---- one place, as a program adds its terms to a sum

module _ (m : Model) (i : ℕ) (sum : Float) {x : ℕ} where
  pub place-empty : (right : List ℕ) → x ≡ 0 → sum ≡ sum_from sum (state_place m i x right)
  unfolding sum_from
  place-empty right e = simp (eq-eqb x 0 e)

  module _ (occupied : x ≡ 0 → ⊥) {site potential : Float} (s : site ≡ m.site i x) (p : potential ≡ m.potential x) where
    -- with a right neighbour
    pub place-joined : {y : ℕ} {rest right : List ℕ} {pair : Float} → pair ≡ m.pair x y → right ≡ y ∷ rest
        → sub binary64 (add binary64 (add binary64 sum site) pair) potential ≡ sum_from sum (state_place m i x right)
    unfolding sum_from
    place-joined e f = rw (s, p, e, f, sub_is) (simp (ne_eqb x 0 occupied))

    -- with none
    pub place-last : {right : List ℕ} → right ≡ [] → sub binary64 (add binary64 sum site) potential ≡ sum_from sum (state_place m i x right)
    unfolding sum_from
    place-last f = rw (s, p, f, sub_is) (simp (ne_eqb x 0 occupied))

module _ (m : Model) (i : ℕ) (sum : Float) {x : ℕ} where
  pub chain-empty : (left : Option ℕ) → x ≡ 0 → sum ≡ sum_from sum (chain_place m i left x)
  unfolding sum_from
  chain-empty left e = simp (eq-eqb x 0 e)

  module _ (occupied : x ≡ 0 → ⊥) {site potential : Float} (s : site ≡ m.site i x) (p : potential ≡ m.potential x) where
    -- with a left neighbour
    pub chain-joined : {y : ℕ} {left : Option ℕ} {pair : Float} → pair ≡ m.pair y x → left ≡ some y
        → sub binary64 (add binary64 (add binary64 sum pair) site) potential ≡ sum_from sum (chain_place m i left x)
    unfolding sum_from
    chain-joined e f = rw (s, p, e, f, sub_is) (simp (ne_eqb x 0 occupied))

    -- with none
    pub chain_first : {left : Option ℕ} → left ≡ none → sub binary64 (add binary64 sum site) potential ≡ sum_from sum (chain_place m i left x)
    unfolding sum_from
    chain_first f = rw (s, p, f, sub_is) (simp (ne_eqb x 0 occupied))

-- what stands to the left of a position past the first
pub left-before : (s : List ℕ) (i : ℕ) → (i ≡ 0 → ⊥) → left_of s i ≡ some (occupant s (i - 1))
left-before s zero h = absurd (h refl)
left-before s (suc i) h = rw (sub-one (suc i))
