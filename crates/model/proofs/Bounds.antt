-- Of every state of a bounded model both sums are finite at each step, and so are their products with RT. Assumes nothing.
use mathlib.Core.Path.{◌≡◌, sym, ◌∙◌, subst}
use mathlib.Core.Logic.{◌⊎◌, inl, inr}
use mathlib.Core.Bool.{Bool, true, false, cond}
use mathlib.Core.List.{List, [], ◌∷◌, ◌++◌}
use mathlib.Core.Option.{Option, none, some}
use Prim.Native.Nat.{ℕ, suc, ◌+◌, ◌*◌, ◌^◌, ◌<◌, ◌≤◌}
use native.Mathlib.Nat.{add-zero, zero-add, add-suc, suc-add, le_refl, le_trans}
use native.Mathlib.Omega.{arith}
use lib.Dec.{eqb, lit≤}
use lib.ListN.{length, get_or, take, length-append, length-take}
use lib.Seq.{take_all}
use lib.Ieee.{Float, binary64, prec, mul, neg}
use borrow.Author.Tests.{eq-eqb}
use Rattle.lists.specs.Each.{Each}
use Rattle.lists.proofs.Each.{each_append, each_take}
use Rattle.doubles.specs.Decimal as Decimal
use Rattle.doubles.specs.Sum.{sum_from}
use Rattle.doubles.specs.Size.{Within, negative_zero}
use Rattle.doubles.proofs.Sums.{weaken}
use Rattle.doubles.proofs.Products.{mul-within}
use Rattle.doubles.proofs.Bounds.{neg-within, zero-within, zero-not, sum-within, sum-not, rt-range}
use Rattle.model.specs.Model.{Model, State, Friend}
use Rattle.model.specs.Energy.{if_occupied, to_right, state_place, state_terms, from_left, chain_place, chain_terms, state_energy, chain_energy, chain_product}
use Rattle.model.specs.Bounds.{Bounded, Finite}

-- the occupants of the places from a position on
abbrev pub Occupants : Model → ℕ → List ℕ → Type 0
Occupants m i [] = Unit
Occupants m i (x ∷ s) = ((x ≡ 0) ⊎ Friend m i x) × Occupants m (suc i) s

occupants-from : (m : Model) (i : ℕ) (s : List ℕ) → ((k : ℕ) → k < length s → (get_or s k 0 ≡ 0) ⊎ Friend m (i + k) (get_or s k 0)) → Occupants m i s
occupants-from m i [] h = tt
occupants-from m i (x ∷ s) h = (
  subst (λ (j : ℕ). (x ≡ 0) ⊎ Friend m j x) (add-zero i) (h 0 (omega arith)),
  occupants-from m (suc i) s (λ k l. subst (λ (j : ℕ). (get_or s k 0 ≡ 0) ⊎ Friend m j (get_or s k 0)) (add-suc i k ∙ sym (suc-add i k)) (h (suc k) (omega arith))),
)

-- of a state
pub occupants : (m : Model) (s : List ℕ) → State m s → Occupants m 0 s
occupants m s w =
    occupants-from m 0 s
    (λ k l. subst (λ (j : ℕ). (get_or s k 0 ≡ 0) ⊎ Friend m j (get_or s k 0)) (sym (zero-add k)) (w.occupants k (omega (arith, w.places))))

abbrev pub Small : List Float → Type 0
Small terms = Each (Within binary64 80000) terms

module _ (m : Model) (n : ℕ) (b : Bounded m n) where
  pub strand-below : (i x : ℕ) → (x ≡ 0) ⊎ Friend m i x → x < n
  strand-below i x (inl e) = omega (arith, b.null)
  strand-below i x (inr f) = b.known i x f

  -- the terms of an occupied place, where those of its neighbour are small
  small-place : (i x : ℕ) (terms : List Float) → (x ≡ 0) ⊎ Friend m i x → (Friend m i x → Small terms) → Small (if_occupied x terms)
  small-place i x terms (inl e) h = rw (eq-eqb x 0 e) tt
  small-place i x terms (inr f) h = go (eqb x 0)
    where
      go : (t : Bool) → Small (cond t [] terms)
      go true = tt
      go false = h f

  less-potential : (i x : ℕ) → Friend m i x → Within binary64 80000 (neg (m.potential x))
  less-potential i x f = weaken 80000 (lit≤ tt) (neg-within (b.potentials i x f))

  -- ---- state energy

  small-right : (i x : ℕ) (right : List ℕ) → Friend m i x → Occupants m (suc i) right → Small (to_right m x right)
  small-right i x [] f o = tt
  small-right i x (y ∷ right) f o = (b.pairs x y (b.known i x f) (strand-below (suc i) y o.0), tt)

  pub small-state : (i : ℕ) (s : List ℕ) → Occupants m i s → Small (state_terms m i s)
  unfolding state_terms
  small-state i [] o = tt
  small-state i (x ∷ s) o =
      each_append (Within binary64 80000) (state_place m i x s) (state_terms m (suc i) s)
      (small-place i x (m.site i x ∷ to_right m x s ++ neg (m.potential x) ∷ []) o.0
      (λ f. (b.sites i x f, each_append (Within binary64 80000) (to_right m x s) (neg (m.potential x) ∷ []) (small-right i x s f o.1) (less-potential i x f, tt))))
      (small-state (suc i) s o.1)

  -- ---- chain energy

  -- what stands to the left is a strand
  abbrev pub Left : Option ℕ → Type 0
  Left none = Unit
  Left (some x) = x < n

  small-left : (left : Option ℕ) (x : ℕ) → Left left → x < n → Small (from_left m left x)
  small-left none x l h = tt
  small-left (some y) x l h = (b.pairs y x l h, tt)

  pub small-chain : (i : ℕ) (left : Option ℕ) (s : List ℕ) → Left left → Occupants m i s → Small (chain_terms m i left s)
  unfolding chain_terms
  small-chain i left [] l o = tt
  small-chain i left (x ∷ s) l o =
      each_append (Within binary64 80000) (chain_place m i left x) (chain_terms m (suc i) (some x) s)
      (small-place i x (from_left m left x ++ m.site i x ∷ neg (m.potential x) ∷ []) o.0
      (λ f. each_append (Within binary64 80000) (from_left m left x) (m.site i x ∷ neg (m.potential x) ∷ []) (small-left left x l (b.known i x f)) (b.sites i x f, (less-potential i x f, tt))))
      (small-chain (suc i) (some x) s (strand-below i x o.0) o.1)

-- ---- at most three terms for a place

few-place : (x : ℕ) (terms : List Float) → length terms ≤ 3 → length (if_occupied x terms) ≤ 3
few-place x terms h = go (eqb x 0)
  where
    go : (t : Bool) → length (cond t [] terms) ≤ 3
    go true = omega arith
    go false = h

few-right : (m : Model) (x : ℕ) (right : List ℕ) → length (to_right m x right) ≤ 1
few-right m x [] = omega arith
few-right m x (y ∷ right) = omega arith

few-left : (m : Model) (left : Option ℕ) (x : ℕ) → length (from_left m left x) ≤ 1
few-left m none x = omega arith
few-left m (some y) x = omega arith

pub few-state : (m : Model) (i : ℕ) (s : List ℕ) → length (state_terms m i s) ≤ 3 * length s
unfolding state_terms
few-state m i [] = omega arith
few-state m i (x ∷ s) =
    let here : length (state_place m i x s) ≤ 3 = few-place x (m.site i x ∷ to_right m x s ++ neg (m.potential x) ∷ []) (simp length-append (omega (arith, few-right m x s))) in
    simp length-append (omega (arith, here, few-state m (suc i) s))

pub few-chain : (m : Model) (i : ℕ) (left : Option ℕ) (s : List ℕ) → length (chain_terms m i left s) ≤ 3 * length s
unfolding chain_terms
few-chain m i left [] = omega arith
few-chain m i left (x ∷ s) =
    let here : length (chain_place m i left x) ≤ 3 = few-place x (from_left m left x ++ m.site i x ∷ neg (m.potential x) ∷ []) (simp length-append (omega (arith, few-left m left x))) in
    simp length-append (omega (arith, here, few-chain m (suc i) (some x) s))

-- ---- so each sum is finite

-- at most 384 terms of at most 80,000
finite-sums : (m : Model) (n : ℕ) → Bounded m n → (terms : List Float) → Small terms → length terms ≤ 384 → Finite m terms
finite-sums m n b terms small few = record { sums = sums; products = products; never-negative-zero = never }
  where
    part : (k : ℕ) → Small (take k terms)
    part k = each_take (Within binary64 80000) k terms small

    most : (k : ℕ) → 0 + length (take k terms) * 80000 ≤ 30720000
    most k = let h : length (take k terms) ≤ 384 = simp length-take (omega arith) in omega arith

    room : (k : ℕ) → 0 + length (take k terms) * 80000 ≤ 2 ^ prec binary64
    room k = le_trans (most k) (lit≤ tt)

    sums : (k : ℕ) → Within binary64 30720000 (sum_from Decimal.zero (take k terms))
    sums k = weaken 30720000 (most k) (sum-within 80000 0 Decimal.zero (take k terms) zero-within (part k) (room k))

    products : (k : ℕ) → Within binary64 245760000 (mul binary64 (sum_from Decimal.zero (take k terms)) m.rt)
    products k = mul-within binary64 30720000 8 _ _ (sums k) (rt-range m.rt b.rt-double b.rt-range).size (lit≤ tt)

    never : (k : ℕ) → negative_zero (sum_from Decimal.zero (take k terms)) ≡ false
    never k = sum-not 80000 0 Decimal.zero (take k terms) zero-within zero-not (part k) (room k)

module _ (m : Model) (n : ℕ) (b : Bounded m n) (s : List ℕ) (w : State m s) where
  pub state-finite : Finite m (state_terms m 0 s)
  state-finite = finite-sums m n b (state_terms m 0 s) (small-state m n b 0 s (occupants m s w)) (omega (arith, few-state m 0 s, w.places, b.short))

  pub chain-finite : Finite m (chain_terms m 0 none s)
  chain-finite = finite-sums m n b (chain_terms m 0 none s) (small-chain m n b 0 none s tt (occupants m s w)) (omega (arith, few-chain m 0 none s, w.places, b.short))

  sum_of : (terms : List Float) → Finite m terms → Within binary64 30720000 (sum_from Decimal.zero terms)
  sum_of terms f = subst (λ (t : List Float). Within binary64 30720000 (sum_from Decimal.zero t)) (take_all (length terms) terms (le_refl _)) (f.sums (length terms))

  product-of : (terms : List Float) → Finite m terms → Within binary64 245760000 (mul binary64 (sum_from Decimal.zero terms) m.rt)
  product-of terms f = subst (λ (t : List Float). Within binary64 245760000 (mul binary64 (sum_from Decimal.zero t) m.rt)) (take_all (length terms) terms (le_refl _)) (f.products (length terms))

  pub state-energy-within : Within binary64 245760000 (state_energy m s)
  unfolding state_energy
  state-energy-within = product-of (state_terms m 0 s) state-finite

  pub chain-energy-within : Within binary64 30720000 (chain_energy m s)
  unfolding chain_energy
  chain-energy-within = sum_of (chain_terms m 0 none s) chain-finite

  pub chain-product-within : Within binary64 245760000 (chain_product m s)
  unfolding chain_product chain_energy
  chain-product-within = product-of (chain_terms m 0 none s) chain-finite
