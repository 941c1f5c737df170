-- Both energies of a state lie near each other. Each sum is off by at most 384 roundings, each by half a unit of the last place below 2 ^ 25, which is 2⁻²⁹;
-- the exact sums are one number, since an occupied place's bond to the right is its neighbour's bond to the left. RT is at most 8, and each product
-- is rounded below 2 ^ 28: 768 × 8 × 2⁻²⁹ + 2 × 2⁻²⁶ is 770 / 1,024 of 2⁻¹⁶. Assumes nothing.
use mathlib.Core.Path.{◌≡◌, refl, sym, ap, ◌∙◌}
use mathlib.Core.Bool.{Bool, true, false, cond}
use mathlib.Core.List.{List, [], ◌∷◌, ◌++◌}
use mathlib.Core.Option.{none, some}
use Prim.Native.Nat.{ℕ, suc, ◌+◌, ◌*◌, ◌<◌, ◌≤◌}
use native.Mathlib.Nat.{le_refl, le_trans, mul-le-mul_right}
use native.Mathlib.Omega.{arith}
use lib.Dec.{eqb, lit≤, lit<}
use lib.ListN.{length}
use lib.Ieee.{Float, binary64, low, neg, eq, level}
use borrow.Author.Tests.{eqb-true}
use Rattle.lists.proofs.Tests.{both}
use Rattle.doubles.specs.Decimal as Decimal
use Rattle.doubles.specs.Sum.{sum_from}
use Rattle.doubles.specs.Size.{Real, Within, mag, sgn}
use Rattle.doubles.specs.Order.{Le, over, under}
use Rattle.doubles.specs.Near.{two_to_minus, AtMost, Near, NearUnits}
use Rattle.doubles.proofs.Order.{eq_is, le-yes→Le}
use Rattle.doubles.proofs.Sums.{weaken, over-le, under-le}
use Rattle.doubles.proofs.Bounds.{zero-within, sum-within, rt-range}
use Rattle.doubles.proofs.Near.{total, sum_near, both-near, times-near, further}
use Rattle.model.specs.Model.{Model, State}
use Rattle.model.specs.Energy.{state_place, state_terms, to_right, chain_place, chain_terms, state_energy, chain_energy, chain_product}
use Rattle.model.specs.Bounds.{Bounded}
use Rattle.model.specs.Search.{search}
use Rattle.model.specs.TwoEnergies.{NullBonds, TwoEnergies}
use Rattle.model.proofs.Bounds.{Occupants, occupants, strand-below, Small, small-state, small-chain, few-state, few-chain}
use Rattle.model.proofs.Search.{search-lowest}

-- ---- the exact sums are the same: over zero, and under zero

total-append : (part : Float → ℕ) (xs ys : List Float) → total part (xs ++ ys) ≡ total part xs + total part ys
unfolding total
total-append part [] ys = omega arith
total-append part (x ∷ xs) ys = let h = total-append part xs ys in omega arith

module _ (m : Model) (n : ℕ) (b : Bounded m n) (part : Float → ℕ)
    (from_empty_lem : (x : ℕ) → x < n → part (m.pair 0 x) ≡ 0) (to-empty : (x : ℕ) → x < n → part (m.pair x 0) ≡ 0) where
  -- the bond to the first of a list
  abbrev bond : ℕ → List ℕ → ℕ
  bond left [] = 0
  bond left (x ∷ s) = part (m.pair left x)

  -- the terms of a strand's own
  abbrev own : ℕ → ℕ → ℕ
  own i x = part (m.site i x) + (part (neg (m.potential x)) + 0)

  empty-bond : (i : ℕ) (s : List ℕ) → Occupants m i s → bond 0 s ≡ 0
  empty-bond i [] o = refl
  empty-bond i (x ∷ s) o = from_empty_lem x (strand-below m n b i x o.0)

  to-right : (x : ℕ) (s : List ℕ) → total part (to_right m x s) ≡ bond x s
  unfolding total
  to-right x [] = refl
  to-right x (y ∷ s) = omega arith

  state-place : (i x : ℕ) (s : List ℕ) → total part (state_place m i x s) ≡ cond (eqb x 0) 0 (own i x + bond x s)
  unfolding total
  state-place i x s = go (eqb x 0)
    where
      go : (t : Bool) → total part (cond t [] (m.site i x ∷ to_right m x s ++ neg (m.potential x) ∷ [])) ≡ cond t 0 (own i x + bond x s)
      go true = refl
      go false = let a = total-append part (to_right m x s) (neg (m.potential x) ∷ []) in let r = to-right x s in omega arith

  chain_next : (i left x : ℕ) → total part (chain_place m i (some left) x) ≡ cond (eqb x 0) 0 (part (m.pair left x) + own i x)
  unfolding total
  chain_next i left x = go (eqb x 0)
    where
      go : (t : Bool) → total part (cond t [] (m.pair left x ∷ m.site i x ∷ neg (m.potential x) ∷ [])) ≡ cond t 0 (part (m.pair left x) + own i x)
      go true = refl
      go false = refl

  chain_first : (i x : ℕ) → total part (chain_place m i none x) ≡ cond (eqb x 0) 0 (own i x)
  unfolding total
  chain_first i x = go (eqb x 0)
    where
      go : (t : Bool) → total part (cond t [] (m.site i x ∷ neg (m.potential x) ∷ [])) ≡ cond t 0 (own i x)
      go true = refl
      go false = refl

  -- the chain's terms are the state's, and the bond from the left
  same_next : (i left : ℕ) (s : List ℕ) → left < n → Occupants m i s → total part (chain_terms m i (some left) s) ≡ bond left s + total part (state_terms m i s)
  unfolding chain_terms state_terms total
  same_next i left [] l o = refl
  same_next i left (x ∷ s) l o =
      let a = total-append part (chain_place m i (some left) x) (chain_terms m (suc i) (some x) s) in
      let c = total-append part (state_place m i x s) (state_terms m (suc i) s) in
      let rest = same_next (suc i) x s (strand-below m n b i x o.0) o.1 in
      go (eqb x 0) refl (chain_next i left x) (state-place i x s) a c rest
    where
      go : (t : Bool) → eqb x 0 ≡ t
          → total part (chain_place m i (some left) x) ≡ cond t 0 (part (m.pair left x) + own i x)
          → total part (state_place m i x s) ≡ cond t 0 (own i x + bond x s)
          → total part (chain_terms m i (some left) (x ∷ s)) ≡ total part (chain_place m i (some left) x) + total part (chain_terms m (suc i) (some x) s)
          → total part (state_terms m i (x ∷ s)) ≡ total part (state_place m i x s) + total part (state_terms m (suc i) s)
          → total part (chain_terms m (suc i) (some x) s) ≡ bond x s + total part (state_terms m (suc i) s)
          → total part (chain_terms m i (some left) (x ∷ s)) ≡ part (m.pair left x) + total part (state_terms m i (x ∷ s))
      go true e p q a c rest =
          let z = eqb-true x 0 e in
          let before : part (m.pair left x) ≡ 0 = ap (λ (y : ℕ). part (m.pair left y)) z ∙ to-empty left l in
          let after : bond x s ≡ 0 = ap (λ (y : ℕ). bond y s) z ∙ empty-bond (suc i) s o.1 in
          omega arith
      go false e p q a c rest = omega arith

  same_first : (s : List ℕ) → Occupants m 0 s → total part (chain_terms m 0 none s) ≡ total part (state_terms m 0 s)
  unfolding chain_terms state_terms total
  same_first [] o = refl
  same_first (x ∷ s) o =
      let a = total-append part (chain_place m 0 none x) (chain_terms m 1 (some x) s) in
      let c = total-append part (state_place m 0 x s) (state_terms m 1 s) in
      let rest = same_next 1 x s (strand-below m n b 0 x o.0) o.1 in
      go (eqb x 0) refl (chain_first 0 x) (state-place 0 x s) a c rest
    where
      go : (t : Bool) → eqb x 0 ≡ t
          → total part (chain_place m 0 none x) ≡ cond t 0 (own 0 x)
          → total part (state_place m 0 x s) ≡ cond t 0 (own 0 x + bond x s)
          → total part (chain_terms m 0 none (x ∷ s)) ≡ total part (chain_place m 0 none x) + total part (chain_terms m 1 (some x) s)
          → total part (state_terms m 0 (x ∷ s)) ≡ total part (state_place m 0 x s) + total part (state_terms m 1 s)
          → total part (chain_terms m 1 (some x) s) ≡ bond x s + total part (state_terms m 1 s)
          → total part (chain_terms m 0 none (x ∷ s)) ≡ total part (state_terms m 0 (x ∷ s))
      go true e p q a c rest =
          let after : bond x s ≡ 0 = ap (λ (y : ℕ). bond y s) (eqb-true x 0 e) ∙ empty-bond 1 s o.1 in
          omega arith
      go false e p q a c rest = omega arith

-- ---- a bond that is a zero has no part over zero or under it

pub zero-parts : (x : Float) → Real binary64 x → eq x Decimal.zero ≡ true → (over binary64 x ≡ 0) × (under binary64 x ≡ 0)
unfolding mag sgn
zero-parts x r e =
    let same : level (sgn x) (mag binary64 x) (sgn Decimal.zero) (mag binary64 Decimal.zero) ≡ true = sym (eq_is binary64 x Decimal.zero r zero-within.real) ∙ e in
    let none : mag binary64 x ≡ 0 = eqb-true (mag binary64 x) 0 (both (eqb (mag binary64 x) 0) _ same).0 in
    (omega (arith, over-le binary64 x, none), omega (arith, under-le binary64 x, none))

-- ---- the sums, and their products with RT

-- half a unit of the last place below 2 ^ 25
abbrev e : ℕ
e = two_to_minus binary64 29

fewer : (s : Float) (p q k l unit : ℕ) → k ≤ l → NearUnits binary64 (k * unit) s p q → NearUnits binary64 (l * unit) s p q
fewer s p q k l unit h w = let m : k * unit ≤ l * unit = mul-le-mul_right unit h in record { above = omega (arith, w.above); below = omega (arith, w.below) }

module _ (terms : List Float) (small : Small terms) (few : length terms ≤ 384) where
  most : 0 + length terms * 80000 ≤ 30720000
  most = omega arith

  terms-near : NearUnits binary64 (384 * e) (sum_from Decimal.zero terms) (over binary64 Decimal.zero + total (over binary64) terms) (under binary64 Decimal.zero + total (under binary64) terms)
  terms-near =
      fewer _ _ _ (length terms) 384 e few
      (sum_near 80000 (25 + low binary64) 30720000 0 Decimal.zero terms (lit< tt) (lit≤ tt) (lit< tt) zero-within small most)

  terms-within : Within binary64 30720000 (sum_from Decimal.zero terms)
  terms-within = weaken 30720000 most (sum-within 80000 0 Decimal.zero terms zero-within small (le_trans most (lit≤ tt)))

-- 768 roundings times 8, and the rounding of each product
abbrev apart : ℕ
apart = two_to_minus binary64 26 + two_to_minus binary64 26 + (384 * e + 384 * e) * 8

module _ (m : Model) (n : ℕ) (b : Bounded m n) (null : NullBonds m n) where
  from_zero : (x : ℕ) → x < n → (over binary64 (m.pair 0 x) ≡ 0) × (under binary64 (m.pair 0 x) ≡ 0)
  from_zero x h = zero-parts (m.pair 0 x) (b.pairs 0 x b.null h).real (null.from_empty x h)

  to-zero : (x : ℕ) → x < n → (over binary64 (m.pair x 0) ≡ 0) × (under binary64 (m.pair x 0) ≡ 0)
  to-zero x h = zero-parts (m.pair x 0) (b.pairs x 0 h b.null).real (null.to_empty x h)

  near : (k : ℕ) → apart ≤ k → (s : List ℕ) → State m s → Near binary64 k (state_energy m s) (chain_product m s)
  unfolding state_energy chain_product chain_energy
  near k h s w =
      let rt = rt-range m.rt b.rt-double b.rt-range in
      let o = occupants m s w in
      let st = state_terms m 0 s in
      let ct = chain_terms m 0 none s in
      let s_s = small-state m n b 0 s o in
      let s_c = small-chain m n b 0 none s tt o in
      let f_s : length st ≤ 384 = omega (arith, few-state m 0 s, w.places, b.short) in
      let f_c : length ct ≤ 384 = omega (arith, few-chain m 0 none s, w.places, b.short) in
      let w_s = terms-within st s_s f_s in
      let w_c = terms-within ct s_c f_c in
      let over-same = same_first m n b (over binary64) (λ x h. (from_zero x h).0) (λ x h. (to-zero x h).0) s o in
      let under_same = same_first m n b (under binary64) (λ x h. (from_zero x h).1) (λ x h. (to-zero x h).1) s o in
      let chain : NearUnits binary64 (384 * e) (sum_from Decimal.zero ct) (over binary64 Decimal.zero + total (over binary64) st) (under binary64 Decimal.zero + total (under binary64) st) =
      rw (over-same, under_same) at (terms-near ct s_c f_c) in
      let sums = both-near binary64 (384 * e) (384 * e) (sum_from Decimal.zero st) (sum_from Decimal.zero ct) _ _ w_s.real w_c.real (terms-near st s_s f_s) chain in
      further k h (times-near binary64 30720000 8 (28 + low binary64) (384 * e + 384 * e) (sum_from Decimal.zero st) (sum_from Decimal.zero ct) m.rt w_s w_c rt.size (lit< tt) (lit≤ tt) (lit< tt) sums)

  -- ---- the search

  -- two energies, each near a product, of which one is at most the other
  between : (x y p q : Float) (k l : ℕ) → k + k ≤ l → Near binary64 k x p → Near binary64 k y q → Le binary64 p q → AtMost binary64 l x y
  between x y p q k l h a c o = record { left = a.left; right = c.left; above = omega (arith, a.above, c.below, o.rise, o.fall) }

  near-least : (l : ℕ) → apart + apart ≤ l → (t : List ℕ) → State m t → AtMost binary64 l (state_energy m (search m).configuration) (state_energy m t)
  near-least l h t v =
      let s = (search m).configuration in
      let lowest = search-lowest m n b in
      let n_s = near apart (le_refl apart) s lowest.places in
      let n_t = near apart (le_refl apart) t v in
      let at_most = rw lowest.energy at (lowest.lowest t v) in
      between (state_energy m s) (state_energy m t) (chain_product m s) (chain_product m t) apart l h n_s n_t
      (le-yes→Le binary64 (chain_product m s) (chain_product m t) n_s.right n_t.right at_most)

pub two-energies : TwoEnergies
two-energies m n b null = record { each = near m n b null _ (lit≤ tt); searched = near-least m n b null _ (lit≤ tt) }
