-- What the pass gives over weights that are near exponentials: the sums that are asked for, with exponents of at most 2^28 in size, so that the
-- difference of two is a signed 32-bit number. Assumes nothing.
use mathlib.Core.Path.{◌≡◌, refl, sym, ap, subst, ◌∙◌}
use mathlib.Core.Logic.{◌≢◌}
use mathlib.Core.Bool.{Bool, true, false, cond}
use mathlib.Core.List.{List, [], ◌∷◌, Memᴰ}
use Prim.Native.Nat.{ℕ, suc, ◌+◌, ◌-◌, ◌*◌, ◌^◌, ◌≤◌, ◌<◌, zero-le}
use native.Mathlib.Nat.{le_trans, le_of_eq, not-suc-le-zero}
use native.Mathlib.Omega.{arith}
use native.Mathlib.Decide.{dec_lt}
use borrow.Author.Tests.{eq-eqb, ne_eqb}
use lib.Dec.{eqb, ltb, lit≤, lit<}
use lib.IntN.{pos, negsuc, sub_ℕ}
use lib.ListN.{length, get_or, length-map}
use lib.Signed.{mag}
use Rattle.fractions.specs.declared.Weight.{Weight}
use Rattle.fractions.specs.Number.{Number}
use Rattle.fractions.specs.Weight.{InForm}
use Rattle.std.proofs.lemmas.List.{get_or_past}
use Rattle.lists.specs.Build.{keep}
use Rattle.lists.specs.Find.{any}
use Rattle.lists.specs.Order.{Rising}
use Rattle.lists.proofs.Build.{get_or-tabulate}
use Rattle.lists.proofs.Places.{get_or-map-lt}
use Rattle.lists.proofs.Tests.{clash}
use Rattle.model.specs.Model.{Model, positions, options, options_of, friends_at}
use Rattle.model.specs.States.{states}
use Rattle.partition.specs.Constraint.{allows, meets}
use Rattle.partition.specs.Pass.{sum_terms, allowed, none_left, passed_whole}
use Rattle.partition.specs.declared.Term.{Term}
use Rattle.partition.specs.Sum.{zero_weight, SumAnswered, ConstrainedSum}
use Rattle.partition.specs.Summed as Summed
use Rattle.partition.specs.Summed.{factors, lowered, place_term, pair_term, passed_sum, summed, summed_at, occupant_sum, sum_of_weights, sum_at, occupant_sum_at}
use Rattle.partition.specs.Weights.{Weights, place_weight, pair_weight, place_worth, pair_worth}
use Rattle.partition.specs.inner.Used.{PlaceFit, PairFit, Used, InUse}
use Rattle.partition.proofs.Constraint.{some-state}
use Rattle.partition.proofs.Passed.{whole-holds}
use Rattle.partition.proofs.AtPosition.{summed-at-right, one-right, none-right, keep-option, keep-stranger, found-in, in-found}
use Rattle.partition.proofs.Summed.{Few, usable, used-allowed, few-allowed, allowed-length, summed-right, constrained-right}
use Rattle.partition_sums.specs.Layout as Layout
use Rattle.partition_sums.specs.Layout.{weights_of}
use Rattle.partition_sums.specs.declared.lent.Formed.{Formed}
use Rattle.partition_sums.specs.inner.Rows as Rows
use Rattle.partition_sums.proofs.Positions.{searchable, options-length, few-options, some-options}
use Rattle.partition_sums.proofs.BothEnds.{at-is, through-fit, position-fit}
use Rattle.probabilities.specs.Numbers.{FreeEnergySum, ConstrainedEnergySum, Probability}
use Rattle.probabilities.specs.Quotient.{Modest, Quotiented}
use Rattle.probabilities.specs.Occupants.{only_here}
use Rattle.probabilities.specs.Weighed.{WeightsNear}
use Rattle.probabilities.proofs.Here.{length-here}
use Rattle.probabilities.proofs.Energies.{free-near, constrained-near, probability-near}

-- ---- exponents

difference-most : (a b most : ℕ) → a ≤ most → b ≤ most → mag (sub_ℕ a b) ≤ most
difference-most a b most h g = go (ltb a b)
  where
    go : (c : Bool) → mag (cond c (negsuc (b - suc a)) (pos (a - b))) ≤ most
    go true = omega arith
    go false = omega arith

module _ (place pair : ℕ → ℕ → Weight) where
  passed-modest : (options : List (List ℕ)) → length options ≤ 128 → 0 < length options → Used (PlaceFit 400000 place) (PairFit 400000 pair) 0 options → Few options → none_left options ≡ false → Modest (passed_sum 400000 place pair options)
  unfolding passed_sum
  passed-modest [] l p u f e = absurd (not-suc-le-zero p)
  passed-modest (here ∷ later) l p u f e =
      let low = (whole-holds (place_term 400000 place pair) (pair_term 400000 place pair) (2 * 400000) here later (usable 400000 (lit≤ tt) place pair 0 here later u f e)).low in
      difference-most (passed_whole (place_term 400000 place pair) (pair_term 400000 place pair) here later).power (400000 * factors (suc (length later))) (2 ^ 28) (omega (arith, low)) (omega arith)

  sum-modest : (options : List (List ℕ)) → length options ≤ 128 → 0 < length options → Used (PlaceFit 400000 place) (PairFit 400000 pair) 0 options → Few options → Modest (summed 400000 place pair options)
  unfolding summed
  sum-modest options l p u f = go (none_left options) refl
    where
      go : (b : Bool) → none_left options ≡ b → Modest (cond b zero_weight (passed_sum 400000 place pair options))
      go true h = zero-le
      go false h = passed-modest options l p u f h

-- ---- digits

-- zero or in form, a sum has 31 digits
sum-digits : (k from : ℕ) (several : List (List ℕ)) (x : Number) (w : Weight) → SumAnswered k from several x w → w.digits < 2 ^ 31
sum-digits k from [] x w e = rw e (lit< tt)
sum-digits k from (s ∷ several) x w e = e.0.most

-- of some state or more it is in form
sum-formed : (k from : ℕ) (several : List (List ℕ)) (x : Number) (w : Weight) → (several ≡ [] → ⊥) → SumAnswered k from several x w → InForm w
sum-formed k from [] x w some e = absurd (some refl)
sum-formed k from (s ∷ several) x w some e = e.0

-- ---- over what is formed of a model

-- a sum with an exponent of which a quotient can be taken
pub record Summable (Holds : Weight → Type 0) (w : Weight) : Type 0 where
  pub right : Holds w
  pub modest : Modest w
  pub digits : w.digits < 2 ^ 31

module _ (f : Formed) (m : Model) (same : Layout.options_of f.lent.options ≡ options m) (near : WeightsNear m (weights_of f.lent.weights)) where
  abbrev w : Weights
  w = weights_of f.lent.weights

  sized : length (options m) ≡ positions m
  sized = length-map m.friends options_of

  counted : length (options m) ≡ length f.lent.options.counts.now
  counted = sym (ap length same) ∙ options-length (searchable f.lent)

  some : 0 < length (options m)
  some = let n = f.some in rw counted n

  short : length (options m) ≤ 128
  short = let n = (searchable f.lent).short in rw counted n

  few : Few (options m)
  few = subst (λ (o : List (List ℕ)). Few o) same (few-options (searchable f.lent))

  uses : InUse w 0 (options m)
  uses = subst (λ (o : List (List ℕ)). InUse w 0 o) same f.in_use

  pub free-summed : (r : Weight) → r ≡ sum_of_weights w (Layout.options_of f.lent.options) → Summable (FreeEnergySum m) r
  free-summed r e =
      let is : r ≡ sum_of_weights w (options m) = e ∙ ap (sum_of_weights w) same in
      let right = free-near m w near (rw sized at some) (rw sized at short) r (rw is (summed-right 400000 (lit≤ tt) (place_weight w) (pair_weight w) (options m) short some uses few)) in
      record { right = right; modest = rw is (sum-modest (place_weight w) (pair_weight w) (options m) short some uses few); digits = sum-digits 14 80001 (states m) _ r right }

  some-state-is : states m ≡ [] → ⊥
  some-state-is = some-state (options m) (subst (λ (o : List (List ℕ)). none_left o ≡ false) same (some-options (searchable f.lent)))

  pub free-formed : (r : Weight) → FreeEnergySum m r → InForm r
  free-formed r e = sum-formed 14 80001 (states m) _ r some-state-is e

  pub probable : (lists : List (List ℕ)) (v w q : Weight) → Summable (ConstrainedEnergySum m lists) v → Summable (FreeEnergySum m) w → Quotiented v w q → Probability m lists q
  probable lists v w q c e d = probability-near m (weights_of f.lent.weights) near (rw sized at some) (rw sized at short) lists v w q c.right e.right d

  module _ (lists : List (List ℕ)) (each : length lists ≡ length f.lent.options.counts.now) where
    listed : length lists ≡ length (options m)
    listed = each ∙ sym counted

    left : length (allowed lists (options m)) ≡ length (options m)
    left = allowed-length lists (options m) listed

    pub constrained-summed : (r : Weight) → r ≡ sum_of_weights w (allowed lists (Layout.options_of f.lent.options)) → Summable (ConstrainedEnergySum m lists) r
    constrained-summed r e =
        let is : r ≡ sum_of_weights w (allowed lists (options m)) = e ∙ ap (λ (o : List (List ℕ)). sum_of_weights w (allowed lists o)) same in
        let right = constrained-near m w near (rw sized at some) (rw sized at short) lists r (rw is (constrained-right 400000 (lit≤ tt) (place_weight w) (pair_weight w) lists (options m) listed short some uses few)) in
        record {
          right = right;
          modest = rw is (sum-modest (place_weight w) (pair_weight w) (allowed lists (options m)) (le_trans (le_of_eq left) short) (subst (λ (z : ℕ). 0 < z) (sym left) some) (used-allowed (PlaceFit 400000 (place_weight w)) (PairFit 400000 (pair_weight w)) 0 lists (options m) uses) (few-allowed lists (options m) few));
          digits = sum-digits 14 80001 (keep (meets lists) (states m)) _ r right;
        }

  -- ---- by the occupants of a position

  lowered-modest : (t : Term) (k : ℕ) → t.power ≤ 2 ^ 28 → k ≤ 256 → Modest (lowered 400000 k t)
  lowered-modest t k h l = difference-most t.power (400000 * k) (2 ^ 28) h (omega arith)

  abbrev lent_options : List (List ℕ)
  lent_options = Layout.options_of f.lent.options

  none-left : none_left (options m) ≡ false
  none-left = subst (λ (o : List (List ℕ)). none_left o ≡ false) same (some-options (searchable f.lent))

  twice : length (Layout.options_of f.lent.options) + length (Layout.options_of f.lent.options) ≤ 256
  twice = let n = options-length (searchable f.lent) in let l = (searchable f.lent).short in omega arith

  module _ (i : ℕ) (inside : i < length f.lent.options.counts.now) where
    in-options : i < length (options m)
    in-options = rw counted inside

    pub total-summed : (r : Weight) → r ≡ sum_at w (Layout.options_of f.lent.options) i → Summable (FreeEnergySum m) r
    unfolding summed_at
    total-summed r e =
        let is : r ≡ sum_at w (options m) i = e ∙ ap (λ (o : List (List ℕ)). sum_at w o i) same in
        let right = free-near m w near (rw sized at some) (rw sized at short) r (rw is (summed-at-right 400000 (lit≤ tt) (place_weight w) (pair_weight w) (options m) i in-options short uses few none-left)) in
        let low = (position-fit f i inside).low in
        record { right = right; modest = rw e (lowered-modest (sum_terms (Rows.through_term f.lent i) (get_or lent_options i [])) (length lent_options + length lent_options) (omega arith) twice); digits = sum-digits 14 80001 (states m) _ r right }

    module _ (rising : Rising (friends_at m i)) (open_null : Memᴰ 0 (friends_at m i) → ⊥) (x : ℕ) where
      abbrev lists : List (List ℕ)
      lists = only_here (positions m) i x

      in-model : i < positions m
      in-model = rw (← sized) in-options

      lists-many : length lists ≡ length (options m)
      lists-many = length-here (positions m) i x ∙ sym sized

      here-list : get_or lists i [] ≡ x ∷ []
      unfolding only_here
      here-list = get_or-tabulate (positions m) (λ k. cond (eqb k i) (x ∷ []) []) [] i in-model ∙ rw (eq-eqb i i refl) refl

      free-list : (k : ℕ) → k ≢ i → get_or lists k [] ≡ []
      unfolding only_here
      free-list k n = go (dec_lt k (positions m))
        where
          go : Dec (k < positions m) → get_or lists k [] ≡ []
          go (yes l) = get_or-tabulate (positions m) (λ j. cond (eqb j i) (x ∷ []) []) [] k l ∙ rw (ne_eqb k i n) refl
          go (no l) = get_or_past lists k [] (let z = length-here (positions m) i x in omega arith)

      at-model : get_or (options m) i [] ≡ options_of (friends_at m i)
      at-model = get_or-map-lt options_of m.friends i [] [] in-model

      lent-at : get_or (Layout.options_of f.lent.options) i [] ≡ options_of (friends_at m i)
      lent-at = ap (λ (o : List (List ℕ)). get_or o i []) same ∙ at-model

      right-of : (b : Bool) → any (eqb x) (options_of (friends_at m i)) ≡ b
          → ConstrainedSum (place_worth w) (pair_worth w) m lists (cond b (lowered 400000 (length (options m) + length (options m)) (Summed.through_term 400000 (place_weight w) (pair_weight w) (options m) i x)) zero_weight)
      right-of true e =
          let keeps : keep (allows (get_or lists i [])) (get_or (options m) i []) ≡ x ∷ [] = rw (here-list, at-model) (keep-option (friends_at m i) rising open_null x (found-in x (options_of (friends_at m i)) e)) in
          one-right 400000 (lit≤ tt) (place_weight w) (pair_weight w) lists (options m) lists-many i in-options free-list x keeps short uses few none-left
      right-of false e =
          let keeps : keep (allows (get_or lists i [])) (get_or (options m) i []) ≡ [] = rw (here-list, at-model) (keep-stranger (friends_at m i) rising open_null x (λ k. clash e (in-found x (options_of (friends_at m i)) k))) in
          none-right 400000 (lit≤ tt) (place_weight w) (pair_weight w) lists (options m) lists-many i in-options free-list keeps

      modest-of : (b : Bool) → any (eqb x) (options_of (friends_at m i)) ≡ b
          → Modest (cond b (lowered 400000 (length (Layout.options_of f.lent.options) + length (Layout.options_of f.lent.options)) (Summed.through_term 400000 (place_weight w) (pair_weight w) (Layout.options_of f.lent.options) i x)) zero_weight)
      modest-of true e =
          let m = found-in x (options_of (friends_at m i)) e in
          let low = (through-fit f i x inside (rw (← at-is f i inside, lent-at) m)).low in
          lowered-modest (Rows.through_term f.lent i x) (length lent_options + length lent_options) (omega arith) twice
      modest-of false e = zero-le

      pub occupant-summed : (r : Weight) → r ≡ occupant_sum_at w (Layout.options_of f.lent.options) i x → Summable (ConstrainedEnergySum m lists) r
      unfolding occupant_sum
      occupant-summed r e =
          let is : r ≡ occupant_sum_at w (options m) i x = e ∙ ap (λ (o : List (List ℕ)). occupant_sum_at w o i x) same in
          let sum : ConstrainedSum (place_worth w) (pair_worth w) m lists (occupant_sum_at w (options m) i x) = rw at-model (right-of (any (eqb x) (options_of (friends_at m i))) refl) in
          let right = constrained-near m w near (rw sized at some) (rw sized at short) lists r (rw is sum) in
          record {
            right = right;
            modest = rw (e, lent-at) (modest-of (any (eqb x) (options_of (friends_at m i))) refl);
            digits = sum-digits 14 80001 (keep (meets lists) (states m)) _ r right;
          }
