-- The search gives the lowest configuration. Of any model within the bounds, whatever its friends, bonds and potentials: the configuration shown has
-- one place for each position, each empty or held by a friend there; the energy is RT times its chain energy, to the last bit; no state has a
-- smaller RT times chain energy; and the walk that tries every state ends with that same energy. Why: each entry of the search is the least
-- sum of all chains that end with its strand, since adding the same terms and rounding each time never turns the order of two sums
-- round; the product with RT does not either; and the left choices lead back through a chain that has its entry's sum. Assumes nothing.
use mathlib.Core.Path.{◌≡◌, refl, sym, ap, ◌∙◌}
use mathlib.Core.Logic.{◌⊎◌, inl, inr}
use mathlib.Core.Bool.{Bool, true, false, cond}
use mathlib.Core.List.Memᴰ
use mathlib.Core.List.{List, [], ◌∷◌, Memᴰ}
use mathlib.Core.Option.{none, some}
use Prim.Native.Nat.{ℕ, zero, suc, ◌*◌, ◌^◌, ◌<◌, ◌≤◌}
use native.Mathlib.Nat.{le_trans}
use native.Mathlib.Numerals.{add-one}
use native.Mathlib.Omega.{arith}
use lib.Dec.{T, eqb, lit≤}
use lib.Pow.{pow_pos}
use lib.ListN.{length, get_or, drop, length-append}
use lib.Ieee.{Float, binary64, low, add, sub, neg, mul, le, eq}
use Rattle.doubles.specs.Decimal as Decimal
use Rattle.doubles.specs.Sum.{sum_from}
use Rattle.doubles.specs.Size.{Real}
use Rattle.doubles.specs.Order.{Le, over}
use Rattle.doubles.proofs.Sums.{sub_is}
use Rattle.doubles.proofs.Order.{Le-refl, Le-antisymm, Le→le}
use Rattle.doubles.proofs.Products.{mul_mono, mul-within, zero-times}
use Rattle.doubles.proofs.Bounds.{Rt, rt-range}
use Rattle.model.specs.Model.{Model, State, Friend, occupant, positions, friends_at}
use Rattle.model.specs.States.{states, state_at, count}
use Rattle.model.specs.Energy.{chain_place, chain_terms, chain_energy, chain_product, walk}
use Rattle.model.specs.Bounds.{Bounded}
use Rattle.model.specs.Search.{with_strand_bond, with_scaffold_bond, left_choice, last_strand, SearchResult, options_at, times_rt, search_over, search}
use Rattle.model.specs.LowestConfiguration.{LowestConfiguration}
use Rattle.model.proofs.Sums.{chain_more, chain-done}
use Rattle.model.proofs.Bounds.{chain-product-within}
use Rattle.model.proofs.Listing.{listed}
use Rattle.model.proofs.Count.{ways-pos}
use Rattle.model.proofs.Optimal.{score, Optimal, search-optimal}
use Rattle.model.proofs.Traced.{traced-length}
use Rattle.model.proofs.Walk.{Ends, walk_ends}

-- ---- the chain energy is the score of the configuration's occupants

module _ (m : Model) (i x : ℕ) (s : Float) where
  place-first : sum_from s (chain_place m i none x) ≡ with_scaffold_bond m i x s
  unfolding sum_from
  place-first = go (eqb x 0)
    where
      go : (t : Bool) → sum_from s (cond t [] (m.site i x ∷ neg (m.potential x) ∷ [])) ≡ cond t s (sub binary64 (add binary64 s (m.site i x)) (m.potential x))
      go true = refl
      go false = sym (sub_is binary64 (add binary64 s (m.site i x)) (m.potential x))

  place-next : (left : ℕ) → sum_from s (chain_place m i (some left) x) ≡ with_scaffold_bond m i x (with_strand_bond m x left s)
  unfolding sum_from
  place-next left = go (eqb x 0)
    where
      go : (t : Bool)
          → sum_from s (cond t [] (m.pair left x ∷ m.site i x ∷ neg (m.potential x) ∷ []))
          ≡ cond t (cond t s (add binary64 s (m.pair left x))) (sub binary64 (add binary64 (cond t s (add binary64 s (m.pair left x))) (m.site i x)) (m.potential x))
      go true = refl
      go false = sym (sub_is binary64 (add binary64 (add binary64 s (m.pair left x)) (m.site i x)) (m.potential x))

module _ (m : Model) (s : List ℕ) where
  -- the places up to one, and those after it
  prefix : (i : ℕ) → i < length s → chain_energy m s ≡ sum_from (score m (occupant s) i) (chain_terms m (suc i) (some (occupant s i)) (drop (suc i) s))
  unfolding chain_energy score
  prefix zero h =
      chain_more m s Decimal.zero 0 h ∙ ap (λ (sum : Float). sum_from sum (chain_terms m 1 (some (occupant s 0)) (drop 1 s))) (place-first m 0 (occupant s 0) Decimal.zero)
  prefix (suc i) h =
      prefix i (omega arith)
      ∙ rw add-one at (chain_more m s (score m (occupant s) i) (suc i) h)
      ∙ ap (λ (sum : Float). sum_from sum (chain_terms m (suc (suc i)) (some (occupant s (suc i))) (drop (suc (suc i)) s))) (place-next m (suc i) (occupant s (suc i)) (score m (occupant s) i) (occupant s i))

  pub chain-score : (last : ℕ) → length s ≡ suc last → chain_energy m s ≡ score m (occupant s) last
  chain-score last e = prefix last (omega arith) ∙ chain-done m s (score m (occupant s) last) (suc last) (omega arith)

-- ---- the options of a model are friends or 0, and there are some

module _ (m : Model) where
  pub own : (i x : ℕ) → Memᴰ x (options_at m i) → (x ≡ 0) ⊎ Friend m i x
  own i x o = go (Memᴰ.append_cases (friends_at m i) o)
    where
      go : Friend m i x ⊎ Memᴰ x (0 ∷ []) → (x ≡ 0) ⊎ Friend m i x
      go (inl f) = inr f
      go (inr z) = inl (Memᴰ.eq_of_singleton z)

  pub an-option : (i x : ℕ) → (x ≡ 0) ⊎ Friend m i x → Memᴰ x (options_at m i)
  an-option i x (inl e) = Memᴰ.append_right (friends_at m i) (Memᴰ.head e)
  an-option i x (inr f) = Memᴰ.append_left (0 ∷ []) f

  pub some-option : (i : ℕ) → 0 < length (options_at m i)
  some-option i = rw (length-append (friends_at m i) (0 ∷ [])) (omega arith)

module _ (m : Model) (n : ℕ) (b : Bounded m n) where
  pub rt : Rt m.rt
  rt = rt-range m.rt b.rt-double b.rt-range

  -- ---- products

  product-real : (s : List ℕ) → State m s → Real binary64 (chain_product m s)
  product-real s w = (chain-product-within m n b s w).real

  pub times-mono : (s r : Float) → Real binary64 s → Real binary64 r → Le binary64 s r → Le binary64 (mul binary64 s m.rt) (mul binary64 r m.rt)
  times-mono s r p q h = mul_mono binary64 s r m.rt p q rt.size.real rt.sign h

  rt-over : 0 < over binary64 m.rt
  rt-over = positive (2 ^ low binary64) (over binary64 m.rt) (pow_pos (low binary64)) rt.eighths
    where
      positive : (unit size : ℕ) → 0 < unit → unit ≤ 8 * size → 0 < size
      positive unit size h k = omega arith

  -- ---- a state that is least has both properties that are compared as doubles

  is_true : (t : Bool) → T t → t ≡ true
  is_true true h = refl
  is_true false h = absurd h

  module _ (s : List ℕ) (w : State m s) (least : (t : List ℕ) → State m t → Le binary64 (chain_product m s) (chain_product m t)) where
    lowest-of : (t : List ℕ) → State m t → le (chain_product m s) (chain_product m t) ≡ true
    lowest-of t v = is_true _ (Le→le binary64 (chain_product m s) (chain_product m t) (product-real s w) (product-real t v) (least t v))

    walk_of : eq (walk m) (chain_product m s) ≡ true
    unfolding walk count
    walk_of =
        let l = listed m in
        let counted : 0 < count m = ways-pos m.friends in
        let first : get_or (states m) 0 [] ≡ state_at m 0 = l.ranked 0 counted in
        let from_First = walk_ends binary64 (chain_product m) (states m) (rw l.size counted) (λ t k. product-real t (l.only t k)) in
        let ends : Ends binary64 (chain_product m) (states m) (walk m) = rw first at from_First in
        let v = l.only ends.of-state ends.listed in
        let below : Le binary64 (chain_product m s) (walk m) = rw ends.is (least ends.of-state v) in
        is_true _ (Le-antisymm binary64 (walk m) (chain_product m s) (rw ends.is (product-real ends.of-state v)) (product-real s w) (ends.least s (l.all s w)) below)

  -- ---- no positions

  module _ (e : positions m ≡ 0) where
    empty-product : chain_product m [] ≡ Decimal.zero
    unfolding chain_product chain_energy chain_terms sum_from
    empty-product = zero-times m.rt rt.size.real rt-over

    empty-state : State m []
    empty-state = record { places = sym e; occupants = λ i h. absurd (omega arith) }

    only-empty : (t : List ℕ) → State m t → Le binary64 (chain_product m []) (chain_product m t)
    only-empty [] v = Le-refl binary64 (chain_product m [])
    only-empty (x ∷ t) v = let l = v.places in absurd (omega arith)

    of_none : LowestConfiguration m [] Decimal.zero
    of_none =
        let w = empty-state in
        record {
          energy = sym empty-product;
          places = w;
          lowest = λ t v. rw empty-product at (lowest-of [] w only-empty t v);
          walk = rw empty-product at (walk_of [] w only-empty);
          empty = λ _. (refl, refl);
        }

  -- ---- one position or more

  module _ (last : ℕ) (e : positions m ≡ suc last) where
    short : last < 128
    short = omega (arith, b.short)

    abbrev found : SearchResult
    found = search_over m (options_at m) (times_rt m) (suc last)

    optimal : Optimal m n b (options_at m) (own m) (some-option m) (times_rt m) last found
    optimal =
        search-optimal m n b (options_at m) (own m) (some-option m) (times_rt m) last short
        (λ x s o w. (mul-within binary64 (240000 * suc last) 8 s m.rt w rt.size (le_trans (let k : 240000 * suc last * 8 ≤ 245760000 = omega (arith, short) in k) (lit≤ tt))).real)
        (λ x s r o v w h. times-mono s r v.real w.real h)

    sized : length found.configuration ≡ positions m
    unfolding search_over
    sized = traced-length (left_choice m (options_at m)) last (last_strand m (options_at m) (times_rt m) last) [] ∙ (omega arith)

    shown : State m found.configuration
    shown = record { places = sized; occupants = λ i h. own m i _ (optimal.inside i (omega arith)) }

    product-score : (t : List ℕ) → State m t → chain_product m t ≡ mul binary64 (score m (occupant t) last) m.rt
    unfolding chain_product
    product-score t v = ap (times_rt m 0) (chain-score m t last (v.places ∙ e))

    energy-is : found.energy ≡ chain_product m found.configuration
    energy-is = optimal.energy ∙ sym (product-score found.configuration shown)

    least : (t : List ℕ) → State m t → Le binary64 (chain_product m found.configuration) (chain_product m t)
    least t v = rw (← energy-is, product-score t v) (optimal.least (occupant t) (λ i h. an-option m i (occupant t i) (v.occupants i (omega arith))))

    of_some : LowestConfiguration m found.configuration found.energy
    of_some = record {
      energy = energy-is;
      places = shown;
      lowest = λ t v. rw energy-is (lowest-of found.configuration shown least t v);
      walk = rw energy-is (walk_of found.configuration shown least);
      empty = λ none. absurd (omega arith);
    }

  over-positions : (k : ℕ) → positions m ≡ k
      → LowestConfiguration m (search_over m (options_at m) (times_rt m) k).configuration (search_over m (options_at m) (times_rt m) k).energy
  over-positions zero e = unfold search_over in of_none e
  over-positions (suc last) e = of_some last e

-- the main theorem: demand 3, of every model within the bounds
pub search-lowest : (m : Model) (n : ℕ) → Bounded m n → LowestConfiguration m (search m).configuration (search m).energy
unfolding search
search-lowest m n b = over-positions m n b (positions m) refl
