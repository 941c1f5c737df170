-- The search for rings gives the lowest ring energy, of every model within the bounds that has a position. Why: with one first occupant it is the chain's
-- search over fewer options, whose last step, closing the ring, never turns the order of two sums round, so that `search-optimal` holds of it;
-- and the least of all first occupants is at most what any state has with its own. Assumes nothing.
use mathlib.Core.Path.{◌≡◌, refl, sym, ap, ap₂, ◌∙◌, subst}
use mathlib.Core.Logic.{◌⊎◌}
use mathlib.Core.Bool.{Bool, true, false, cond, ◌||◌}
use mathlib.Core.List.{List, [], ◌∷◌, Memᴰ}
use Prim.Native.Nat.{ℕ, zero, suc, ◌+◌, ◌-◌, ◌*◌, ◌<◌, ◌≤◌, zero-le}
use native.Mathlib.Nat.{le_refl, le_trans}
use native.Mathlib.Omega.{arith}
use lib.Dec.{T, eqb, lit≤}
use lib.ListN.{length}
use lib.Ieee.{Float, binary64, add}
use Rattle.doubles.specs.Size.{Real, Within}
use Rattle.doubles.specs.Order.{Le}
use Rattle.doubles.specs.Least.{or_earlier}
use Rattle.doubles.proofs.Order.{Le-refl, Le-trans, Le→le}
use Rattle.doubles.proofs.Sums.{weaken, add-mono, add-within}
use Rattle.doubles.proofs.Products.{mul-within}
use Rattle.doubles.proofs.Least.{Least, pick-least, earlier-better}
use Rattle.model.specs.Model.{Model, State, Friend, occupant, positions}
use Rattle.model.specs.Bounds.{Bounded}
use Rattle.model.specs.Search.{SearchResult, search_over, options_at, left_choice, last_strand}
use Rattle.model.specs.Ring.{closed, closed_times_rt, ring_energy, with_first, ring_from, ring_least, ring_first, ring_search, LowestRing}
use Rattle.model.proofs.Optimal.{score, below, Optimal, search-optimal, score-sum}
use Rattle.model.proofs.Search.{chain-score, rt, own, an-option, some-option, times-mono}
use Rattle.model.proofs.Traced.{traced-length}

module _ (m : Model) (n : ℕ) (b : Bounded m n) (last : ℕ) (e : positions m ≡ suc last) where
  short : last < 128
  short = omega (arith, b.short)

  module _ (f : ℕ) (o : Memᴰ f (options_at m 0)) where
    own_first : (i x : ℕ) → Memᴰ x (with_first m f i) → (x ≡ 0) ⊎ Friend m i x
    own_first zero x k = subst (λ (y : ℕ). (y ≡ 0) ⊎ Friend m 0 y) (sym (mathlib.Core.List.Memᴰ.eq_of_singleton k)) (own m 0 f o)
    own_first (suc i) x k = own m (suc i) x k

    some_first : (i : ℕ) → 0 < length (with_first m f i)
    some_first zero = omega arith
    some_first (suc i) = some-option m (suc i)

    first_below : f < n
    first_below = below m n b 0 f (own m 0 f o)

    pair-in : (x : ℕ) → Memᴰ x (with_first m f last) → Within binary64 80000 (m.pair x f)
    pair-in x k = b.pairs x f (below m n b last x (own_first last x k)) first_below

    abbrev Sum : Float → Type 0
    Sum s = Within binary64 (240000 * suc last) s

    closed_in : (x : ℕ) (s : Float) → Memᴰ x (with_first m f last) → Sum s → Within binary64 (240000 * suc last + 80000) (closed m f x s)
    closed_in x s k w = go (eqb f 0 || eqb x 0)
      where
        go : (t : Bool) → Within binary64 (240000 * suc last + 80000) (cond t s (add binary64 s (m.pair x f)))
        go true = weaken (240000 * suc last + 80000) (omega arith) w
        go false = add-within binary64 (240000 * suc last) 80000 s (m.pair x f) w (pair-in x k) (le_trans (let h : 240000 * suc last + 80000 ≤ 30800000 = omega (arith, short) in h) (lit≤ tt))

    closed-mono : (x : ℕ) (s r : Float) → Memᴰ x (with_first m f last) → Sum s → Sum r → Le binary64 s r → Le binary64 (closed m f x s) (closed m f x r)
    closed-mono x s r k v w h = go (eqb f 0 || eqb x 0)
      where
        p : Real binary64 (m.pair x f)
        p = (pair-in x k).real

        go : (t : Bool) → Le binary64 (cond t s (add binary64 s (m.pair x f))) (cond t r (add binary64 r (m.pair x f)))
        go true = h
        go false = add-mono binary64 s r _ _ v.real w.real p p h (Le-refl binary64 (m.pair x f))

    ending-real : (x : ℕ) (s : Float) → Memᴰ x (with_first m f last) → Sum s → Real binary64 (closed_times_rt m f x s)
    ending-real x s k w =
        (mul-within binary64 (240000 * suc last + 80000) 8 (closed m f x s) m.rt (closed_in x s k w) (rt m n b).size
        (le_trans (let h : (240000 * suc last + 80000) * 8 ≤ 246400000 = omega (arith, short) in h) (lit≤ tt))).real

    abbrev found : SearchResult
    found = search_over m (with_first m f) (closed_times_rt m f) (suc last)

    optimal : Optimal m n b (with_first m f) own_first some_first (closed_times_rt m f) last found
    optimal =
        search-optimal m n b (with_first m f) own_first some_first (closed_times_rt m f) last short ending-real
        (λ x s r k v w h. times-mono m n b (closed m f x s) (closed m f x r) (closed_in x s k v).real (closed_in x r k w).real (closed-mono x s r k v w h))

    -- what is shown begins with f
    begins : occupant found.configuration 0 ≡ f
    begins = mathlib.Core.List.Memᴰ.eq_of_singleton (optimal.inside 0 zero-le)

    sized : length found.configuration ≡ suc last
    unfolding search_over
    sized = traced-length (left_choice m (with_first m f)) last (last_strand m (with_first m f) (closed_times_rt m f) last) [] ∙ (omega arith)

    shown : State m found.configuration
    shown = record { places = sized ∙ sym e; occupants = λ i h. own_first i _ (optimal.inside i (omega arith)) }

    real : Real binary64 found.energy
    real = rw optimal.energy (ending-real _ _ (optimal.inside last (le_refl last)) (score-sum m n b (with_first m f) own_first some_first (occupant found.configuration) last short optimal.inside))

    found-is : ring_from m f ≡ found
    unfolding ring_from
    found-is = ap (search_over m (with_first m f) (closed_times_rt m f)) e

  -- the ring energy of a state, by its score
  ring-score : (t : List ℕ) → State m t → ring_energy m t ≡ closed_times_rt m (occupant t 0) (occupant t last) (score m (occupant t) last)
  unfolding ring_energy
  ring-score t v =
      let l : length t ≡ suc last = v.places ∙ e in
      ap₂ (λ (k : ℕ) (s : Float). closed_times_rt m (occupant t 0) (occupant t k) s) (let h : length t - 1 ≡ last = omega arith in h) (chain-score m t last l)

  -- the least of all first occupants
  abbrev first : ℕ
  first = ring_first m

  chosen : Least binary64 (ring_least m) (options_at m 0) first
  chosen =
      pick-least binary64 (ring_least m) (or_earlier (ring_least m)) (earlier-better binary64 (ring_least m)) (options_at m 0) (some-option m 0)
      (λ f o. subst (λ (r : SearchResult). Real binary64 r.energy) (sym (found-is f o)) (real f o))

  shown-first : State m (found first chosen.member).configuration
  shown-first = shown first chosen.member

  energy-is : (found first chosen.member).energy ≡ ring_energy m (found first chosen.member).configuration
  energy-is =
      let o = chosen.member in
      let s = (found first o).configuration in
      (optimal first o).energy ∙ ap (λ (f : ℕ). closed_times_rt m f (occupant s last) (score m (occupant s) last)) (sym (begins first o)) ∙ sym (ring-score s shown-first)

  option-at : (t : List ℕ) → State m t → (i : ℕ) → i ≤ last → Memᴰ (occupant t i) (with_first m (occupant t 0) i)
  option-at t v zero h = mathlib.Core.List.Memᴰ.head refl
  option-at t v (suc i) h = an-option m (suc i) (occupant t (suc i)) (v.occupants (suc i) (omega arith))

  least : (t : List ℕ) → State m t → Le binary64 (found first chosen.member).energy (ring_energy m t)
  least t v =
      let x = occupant t 0 in
      let o : Memᴰ x (options_at m 0) = an-option m 0 x (v.occupants 0 (omega arith)) in
      let outer : Le binary64 (ring_least m first) (ring_least m x) = chosen.least x o in
      let half : Le binary64 (found first chosen.member).energy (ring_least m x) = subst (λ (r : SearchResult). Le binary64 r.energy (ring_least m x)) (found-is first chosen.member) outer in
      let outer' : Le binary64 (found first chosen.member).energy (found x o).energy = subst (λ (r : SearchResult). Le binary64 (found first chosen.member).energy r.energy) (found-is x o) half in
      Le-trans outer' (rw (ring-score t v) ((optimal x o).least (occupant t) (λ i h. option-at t v i h)))

  ring-real : (t : List ℕ) → State m t → Real binary64 (ring_energy m t)
  ring-real t v =
      let x = occupant t 0 in
      let o : Memᴰ x (options_at m 0) = an-option m 0 x (v.occupants 0 (omega arith)) in
      rw (ring-score t v) (ending-real x o (occupant t last) _ (option-at t v last (le_refl last)) (score-sum m n b (with_first m x) (own_first x o) (some_first x o) (occupant t) last short (λ i h. option-at t v i h)))

  holds : (t : Bool) → T t → t ≡ true
  holds true h = refl
  holds false h = absurd h

  of-found : LowestRing m (found first chosen.member).configuration (found first chosen.member).energy
  of-found = record {
    energy = energy-is;
    places = shown-first;
    lowest = λ t v. holds _ (Le→le binary64 (found first chosen.member).energy (ring_energy m t) (real first chosen.member) (ring-real t v) (least t v));
  }

  pub ring-lowest : LowestRing m (ring_search m).configuration (ring_search m).energy
  unfolding ring_search
  ring-lowest = subst (λ (r : SearchResult). LowestRing m r.configuration r.energy) (sym (found-is first chosen.member)) of-found
