-- The search over any options that are friends or 0, with any last step that keeps the order: the entry of a strand is the least sum of the
-- chains that end with it, so the configuration traced back from the least at the end is the least of all. Assumes nothing.
use mathlib.Core.Path.{◌≡◌, refl, sym, ap, ◌∙◌}
use mathlib.Core.Logic.{◌⊎◌, inl, inr}
use mathlib.Core.Bool.{Bool, true, false, cond}
use mathlib.Core.List.{List, [], Memᴰ}
use Prim.Native.Nat.{ℕ, zero, suc, ◌+◌, ◌*◌, ◌^◌, ◌<◌, ◌≤◌, zero-le}
use native.Mathlib.Nat.{le_trans, le_refl}
use native.Mathlib.Omega.{arith}
use lib.Dec.{eqb, lit≤}
use lib.ListN.{length}
use lib.Ieee.{Float, binary64, prec, add, sub}
use borrow.Author.Tests.{eq-eqb}
use Rattle.doubles.specs.Decimal as Decimal
use Rattle.doubles.specs.Size.{Real, Within}
use Rattle.doubles.specs.Order.{Le}
use Rattle.doubles.specs.Least.{or_later, or_earlier, last_least}
use Rattle.doubles.proofs.Order.{Le-refl, Le-trans}
use Rattle.doubles.proofs.Sums.{weaken, add-mono, add-within, sub-mono, sub_within}
use Rattle.doubles.proofs.Bounds.{zero-within}
use Rattle.doubles.proofs.Least.{Least, pick-least, later-better, earlier-better}
use Rattle.model.specs.Model.{Model, Friend, occupant}
use Rattle.model.specs.Bounds.{Bounded}
use Rattle.model.specs.Search.{with_strand_bond, with_scaffold_bond, least_left, entry, compared, left_choice, traced, SearchResult, product, last_strand, search_over}
use Rattle.model.proofs.Traced.{traced-at, traced-left, traced-options}

-- the sum of a chain up to a position: σ i is its occupant there
unfoldable pub score : Model → (ℕ → ℕ) → ℕ → Float
score m σ zero = with_scaffold_bond m 0 (σ 0) Decimal.zero
score m σ (suc i) = with_scaffold_bond m (suc i) (σ (suc i)) (with_strand_bond m (σ (suc i)) (σ i) (score m σ i))

-- ---- one step: its bounds, and that it keeps the order

module _ (m : Model) (n : ℕ) (b : Bounded m n) where
  abbrev pub Occupant : ℕ → ℕ → Type 0
  Occupant i x = (x ≡ 0) ⊎ Friend m i x

  pub below : (i x : ℕ) → Occupant i x → x < n
  below i x (inl e) = omega (arith, b.null)
  below i x (inr f) = b.known i x f

  module _ (A : ℕ) (room : A + 160000 ≤ 2 ^ prec binary64) where
    pub strand-bond-ok : (i x left : ℕ) (s : Float) → Occupant i x → left < n → Within binary64 A s → Within binary64 (A + 80000) (with_strand_bond m x left s)
    strand-bond-ok i x left s o l w = go (eqb x 0)
      where
        go : (t : Bool) → Within binary64 (A + 80000) (cond t s (add binary64 s (m.pair left x)))
        go true = weaken (A + 80000) (omega arith) w
        go false = add-within binary64 A 80000 s (m.pair left x) w (b.pairs left x l (below i x o)) (omega arith)

    pub strand-bond-mono : (i x left : ℕ) (s r : Float) → Occupant i x → left < n → Within binary64 A s → Within binary64 A r → Le binary64 s r
        → Le binary64 (with_strand_bond m x left s) (with_strand_bond m x left r)
    strand-bond-mono i x left s r o l v w h = go (eqb x 0)
      where
        p : Real binary64 (m.pair left x)
        p = (b.pairs left x l (below i x o)).real

        go : (t : Bool) → Le binary64 (cond t s (add binary64 s (m.pair left x))) (cond t r (add binary64 r (m.pair left x)))
        go true = h
        go false = add-mono binary64 s r _ _ v.real w.real p p h (Le-refl binary64 (m.pair left x))

    bonded : (i x : ℕ) (s : Float) → Friend m i x → Within binary64 A s → Within binary64 (A + 80000) (add binary64 s (m.site i x))
    bonded i x s f w = add-within binary64 A 80000 s (m.site i x) w (b.sites i x f) (omega arith)

    pub scaffold-bond-ok : (i x : ℕ) (s : Float) → Occupant i x → Within binary64 A s → Within binary64 (A + 160000) (with_scaffold_bond m i x s)
    scaffold-bond-ok i x s (inl e) w = rw (eq-eqb x 0 e) (weaken (A + 160000) (omega arith) w)
    scaffold-bond-ok i x s (inr f) w = go (eqb x 0)
      where
        go : (t : Bool) → Within binary64 (A + 160000) (cond t s (sub binary64 (add binary64 s (m.site i x)) (m.potential x)))
        go true = weaken (A + 160000) (omega arith) w
        go false = weaken (A + 160000) (omega arith) (sub_within binary64 (A + 80000) 1024 _ (m.potential x) (bonded i x s f w) (b.potentials i x f) (omega arith))

    pub scaffold-bond-mono : (i x : ℕ) (s r : Float) → Occupant i x → Within binary64 A s → Within binary64 A r → Le binary64 s r → Le binary64 (with_scaffold_bond m i x s) (with_scaffold_bond m i x r)
    scaffold-bond-mono i x s r (inl e) v w h = rw (eq-eqb x 0 e) h
    scaffold-bond-mono i x s r (inr f) v w h = go (eqb x 0)
      where
        p : Real binary64 (m.potential x)
        p = (b.potentials i x f).real

        q : Real binary64 (m.site i x)
        q = (b.sites i x f).real

        go : (t : Bool)
            → Le binary64 (cond t s (sub binary64 (add binary64 s (m.site i x)) (m.potential x))) (cond t r (sub binary64 (add binary64 r (m.site i x)) (m.potential x)))
        go true = h
        go false =
            sub-mono binary64 _ _ _ _ (bonded i x s f v).real (bonded i x r f w).real p p
            (add-mono binary64 s r _ _ v.real w.real q q h (Le-refl binary64 (m.site i x))) (Le-refl binary64 (m.potential x))

-- ---- the entries

module _ (m : Model) (n : ℕ) (b : Bounded m n) (options : ℕ → List ℕ) (own : (i x : ℕ) → Memᴰ x (options i) → (x ≡ 0) ⊎ Friend m i x)
    (some : (i : ℕ) → 0 < length (options i)) where
  -- at most three terms of at most 80,000 for each position
  room : (i : ℕ) → i < 128 → 240000 * suc i ≤ 2 ^ prec binary64
  room i h = le_trans (let k : 240000 * suc i ≤ 30720000 = omega arith in k) (lit≤ tt)

  abbrev pub Sum : ℕ → Float → Type 0
  Sum i s = Within binary64 (240000 * suc i) s

  entry-bound : (i x : ℕ) (s : Float) → i < 128 → Memᴰ x (options i) → Within binary64 (240000 * i + 80000) s → Sum i (with_scaffold_bond m i x s)
  entry-bound i x s h o w = weaken (240000 * suc i) (omega arith) (scaffold-bond-ok m n b (240000 * i + 80000) (omega (arith, room i h)) i x s (own i x o) w)

  compared-bound : (i x left : ℕ) (s : Float) → suc i < 128 → Memᴰ x (options (suc i)) → Memᴰ left (options i) → Sum i s → Within binary64 (240000 * suc i + 80000) (with_strand_bond m x left s)
  compared-bound i x left s h o l w = strand-bond-ok m n b (240000 * suc i) (omega (arith, room (suc i) h)) (suc i) x left s (own (suc i) x o) (below m n b i left (own i left l)) w

  -- the left choice is an option, and the least of those compared
  picked : (i x : ℕ) → suc i < 128 → Memᴰ x (options (suc i)) → ((left : ℕ) → Memᴰ left (options i) → Sum i (entry m options i left))
      → Least binary64 (compared m options i x) (options i) (last_least (compared m options i x) (options i))
  picked i x h o sums =
      pick-least binary64 (compared m options i x) (or_later (compared m options i x)) (later-better binary64 (compared m options i x)) (options i) (some i)
      (λ left l. (compared-bound i x left (entry m options i left) h o l (sums left l)).real)

  left-bound : (i x : ℕ) → i < 128 → Memᴰ x (options i) → Within binary64 (240000 * i + 80000) (least_left m options i x)
  unfolding least_left
  left-bound zero x h o = weaken (240000 * 0 + 80000) (omega arith) zero-within
  left-bound (suc i) x h o =
      let sums : (left : ℕ) → Memᴰ left (options i) → Sum i (entry m options i left) = λ left l. entry-bound i left (least_left m options i left) (omega arith) l (left-bound i left (omega arith) l) in
      let left = last_least (compared m options i x) (options i) in
      let l = (picked i x h o sums).member in
      compared-bound i x left (entry m options i left) h o l (sums left l)

  pub entry-sum : (i x : ℕ) → i < 128 → Memᴰ x (options i) → Sum i (entry m options i x)
  entry-sum i x h o = entry-bound i x (least_left m options i x) h o (left-bound i x h o)

  pub choice-option : (i x : ℕ) → suc i < 128 → Memᴰ x (options (suc i)) → Memᴰ (left_choice m options (suc i) x) (options i)
  unfolding left_choice
  choice-option i x h o = (picked i x h o (λ left l. entry-sum i left (omega arith) l)).member

  -- ---- chains

  -- the occupants up to a position are options
  abbrev pub Inside : ℕ → (ℕ → ℕ) → Type 0
  Inside last σ = (i : ℕ) → i ≤ last → Memᴰ (σ i) (options i)

  pub score-sum : (σ : ℕ → ℕ) (i : ℕ) → i < 128 → Inside i σ → Sum i (score m σ i)
  unfolding score
  score-sum σ zero h o = entry-bound 0 (σ 0) Decimal.zero h (o 0 zero-le) (weaken (240000 * 0 + 80000) (omega arith) zero-within)
  score-sum σ (suc i) h o =
      let l = o i (omega arith) in
      let r = o (suc i) (le_refl (suc i)) in
      entry-bound (suc i) (σ (suc i)) _ h r (compared-bound i (σ (suc i)) (σ i) _ h r l (score-sum σ i (omega arith) (λ j k. o j (omega arith))))

  -- no chain is below the entry of the strand that it ends with
  pub entry-least : (σ : ℕ → ℕ) (i : ℕ) → i < 128 → Inside i σ → Le binary64 (entry m options i (σ i)) (score m σ i)
  unfolding score least_left
  entry-least σ zero h o = Le-refl binary64 _
  entry-least σ (suc i) h o =
      let x = σ (suc i) in
      let l = o i (omega arith) in
      let r = o (suc i) (le_refl (suc i)) in
      let earlier : Inside i σ = λ j k. o j (omega arith) in
      let e = entry-sum i (σ i) (omega arith) l in
      let s = score-sum σ i (omega arith) earlier in
      let join = strand-bond-mono m n b (240000 * suc i) (omega (arith, room (suc i) h)) (suc i) x (σ i) _ _ (own (suc i) x r) (below m n b i (σ i) (own i (σ i) l)) e s (entry-least σ i (omega arith) earlier) in
      scaffold-bond-mono m n b (240000 * suc i + 80000) (omega (arith, room (suc i) h)) (suc i) x _ _ (own (suc i) x r) (left-bound (suc i) x h r) (compared-bound i x (σ i) _ h r l s)
      (Le-trans ((picked i x h r (λ left k. entry-sum i left (omega arith) k)).least (σ i) l) join)

  -- a chain that follows the left choices has the sum of its entry
  pub traced-score : (σ : ℕ → ℕ) (last : ℕ) → ((i : ℕ) → i < last → σ i ≡ left_choice m options (suc i) (σ (suc i))) → (i : ℕ) → i ≤ last → score m σ i ≡ entry m options i (σ i)
  unfolding score least_left left_choice
  traced-score σ last t zero h = refl
  traced-score σ last t (suc i) h =
      let x = σ (suc i) in
      ap (with_scaffold_bond m (suc i) x)
      (ap (with_strand_bond m x (σ i)) (traced-score σ last t i (omega arith)) ∙ ap (compared m options i x) (t i h))

  -- ---- the search

  pub record Optimal (ending : ℕ → Float → Float) (last : ℕ) (found : SearchResult) : Type 0 where
    pub inside : Inside last (occupant found.configuration)
    pub energy : found.energy ≡ ending (occupant found.configuration last) (score m (occupant found.configuration) last)
    pub least : (σ : ℕ → ℕ) → Inside last σ → Le binary64 found.energy (ending (σ last) (score m σ last))

  module _ (ending : ℕ → Float → Float) (last : ℕ) (short : last < 128)
      (ending-real : (x : ℕ) (s : Float) → Memᴰ x (options last) → Sum last s → Real binary64 (ending x s))
      (ending-mono : (x : ℕ) (s r : Float) → Memᴰ x (options last) → Sum last s → Sum last r → Le binary64 s r → Le binary64 (ending x s) (ending x r)) where
    chosen : Least binary64 (product m options ending last) (options last) (last_strand m options ending last)
    chosen =
        pick-least binary64 (product m options ending last) (or_earlier (product m options ending last)) (earlier-better binary64 (product m options ending last)) (options last) (some last)
        (λ x o. ending-real x _ o (entry-sum last x short o))

    abbrev shown : List ℕ
    shown = traced (left_choice m options) last (last_strand m options ending last) []

    ends : occupant shown last ≡ last_strand m options ending last
    ends = traced-at (left_choice m options) last (last_strand m options ending last) []

    scored : score m (occupant shown) last ≡ entry m options last (last_strand m options ending last)
    scored =
        traced-score (occupant shown) last (λ i h. traced-left (left_choice m options) last (last_strand m options ending last) [] i h) last (le_refl last)
        ∙ ap (entry m options last) ends

    pub search-optimal : Optimal ending last (search_over m options ending (suc last))
    unfolding search_over
    search-optimal = record {
      inside = λ i h.
          traced-options (left_choice m options) options last (λ j x l o. choice-option j x (omega arith) o) last (last_strand m options ending last) [] (le_refl last) chosen.member i h;
      energy = sym (ap (ending (occupant shown last)) scored ∙ ap (λ (x : ℕ). ending x (entry m options last (last_strand m options ending last))) ends);
      least = λ σ o.
          let x = σ last in
          let k = o last (le_refl last) in
          Le-trans (chosen.least x k) (ending-mono x _ _ k (entry-sum last x short k) (score-sum σ last short o) (entry-least σ last short o));
    }
