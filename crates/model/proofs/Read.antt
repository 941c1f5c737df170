-- Of a model only what is of friends is read: a place holds a friend or nothing, and an empty place adds no term. So of the potentials those of friends
-- alone. Assumes nothing.
use mathlib.Core.Path.{◌≡◌, refl, ap, ap₂, ◌∙◌, subst, sym}
use mathlib.Core.Logic.{◌⊎◌, inl, inr}
use mathlib.Core.Bool.{cond}
use mathlib.Core.List.{List, [], ◌∷◌, ◌++◌, Memᴰ}
use mathlib.Core.Option.{Option, none, some}
use Prim.Native.Nat.{ℕ, zero, suc, ◌-◌, ◌<◌}
use native.Mathlib.Nat.{le_refl, not-suc-le-zero}
use native.Mathlib.Omega.{arith}
use lib.Dec.{eqb}
use lib.ListN.{length, drop, get_or}
use lib.Ieee.{Float, binary64, neg, mul, add, sub, lt}
use borrow.Author.Tests.{eq-eqb}
use Rattle.lists.specs.Fold.{foldl}
use Rattle.doubles.specs.Decimal as Decimal
use Rattle.doubles.specs.Sum.{sum_from}
use Rattle.doubles.specs.Least.{last_least}
use Rattle.doubles.proofs.Least.{last_one, first_one, last-same, first-same}
use Rattle.model.specs.Model.{Model, State, Friend, positions, occupant}
use Rattle.model.specs.States.{states, state_at, count}
use Rattle.model.specs.Energy.{if_occupied, to_right, from_left, state_terms, chain_terms, state_energy, chain_energy, chain_product, lesser, walk}
use Rattle.model.specs.Search.{with_strand_bond, with_scaffold_bond, least_left, entry, compared, left_choice, traced, last_strand, product, SearchResult, search_over, options_at, times_rt, search}
use Rattle.model.specs.Ring.{closed_times_rt, ring_energy, with_first, ring_from, ring_least, ring_first, ring_search}
use Rattle.model.specs.Read.{SameRead, Alike, OnlyFriendsRead, RingAlike, OnlyFriendsReadByRings}
use Rattle.model.proofs.Bounds.{Occupants, occupants}
use Rattle.model.proofs.Listing.{listed}
use Rattle.model.proofs.Count.{ways-pos}
use Rattle.model.proofs.Traced.{traced-same}
use Rattle.model.proofs.Search.{own, some-option}

-- what a place of a state may hold
abbrev pub Held : Model → ℕ → ℕ → Type 0
Held m i x = (x ≡ 0) ⊎ Friend m i x

-- a model with other bonds and potentials
abbrev pub with_terms : Model → (ℕ → ℕ → Float) → (ℕ → ℕ → Float) → (ℕ → Float) → Model
with_terms m site pair potential = record { friends = m.friends; site = site; pair = pair; potential = potential; rt = m.rt }

module _ (m : Model) (site pair : ℕ → ℕ → Float) (potential : ℕ → Float)
    (same-site : (i x : ℕ) → Friend m i x → m.site i x ≡ site i x)
    (same-pair : (i x y : ℕ) → Held m i x → Held m (suc i) y → m.pair x y ≡ pair x y)
    (same-potential : (i x : ℕ) → Friend m i x → m.potential x ≡ potential x) where
  abbrev changed : Model
  changed = with_terms m site pair potential

  -- ---- terms

  -- what is made of an occupant's scaffold bond and potential where the place is not empty
  at_place : {A : Type 0} (i x : ℕ) (empty : A) (taken : Float → Float → A) → Held m i x
      → cond (eqb x 0) empty (taken (m.site i x) (m.potential x)) ≡ cond (eqb x 0) empty (taken (site i x) (potential x))
  at_place i x empty taken (inl e) = rw (eq-eqb x 0 e) refl
  at_place i x empty taken (inr f) = ap₂ (λ (b p : Float). cond (eqb x 0) empty (taken b p)) (same-site i x f) (same-potential i x f)

  right-same : (i x : ℕ) (s : List ℕ) → Held m i x → Occupants m (suc i) s → to_right m x s ≡ to_right changed x s
  right-same i x [] h o = refl
  right-same i x (y ∷ s) h o = ap (λ (b : Float). b ∷ []) (same-pair i x y h o.0)

  state-terms : (i : ℕ) (s : List ℕ) → Occupants m i s → state_terms m i s ≡ state_terms changed i s
  unfolding state_terms
  state-terms i [] o = refl
  state-terms i (x ∷ s) o =
      ap₂ (λ (here later : List Float). here ++ later)
      (at_place i x [] (λ b p. b ∷ to_right m x s ++ neg p ∷ []) o.0 ∙ ap (λ (bonds : List Float). if_occupied x (site i x ∷ bonds ++ neg (potential x) ∷ [])) (right-same i x s o.0 o.1))
      (state-terms (suc i) s o.1)

  -- the bond to what stands to the left of a place
  abbrev LeftSame : ℕ → Option ℕ → Type 0
  LeftSame i left = (x : ℕ) → Held m i x → from_left m left x ≡ from_left changed left x

  chain-terms : (i : ℕ) (left : Option ℕ) (s : List ℕ) → LeftSame i left → Occupants m i s → chain_terms m i left s ≡ chain_terms changed i left s
  unfolding chain_terms
  chain-terms i left [] before o = refl
  chain-terms i left (x ∷ s) before o =
      ap₂ (λ (here later : List Float). here ++ later)
      (at_place i x [] (λ b p. from_left m left x ++ b ∷ neg p ∷ []) o.0 ∙ ap (λ (bonds : List Float). if_occupied x (bonds ++ site i x ∷ neg (potential x) ∷ [])) (before x o.0))
      (chain-terms (suc i) (some x) s (λ y h. ap (λ (b : Float). b ∷ []) (same-pair i x y o.0 h)) o.1)

  state-same : (s : List ℕ) → State m s → state_energy m s ≡ state_energy changed s
  unfolding state_energy
  state-same s w = ap (λ (terms : List Float). mul binary64 (sum_from Decimal.zero terms) m.rt) (state-terms 0 s (occupants m s w))

  chain_same : (s : List ℕ) → State m s → chain_energy m s ≡ chain_energy changed s
  unfolding chain_energy
  chain_same s w = ap (sum_from Decimal.zero) (chain-terms 0 none s (λ x h. refl) (occupants m s w))

  product-same : (s : List ℕ) → State m s → chain_product m s ≡ chain_product changed s
  unfolding chain_product
  product-same s w = ap (λ (e : Float). mul binary64 e m.rt) (chain_same s w)

  -- ---- the walk

  fold_same : (least : Float) (ss : List (List ℕ)) → ((s : List ℕ) → Memᴰ s ss → State m s) → foldl (lesser (chain_product m)) least ss ≡ foldl (lesser (chain_product changed)) least ss
  unfolding foldl
  fold_same least [] h = refl
  fold_same least (s ∷ ss) h =
      ap (λ (e : Float). foldl (lesser (chain_product m)) (cond (lt e least) e least) ss) (product-same s (h s (Memᴰ.head refl)))
      ∙ fold_same (lesser (chain_product changed) least s) ss (λ t k. h t (Memᴰ.tail k))

  tail_of : (ss : List (List ℕ)) (s : List ℕ) → Memᴰ s (drop 1 ss) → Memᴰ s ss
  tail_of (t ∷ ss) s k = Memᴰ.tail k
  tail_of [] s k = k

  first-state : State m (state_at m 0)
  unfolding count
  first-state =
      let l = listed m in
      let counted : 0 < count m = ways-pos m.friends in
      l.only (state_at m 0) (subst (λ (s : List ℕ). Memᴰ s (states m)) (l.ranked 0 counted) (first_of (states m) (rw l.size counted)))
    where
      first_of : (ss : List (List ℕ)) → 0 < length ss → Memᴰ (get_or ss 0 []) ss
      first_of [] h = absurd (not-suc-le-zero h)
      first_of (s ∷ ss) h = Memᴰ.head refl

  walk_same : walk m ≡ walk changed
  unfolding walk
  walk_same =
      fold_same (chain_product m (state_at m 0)) (drop 1 (states m)) (λ s k. (listed m).only s (tail_of (states m) s k))
      ∙ ap (λ (e : Float). foldl (lesser (chain_product changed)) e (drop 1 (states m))) (product-same (state_at m 0) first-state)

  -- ---- a search over any options of each position that are among its own, with any last step

  module _ (options : ℕ → List ℕ) (owned : (i x : ℕ) → Memᴰ x (options i) → Held m i x) (nonempty : (i : ℕ) → 0 < length (options i)) (ending : ℕ → Float → Float) where
    entry-with : (i x : ℕ) (s r : Float) → Memᴰ x (options i) → s ≡ r → with_scaffold_bond m i x s ≡ with_scaffold_bond changed i x r
    entry-with i x s r o e = at_place i x s (λ b p. sub binary64 (add binary64 s b) p) (owned i x o) ∙ ap (with_scaffold_bond changed i x) e

    bond-with : (i x left : ℕ) (s r : Float) → Memᴰ x (options (suc i)) → Memᴰ left (options i) → s ≡ r → with_strand_bond m x left s ≡ with_strand_bond changed x left r
    bond-with i x left s r h o e = ap₂ (λ (b t : Float). cond (eqb x 0) t (add binary64 t b)) (same-pair i left x (owned i left o) (owned (suc i) x h)) e

    left-same : (i x : ℕ) → Memᴰ x (options i) → least_left m options i x ≡ least_left changed options i x
    unfolding least_left
    left-same zero x h = refl
    left-same (suc i) x h =
        let agree : (left : ℕ) → Memᴰ left (options i) → compared m options i x left ≡ compared changed options i x left = λ left o. bond-with i x left _ _ h o (entry-with i left _ _ o (left-same i left o)) in
        let picked = last-same (compared m options i x) (compared changed options i x) (options i) agree in
        agree (last_least (compared m options i x) (options i)) (last_one (compared m options i x) (options i) (nonempty i))
        ∙ ap (compared changed options i x) picked

    entry-same : (i x : ℕ) → Memᴰ x (options i) → entry m options i x ≡ entry changed options i x
    entry-same i x o = entry-with i x _ _ o (left-same i x o)

    compared_same : (i x left : ℕ) → Memᴰ x (options (suc i)) → Memᴰ left (options i) → compared m options i x left ≡ compared changed options i x left
    compared_same i x left h o = bond-with i x left _ _ h o (entry-same i left o)

    choice-same : (i x : ℕ) → Memᴰ x (options i) → left_choice m options i x ≡ left_choice changed options i x
    unfolding left_choice
    choice-same zero x h = refl
    choice-same (suc i) x h = last-same (compared m options i x) (compared changed options i x) (options i) (λ left. compared_same i x left h)

    choice-option : (i x : ℕ) → Memᴰ (left_choice m options (suc i) x) (options i)
    unfolding left_choice
    choice-option i x = last_one (compared m options i x) (options i) (nonempty i)

    over-same : (k : ℕ) → search_over m options ending k ≡ search_over changed options ending k
    unfolding search_over
    over-same zero = refl
    over-same (suc last) =
        let agree : (x : ℕ) → Memᴰ x (options last) → product m options ending last x ≡ product changed options ending last x = λ x o. ap (ending x) (entry-same last x o) in
        let key = product m options ending last in
        let first : last_strand m options ending last ≡ last_strand changed options ending last = first-same key (product changed options ending last) (options last) agree in
        let o = first_one key (options last) (nonempty last) in
        result
        (sym (traced-same (left_choice m options) (left_choice changed options) options last (λ i x l k. choice-option i x) (λ i x l k. sym (choice-same (suc i) x k)) last (last_strand m options ending last) [] (le_refl last) o) ∙ ap (λ (x : ℕ). traced (left_choice changed options) last x []) first)
        (agree (last_strand m options ending last) o ∙ ap (product changed options ending last) first)
      where
        result : {s t : List ℕ} {e f : Float} → s ≡ t → e ≡ f → ◌≡◌ {A = SearchResult} (record { configuration = s; energy = e }) (record { configuration = t; energy = f })
        result p q = cc

  search-same : search m ≡ search changed
  unfolding search
  search-same = over-same (options_at m) (own m) (some-option m) (times_rt m) (positions m)

  pub alike-with : Alike m changed
  unfolding count
  alike-with = record {
    listed = refl;
    counted = refl;
    ranked = λ rank. refl;
    state_energies = state-same;
    chain_energies = chain_same;
    products = product-same;
    walked = walk_same;
    searched = search-same;
  }

-- ---- other potentials alone

module _ (m : Model) (potential : ℕ → Float) (same : (i x : ℕ) → Friend m i x → m.potential x ≡ potential x) where
  abbrev with_potential : Model
  with_potential = with_terms m m.site m.pair potential

  -- the one occupant of position 0 is an option of it
  first_owned : (f : ℕ) → Memᴰ f (options_at m 0) → (i x : ℕ) → Memᴰ x (with_first m f i) → Held m i x
  first_owned f o zero x k = subst (λ (y : ℕ). Held m 0 y) (sym (mathlib.Core.List.Memᴰ.eq_of_singleton k)) (own m 0 f o)
  first_owned f o (suc i) x k = own m (suc i) x k

  first_nonempty : (f i : ℕ) → 0 < length (with_first m f i)
  first_nonempty f zero = omega arith
  first_nonempty f (suc i) = some-option m (suc i)

  from_same : (f : ℕ) → Memᴰ f (options_at m 0) → ring_from m f ≡ ring_from with_potential f
  unfolding ring_from
  from_same f o = over-same m m.site m.pair potential (λ i x g. refl) (λ i x y h k. refl) same (with_first m f) (first_owned f o) (first_nonempty f) (closed_times_rt m f) (positions m)

  first_is : ring_first m ≡ ring_first with_potential
  first_is = first-same (ring_least m) (ring_least with_potential) (options_at m 0) (λ x o. ap (λ (found : SearchResult). found.energy) (from_same x o))

  pub rings-with : RingAlike m with_potential
  unfolding ring_energy ring_search
  rings-with = record {
    energies = λ s w. ap (closed_times_rt m (occupant s 0) (occupant s (length s - 1))) (chain_same m m.site m.pair potential (λ i x g. refl) (λ i x y h k. refl) same s w);
    searched = from_same (ring_first m) (first_one (ring_least m) (options_at m 0) (some-option m 0)) ∙ ap (ring_from with_potential) first_is;
  }

-- models that are the same but for potentials that are not read
whole : (m n : Model) → SameRead m n → with_terms m m.site m.pair n.potential ≡ n
whole m n r = let e : with_terms m m.site m.pair n.potential ≡ with_terms n n.site n.pair n.potential = cc in e

pub only-friends-read : OnlyFriendsRead
only-friends-read m n r = subst (Alike m) (whole m n r) (alike-with m m.site m.pair n.potential (λ i x f. refl) (λ i x y h k. refl) r.potential)

pub rings-read : OnlyFriendsReadByRings
rings-read m n r = subst (RingAlike m) (whole m n r) (rings-with m n.potential r.potential)
