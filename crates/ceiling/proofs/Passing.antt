-- The first state under a ceiling, found position by position: what one option of a position adds, and what the whole listing has. Assumes nothing.
use mathlib.Core.Path.{◌≡◌, refl, sym, ap, ◌∙◌}
use mathlib.Core.Bool.{Bool, true, false, cond}
use mathlib.Core.List.{List, [], ◌∷◌, ◌++◌, map, append-nil, append_assoc}
use Rattle.std.specs.Prelude.{Option, None, Some}
use Rattle.std.specs.Bool.{then_some}
use Prim.Native.Nat.{ℕ, suc, ◌+◌, ◌<◌, ◌≤◌}
use native.Mathlib.Nat.{not-suc-le-zero, le_of_suc-le-suc}
use native.Mathlib.Omega.{arith}
use native.Mathlib.Numerals.{add-one}
use lib.ListN.{length, get_or, take, drop, set, drop_of_length-le, length-map}
use lib.Seq.{drop-cons, take_all, set_at, length-take-le, take-suc}
use lib.Ieee.{Float, le}
use Rattle.lists.specs.Find.{first_index}
use Rattle.lists.proofs.Places.{get_or-map-lt}
use Rattle.model.specs.Model as Model
use Rattle.model.specs.Model.{Model, options, options_of}
use Rattle.model.specs.Search.{options_at}
use Rattle.model.specs.States.{each_before, listing}
use Rattle.prepared.specs.inner.Sums.{begun_at, sum_on, energy_on}
use Rattle.ceiling.specs.inner.Passing.{under_on, first_passing, Told, UnderFrom}

-- ---- the first that passes

-- what begins with an occupant, or else what begins otherwise
abbrev pub beginning : ℕ → Option (List ℕ) → Option (List ℕ) → Option (List ℕ)
beginning x (Some s) other = Some (x ∷ s)
beginning x None other = other

module _ (p : List ℕ → Bool) where
  passing-map : (x : ℕ) (tails others : List (List ℕ)) → first_passing p (map (x ∷◌) tails ++ others) ≡ beginning x (first_passing (λ t. p (x ∷ t)) tails) (first_passing p others)
  unfolding first_passing
  passing-map x [] others = refl
  passing-map x (t ∷ tails) others = go (p (x ∷ t)) (passing-map x tails others)
    where
      go : (b : Bool) → first_passing p (map (x ∷◌) tails ++ others) ≡ beginning x (first_passing (λ t. p (x ∷ t)) tails) (first_passing p others)
          → cond b (Some (x ∷ t)) (first_passing p (map (x ∷◌) tails ++ others)) ≡ beginning x (cond b (Some t) (first_passing (λ t. p (x ∷ t)) tails)) (first_passing p others)
      go true rest = refl
      go false rest = rest

  passing-before : (x : ℕ) (heads : List ℕ) (tails : List (List ℕ)) → first_passing p (each_before (x ∷ heads) tails) ≡ beginning x (first_passing (λ t. p (x ∷ t)) tails) (first_passing p (each_before heads tails))
  unfolding each_before
  passing-before x heads tails = passing-map x tails (each_before heads tails)

  -- by the place of the first
  pub passing-some : (ss : List (List ℕ)) → first_index p ss < length ss → first_passing p ss ≡ Some (get_or ss (first_index p ss) [])
  unfolding first_passing first_index
  passing-some [] h = absurd (not-suc-le-zero h)
  passing-some (s ∷ ss) h = go (p s) h (λ l. passing-some ss l)
    where
      go : (b : Bool) → cond b 0 (suc (first_index p ss)) < suc (length ss) → (first_index p ss < length ss → first_passing p ss ≡ Some (get_or ss (first_index p ss) []))
          → cond b (Some s) (first_passing p ss) ≡ Some (get_or (s ∷ ss) (cond b 0 (suc (first_index p ss))) [])
      go true h rest = refl
      go false h rest = rest (le_of_suc-le-suc h)

  pub passing-none : (ss : List (List ℕ)) → length ss ≤ first_index p ss → first_passing p ss ≡ None
  unfolding first_passing first_index
  passing-none [] h = refl
  passing-none (s ∷ ss) h = go (p s) h (λ l. passing-none ss l)
    where
      go : (b : Bool) → suc (length ss) ≤ cond b 0 (suc (first_index p ss)) → (length ss ≤ first_index p ss → first_passing p ss ≡ None) → cond b (Some s) (first_passing p ss) ≡ None
      go true h rest = absurd (not-suc-le-zero h)
      go false h rest = rest (le_of_suc-le-suc h)

-- ---- with all places taken

module _ (m : Model) (ceiling : Float) (i left : ℕ) (sum : Float) (before : List ℕ) (all : length (options m) ≤ i) (whole : length before ≤ i) (energy : Float) (e : energy ≡ energy_on m i left sum []) where
  -- a state alone passes where its energy is under the ceiling
  pub end-told : UnderFrom m ceiling i left sum before before (then_some (le energy ceiling) energy)
  unfolding listing first_passing under_on
  end-told = go (le energy ceiling) refl
    where
      go : (under : Bool) → le energy ceiling ≡ under → UnderFrom m ceiling i left sum before before (then_some under energy)
      go true h = rw (drop_of_length-le (options m) all, ← e, h) (ap Some e, rw (take_all i before whole) (sym (append-nil before)))
      go false h = rw (drop_of_length-le (options m) all, ← e, h) (refl, refl)

-- ---- the options of a position in turn

-- the first that passes of those that have the option k or a later one
abbrev pub rest_from : Model → Float → ℕ → ℕ → Float → ℕ → Option (List ℕ)
rest_from m ceiling i left sum k = first_passing (under_on m ceiling i left sum) (each_before (drop k (options_at m i)) (listing (drop (i + 1) (options m))))

-- the first that passes of those that begin with an occupant
abbrev pub with_option : Model → Float → ℕ → ℕ → Float → ℕ → Option (List ℕ)
with_option m ceiling i left sum x = first_passing (under_on m ceiling (i + 1) x (begun_at m i left sum x)) (listing (drop (i + 1) (options m)))

module _ (m : Model) (ceiling : Float) (i left : ℕ) (sum : Float) where
  pub rest_all : i < Model.positions m → first_passing (under_on m ceiling i left sum) (listing (drop i (options m))) ≡ rest_from m ceiling i left sum 0
  unfolding listing
  rest_all h =
      let here : get_or (options m) i [] ≡ options_at m i = get_or-map-lt options_of m.friends i [] [] h in
      rw (add-one, drop-cons (options m) i [] (rw (length-map m.friends options_of) h), here) refl

  pub rest_more : (k : ℕ) → k < length (options_at m i) → rest_from m ceiling i left sum k
      ≡ beginning (get_or (options_at m i) k 0) (with_option m ceiling i left sum (get_or (options_at m i) k 0)) (rest_from m ceiling i left sum (k + 1))
  unfolding under_on energy_on sum_on
  rest_more k h = rw (add-one, add-one, drop-cons (options_at m i) k 0 h) (passing-before (under_on m ceiling i left sum) (get_or (options_at m i) k 0) (drop (suc k) (options_at m i)) (listing (drop (suc i) (options m))))

  pub rest-done : (k : ℕ) → length (options_at m i) ≤ k → rest_from m ceiling i left sum k ≡ None
  unfolding each_before first_passing
  rest-done k h = rw (drop_of_length-le (options_at m i) h) refl

  -- what an option's own search tells is told of the position
  module _ (x : ℕ) (before after : List ℕ) (inside : i < length before) (r : Option Float) where
    written : (s : List ℕ) → after ≡ take (i + 1) before ++ s → set after i x ≡ take i before ++ (x ∷ s)
    written s e = go
      where
        one_more : take (i + 1) before ≡ take i before ++ (get_or before i 0 ∷ [])
        one_more = rw add-one (take-suc before i 0 inside)

        go : set after i x ≡ take i before ++ (x ∷ s)
        go = rw (e, one_more, append_assoc) (set_at (take i before) (get_or before i 0) s x i (length-take-le i before (omega arith)))

    pub told-some : (O other : Option (List ℕ)) (energy : Float) → Told m (i + 1) x (begun_at m i left sum x) before after r O → r ≡ Some energy → Told m i left sum before (set after i x) (Some energy) (beginning x O other)
    unfolding energy_on sum_on
    told-some None other energy w e = let z : ◌≡◌ {A = ℕ} 0 1 = cc (w.0, e) in absurd (omega arith)
    told-some (Some s) other energy w e = (sym e ∙ w.0 ∙ rw add-one refl, written s w.1)

    pub told_none : (O : Option (List ℕ)) → Told m (i + 1) x (begun_at m i left sum x) before after r O → r ≡ None → (O ≡ None) × (after ≡ before)
    told_none None w e = (refl, w.1)
    told_none (Some s) w e = let z : ◌≡◌ {A = ℕ} 0 1 = cc (w.0, e) in absurd (omega arith)

  -- one option more, as the code meets it
  module _ (k : ℕ) (before entries after : List ℕ) (r : Option Float) {strand next : ℕ} {next_sum : Float}
      (here : i < Model.positions m) (inside : k < length (options_at m i)) (room : i < length before)
      (strand-is : strand ≡ get_or (options_at m i) k 0) (next-is : next ≡ strand) (sum_is_lem : next_sum ≡ begun_at m i left sum strand)
      (same : entries ≡ before) (old : rest_from m ceiling i left sum 0 ≡ rest_from m ceiling i left sum k)
      (new : UnderFrom m ceiling (i + 1) next next_sum entries after r) where
    option : ℕ
    option = get_or (options_at m i) k 0

    told : Told m (i + 1) strand (begun_at m i left sum strand) before after r (with_option m ceiling i left sum strand)
    told = rw (next-is, sum_is_lem, same) at new

    pub step-some : (energy : Float) → r ≡ Some energy → UnderFrom m ceiling i left sum before (set after i strand) (Some energy)
    step-some energy e =
        let split : rest_from m ceiling i left sum k ≡ beginning strand (with_option m ceiling i left sum strand) (rest_from m ceiling i left sum (k + 1)) = rw strand-is (rest_more k inside) in
        rw (rest_all here ∙ old ∙ split) (told-some strand before after room r (with_option m ceiling i left sum strand) (rest_from m ceiling i left sum (k + 1)) energy told e)

    pub step-none : r ≡ None → (after ≡ before) × (rest_from m ceiling i left sum 0 ≡ rest_from m ceiling i left sum (k + 1))
    step-none e =
        let none_here = told_none strand before after room r (with_option m ceiling i left sum strand) told e in
        let split : rest_from m ceiling i left sum k ≡ beginning strand (with_option m ceiling i left sum strand) (rest_from m ceiling i left sum (k + 1)) = rw strand-is (rest_more k inside) in
        (none_here.1, old ∙ split ∙ ap (λ (O : Option (List ℕ)). beginning strand O (rest_from m ceiling i left sum (k + 1))) none_here.0)

  -- none is left
  pub step-done : (k : ℕ) (before entries : List ℕ) → i < Model.positions m → length (options_at m i) ≤ k → entries ≡ before → rest_from m ceiling i left sum 0 ≡ rest_from m ceiling i left sum k → UnderFrom m ceiling i left sum before entries None
  step-done k before entries here all same old = rw (rest_all here ∙ old ∙ rest-done k all) (refl, same)
