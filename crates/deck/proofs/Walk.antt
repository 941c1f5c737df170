-- Going through a deck's words from the front, with the stretch before and the positions that are left, finds its fault. Assumes nothing.
use mathlib.Core.Path.{◌≡◌, refl, sym, ap, ◌∙◌}
use mathlib.Core.Bool.{Bool, true, false, cond, not, ◌&&◌, and-false}
use mathlib.Core.List.{List, [], ◌∷◌, map}
use Prim.Native.Nat.{ℕ, suc, ◌+◌, ◌-◌, ◌≤◌, ◌<◌}
use native.Mathlib.Nat.{add-zero}
use native.Mathlib.Numerals.{add-one}
use native.Mathlib.Omega.{arith}
use lib.Dec.{leb, eqb}
use lib.ListN.{length, get_or, drop, drop_of_length-le}
use lib.Seq.{drop-cons}
use borrow.Author.Tests.{leb-true, leb-false, eqb-true, eqb-false, eq-eqb, ne_eqb, le-leb, lt-leb}
use Rattle.lists.specs.Find.{first_index}
use Rattle.lists.specs.Front.{beginnings}
use Rattle.lists.proofs.Find.{first-map, first-same}
use Rattle.lists.proofs.Front.{beginnings-map}
use Rattle.deck.specs.Word.{payload_of}
use Rattle.deck.specs.Form.{Form, nothing, something, same_run, may_follow}
use Rattle.deck.specs.Deck.{is_first, follow, positions, is_deck, begins, does_not_begin, misfit_of}
use Rattle.deck.specs.inner.Fault.{fault_of}
use Rattle.deck.specs.inner.Found.{found, joins}
use Rattle.deck.proofs.Found.{none-found, some-found}
use Rattle.std.specs.Prelude.{Option, None, Some}
use Rattle.deck.specs.declared.form.Stretch.{Stretch}

-- r positions out of those that are left, and p more
module _ (r p left : ℕ) where
  leb-more : leb r left ≡ true → leb (r + p) left ≡ leb p (left - r)
  leb-more e = go (leb p (left - r)) refl
    where
      go : (t : Bool) → leb p (left - r) ≡ t → leb (r + p) left ≡ t
      go true f = le-leb (r + p) left (omega (arith, leb-true r left e, leb-true p (left - r) f))
      go false f = lt-leb (r + p) left (omega (arith, leb-true r left e, leb-false p (left - r) f))

  eqb-more : leb r left ≡ true → eqb (r + p) left ≡ eqb p (left - r)
  eqb-more e = go (eqb p (left - r)) refl
    where
      go : (t : Bool) → eqb p (left - r) ≡ t → eqb (r + p) left ≡ t
      go true f = eq-eqb (r + p) left (omega (arith, leb-true r left e, eqb-true p (left - r) f))
      go false f = ne_eqb (r + p) left (λ q. eqb-false p (left - r) f (omega (arith, leb-true r left e)))

  leb-none : leb r left ≡ false → leb (r + p) left ≡ false
  leb-none e = lt-leb (r + p) left (omega (arith, leb-false r left e))

  eqb-none : leb r left ≡ false → eqb (r + p) left ≡ false
  eqb-none e = ne_eqb (r + p) left (λ q. let h = leb-false r left e in omega arith)

module _ (form : Form) where
  -- a stretch fits if it may follow the one before, and enough positions are left
  abbrev pub fits : Stretch → ℕ → Stretch → Bool
  fits before left s = may_follow form before s && leb s.run left

  -- the stretches from place i on: where the first that does not fit is, or where they end with positions left
  pub walk : ℕ → Stretch → ℕ → List Stretch → Option ℕ
  walk i before left [] = cond (eqb 0 left) None (Some i)
  walk i before left (s ∷ ss) = cond (fits before left s) (walk (i + 1) s (left - s.run) ss) (Some i)

  -- ---- the tests of a deck and of a beginning, by way of the first stretch

  -- each stretch may follow the one before, and their positions pass a test against those that are left
  ends : (ℕ → ℕ → Bool) → Stretch → ℕ → List Stretch → Bool
  ends test before left ss = follow form before ss && test (positions ss) left

  module _ (test : ℕ → ℕ → Bool) (more : (r p left : ℕ) → leb r left ≡ true → test (r + p) left ≡ test p (left - r)) (none : (r p left : ℕ) → leb r left ≡ false → test (r + p) left ≡ false) where
    ends-step : (before : Stretch) (left : ℕ) (s : Stretch) (ss : List Stretch) → ends test before left (s ∷ ss) ≡ (fits before left s && ends test s (left - s.run) ss)
    unfolding ends follow positions
    ends-step before left s ss = go (may_follow form before s) (leb s.run left) refl
      where
        go : (m t : Bool) → leb s.run left ≡ t → (m && follow form s ss && test (s.run + positions ss) left) ≡ (m && t && (follow form s ss && test (positions ss) (left - s.run)))
        go false t e = refl
        go true true e = rw (more s.run (positions ss) left e)
        go true false e = rw (none s.run (positions ss) left e) (and-false (follow form s ss))

  complete : Stretch → ℕ → List Stretch → Bool
  complete = ends eqb

  begun : Stretch → ℕ → List Stretch → Bool
  begun = ends leb

  complete-step : (before : Stretch) (left : ℕ) (s : Stretch) (ss : List Stretch) → complete before left (s ∷ ss) ≡ (fits before left s && complete s (left - s.run) ss)
  unfolding complete
  complete-step = ends-step eqb eqb-more eqb-none

  begun-step : (before : Stretch) (left : ℕ) (s : Stretch) (ss : List Stretch) → begun before left (s ∷ ss) ≡ (fits before left s && begun s (left - s.run) ss)
  unfolding begun
  begun-step = ends-step leb leb-more leb-none

  begun-on : (before : Stretch) (left : ℕ) (s : Stretch) (ss : List Stretch) → fits before left s ≡ true → begun before left (s ∷ ss) ≡ begun s (left - s.run) ss
  begun-on before left s ss e = rw (begun-step before left s ss, e)

  begun-none : (before : Stretch) (left : ℕ) → begun before left [] ≡ true
  unfolding begun ends follow positions
  begun-none before left = le-leb 0 left (omega arith)

  not_begun : Stretch → ℕ → List Stretch → Bool
  not_begun before left ss = not (begun before left ss)

  -- the place of the first stretch that does not fit
  misfit : Stretch → ℕ → List Stretch → ℕ
  misfit before left ss = first_index (not_begun before left) (beginnings ss)

  misfit-here : (before : Stretch) (left : ℕ) (s : Stretch) (ss : List Stretch) → fits before left s ≡ false → misfit before left (s ∷ ss) ≡ 0
  unfolding misfit not_begun first_index beginnings
  misfit-here before left s ss e = rw (begun-step before left s [], e)

  misfit-later : (before : Stretch) (left : ℕ) (s : Stretch) (ss : List Stretch) → fits before left s ≡ true → misfit before left (s ∷ ss) ≡ suc (misfit s (left - s.run) ss)
  unfolding misfit not_begun first_index beginnings
  misfit-later before left s ss e =
      rw (begun-on before left s [] e, begun-none s (left - s.run))
      (ap suc (first-map (not_begun before left) (s ∷◌) (beginnings ss)
      ∙ first-same (λ b. not_begun before left (s ∷ b)) (not_begun s (left - s.run)) (λ b. ap not (begun-on before left s b e)) (beginnings ss)))

  -- going through the stretches finds it
  walk-right : (i : ℕ) (before : Stretch) (left : ℕ) (ss : List Stretch) → walk i before left ss ≡ cond (complete before left ss) None (Some (i + misfit before left ss))
  unfolding walk complete ends follow positions misfit first_index beginnings
  walk-right i before left [] = rw add-zero
  walk-right i before left (s ∷ ss) = go (fits before left s) refl (walk-right (i + 1) s (left - s.run) ss)
    where
      go : (t : Bool) → fits before left s ≡ t
          → walk (i + 1) s (left - s.run) ss ≡ cond (complete s (left - s.run) ss) None (Some (i + 1 + misfit s (left - s.run) ss))
          → cond t (walk (i + 1) s (left - s.run) ss) (Some i) ≡ cond (complete before left (s ∷ ss)) None (Some (i + misfit before left (s ∷ ss)))
      go true e rest = rw (complete-step before left s ss, e, misfit-later before left s ss e) (rest ∙ ap (λ (k : ℕ). cond (complete s (left - s.run) ss) None (Some k)) (omega arith))
      go false e rest = rw (complete-step before left s ss, e, misfit-here before left s ss e, add-zero)

  -- ---- where a deck's fault is

  module _ (first : ℕ) (rest : List ℕ) (ok : is_first first ≡ true) where
    deck-complete : is_deck form (first ∷ rest) ≡ complete nothing (payload_of first) (map form.stretch_of rest)
    unfolding is_deck complete ends
    deck-complete = rw ok

    begins-begun : (ws : List ℕ) → begins form (first ∷ ws) ≡ begun nothing (payload_of first) (map form.stretch_of ws)
    unfolding begins begun ends
    begins-begun ws = rw ok

    misfit-words : misfit_of form (first ∷ rest) ≡ suc (misfit nothing (payload_of first) (map form.stretch_of rest))
    unfolding misfit_of misfit not_begun first_index beginnings
    misfit-words =
        let test = not_begun nothing (payload_of first) in
        rw (begins-begun [], begun-none nothing (payload_of first))
        (ap suc (first-map (does_not_begin form) (first ∷◌) (beginnings rest)
        ∙ first-same (λ ws. does_not_begin form (first ∷ ws)) (λ ws. test (map form.stretch_of ws)) (λ ws. ap not (begins-begun ws)) (beginnings rest)
        ∙ sym (first-map test (map form.stretch_of) (beginnings rest))
        ∙ ap (first_index test) (sym (beginnings-map form.stretch_of rest))))

    -- where going through the words after the first finds it
    pub fault-walk : fault_of form (first ∷ rest) ≡ walk 1 nothing (payload_of first) (map form.stretch_of rest)
    unfolding fault_of
    fault-walk =
        let ss = map form.stretch_of rest in
        rw (deck-complete, misfit-words)
        (ap (λ (k : ℕ). cond (complete nothing (payload_of first) ss) None (Some k)) (omega arith) ∙ sym (walk-right 1 nothing (payload_of first) ss))

  -- no words: the fault is at their count
  pub fault-none : fault_of form [] ≡ Some 0
  unfolding fault_of is_deck misfit_of first_index beginnings
  fault-none = refl

  -- a first word that is none
  pub fault-first : (first : ℕ) (rest : List ℕ) → is_first first ≡ false → fault_of form (first ∷ rest) ≡ Some 0
  unfolding fault_of is_deck misfit_of first_index beginnings begins
  fault-first first rest e = rw e

  -- one word further
  module _ (rest : List ℕ) (i : ℕ) (before : Stretch) (left : ℕ) where
    pub walk-on : i < length rest → fits before left (form.stretch_of (get_or rest i 0)) ≡ true
        → walk (i + 1) before left (map form.stretch_of (drop i rest)) ≡ walk (i + 1 + 1) (form.stretch_of (get_or rest i 0)) (left - (form.stretch_of (get_or rest i 0)).run) (map form.stretch_of (drop (i + 1) rest))
    unfolding walk
    walk-on h e = rw (drop-cons rest i 0 h, e) (ap (λ (k : ℕ). walk (i + 1 + 1) (form.stretch_of (get_or rest i 0)) (left - (form.stretch_of (get_or rest i 0)).run) (map form.stretch_of (drop k rest))) (sym (add-one i)))

    pub walk-stops : i < length rest → fits before left (form.stretch_of (get_or rest i 0)) ≡ false → walk (i + 1) before left (map form.stretch_of (drop i rest)) ≡ Some (i + 1)
    unfolding walk
    walk-stops h e = rw (drop-cons rest i 0 h, e)

    pub walk_ends : length rest ≤ i → walk (i + 1) before left (map form.stretch_of (drop i rest)) ≡ cond (eqb 0 left) None (Some (i + 1))
    unfolding walk
    walk_ends h = rw (drop_of_length-le rest h)

-- ---- what the code says of a word: it stands for none, or its stretch joins the one before, or has more positions than are left

-- nothing is joined
joins-found : (form : Form) (before s : Stretch) → joins form (found before) s ≡ (something before && same_run form before.occupant s.occupant)
joins-found form before s = go (something before)
  where
    go : (t : Bool) → joins form (cond t (Some before) None) s ≡ (t && same_run form before.occupant s.occupant)
    go true = refl
    go false = refl

module _ (form : Form) (before s : Stretch) (left : ℕ) where
  pub none-fits : found s ≡ None → fits form before left s ≡ false
  none-fits e = rw (none-found s e) refl

  module _ {here : Stretch} (e : found s ≡ Some here) where
    pub here-run : here.run ≡ s.run
    here-run = ap (λ (x : Stretch). x.run) (sym (some-found s e).1)

    said : {b : Bool} → joins form (found before) here ≡ b → may_follow form before s ≡ not b
    said j = rw ((some-found s e).0, sym (joins-found form before s)) (ap not (ap (joins form (found before)) (some-found s e).1 ∙ j))

    pub joined-out : joins form (found before) here ≡ true → fits form before left s ≡ false
    joined-out j = rw (said j) refl

    pub long-out : left < here.run → fits form before left s ≡ false
    long-out h = rw (lt-leb s.run left (rw here-run at h)) (and-false (may_follow form before s))

    pub fits-here : joins form (found before) here ≡ false → here.run ≤ left → fits form before left s ≡ true
    fits-here j h = rw (said j, le-leb s.run left (rw here-run at h)) refl
