-- The listing of a model's states is what specs/Listed.antt asks: it has `count` of them, the state at a rank is the one at that place, they
-- are exactly the states, and none stands twice where friends are in order. Assumes nothing.
use mathlib.Core.Path.{◌≡◌, refl, sym, ap, ◌∙◌}
use mathlib.Core.Logic.{◌⊎◌, inl, inr}
use mathlib.Core.List.Memᴰ
use mathlib.Core.List.{List, [], ◌∷◌, map, Memᴰ}
use Prim.Native.Nat.{ℕ, zero, suc, ◌+◌, ◌<◌}
use native.Mathlib.Nat.{not-suc-le-zero, le_of_suc-le-suc, suc_inj}
use native.Mathlib.Decide.{dec_lt}
use native.Mathlib.Omega.{arith}
use lib.ListN.{length, get_or, length-append, get_or-eq_default}
use Rattle.lists.specs.Order.{Rising, Distinct}
use Rattle.lists.proofs.Places.{mem-get_or}
use Rattle.model.specs.Model.{Model, options_of, options}
use Rattle.model.specs.Listed.{Listed}
use Rattle.model.proofs.Count.{count-choices, option-or-empty}
use Rattle.model.proofs.Choices.{length-listing, listing-at, Chosen, listing-all, listing-only, AllDistinct, listing-once}

-- ---- a state is a choice of options

-- 0 or a friend, at each position
abbrev Occupied : List (List ℕ) → List ℕ → Type 0
Occupied friends s = (i : ℕ) → i < length friends → (get_or s i 0 ≡ 0) ⊎ Memᴰ (get_or s i 0) (get_or friends i [])

an-option : (x : ℕ) (here : List ℕ) → (x ≡ 0) ⊎ Memᴰ x here → Memᴰ x (options_of here)
an-option x here (inl e) = Memᴰ.append_right here (Memᴰ.head e)
an-option x here (inr m) = Memᴰ.append_left (0 ∷ []) m

of-option : (x : ℕ) (here : List ℕ) → Memᴰ x (options_of here) → (x ≡ 0) ⊎ Memᴰ x here
of-option x here m = go (Memᴰ.append_cases here m)
  where
    go : Memᴰ x here ⊎ Memᴰ x (0 ∷ []) → (x ≡ 0) ⊎ Memᴰ x here
    go (inl f) = inr f
    go (inr z) = inl (Memᴰ.eq_of_singleton z)

chosen : (friends : List (List ℕ)) (s : List ℕ) → length s ≡ length friends → Occupied friends s → Chosen (map options_of friends) s
chosen [] [] e h = tt
chosen [] (x ∷ s) e h = absurd (omega arith)
chosen (here ∷ later) [] e h = absurd (omega arith)
chosen (here ∷ later) (x ∷ s) e h = (an-option x here (h 0 (omega arith)), chosen later s (suc_inj e) (λ i l. h (suc i) (omega arith)))

length-chosen : (friends : List (List ℕ)) (s : List ℕ) → Chosen (map options_of friends) s → length s ≡ length friends
length-chosen [] [] c = refl
length-chosen [] (x ∷ s) c = absurd c
length-chosen (here ∷ later) [] c = absurd c
length-chosen (here ∷ later) (x ∷ s) c = ap suc (length-chosen later s c.1)

occupied : (friends : List (List ℕ)) (s : List ℕ) → Chosen (map options_of friends) s → Occupied friends s
occupied [] s c i l = absurd (not-suc-le-zero l)
occupied (here ∷ later) [] c i l = absurd c
occupied (here ∷ later) (x ∷ s) c zero l = of-option x here c.0
occupied (here ∷ later) (x ∷ s) c (suc i) l = occupied later s c.1 i (le_of_suc-le-suc l)

-- ---- in order, no option stands twice

module _ (here : List ℕ) (rising : Rising here) (not_null : Memᴰ 0 here → ⊥) where
  -- an option is not one of those after it
  earlier : (i j : ℕ) → i < j → j < length here + 1 → get_or here i 0 ≡ get_or here j 0 → ⊥
  earlier i j h l e = go (dec_lt j (length here))
    where
      go : Dec (j < length here) → ⊥
      go (yes k) = let r : get_or here i 0 < get_or here j 0 = rising i j h k in omega arith
      go (no k) =
          let z : get_or here j 0 ≡ 0 = get_or-eq_default here 0 (omega arith) in
          not_null (rw (e ∙ z) at (mem-get_or 0 here i (omega arith)))

  options-once : Distinct 0 (options_of here)
  options-once i j h l e = go (dec_lt i j) (dec_lt j i)
    where
      n : length (options_of here) ≡ length here + 1
      n = length-append here (0 ∷ [])

      same : get_or here i 0 ≡ get_or here j 0
      same = sym (option-or-empty here i) ∙ e ∙ option-or-empty here j

      go : Dec (i < j) → Dec (j < i) → i ≡ j
      go (yes a) b = absurd (earlier i j a (rw n at l) same)
      go (no a) (yes b) = absurd (earlier j i b (rw n at h) (sym same))
      go (no a) (no b) = omega arith

all_once : (friends : List (List ℕ)) → ((i : ℕ) → Rising (get_or friends i [])) → ((i : ℕ) → Memᴰ 0 (get_or friends i []) → ⊥) → AllDistinct (map options_of friends)
all_once [] r z = tt
all_once (here ∷ later) r z = (options-once here (r 0) (z 0), all_once later (λ i. r (suc i)) (λ i. z (suc i)))

-- ---- the listing of every model

pub listed : (m : Model) → Listed m
listed m =
    record {
      size = length-listing (options m) ∙ count-choices m;
      ranked = λ rank h. listing-at (options m) rank (rw (count-choices m) h);
      all = λ s w. listing-all (options m) s (chosen m.friends s w.places w.occupants);
      only = λ s l.
          let c = listing-only (options m) s l in
          record { places = length-chosen m.friends s c; occupants = occupied m.friends s c };
      once = λ o. listing-once (options m) (all_once m.friends o.rising o.not_null);
    }
