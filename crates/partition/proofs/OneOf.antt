-- A constraint on one position alone: the states that have one of its options there. Assumes nothing.
use mathlib.Core.Path.{◌≡◌, refl, sym, ap, ap₂, ◌∙◌}
use mathlib.Core.Logic.{◌≢◌}
use mathlib.Core.Bool.{true, false, true≢false}
use mathlib.Core.List.{List, [], ◌∷◌}
use Prim.Native.Nat.{ℕ, zero, suc, ◌+◌, ◌-◌, ◌≤◌, ◌<◌}
use native.Mathlib.Nat.{not-suc-le-zero, suc-ne-zero, suc_inj}
use native.Mathlib.Omega.{arith}
use native.Mathlib.Decide.{ℕ_discrete}
use lib.ListN.{length, get_or, drop, length-drop}
use lib.Seq.{get_or-drop, ext_get_or}
use Rattle.lists.specs.Build.{keep}
use Rattle.partition.specs.declared.Term.{Term}
use Rattle.partition.specs.Terms.{times}
use Rattle.partition.specs.Constraint.{allows}
use Rattle.partition.specs.Pass.{sum_terms, sum_from, passed, before, through, allowed, none_left}
use Rattle.partition.proofs.Summed.{allowed-length}
use Rattle.partition.proofs.Sums.{keep_all}

-- ---- the options that lists leave, position by position

pub allowed-at : (lists options : List (List ℕ)) → length lists ≡ length options → (k : ℕ) → k < length options → get_or (allowed lists options) k [] ≡ keep (allows (get_or lists k [])) (get_or options k [])
unfolding allowed
allowed-at [] [] e k h = absurd (not-suc-le-zero h)
allowed-at [] (here ∷ later) e k h = absurd (suc-ne-zero _ (sym e))
allowed-at (c ∷ cs) [] e k h = absurd (suc-ne-zero _ e)
allowed-at (c ∷ cs) (here ∷ later) e zero h = refl
allowed-at (c ∷ cs) (here ∷ later) e (suc k) h = allowed-at cs later (suc_inj e) k (omega arith)

-- no option is left at some position
pub none-at : (options : List (List ℕ)) (k : ℕ) → k < length options → get_or options k [] ≡ [] → none_left options ≡ true
unfolding none_left
none-at [] k h e = absurd (not-suc-le-zero h)
none-at ([] ∷ options) k h e = refl
none-at ((x ∷ here) ∷ options) zero h e = absurd (suc-ne-zero _ (ap (λ (xs : List ℕ). length xs) e))
none-at ((x ∷ here) ∷ options) (suc k) h e = none-at options k (omega arith) e

-- and one at each
pub some-each : (options : List (List ℕ)) → ((k : ℕ) → k < length options → 0 < length (get_or options k [])) → none_left options ≡ false
unfolding none_left
some-each [] h = refl
some-each ([] ∷ options) h = absurd (not-suc-le-zero (h 0 (omega arith)))
some-each ((x ∷ here) ∷ options) h = some-each options (λ k l. h (suc k) (omega arith))

pub each-some : (options : List (List ℕ)) → none_left options ≡ false → (k : ℕ) → k < length options → 0 < length (get_or options k [])
unfolding none_left
each-some [] e k h = absurd (not-suc-le-zero h)
each-some ([] ∷ options) e k h = absurd (true≢false e)
each-some ((x ∷ here) ∷ options) e zero h = omega arith
each-some ((x ∷ here) ∷ options) e (suc k) h = each-some options e k (omega arith)

-- ---- lists that are empty but at one position

module _ (lists options : List (List ℕ)) (many : length lists ≡ length options) (i : ℕ) (inside : i < length options) (free : (k : ℕ) → k ≢ i → get_or lists k [] ≡ []) where
  abbrev left : List (List ℕ)
  left = allowed lists options

  left-many : length left ≡ length options
  left-many = allowed-length lists options many

  other-at : (k : ℕ) → k < length options → k ≢ i → get_or left k [] ≡ get_or options k []
  other-at k h n = allowed-at lists options many k h ∙ ap (λ (c : List ℕ). keep (allows c) (get_or options k [])) (free k n) ∙ keep_all (get_or options k [])

  later-same : drop (suc i) left ≡ drop (suc i) options
  later-same =
      ext_get_or [] (drop (suc i) left) (drop (suc i) options) (length-drop (suc i) left ∙ ap (λ (n : ℕ). n - suc i) left-many ∙ sym (length-drop (suc i) options))
      (λ k h.
      let n = length-drop (suc i) left in
      get_or-drop (suc i) left k [] ∙ other-at (suc i + k) (omega (arith, left-many)) (λ e. absurd (omega arith)) ∙ sym (get_or-drop (suc i) options k []))

  module _ (place pair : ℕ → ℕ → Term) (start : Term) where
    before-same : (k x : ℕ) → k ≤ i → before place pair start left k x ≡ before place pair start options k x
    unfolding before
    before-same zero x h = refl
    before-same (suc k) x h =
        ap (sum_terms _) (other-at k (omega arith) (λ e. absurd (omega arith)))
        ∙ ap (λ (f : ℕ → Term). sum_terms (λ z. times (times (f z) (place k z)) (pair z x)) (get_or options k [])) (λ j z. before-same k z (omega arith) j)

    through-same : (x : ℕ) → through place pair start left i x ≡ through place pair start options i x
    through-same x = ap₂ (λ (t : Term) (later : List (List ℕ)). times t (passed place pair i later x)) (before-same i x (omega arith)) later-same

    -- with one option there, the sum is that option's term
    pub one-sum : (x : ℕ) → keep (allows (get_or lists i [])) (get_or options i []) ≡ x ∷ [] → sum_terms (through place pair start left i) (get_or left i []) ≡ through place pair start options i x
    unfolding sum_terms sum_from
    one-sum x e = ap (sum_terms (through place pair start left i)) (allowed-at lists options many i inside ∙ e) ∙ through-same x

  -- some state is left where some option there is
  pub some-left : none_left options ≡ false → 0 < length (keep (allows (get_or lists i [])) (get_or options i [])) → none_left left ≡ false
  some-left e l =
      some-each left
      (λ k h. go k (rw left-many at h) (ℕ_discrete k i))
    where
      go : (k : ℕ) → k < length options → Dec (k ≡ i) → 0 < length (get_or left k [])
      go k h (yes z) = rw (z, allowed-at lists options many i inside) l
      go k h (no n) = rw (other-at k h n) (each-some options e k h)

  -- and none where none is
  pub none-left-at : keep (allows (get_or lists i [])) (get_or options i []) ≡ [] → none_left left ≡ true
  none-left-at e = none-at left i (rw left-many inside) (allowed-at lists options many i inside ∙ e)
