-- Names, bases and numbers are to one another as specs/Laws.antt says. Assumes nothing.
use mathlib.Core.Path.{◌≡◌, refl, ap, sym, ◌∙◌}
use mathlib.Core.Bool.{Bool, true, false, cond, ◌&&◌, ◌||◌}
use mathlib.Core.List.{List, [], ◌∷◌, ◌++◌}
use mathlib.Core.Option.{none, some}
use Prim.Native.Nat.{ℕ, zero, suc, ◌+◌, ◌%◌, ◌<◌}
use native.Mathlib.Nat.{mod-lt}
use native.Mathlib.Omega.{arith}
use lib.Dec.{eqb, ltb}
use lib.ListN.{length, get_or, length-append, get_or-append}
use lib.Seq.{get_or-append_seam}
use borrow.Author.Tests.{ne_eqb, le-ltb, ltb-true, ltb-false}
use Rattle.lists.specs.Find.{first_index}
use Rattle.lists.specs.Fold.{foldl}
use Rattle.lists.specs.Each.{Each}
use Rattle.lists.specs.Order.{Distinct}
use Rattle.lists.proofs.Any.{none_passes}
use Rattle.lists.proofs.Find.{first_any, passes-first}
use Rattle.sdc_common.specs.Names.{Name, base_of, stars_of, same_name}
use Rattle.sdc_common.specs.Lent.{Glue}
use Rattle.sdc_common.specs.Numbers.{is_known, learn, bases_of, number_at, base_number, name_number}
use Rattle.sdc_common.specs.Laws.{NameRight, NumbersRight}
use Rattle.sdc_common.proofs.Spelled.{name-parts, Bare, base-bare, stars-of-bare, bases-bare, same_true, same_self}
use Rattle.sdc_common.proofs.Looked.{known-spelled, spelled-number}

pub name-right : (name : Name) → NameRight name
name-right name = record { parts = name-parts name; bare = stars-of-bare (base_of name) (base-bare name) }

no-stars : (bases : List Name) → Each Bare bases → Each (λ base. stars_of base ≡ 0) bases
no-stars [] e = tt
no-stars (base ∷ bases) e = (stars-of-bare base e.0, no-stars bases e.1)

-- ---- no base stands twice

module _ (bases : List Name) (base : Name) (e : is_known bases base ≡ false) where
  -- a base that is not known stands nowhere
  nowhere : (i : ℕ) → i < length bases → get_or bases i [] ≡ base → ⊥
  nowhere i h is =
      let not : same_name base base ≡ false = ap (same_name base) (sym is) ∙ none_passes (same_name base) [] bases e i h in
      let z : ◌≡◌ {A = ℕ} 0 1 = cc (same_self base) in
      omega arith

  one_more : Distinct [] bases → Distinct [] (bases ++ (base ∷ []))
  one_more d i j h l same = go (ltb i (length bases)) refl (ltb j (length bases)) refl
    where
      inside : (k : ℕ) → k < length bases → get_or (bases ++ (base ∷ [])) k [] ≡ get_or bases k []
      inside k m = get_or-append bases (base ∷ []) [] k m

      last : (k : ℕ) → k ≡ length bases → get_or (bases ++ (base ∷ [])) k [] ≡ base
      last k m = rw m (get_or-append_seam bases base [] [])

      is_last : (k : ℕ) → k < length (bases ++ (base ∷ [])) → ltb k (length bases) ≡ false → k ≡ length bases
      is_last k m t = let at : length (bases ++ (base ∷ [])) ≡ length bases + 1 = length-append bases (base ∷ []) in omega (arith, ltb-false k (length bases) t)

      go : (t : Bool) → ltb i (length bases) ≡ t → (u : Bool) → ltb j (length bases) ≡ u → i ≡ j
      go true p true q = let a = ltb-true _ _ p in let b = ltb-true _ _ q in d i j a b (sym (inside i a) ∙ same ∙ inside j b)
      go true p false q = let a = ltb-true _ _ p in absurd (nowhere i a (sym (inside i a) ∙ same ∙ last j (is_last j l q)))
      go false p true q = let b = ltb-true _ _ q in absurd (nowhere j b (sym (inside j b) ∙ sym same ∙ last i (is_last i h p)))
      go false p false q = is_last i h p ∙ sym (is_last j l q)

learn-distinct : (bases : List Name) (glue : Glue) → Distinct [] bases → Distinct [] (learn bases glue)
unfolding learn
learn-distinct bases none d = d
learn-distinct bases (some name) d = go (is_known bases (base_of name)) refl
  where
    go : (t : Bool) → is_known bases (base_of name) ≡ t → Distinct [] (cond t bases (bases ++ (base_of name ∷ [])))
    go true e = d
    go false e = one_more bases (base_of name) e d

fold-distinct : (bases : List Name) (glues : List Glue) → Distinct [] bases → Distinct [] (foldl learn bases glues)
unfolding foldl
fold-distinct bases [] d = d
fold-distinct bases (glue ∷ glues) d = fold-distinct (learn bases glue) glues (learn-distinct bases glue d)

bases-distinct : (strands : List Glue) → Distinct [] (bases_of strands)
unfolding bases_of
bases-distinct strands = fold-distinct [] strands (λ i j h l e. omega arith)

-- ---- a number stands for one base and one parity

-- the base at the place of a base that is known
at_place : (bases : List Name) (base : Name) → is_known bases base ≡ true → base ≡ get_or bases (first_index (same_name base) bases) []
at_place bases base known =
    same_true _ _ (passes-first (same_name base) [] bases (ltb-true _ _ (first_any (same_name base) bases ∙ known)))

-- a number tells the place and the parity
taken-apart : (p q s t : ℕ) → number_at p s ≡ number_at q t → (p ≡ q) × (s % 2 ≡ t % 2)
taken-apart p q s t e =
    let ls : s % 2 < 2 = mod-lt s (omega arith) in
    let lt : t % 2 < 2 = mod-lt t (omega arith) in
    (omega arith, omega arith)

apart-step :
    (bases : List Name) (a b : Name) (s t : ℕ) (k l : Bool)
    → is_known bases a ≡ k
    → is_known bases b ≡ l
    → cond k (number_at (first_index (same_name a) bases) s) 0 ≡ cond l (number_at (first_index (same_name b) bases) t) 0
    → (cond k (number_at (first_index (same_name a) bases) s) 0 ≡ 0 → ⊥)
    → (a ≡ b) × (s % 2 ≡ t % 2)
apart-step bases a b s t false l p q e n = absurd (n refl)
apart-step bases a b s t true false p q e n = absurd (n e)
apart-step bases a b s t true true p q e n =
    let two = taken-apart _ _ s t e in
    (at_place bases a p ∙ ap (λ (k : ℕ). get_or bases k []) two.0 ∙ sym (at_place bases b q), two.1)

apart :
    (bases : List Name) (x y : Name)
    → name_number bases x ≡ name_number bases y
    → (name_number bases x ≡ 0 → ⊥)
    → (base_of x ≡ base_of y) × (stars_of x % 2 ≡ stars_of y % 2)
unfolding base_number
apart bases x y e n = apart-step bases (base_of x) (base_of y) (stars_of x) (stars_of y) _ _ refl refl e n

-- ---- known as spelled

fewer-than-two : (n : ℕ) → (eqb n 0 || eqb n 1) ≡ ltb n 2
fewer-than-two zero = refl
fewer-than-two (suc zero) = refl
fewer-than-two (suc (suc n)) =
    rw (ne_eqb (suc (suc n)) 0 (λ e. omega arith), ne_eqb (suc (suc n)) 1 (λ e. omega arith)) (sym (le-ltb (suc (suc n)) 2 (omega arith)))

pub numbers-right : (strands : List Glue) → NumbersRight strands
numbers-right strands =
    record {
      distinct = bases-distinct strands;
      bare = no-stars (bases_of strands) (bases-bare strands);
      apart = apart (bases_of strands);
      known =
          λ name. known-spelled name (bases_of strands) (bases-bare strands)
          ∙ ap (is_known (bases_of strands) (base_of name) &&◌) (fewer-than-two (stars_of name));
      spelled = spelled-number (bases_of strands) (bases-bare strands);
    }
