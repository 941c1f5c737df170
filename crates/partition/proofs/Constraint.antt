-- The states that meet a constraint are the states of the options that it leaves. Assumes nothing.
use mathlib.Core.Path.{◌≡◌, refl, sym, ap, ap₂, ◌∙◌}
use mathlib.Core.Bool.{Bool, true, false, true≢false, cond, ◌&&◌}
use mathlib.Core.List.{List, [], ◌∷◌, ◌++◌, map}
use Prim.Native.Nat.{ℕ}
use lib.ListN.{length}
use native.Mathlib.Nat.{suc-ne-zero, suc_inj}
use native.Mathlib.Omega.{arith}
use Rattle.lists.specs.Build.{keep}
use Rattle.model.specs.States.{each_before, listing}
use Rattle.partition.specs.Constraint.{allows, meets}
use Rattle.partition.specs.Pass.{allowed, none_left}

pub keep_append : {A : Type 0} (p : A → Bool) (xs ys : List A) → keep p (xs ++ ys) ≡ keep p xs ++ keep p ys
unfolding keep
keep_append p [] ys = refl
keep_append p (x ∷ xs) ys = go (p x) (keep_append p xs ys)
  where
    go : (b : Bool) → keep p (xs ++ ys) ≡ keep p xs ++ keep p ys → cond b (x ∷ keep p (xs ++ ys)) (keep p (xs ++ ys)) ≡ cond b (x ∷ keep p xs) (keep p xs) ++ keep p ys
    go true e = ap (x ∷◌) e
    go false e = e

module _ (c : List ℕ) (cs : List (List ℕ)) where
  keep-map : (x : ℕ) (tails : List (List ℕ)) → keep (meets (c ∷ cs)) (map (x ∷◌) tails) ≡ cond (allows c x) (map (x ∷◌) (keep (meets cs) tails)) []
  unfolding keep meets
  keep-map x [] = go (allows c x)
    where
      go : (b : Bool) → ◌≡◌ {A = List (List ℕ)} [] (cond b [] [])
      go true = refl
      go false = refl
  keep-map x (t ∷ tails) = go (allows c x) (meets cs t) (keep-map x tails)
    where
      go : (a b : Bool) → keep (meets (c ∷ cs)) (map (x ∷◌) tails) ≡ cond a (map (x ∷◌) (keep (meets cs) tails)) []
          → cond (a && b) ((x ∷ t) ∷ keep (meets (c ∷ cs)) (map (x ∷◌) tails)) (keep (meets (c ∷ cs)) (map (x ∷◌) tails)) ≡ cond a (map (x ∷◌) (cond b (t ∷ keep (meets cs) tails) (keep (meets cs) tails))) []
      go true true e = ap ((x ∷ t) ∷◌) e
      go true false e = e
      go false true e = e
      go false false e = e

  keep-each : (heads : List ℕ) (tails : List (List ℕ)) → keep (meets (c ∷ cs)) (each_before heads tails) ≡ each_before (keep (allows c) heads) (keep (meets cs) tails)
  unfolding keep each_before
  keep-each [] tails = refl
  keep-each (x ∷ heads) tails =
      keep_append (meets (c ∷ cs)) (map (x ∷◌) tails) (each_before heads tails) ∙ ap₂ ◌++◌ (keep-map x tails) (keep-each heads tails) ∙ go (allows c x)
    where
      go : (b : Bool) → cond b (map (x ∷◌) (keep (meets cs) tails)) [] ++ each_before (keep (allows c) heads) (keep (meets cs) tails) ≡ each_before (cond b (x ∷ keep (allows c) heads) (keep (allows c) heads)) (keep (meets cs) tails)
      go true = refl
      go false = refl

pub keep-listing : (cs options : List (List ℕ)) → length cs ≡ length options → keep (meets cs) (listing options) ≡ listing (allowed cs options)
unfolding keep listing allowed meets
keep-listing [] [] e = refl
keep-listing [] (here ∷ later) e = absurd (suc-ne-zero _ (sym e))
keep-listing (c ∷ cs) [] e = absurd (suc-ne-zero _ e)
keep-listing (c ∷ cs) (here ∷ later) e = keep-each c cs here (listing later) ∙ ap (each_before (keep (allows c) here)) (keep-listing cs later (suc_inj e))

-- ---- no state meets it exactly if some position has no option left
none_each : (heads : List ℕ) → each_before heads [] ≡ []
unfolding each_before
none_each [] = refl
none_each (x ∷ heads) = none_each heads

pub none_left_lem : (options : List (List ℕ)) → none_left options ≡ true → listing options ≡ []
unfolding none_left listing each_before
none_left_lem [] e = absurd (true≢false (sym e))
none_left_lem ([] ∷ options) e = refl
none_left_lem ((x ∷ here) ∷ options) e = ap (each_before (x ∷ here)) (none_left_lem options e) ∙ none_each (x ∷ here)

-- and some, where each position has an option
pub some-state : (options : List (List ℕ)) → none_left options ≡ false → (listing options ≡ [] → ⊥)
unfolding none_left listing each_before
some-state [] e z = let g : ◌≡◌ {A = ℕ} 0 1 = cc in omega arith
some-state ([] ∷ options) e z = true≢false e
some-state ((x ∷ here) ∷ options) e z = go (listing options) (some-state options e) z
  where
    go : (tails : List (List ℕ)) → (tails ≡ [] → ⊥) → map (x ∷◌) tails ++ each_before here tails ≡ [] → ⊥
    go [] h f = h refl
    go (t ∷ tails) h f = let g : ◌≡◌ {A = ℕ} 0 1 = cc in omega arith
