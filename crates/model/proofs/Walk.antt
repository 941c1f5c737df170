-- The walk ends with the product of a state, and no state's is below it. Assumes nothing.
use mathlib.Core.Path.{◌≡◌, refl, sym, ◌∙◌, subst}
use mathlib.Core.Logic.{◌⊎◌, inl, inr}
use mathlib.Core.Bool.{Bool, true, false}
use mathlib.Core.List.Memᴰ
use mathlib.Core.List.{List, [], ◌∷◌, Memᴰ}
use Prim.Native.Nat.{ℕ, ◌<◌}
use native.Mathlib.Nat.{not-suc-le-zero}
use lib.ListN.{length, get_or, drop}
use lib.Ieee.{Float, Format, lt}
use Rattle.lists.specs.Fold.{foldl}
use Rattle.doubles.specs.Size.{Real}
use Rattle.doubles.specs.Order.{Le}
use Rattle.doubles.proofs.Order.{Le-refl, Le-trans, yes→Le, no→Le}
use Rattle.model.specs.Energy.{lesser}

module _ (f : Format) (energy : List ℕ → Float) where
  -- the energy of one of the states, and none is below it
  pub record Ends (states : List (List ℕ)) (r : Float) : Type 0 where
    pub of-state : List ℕ
    pub listed : Memᴰ of-state states
    pub is : r ≡ energy of-state
    pub least : (s : List ℕ) → Memᴰ s states → Le f r (energy s)

  -- what is kept of two is the energy of one of them
  record Kept (kept x r : List ℕ) : Type 0 where
    one : (r ≡ kept) ⊎ (r ≡ x)
    below-kept : Le f (energy r) (energy kept)
    below_next : Le f (energy r) (energy x)

  record Next (kept x : List ℕ) : Type 0 where
    state : List ℕ
    is : lesser energy (energy kept) x ≡ energy state
    keeps : Kept kept x state

  next : (kept x : List ℕ) → Real f (energy kept) → Real f (energy x) → Next kept x
  next kept x p q = go (lt (energy x) (energy kept)) refl
    where
      go : (t : Bool) → lt (energy x) (energy kept) ≡ t → Next kept x
      go true e = record { state = x; is = rw e; keeps = record { one = inr refl; below-kept = yes→Le f (energy x) (energy kept) q p e; below_next = Le-refl f (energy x) } }
      go false e = record { state = kept; is = rw e; keeps = record { one = inl refl; below-kept = Le-refl f (energy kept); below_next = no→Le f (energy x) (energy kept) q p e } }

  kept_real : {kept x r : List ℕ} → Kept kept x r → Real f (energy kept) → Real f (energy x) → Real f (energy r)
  kept_real {kept} {x} {r} k p q = go k.one
    where
      go : (r ≡ kept) ⊎ (r ≡ x) → Real f (energy r)
      go (inl e) = rw e p
      go (inr e) = rw e q

  ends_next : {kept x r : List ℕ} {xs : List (List ℕ)} {z : Float} → Kept kept x r → Ends (r ∷ xs) z → Ends (kept ∷ x ∷ xs) z
  ends_next {kept} {x} {r} {xs} {z} k w =
      record { of-state = w.of-state; listed = listed (Memᴰ.cases_cons w.listed) k.one; is = w.is; least = λ s m. least s (Memᴰ.cases_cons m) }
    where
      listed : (w.of-state ≡ r) ⊎ Memᴰ w.of-state xs → (r ≡ kept) ⊎ (r ≡ x) → Memᴰ w.of-state (kept ∷ x ∷ xs)
      listed (inl e) (inl o) = Memᴰ.head (e ∙ o)
      listed (inl e) (inr o) = Memᴰ.tail (Memᴰ.head (e ∙ o))
      listed (inr m) o = Memᴰ.tail (Memᴰ.tail m)

      later : (s : List ℕ) → (s ≡ x) ⊎ Memᴰ s xs → Le f z (energy s)
      later s (inl e) = rw e (Le-trans (w.least r (Memᴰ.head refl)) k.below_next)
      later s (inr m) = w.least s (Memᴰ.tail m)

      least : (s : List ℕ) → (s ≡ kept) ⊎ Memᴰ s (x ∷ xs) → Le f z (energy s)
      least s (inl e) = rw e (Le-trans (w.least r (Memᴰ.head refl)) k.below-kept)
      least s (inr m) = later s (Memᴰ.cases_cons m)

  ends-from : (kept : List ℕ) (xs : List (List ℕ)) → Real f (energy kept) → ((s : List ℕ) → Memᴰ s xs → Real f (energy s)) → Ends (kept ∷ xs) (foldl (lesser energy) (energy kept) xs)
  unfolding foldl
  ends-from kept [] p q = record { of-state = kept; listed = Memᴰ.head refl; is = refl; least = λ s m. rw (Memᴰ.eq_of_singleton m) (Le-refl f (energy kept)) }
  ends-from kept (x ∷ xs) p q =
      let here = q x (Memᴰ.head refl) in
      let w = next kept x p here in
      subst (λ (r : Float). Ends (kept ∷ x ∷ xs) (foldl (lesser energy) r xs)) (sym w.is)
      (ends_next w.keeps (ends-from w.state xs (kept_real w.keeps p here) (λ s m. q s (Memᴰ.tail m))))

  -- through a listing, from its first state
  pub walk_ends : (states : List (List ℕ)) → 0 < length states → ((s : List ℕ) → Memᴰ s states → Real f (energy s))
      → Ends states (foldl (lesser energy) (energy (get_or states 0 [])) (drop 1 states))
  walk_ends [] h q = absurd (not-suc-le-zero h)
  walk_ends (s ∷ states) h q = ends-from s states (q s (Memᴰ.head refl)) (λ t m. q t (Memᴰ.tail m))
