-- The one picked from a list is one of the list, and no other is below it, whichever of equals is taken. Assumes nothing.
use mathlib.Core.Path.{◌≡◌, refl, sym, ap, ap₂, ◌∙◌, subst}
use mathlib.Core.Logic.{◌⊎◌, inl, inr}
use mathlib.Core.Bool.{Bool, true, false, cond}
use mathlib.Core.List.Memᴰ
use mathlib.Core.List.{List, [], ◌∷◌, Memᴰ}
use Prim.Native.Nat.{ℕ, ◌<◌}
use native.Mathlib.Nat.{not-suc-le-zero}
use lib.ListN.{length}
use lib.Ieee.{Float, Format, lt}
use Rattle.lists.specs.Fold.{foldl}
use Rattle.doubles.specs.Size.{Real}
use Rattle.doubles.specs.Order.{Le}
use Rattle.doubles.specs.Least.{or_later, or_earlier, pick, last_least, first_least}
use Rattle.doubles.proofs.Order.{Le-refl, Le-trans, yes→Le, no→Le}

module _ (f : Format) (key : ℕ → Float) where
  -- of two, one that is not above the other
  pub record Better (kept x r : ℕ) : Type 0 where
    pub one : (r ≡ kept) ⊎ (r ≡ x)
    pub below-kept : Le f (key r) (key kept)
    pub below_next : Le f (key r) (key x)

  pub later-better : (kept x : ℕ) → Real f (key kept) → Real f (key x) → Better kept x (or_later key kept x)
  later-better kept x p q = go (lt (key kept) (key x)) refl
    where
      go : (t : Bool) → lt (key kept) (key x) ≡ t → Better kept x (cond t kept x)
      go true e = record { one = inl refl; below-kept = Le-refl f (key kept); below_next = yes→Le f (key kept) (key x) p q e }
      go false e = record { one = inr refl; below-kept = no→Le f (key kept) (key x) p q e; below_next = Le-refl f (key x) }

  pub earlier-better : (kept x : ℕ) → Real f (key kept) → Real f (key x) → Better kept x (or_earlier key kept x)
  earlier-better kept x p q = go (lt (key x) (key kept)) refl
    where
      go : (t : Bool) → lt (key x) (key kept) ≡ t → Better kept x (cond t x kept)
      go true e = record { one = inr refl; below-kept = yes→Le f (key x) (key kept) q p e; below_next = Le-refl f (key x) }
      go false e = record { one = inl refl; below-kept = Le-refl f (key kept); below_next = no→Le f (key x) (key kept) q p e }

  -- one of the list, and none is below it
  pub record Least (xs : List ℕ) (r : ℕ) : Type 0 where
    pub member : Memᴰ r xs
    pub least : (x : ℕ) → Memᴰ x xs → Le f (key r) (key x)

  -- the one that is kept of two, with the rest
  next : {kept y r z : ℕ} {ys : List ℕ} → Better kept y r → Least (r ∷ ys) z → Least (kept ∷ y ∷ ys) z
  next {kept} {y} {r} {z} {ys} b w = record { member = member (Memᴰ.cases_cons w.member) b.one; least = λ x m. least x (Memᴰ.cases_cons m) }
    where
      member : (z ≡ r) ⊎ Memᴰ z ys → (r ≡ kept) ⊎ (r ≡ y) → Memᴰ z (kept ∷ y ∷ ys)
      member (inl e) (inl k) = Memᴰ.head (e ∙ k)
      member (inl e) (inr k) = Memᴰ.tail (Memᴰ.head (e ∙ k))
      member (inr m) o = Memᴰ.tail (Memᴰ.tail m)

      later : (x : ℕ) → (x ≡ y) ⊎ Memᴰ x ys → Le f (key z) (key x)
      later x (inl e) = rw e (Le-trans (w.least r (Memᴰ.head refl)) b.below_next)
      later x (inr m) = w.least x (Memᴰ.tail m)

      least : (x : ℕ) → (x ≡ kept) ⊎ Memᴰ x (y ∷ ys) → Le f (key z) (key x)
      least x (inl e) = rw e (Le-trans (w.least r (Memᴰ.head refl)) b.below-kept)
      least x (inr m) = later x (Memᴰ.cases_cons m)

  alone : (kept : ℕ) → Least (kept ∷ []) kept
  alone kept = record { member = Memᴰ.head refl; least = λ x m. rw (Memᴰ.eq_of_singleton m) (Le-refl f (key kept)) }

  one-real : {kept y r : ℕ} → Better kept y r → Real f (key kept) → Real f (key y) → Real f (key r)
  one-real {kept} {y} {r} b p q = go b.one
    where
      go : (r ≡ kept) ⊎ (r ≡ y) → Real f (key r)
      go (inl e) = rw e p
      go (inr e) = rw e q

  module _ (better : ℕ → ℕ → ℕ) (betters : (kept x : ℕ) → Real f (key kept) → Real f (key x) → Better kept x (better kept x)) where
    from : (kept : ℕ) (xs : List ℕ) → Real f (key kept) → ((x : ℕ) → Memᴰ x xs → Real f (key x)) → Least (kept ∷ xs) (foldl better kept xs)
    unfolding foldl
    from kept [] p q = alone kept
    from kept (y ∷ ys) p q =
        let b = betters kept y p (q y (Memᴰ.head refl)) in
        next b (from (better kept y) ys (one-real b p (q y (Memᴰ.head refl))) (λ x m. q x (Memᴰ.tail m)))

    pub pick-least : (xs : List ℕ) → 0 < length xs → ((x : ℕ) → Memᴰ x xs → Real f (key x)) → Least xs (pick better xs)
    unfolding pick
    pick-least [] h q = absurd (not-suc-le-zero h)
    pick-least (x ∷ xs) h q = from x xs (q x (Memᴰ.head refl)) (λ y m. q y (Memᴰ.tail m))

-- ---- whatever the values: what is picked is one of the list, and keys that agree on the list pick the same

later-one : (key : ℕ → Float) (kept x : ℕ) → (or_later key kept x ≡ kept) ⊎ (or_later key kept x ≡ x)
later-one key kept x = go (lt (key kept) (key x))
  where
    go : (t : Bool) → (cond t kept x ≡ kept) ⊎ (cond t kept x ≡ x)
    go true = inl refl
    go false = inr refl

earlier-one : (key : ℕ → Float) (kept x : ℕ) → (or_earlier key kept x ≡ kept) ⊎ (or_earlier key kept x ≡ x)
earlier-one key kept x = go (lt (key x) (key kept))
  where
    go : (t : Bool) → (cond t x kept ≡ kept) ⊎ (cond t x kept ≡ x)
    go true = inr refl
    go false = inl refl

module _ (better : ℕ → ℕ → ℕ) (one : (kept x : ℕ) → (better kept x ≡ kept) ⊎ (better kept x ≡ x)) where
  holds_of : (P : ℕ → Type 0) (kept x : ℕ) → P kept → P x → P (better kept x)
  holds_of P kept x p q = go (one kept x)
    where
      go : (better kept x ≡ kept) ⊎ (better kept x ≡ x) → P (better kept x)
      go (inl e) = subst P (sym e) p
      go (inr e) = subst P (sym e) q

  fold-holds : (P : ℕ → Type 0) (kept : ℕ) (xs : List ℕ) → P kept → ((x : ℕ) → Memᴰ x xs → P x) → P (foldl better kept xs)
  unfolding foldl
  fold-holds P kept [] p q = p
  fold-holds P kept (x ∷ xs) p q = fold-holds P (better kept x) xs (holds_of P kept x p (q x (Memᴰ.head refl))) (λ y m. q y (Memᴰ.tail m))

  pick-one : (xs : List ℕ) → 0 < length xs → Memᴰ (pick better xs) xs
  unfolding pick
  pick-one [] h = absurd (not-suc-le-zero h)
  pick-one (x ∷ xs) h = fold-holds (λ y. Memᴰ y (x ∷ xs)) x xs (Memᴰ.head refl) (λ y m. Memᴰ.tail m)

  module _ (other : ℕ → ℕ → ℕ) (P : ℕ → Type 0) (same : (kept x : ℕ) → P kept → P x → better kept x ≡ other kept x) where
    fold_same : (kept : ℕ) (xs : List ℕ) → P kept → ((x : ℕ) → Memᴰ x xs → P x) → foldl better kept xs ≡ foldl other kept xs
    unfolding foldl
    fold_same kept [] p q = refl
    fold_same kept (x ∷ xs) p q =
        let here = q x (Memᴰ.head refl) in
        fold_same (better kept x) xs (holds_of P kept x p here) (λ y m. q y (Memᴰ.tail m)) ∙ ap (λ (k : ℕ). foldl other k xs) (same kept x p here)

    pick_same : (xs : List ℕ) → ((x : ℕ) → Memᴰ x xs → P x) → pick better xs ≡ pick other xs
    unfolding pick
    pick_same [] q = refl
    pick_same (x ∷ xs) q = fold_same x xs (q x (Memᴰ.head refl)) (λ y m. q y (Memᴰ.tail m))

pub last_one : (key : ℕ → Float) (xs : List ℕ) → 0 < length xs → Memᴰ (last_least key xs) xs
last_one key xs h = pick-one (or_later key) (later-one key) xs h

pub first_one : (key : ℕ → Float) (xs : List ℕ) → 0 < length xs → Memᴰ (first_least key xs) xs
first_one key xs h = pick-one (or_earlier key) (earlier-one key) xs h

module _ (key other : ℕ → Float) (xs : List ℕ) (agree : (x : ℕ) → Memᴰ x xs → key x ≡ other x) where
  pub last-same : last_least key xs ≡ last_least other xs
  last-same = pick_same (or_later key) (later-one key) (or_later other) (λ x. key x ≡ other x) (λ kept x p q. ap₂ (λ (a b : Float). cond (lt a b) kept x) p q) xs agree

  pub first-same : first_least key xs ≡ first_least other xs
  first-same = pick_same (or_earlier key) (earlier-one key) (or_earlier other) (λ x. key x ≡ other x) (λ kept x p q. ap₂ (λ (a b : Float). cond (lt b a) x kept) p q) xs agree
