-- The numbers below n that pass a test: which they are, and that they rise. Assumes nothing.
use mathlib.Core.Path.{◌≡◌, refl, sym, ap, ◌∙◌}
use mathlib.Core.Logic.{◌⊎◌, inl, inr}
use mathlib.Core.Bool.{Bool, true, false, cond}
use mathlib.Core.List.Memᴰ
use mathlib.Core.List.{List, [], ◌∷◌, Memᴰ}
use Prim.Native.Nat.{ℕ, zero, suc, ◌+◌, ◌<◌, ◌≤◌}
use native.Mathlib.Nat.{le_of_suc-le-suc, not-suc-le-zero, zero-lt-suc}
use native.Mathlib.Omega.{arith}
use lib.ListN.{length, get_or}
use Rattle.lists.specs.Build.{tabulate, up_to, keep}
use Rattle.lists.specs.Order.{Rising}

-- ---- which they are

mem-tabulate : (n : ℕ) (f : ℕ → ℕ) (k : ℕ) → k < n → Memᴰ (f k) (tabulate n f)
unfolding tabulate
mem-tabulate zero f k h = absurd (not-suc-le-zero h)
mem-tabulate (suc n) f zero h = Memᴰ.head refl
mem-tabulate (suc n) f (suc k) h = Memᴰ.tail (mem-tabulate n (λ j. f (suc j)) k (le_of_suc-le-suc h))

of-tabulate : (n : ℕ) (f : ℕ → ℕ) {x : ℕ} → Memᴰ x (tabulate n f) → (k : ℕ) × (k < n) × (x ≡ f k)
unfolding tabulate
of-tabulate zero f m = absurd (Memᴰ.not-nil m)
of-tabulate (suc n) f {x} m = go (Memᴰ.cases_cons m) (λ l. of-tabulate n (λ j. f (suc j)) l)
  where
    go : (x ≡ f 0) ⊎ Memᴰ x (tabulate n (λ j. f (suc j))) → (Memᴰ x (tabulate n (λ j. f (suc j))) → (k : ℕ) × (k < n) × (x ≡ f (suc k))) → (k : ℕ) × (k < suc n) × (x ≡ f k)
    go (inl e) rest = (0, zero-lt-suc n, e)
    go (inr l) rest = let w = rest l in (suc w.0, omega (arith, w.1), w.2)

module _ {A : Type 0} (p : A → Bool) where
  pub mem-keep : {x : A} {xs : List A} → p x ≡ true → Memᴰ x xs → Memᴰ x (keep p xs)
  unfolding keep
  mem-keep {x} {xs = []} e m = absurd (Memᴰ.not-nil m)
  mem-keep {x} {xs = y ∷ ys} e m = go (p y) refl (Memᴰ.cases_cons m) (λ l. mem-keep {xs = ys} e l)
    where
      go : (b : Bool) → p y ≡ b → (x ≡ y) ⊎ Memᴰ x ys → (Memᴰ x ys → Memᴰ x (keep p ys)) → Memᴰ x (cond b (y ∷ keep p ys) (keep p ys))
      go true f (inl h) rest = Memᴰ.head h
      go true f (inr l) rest = Memᴰ.tail (rest l)
      go false f (inl h) rest = absurd (let z : true ≡ false = sym e ∙ ap p h ∙ f in let y : ◌≡◌ {A = ℕ} 0 1 = cc in omega arith)
      go false f (inr l) rest = rest l

  pub of-keep : {x : A} {xs : List A} → Memᴰ x (keep p xs) → (p x ≡ true) × Memᴰ x xs
  unfolding keep
  of-keep {x} {xs = []} m = absurd (Memᴰ.not-nil m)
  of-keep {x} {xs = y ∷ ys} m = go (p y) refl m (λ l. of-keep {xs = ys} l)
    where
      go : (b : Bool) → p y ≡ b → Memᴰ x (cond b (y ∷ keep p ys) (keep p ys)) → (Memᴰ x (keep p ys) → (p x ≡ true) × Memᴰ x ys) → (p x ≡ true) × Memᴰ x (y ∷ ys)
      go true f m rest = elim (Memᴰ.cases_cons m) [
        | inl e ↦ (ap p e ∙ f, Memᴰ.head e)
        | inr l ↦ let w = rest l in (w.0, Memᴰ.tail w.1)
      ]
      go false f m rest = let w = rest m in (w.0, Memᴰ.tail w.1)

module _ (p : ℕ → Bool) (n : ℕ) where
  -- a number is kept exactly if it is below n and passes
  pub kept : (x : ℕ) → x < n → p x ≡ true → Memᴰ x (keep p (up_to n))
  kept x h e = mem-keep p e (mem-tabulate n (λ k. k) x h)

  pub kept-below : {x : ℕ} → Memᴰ x (keep p (up_to n)) → x < n
  kept-below m = let w = of-tabulate n (λ k. k) (of-keep p m).1 in omega (arith, w.1, w.2)

  pub kept-passes : {x : ℕ} → Memᴰ x (keep p (up_to n)) → p x ≡ true
  kept-passes m = (of-keep p m).0

-- ---- they rise

-- the numbers rise, and start at b or above
abbrev Climbs : ℕ → List ℕ → Type 0
Climbs b [] = Unit
Climbs b (x ∷ xs) = (b ≤ x) × Climbs (suc x) xs

climbs-from : (a b : ℕ) (xs : List ℕ) → a ≤ b → Climbs b xs → Climbs a xs
climbs-from a b [] h c = tt
climbs-from a b (x ∷ xs) h c = (omega (arith, c.0), c.1)

keep-climbs : (p : ℕ → Bool) (n : ℕ) (f : ℕ → ℕ) (b : ℕ) → ((k : ℕ) → f k ≡ b + k) → Climbs b (keep p (tabulate n f))
unfolding tabulate keep
keep-climbs p zero f b h = tt
keep-climbs p (suc n) f b h = go (p (f 0)) (keep-climbs p n (λ k. f (suc k)) (suc b) (λ k. omega (arith, h (suc k))))
  where
    go : (t : Bool) → Climbs (suc b) (keep p (tabulate n (λ k. f (suc k)))) → Climbs b (cond t (f 0 ∷ keep p (tabulate n (λ k. f (suc k)))) (keep p (tabulate n (λ k. f (suc k)))))
    go true c = (omega (arith, h 0), climbs-from (suc (f 0)) (suc b) (keep p (tabulate n (λ k. f (suc k)))) (omega (arith, h 0)) c)
    go false c = climbs-from b (suc b) (keep p (tabulate n (λ k. f (suc k)))) (omega arith) c

climbs-at : (b : ℕ) (xs : List ℕ) → Climbs b xs → (k : ℕ) → k < length xs → b ≤ get_or xs k 0
climbs-at b [] c k h = absurd (not-suc-le-zero h)
climbs-at b (x ∷ xs) c zero h = c.0
climbs-at b (x ∷ xs) c (suc k) h = omega (arith, c.0, climbs-at (suc x) xs c.1 k (le_of_suc-le-suc h))

climbs-rise : (b : ℕ) (xs : List ℕ) → Climbs b xs → Rising xs
climbs-rise b [] c i j h l = absurd (not-suc-le-zero l)
climbs-rise b (x ∷ xs) c i zero h l = absurd (not-suc-le-zero h)
climbs-rise b (x ∷ xs) c zero (suc j) h l = climbs-at (suc x) xs c.1 j (le_of_suc-le-suc l)
climbs-rise b (x ∷ xs) c (suc i) (suc j) h l = climbs-rise (suc x) xs c.1 i j (le_of_suc-le-suc h) (le_of_suc-le-suc l)

pub kept-rise : (p : ℕ → Bool) (n : ℕ) → Rising (keep p (up_to n))
kept-rise p n = climbs-rise 0 (keep p (up_to n)) (keep-climbs p n (λ k. k) 0 (λ k. omega arith))
