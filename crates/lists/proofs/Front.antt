-- The front of a list: its beginnings, a result laid over it, and a list that a loop writes into it, element by element. Assumes nothing.
use mathlib.Core.Path.{◌≡◌, refl, ap, ◌∙◌, sym}
use mathlib.Core.List.{List, [], ◌∷◌, map, map-map, ◌++◌, append_assoc, append-nil}
use Prim.Native.Nat.{ℕ, zero, suc, ◌<◌, ◌+◌, ◌-◌, ◌≤◌}
use native.Mathlib.Nat.{le_of_suc-le-suc, not-suc-le-zero, zero-add, add-zero, add-suc, suc-add}
use native.Mathlib.Numerals.{add-one}
use native.Mathlib.Omega.{arith}
use lib.ListN.{length, get_or, take, length-map, drop, set, replicate, length-append, length-drop, drop_of_length-le}
use lib.Seq.{sets, sets-eq, take-append_seam, set_at, drop-cons}
use Rattle.lists.specs.Front.{beginnings, over}

module _ {A : Type 0} where
  -- one for each element
  pub length-beginnings : (xs : List A) → length (beginnings xs) ≡ length xs
  unfolding beginnings
  length-beginnings [] = refl
  length-beginnings (x ∷ xs) = ap suc (length-map (beginnings xs) (x ∷◌) ∙ length-beginnings xs)

  get_or-cons : (x : A) (xss : List (List A)) (k : ℕ) → k < length xss → get_or (map (x ∷◌) xss) k [] ≡ x ∷ get_or xss k []
  get_or-cons x [] k h = absurd (not-suc-le-zero h)
  get_or-cons x (xs ∷ xss) zero h = refl
  get_or-cons x (xs ∷ xss) (suc k) h = get_or-cons x xss k (le_of_suc-le-suc h)

  -- the one that ends with element k
  pub get_or-beginnings : (xs : List A) (k : ℕ) → k < length xs → get_or (beginnings xs) k [] ≡ take (suc k) xs
  unfolding beginnings
  get_or-beginnings [] k h = absurd (not-suc-le-zero h)
  get_or-beginnings (x ∷ xs) zero h = refl
  get_or-beginnings (x ∷ xs) (suc k) h =
      let l : k < length xs = le_of_suc-le-suc h in
      get_or-cons x (beginnings xs) k (rw (length-beginnings xs) l) ∙ ap (x ∷◌) (get_or-beginnings xs k l)

-- the beginnings of a mapped list are mapped beginnings
pub beginnings-map : {A B : Type 0} (f : A → B) (xs : List A) → beginnings (map f xs) ≡ map (map f) (beginnings xs)
unfolding beginnings
beginnings-map f [] = refl
beginnings-map f (x ∷ xs) = rw (beginnings-map f xs) (simp map-map)

module _ {A : Type 0} where
  pub sets_over : (result xs : List A) → length result ≤ length xs → sets xs 0 result ≡ over result xs
  unfolding over
  sets_over result xs h = sets-eq result xs 0 (rw zero-add h) ∙ simp zero-add

  pub take-over : (result xs : List A) → take (length result) (over result xs) ≡ result
  unfolding over
  take-over result xs = take-append_seam result (drop (length result) xs)

  pub sets-append : (xs : List A) (i : ℕ) (ys zs : List A) → sets xs i (ys ++ zs) ≡ sets (sets xs i ys) (i + length ys) zs
  sets-append xs i [] zs = rw add-zero
  sets-append xs i (y ∷ ys) zs = rw add-suc (rw (← suc-add i (length ys)) (sets-append (set xs i y) (suc i) ys zs))

  -- of a run that is stored up to `end`, one more
  pub sets-run : (xs : List A) (x : A) (i end : ℕ) → i < end → sets (set xs i x) (i + 1) (replicate (end - (i + 1)) x) ≡ sets xs i (replicate (end - i) x)
  sets-run xs x i end h = let e : end - i ≡ suc (end - (i + 1)) = omega arith in rw (e, add-one)

  -- and none more
  pub sets-none : (xs : List A) (x : A) (i end : ℕ) → end ≤ i → sets xs i (replicate (end - i) x) ≡ xs
  sets-none xs x i end h = let e : end - i ≡ 0 = omega arith in rw e

module _ {A : Type 0} where
  -- k elements of `whole` are written over those of `before`, and `left` are still to come
  pub record Front (before whole left : List A) (k : ℕ) (now : List A) : Type 0 where
    pub written : List A
    pub size : length written ≡ k
    pub splits : whole ≡ written ++ left
    pub is : now ≡ written ++ drop k before

  pub front-none : (before whole : List A) → Front before whole whole 0 before
  front-none before whole = record { written = []; size = refl; splits = refl; is = refl }

  pub front_length : {before whole left : List A} {k : ℕ} {now : List A} → Front before whole left k now → k ≤ length before → length now ≡ length before
  front_length {before} {whole} {left} {k} {now} w h = let e = w.size in simp (w.is, length-append, length-drop) (omega arith)

  pub front-more : {before whole left : List A} {k : ℕ} {now : List A} {x : A} → Front before whole (x ∷ left) k now → k < length before → Front before whole left (k + 1) (set now k x)
  front-more {before} {whole} {left} {k} {now} {x} w h = record {
    written = w.written ++ x ∷ [];
    size = simp length-append (omega (arith, w.size));
    splits = w.splits ∙ sym (append_assoc w.written (x ∷ []) left);
    is =
        rw (w.is, drop-cons before k x h, set_at w.written (get_or before k x) (drop (suc k) before) x k w.size, add-one)
        (sym (append_assoc w.written (x ∷ []) (drop (suc k) before)));
  }

  -- all is written: the rest is as it was
  pub front-whole : {before whole : List A} {k : ℕ} {now : List A} → Front before whole [] k now → now ≡ whole ++ drop (length whole) before
  front-whole {before} {whole} {k} {now} w =
      let e : whole ≡ w.written = w.splits ∙ append-nil w.written in
      rw (w.is, e) (ap (λ (n : ℕ). w.written ++ drop n before) (sym w.size))

  pub front-count : {before whole : List A} {k : ℕ} {now : List A} → Front before whole [] k now → k ≡ length whole
  front-count w = sym (ap length (w.splits ∙ append-nil w.written) ∙ w.size)

  -- all is written, and nothing more was there
  pub front-full : {before whole : List A} {k : ℕ} {now : List A} → Front before whole [] k now → length before ≤ k → now ≡ whole
  front-full {before} {whole} {k} {now} w h =
      let n : drop k before ≡ [] = drop_of_length-le before h in
      let e : whole ≡ w.written = w.splits ∙ append-nil w.written in
      rw (w.is, e, n) (append-nil w.written)

  -- where the branches of a loop meet: one that wrote, and one that did not
  pub front-step : {before whole left rest : List A} {k k' : ℕ} {now now' : List A} {x : A} → Front before whole left k now → left ≡ x ∷ rest → k < length before
      → now' ≡ set now k x → k' ≡ k + 1 → Front before whole rest k' now'
  front-step w split h e f = let v = rw split at w in rw (e, f) (front-more v h)

  pub front_same : {before whole left left' : List A} {k k' : ℕ} {now now' : List A} → Front before whole left k now → left ≡ left' → now' ≡ now → k' ≡ k → Front before whole left' k' now'
  front_same w same e f = let v = rw same at w in rw (e, f) v
