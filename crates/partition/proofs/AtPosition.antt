-- The sum over the states by the occupants of one position is document 02's sum. Assumes nothing.
use mathlib.Core.Path.{◌≡◌, refl, sym, ap, ap₂, subst, ◌∙◌}
use mathlib.Core.Logic.{◌⊎◌, inl, inr, ◌≢◌}
use mathlib.Core.Bool.{Bool, true, false, true≢false, ◌||◌}
use mathlib.Core.List.Memᴰ
use mathlib.Core.List.{List, [], ◌∷◌, ◌++◌, Memᴰ}
use Prim.Native.Nat.{ℕ, suc, ◌+◌, ◌*◌, ◌^◌, ◌≤◌, ◌<◌}
use native.Mathlib.Nat.{mul-one, one-mul, zero-add, not-suc-le-zero, pow-suc, one-le-pow}
use native.Mathlib.Omega.{arith}
use native.Mathlib.Decide.{ℕ_discrete}
use lib.Dec.{eqb, lit≤, lit<}
use lib.Pow.{pow_pos}
use lib.ListN.{length, get_or}
use borrow.Author.Tests.{eq-eqb, eqb-true, ne_eqb}
use Rattle.lists.specs.Build.{keep}
use Rattle.lists.specs.Find.{any}
use Rattle.lists.specs.Order.{Rising}
use Rattle.fractions.specs.Frac.{Frac}
use Rattle.fractions.specs.Weight.{worth}
use Rattle.fractions.specs.declared.Weight.{Weight}
use Rattle.model.specs.Model.{options_of}
use Rattle.model.specs.States.{listing}
use Rattle.partition.specs.declared.Term.{Term}
use Rattle.partition.specs.Terms.{size}
use Rattle.partition.specs.Constraint.{allows, meets}
use Rattle.partition.specs.Pass.{sum_terms, through, allowed, none_left}
use Rattle.partition.specs.Sum as Sum
use Rattle.partition.specs.Sum.{zero_weight, SumWithin}
use Rattle.partition.specs.Summed.{one_term, lowered, factors, summed_at}
use Rattle.partition.specs.inner.Used.{Fit, PlaceFit, PairFit, Used}
use Rattle.partition.proofs.Constraint.{keep_append, keep-listing, none_left_lem, some-state}
use Rattle.partition.proofs.Exact.{sum_of_states}
use Rattle.partition.proofs.Passed.{Usable, usable-from}
use Rattle.partition.proofs.Units.{Scaled, sum-scaled}
use Rattle.partition.proofs.Lifted.{one-scaled, lowered-scaled, near_within}
use Rattle.partition.proofs.Summed.{Few, P, Q, place_worth, pair_worth, usable, counted, used-allowed, few-allowed, allowed-length, answered-none, answered-some}
use Rattle.partition.proofs.Through.{UsableAll, position-near}
use Rattle.partition.proofs.OneOf.{one-sum, some-left, none-left-at}

scaled-more : {c n : ℕ} {f : Frac} (d : ℕ) → Scaled c n f → Scaled (c * d) (d * n) f
scaled-more {c} {n} {f} d p = record { positive = p.positive; cross = more f.num c n f.den d p.cross }
  where
    more : (a c n b d : ℕ) → a * c ≡ n * b → a * (c * d) ≡ d * n * b
    more a c n b d e = omega (arith, ap (λ (z : ℕ). z * d) e)

one-more : (n : ℕ) → suc (n + suc n) ≡ suc n + suc n
one-more n = omega arith

module _ (bias : ℕ) (B : 30 ≤ bias) (place pair : ℕ → ℕ → Weight) where
  start-fit : Fit (2 * bias) (one_term bias)
  start-fit = record { form = record { least = lit≤ tt; most = lit< tt }; low = omega arith }

  start-is : size (one_term bias) ≡ 2 ^ bias
  start-is = sym (mul-one (size (one_term bias))) ∙ sym (one-scaled bias B).cross ∙ one-mul (2 ^ bias)

  usable-all : (here : List ℕ) (later : List (List ℕ)) → Usable (P bias B place pair) (Q bias B place pair) (2 * bias) 0 here later → UsableAll (P bias B place pair) (Q bias B place pair) (one_term bias) (2 * bias) (here ∷ later) start-fit
  usable-all here later u i h = rw (zero-add i) at (usable-from (P bias B place pair) (Q bias B place pair) (2 * bias) i 0 here later u (omega arith))

  pub summed-at-right : (options : List (List ℕ)) (i : ℕ) → i < length options → length options ≤ 128 → Used (PlaceFit bias place) (PairFit bias pair) 0 options → Few options → none_left options ≡ false
      → SumWithin (place_worth bias B place pair) (pair_worth bias B place pair) (listing options) (summed_at bias place pair options i)
  unfolding summed_at
  summed-at-right [] i h l u f e = absurd (not-suc-le-zero h)
  summed-at-right (here ∷ later) i h l u f e =
      let p = P bias B place pair in
      let q = Q bias B place pair in
      let n = length later in
      let t = sum_terms (through p q (one_term bias) (here ∷ later) i) (get_or (here ∷ later) i []) in
      let near = position-near p q (one_term bias) (2 * bias) (here ∷ later) start-fit (usable-all here later (usable bias B place pair 0 here later u f e)) i h l in
      let states = Sum.sum_over (place_worth bias B place pair) (pair_worth bias B place pair) (listing (here ∷ later)) in
      let scaled : Scaled ((2 ^ bias) ^ factors (suc n) * 2 ^ bias) (2 ^ bias * sum_of_states (λ i x. size (p i x)) (λ x y. size (q x y)) (here ∷ later)) states =
      scaled-more (2 ^ bias) (sum-scaled (2 ^ bias) (place_worth bias B place pair) (pair_worth bias B place pair) (λ i x. size (p i x)) (λ x y. size (q x y)) here later (counted bias B place pair 0 here later u)) in
      let c : (2 ^ bias) ^ factors (suc n) * 2 ^ bias ≡ (2 ^ bias) ^ (suc n + suc n) = sym (pow-suc (2 ^ bias) (factors (suc n))) ∙ ap (λ (z : ℕ). (2 ^ bias) ^ z) (one-more n) in
      answered-some bias B place pair (listing (here ∷ later)) (some-state (here ∷ later) e) (lowered bias (suc n + suc n) t) (record { least = near.form.least; most = near.form.most })
      (near_within ((2 ^ bias) ^ (suc n + suc n)) (2 ^ bias * sum_of_states (λ i x. size (p i x)) (λ x y. size (q x y)) (here ∷ later)) t states (worth (lowered bias (suc n + suc n) t))
      (one-le-pow (suc n + suc n) (2 ^ bias) (pow_pos bias)) (rw c at scaled) (lowered-scaled bias B (suc n + suc n) t) (rw start-is at near))

  -- ---- and over those that have one of a position's options

  abbrev places : ℕ → ℕ → Term
  places = P bias B place pair

  abbrev pairs : ℕ → ℕ → Term
  pairs = Q bias B place pair

  module _ (lists options : List (List ℕ)) (many : length lists ≡ length options) (i : ℕ) (inside : i < length options) (free : (k : ℕ) → k ≢ i → get_or lists k [] ≡ []) where
    abbrev Constrained : Weight → Type 0
    Constrained w = SumWithin (place_worth bias B place pair) (pair_worth bias B place pair) (keep (meets lists) (listing options)) w

    pub one-right : (x : ℕ) → keep (allows (get_or lists i [])) (get_or options i []) ≡ x ∷ [] → length options ≤ 128 → Used (PlaceFit bias place) (PairFit bias pair) 0 options → Few options → none_left options ≡ false
        → Constrained (lowered bias (length options + length options) (through places pairs (one_term bias) options i x))
    unfolding summed_at
    one-right x e l u f some =
        let left = allowed lists options in
        let n = allowed-length lists options many in
        let sum = one-sum lists options many i inside free places pairs (one_term bias) x e in
        let s = summed-at-right left i (rw n inside) (rw n l) (used-allowed (PlaceFit bias place) (PairFit bias pair) 0 lists options u) (few-allowed lists options f) (some-left lists options many i inside free some (rw e (lit≤ tt))) in
        rw (keep-listing lists options many) (rw (sum, n) at s)

    pub none-right : keep (allows (get_or lists i [])) (get_or options i []) ≡ [] → Constrained zero_weight
    none-right e =
        rw (keep-listing lists options many) (answered-none bias B place pair (listing (allowed lists options)) (none_left_lem (allowed lists options) (none-left-at lists options many i inside free e)))

-- ---- a list of one number leaves it alone

-- where an element stands
pub mem_index : {y : ℕ} (xs : List ℕ) → Memᴰ y xs → (k : ℕ) × (k < length xs) × (y ≡ get_or xs k 0)
mem_index [] m = absurd (Memᴰ.not-nil m)
mem_index {y} (x ∷ xs) m = go (Memᴰ.cases_cons m) (λ l. mem_index xs l)
  where
    go : (y ≡ x) ⊎ Memᴰ y xs → (Memᴰ y xs → (k : ℕ) × (k < length xs) × (y ≡ get_or xs k 0)) → (k : ℕ) × (k < suc (length xs)) × (y ≡ get_or (x ∷ xs) k 0)
    go (inl e) rest = (0, omega arith, e)
    go (inr l) rest = let w = rest l in (suc w.0, omega (arith, w.1), w.2)

-- a number is found in a list exactly if it stands in it
pub found-in : (x : ℕ) (xs : List ℕ) → any (eqb x) xs ≡ true → Memᴰ x xs
unfolding any
found-in x [] e = absurd (true≢false (sym e))
found-in x (y ∷ ys) e = go (eqb x y) (λ t. eqb-true x y t) e (λ t. found-in x ys t)
  where
    go : (b : Bool) → (b ≡ true → x ≡ y) → (b || any (eqb x) ys) ≡ true → (any (eqb x) ys ≡ true → Memᴰ x ys) → Memᴰ x (y ∷ ys)
    go true f t later = Memᴰ.head (f refl)
    go false f t later = Memᴰ.tail (later t)

pub in-found : (x : ℕ) (xs : List ℕ) → Memᴰ x xs → any (eqb x) xs ≡ true
unfolding any
in-found x [] m = absurd (Memᴰ.not-nil m)
in-found x (y ∷ ys) m = go (Memᴰ.cases_cons m) (λ k. in-found x ys k)
  where
    or_true : (b : Bool) → (b || true) ≡ true
    or_true true = refl
    or_true false = refl

    go : (x ≡ y) ⊎ Memᴰ x ys → (Memᴰ x ys → any (eqb x) ys ≡ true) → (eqb x y || any (eqb x) ys) ≡ true
    go (inl e) later = rw (eq-eqb x y e) refl
    go (inr k) later = rw (later k) (or_true (eqb x y))

keep-fails : (x : ℕ) (xs : List ℕ) → (Memᴰ x xs → ⊥) → keep (allows (x ∷ [])) xs ≡ []
unfolding keep allows any
keep-fails x [] h = refl
keep-fails x (y ∷ ys) h = rw (ne_eqb y x (λ e. h (Memᴰ.head (sym e)))) (keep-fails x ys (λ m. h (Memᴰ.tail m)))

rising-tail : (x : ℕ) (xs : List ℕ) → Rising (x ∷ xs) → Rising xs
rising-tail x xs r i j h l = r (suc i) (suc j) (omega arith) (omega arith)

not-later : (x : ℕ) (xs : List ℕ) → Rising (x ∷ xs) → Memᴰ x xs → ⊥
not-later x xs r m = let k = mem_index xs m in (let l = r 0 (suc k.0) (omega arith) (omega (arith, k.1)) in omega (arith, l, k.2))

keep-passes : (x : ℕ) (xs : List ℕ) → Rising xs → Memᴰ x xs → keep (allows (x ∷ [])) xs ≡ x ∷ []
unfolding keep allows any
keep-passes x [] r m = absurd (Memᴰ.not-nil m)
keep-passes x (y ∷ ys) r m = go (Memᴰ.cases_cons m) (ℕ_discrete y x) (λ k. keep-passes x ys (rising-tail y ys r) k)
  where
    go : (x ≡ y) ⊎ Memᴰ x ys → Dec (y ≡ x) → (Memᴰ x ys → keep (allows (x ∷ [])) ys ≡ x ∷ []) → keep (allows (x ∷ [])) (y ∷ ys) ≡ x ∷ []
    go k (yes e) later = rw (eq-eqb y x e) (ap₂ ◌∷◌ e (keep-fails x ys (λ l. not-later y ys r (subst (λ (z : ℕ). Memᴰ z ys) (sym e) l))))
    go (inl e) (no n) later = absurd (n (sym e))
    go (inr k) (no n) later = rw (ne_eqb y x n) (later k)

zero-alone : keep (allows (0 ∷ [])) (0 ∷ []) ≡ 0 ∷ []
unfolding keep allows any
zero-alone = refl

module _ (friends : List ℕ) (rising : Rising friends) (occupied : Memᴰ 0 friends → ⊥) (x : ℕ) where
  split-keep : keep (allows (x ∷ [])) (options_of friends) ≡ keep (allows (x ∷ [])) friends ++ keep (allows (x ∷ [])) (0 ∷ [])
  split-keep = keep_append (allows (x ∷ [])) friends (0 ∷ [])

  pub keep-option : Memᴰ x (options_of friends) → keep (allows (x ∷ [])) (options_of friends) ≡ x ∷ []
  keep-option m = split-keep ∙ go (Memᴰ.append_cases friends m)
    where
      go : Memᴰ x friends ⊎ Memᴰ x (0 ∷ []) → keep (allows (x ∷ [])) friends ++ keep (allows (x ∷ [])) (0 ∷ []) ≡ x ∷ []
      go (inl f) =
          let n : Memᴰ x (0 ∷ []) → ⊥ = λ z. occupied (subst (λ (y : ℕ). Memᴰ y friends) (Memᴰ.eq_of_singleton z) f) in
          rw (keep-passes x friends rising f, keep-fails x (0 ∷ []) n) refl
      go (inr z) =
          let e : x ≡ 0 = Memᴰ.eq_of_singleton z in
          rw (e, keep-fails 0 friends occupied, zero-alone) refl

  pub keep-stranger : (Memᴰ x (options_of friends) → ⊥) → keep (allows (x ∷ [])) (options_of friends) ≡ []
  keep-stranger n = keep-fails x (options_of friends) n
