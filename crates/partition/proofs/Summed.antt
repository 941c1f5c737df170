-- Document 02's sums: the pass over the options that a constraint leaves gives zero exactly if no state meets it, and else lies within one part in 2^15
-- of the exact sum. Assumes nothing.
use mathlib.Core.Path.{◌≡◌, refl, sym, ap, ◌∙◌, subst}
use mathlib.Core.Bool.{Bool, true, false, true≢false, cond, ◌||◌}
use mathlib.Core.List.{List, [], ◌∷◌}
use Prim.Native.Nat.{ℕ, suc, ◌*◌, ◌^◌, ◌≤◌, ◌<◌, zero-le}
use native.Mathlib.Nat.{le_trans, le_of_eq, not-suc-le-zero, suc-ne-zero, suc_inj}
use native.Mathlib.Omega.{arith}
use borrow.Author.Tests.{eq-eqb}
use lib.Dec.{eqb, lit≤, lit<}
use lib.ListN.{length}
use Rattle.lists.specs.Build.{keep}
use Rattle.lists.proofs.Keep.{of-keep}
use Rattle.fractions.specs.Frac.{Frac, one}
use Rattle.fractions.specs.Number.{exactly, WithinPart}
use Rattle.fractions.specs.declared.Weight.{Weight}
use Rattle.fractions.specs.Weight.{worth, InForm}
use Rattle.model.specs.States.{listing}
use Rattle.partition.specs.declared.Term.{Term}
use Rattle.partition.specs.Terms.{size}
use Rattle.partition.specs.Constraint.{allows, meets}
use Rattle.partition.specs.Pass.{allowed, none_left}
use Rattle.partition.specs.Sum.{place_factor, pair_factor, sum_over, zero_weight, SumWithin}
use Rattle.partition.specs.Summed.{lifted_term, one_term, place_term, pair_term, passed_sum, summed}
use Rattle.partition.specs.inner.Used.{Fit, Weighs, PlaceFit, PairFit, Used}
use Rattle.partition.proofs.Constraint.{keep-listing, none_left_lem, some-state}
use Rattle.partition.proofs.Passed.{Usable, Some, whole-holds}
use Rattle.partition.proofs.Units.{Scaled, Counted}
use Rattle.partition.proofs.Lifted.{lifted-scaled, one-scaled, sum-within}

-- fewer options use fewer factors
module _ (Place Pair : ℕ → ℕ → Type 0) where
  pub used-allowed : (i : ℕ) (cs options : List (List ℕ)) → Used Place Pair i options → Used Place Pair i (allowed cs options)
  unfolding allowed
  used-allowed i [] options u = tt
  used-allowed i (c ∷ cs) [] u = tt
  used-allowed i (c ∷ []) (here ∷ []) u = λ x m. u x (of-keep (allows c) m).1
  used-allowed i (c ∷ []) (here ∷ next ∷ later) u = λ x m. u.0 x (of-keep (allows c) m).1
  used-allowed i (c ∷ d ∷ cs) (here ∷ []) u = λ x m. u x (of-keep (allows c) m).1
  used-allowed i (c ∷ d ∷ cs) (here ∷ next ∷ later) u =
      (λ x m. u.0 x (of-keep (allows c) m).1, λ x y m k. u.1 x y (of-keep (allows c) m).1 (of-keep (allows d) k).1, used-allowed (suc i) (d ∷ cs) (next ∷ later) u.2)

-- at most 64 options at each position
abbrev pub Few : List (List ℕ) → Type 0
Few [] = Unit
Few (here ∷ later) = (length here ≤ 64) × Few later

keep-length : (p : ℕ → Bool) (xs : List ℕ) → length (keep p xs) ≤ length xs
unfolding keep
keep-length p [] = zero-le
keep-length p (x ∷ xs) = go (p x) (keep-length p xs)
  where
    go : (b : Bool) → length (keep p xs) ≤ length xs → length (cond b (x ∷ keep p xs) (keep p xs)) ≤ suc (length xs)
    go true h = omega arith
    go false h = omega arith

pub few-allowed : (cs options : List (List ℕ)) → Few options → Few (allowed cs options)
unfolding allowed
few-allowed [] options f = tt
few-allowed (c ∷ cs) [] f = tt
few-allowed (c ∷ cs) (here ∷ later) f = (le_trans (keep-length (allows c) here) f.0, few-allowed cs later f.1)

pub allowed-length : (cs options : List (List ℕ)) → length cs ≡ length options → length (allowed cs options) ≡ length options
unfolding allowed
allowed-length [] [] e = refl
allowed-length [] (h ∷ o) e = absurd (suc-ne-zero _ (sym e))
allowed-length (c ∷ cs) [] e = absurd (suc-ne-zero _ e)
allowed-length (c ∷ cs) (h ∷ o) e = ap suc (allowed-length cs o (suc_inj e))

-- ---- factors in form
pub not-zero : (x : ℕ) → eqb x 0 ≡ false → x ≡ 0 → ⊥
not-zero x e z = true≢false (sym (eq-eqb x 0 z) ∙ e)

pub or_left : (a b : Bool) → (a || b) ≡ false → a ≡ false
or_left true b e = absurd (true≢false e)
or_left false b e = refl

pub or_right : (a b : Bool) → (a || b) ≡ false → b ≡ false
or_right true b e = absurd (true≢false e)
or_right false b e = e

module _ (bias : ℕ) (B : 30 ≤ bias) (place pair : ℕ → ℕ → Weight) where
  factor : (b : Bool) (w : Weight) → (b ≡ false → Weighs bias w) → Fit (2 * bias) (cond b (one_term bias) (lifted_term bias w)) × Scaled (2 ^ bias) (size (cond b (one_term bias) (lifted_term bias w))) (cond b one (worth w))
  factor true w h = (record { form = record { least = lit≤ tt; most = lit< tt }; low = omega arith }, one-scaled bias B)
  factor false w h =
      let g = h refl in
      (record { form = record { least = g.form.least; most = g.form.most }; low = g.low }, lifted-scaled bias B w g.reaches)

  abbrev pub P : ℕ → ℕ → Term
  P = place_term bias place pair

  abbrev pub Q : ℕ → ℕ → Term
  Q = pair_term bias place pair

  place-factor : (i x : ℕ) → PlaceFit bias place i x → Fit (2 * bias) (P i x) × Scaled (2 ^ bias) (size (P i x)) (place_factor (λ i x. worth (place i x)) (λ x y. worth (pair x y)) i x)
  place-factor i x h = factor (eqb x 0) (place i x) (λ e. h (not-zero x e))

  pair-factor : (x y : ℕ) → PairFit bias pair x y → Fit (2 * bias) (Q x y) × Scaled (2 ^ bias) (size (Q x y)) (pair_factor (λ i x. worth (place i x)) (λ x y. worth (pair x y)) x y)
  pair-factor x y h = factor (eqb x 0 || eqb y 0) (pair x y) (λ e. h (not-zero x (or_left (eqb x 0) (eqb y 0) e)) (not-zero y (or_right (eqb x 0) (eqb y 0) e)))

  some : (here : List ℕ) (later : List (List ℕ)) → length here ≤ 64 → none_left (here ∷ later) ≡ false → Some here
  unfolding none_left
  some [] later l e = absurd (true≢false e)
  some (x ∷ here) later l e = record { first = x; rest = here; split = refl; few = omega arith }

  some-later : (here : List ℕ) (later : List (List ℕ)) → none_left (here ∷ later) ≡ false → none_left later ≡ false
  unfolding none_left
  some-later [] later e = absurd (true≢false e)
  some-later (x ∷ here) later e = e

  pub usable : (i : ℕ) (here : List ℕ) (later : List (List ℕ)) → Used (PlaceFit bias place) (PairFit bias pair) i (here ∷ later) → Few (here ∷ later) → none_left (here ∷ later) ≡ false → Usable P Q (2 * bias) i here later
  usable i here [] u f e = (some here [] f.0 e, λ x m. (place-factor i x (u x m)).0)
  usable i here (next ∷ later) u f e =
      (some here (next ∷ later) f.0 e, λ x m. (place-factor i x (u.0 x m)).0, λ x y m k. (pair-factor x y (u.1 x y m k)).0, usable (suc i) next later u.2 f.1 (some-later here (next ∷ later) e))

  pub counted : (i : ℕ) (here : List ℕ) (later : List (List ℕ)) → Used (PlaceFit bias place) (PairFit bias pair) i (here ∷ later) → Counted (2 ^ bias) (λ i x. worth (place i x)) (λ x y. worth (pair x y)) (λ i x. size (P i x)) (λ x y. size (Q x y)) i here later
  counted i here [] u = λ x m. (place-factor i x (u x m)).1
  counted i here (next ∷ later) u = (λ x m. (place-factor i x (u.0 x m)).1, λ x y m k. (pair-factor x y (u.1 x y m k)).1, counted (suc i) next later u.2)

  -- what each weight is worth
  abbrev pub place_worth : ℕ → ℕ → Frac
  place_worth i x = worth (place i x)

  abbrev pub pair_worth : ℕ → ℕ → Frac
  pair_worth x y = worth (pair x y)

  -- ---- the answer

  pub answered-none : (several : List (List ℕ)) → several ≡ [] → SumWithin place_worth pair_worth several zero_weight
  answered-none several e = rw e refl

  pub answered-some : (several : List (List ℕ)) → (several ≡ [] → ⊥) → (w : Weight) → InForm w → WithinPart 15 0 (exactly (sum_over place_worth pair_worth several)) (worth w) → SumWithin place_worth pair_worth several w
  answered-some [] h w f p = absurd (h refl)
  answered-some (_ ∷ _) h w f p = (f, p)

  passed-right : (options : List (List ℕ)) → length options ≤ 128 → 0 < length options → Used (PlaceFit bias place) (PairFit bias pair) 0 options → Few options → none_left options ≡ false
      → SumWithin place_worth pair_worth (listing options) (passed_sum bias place pair options)
  unfolding passed_sum
  passed-right [] l p u f e = absurd (not-suc-le-zero p)
  passed-right (here ∷ later) l p u f e =
      let U = usable 0 here later u f e in
      let n = (whole-holds P Q (2 * bias) here later U).form in
      answered-some (listing (here ∷ later)) (some-state (here ∷ later) e) (passed_sum bias place pair (here ∷ later)) (record { least = n.least; most = n.most })
      (sum-within bias (2 * bias) B place pair here later (omega arith) U (counted 0 here later u))

  -- over the states of any options
  pub summed-right : (options : List (List ℕ)) → length options ≤ 128 → 0 < length options → Used (PlaceFit bias place) (PairFit bias pair) 0 options → Few options
      → SumWithin place_worth pair_worth (listing options) (summed bias place pair options)
  unfolding summed
  summed-right options l p u f = go (none_left options) refl
    where
      go : (b : Bool) → none_left options ≡ b → SumWithin place_worth pair_worth (listing options) (cond b zero_weight (passed_sum bias place pair options))
      go true h = answered-none (listing options) (none_left_lem options h)
      go false h = passed-right options l p u f h

  -- and over those that meet a constraint
  pub constrained-right : (lists options : List (List ℕ)) → length lists ≡ length options → length options ≤ 128 → 0 < length options → Used (PlaceFit bias place) (PairFit bias pair) 0 options → Few options
      → SumWithin place_worth pair_worth (keep (meets lists) (listing options)) (summed bias place pair (allowed lists options))
  constrained-right lists options e l p u f =
      let n = allowed-length lists options e in
      rw (keep-listing lists options e)
      (summed-right (allowed lists options) (le_trans (le_of_eq n) l) (subst (λ (z : ℕ). 0 < z) (sym n) p) (used-allowed (PlaceFit bias place) (PairFit bias pair) 0 lists options u) (few-allowed lists options f))
