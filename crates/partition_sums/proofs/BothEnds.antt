-- The rows of what can stand before each option, and of both ends together: what is read for one is there, and what is written is the definition's.
-- Assumes nothing.
use mathlib.Core.Path.{◌≡◌, sym, ap, ap₂, ◌∙◌}
use mathlib.Core.Bool.{◌||◌}
use mathlib.Core.List.{List, [], Memᴰ}
use Prim.Native.Nat.{ℕ, suc, ◌+◌, ◌-◌, ◌^◌, ◌≤◌, ◌<◌}
use native.Mathlib.Numerals.{add-one}
use native.Mathlib.Omega.{arith}
use lib.Dec.{eqb, lit≤, lit<}
use lib.ListN.{length, get_or, drop, length-drop}
use Rattle.partition.specs.declared.Term.{Term}
use Rattle.partition.specs.Terms.{times}
use Rattle.partition.specs.Pass.{sum_terms, passed, before}
use Rattle.partition.specs.Weights.{Weights, place_weight, pair_weight}
use Rattle.partition.specs.Summed.{one_term}
use Rattle.partition.specs.inner.Used.{Fit}
use Rattle.partition.proofs.Cuts.{times_cut}
use Rattle.partition.proofs.Summed.{not-zero, or_left, or_right}
use Rattle.partition.proofs.Passed.{passed-holds}
use Rattle.partition.proofs.Through.{UsableAll, before-holds, through-holds, position-holds}
use Rattle.partition_sums.specs.Layout.{options_of, weights_of}
use Rattle.partition_sums.specs.declared.lent.Formed.{Formed}
use Rattle.partition_sums.specs.inner.Rows.{place_term, pair_term, row_term, before_term, through_term, led, Leads, Before}
use Rattle.partition_sums.proofs.Rowed.{sum-terms-same}
use Rattle.partition_sums.proofs.Positions.{here, passed_at, searchable, options-at, options-length, known_of, factor-fit, place-weighs, pair-form, usable_at}

-- a left occupant's term times its place's factor
pub placed-fit : {w : Weights} {row : List Term} {i left right : ℕ} → Leads w row i left right → Fit (2 ^ 30 + 800031) (times (row_term row left) (place_term w i left))
placed-fit {w} {row} {i} {left} {right} j =
    let p = factor-fit (eqb left 0) (place_weight w i left) j.place-form in
    let c = times_cut (row_term row left) (place_term w i left) j.term.form p.form in
    record { form = c.form; low = omega (arith, c.low, p.low, j.term.low) }

-- and the pair's
pub led-fit : {w : Weights} {row : List Term} {i left right : ℕ} → Leads w row i left right → Fit (2 ^ 31) (led w row i right left)
unfolding led
led-fit {w} {row} {i} {left} {right} j =
    let a = placed-fit j in
    let p = factor-fit (eqb left 0 || eqb right 0) (pair_weight w left right) j.form in
    let c = times_cut (times (row_term row left) (place_term w i left)) (pair_term w left right) a.form p.form in
    record { form = c.form; low = omega (arith, c.low, p.low, a.low) }

module _ (s : Formed) where
  abbrev w : Weights
  w = weights_of s.lent.weights

  abbrev o : List (List ℕ)
  o = options_of s.lent.options

  abbrev n : ℕ
  n = length s.lent.options.counts.now

  abbrev p : ℕ → ℕ → Term
  p = place_term w

  abbrev q : ℕ → ℕ → Term
  q = pair_term w

  pub at-is : (i : ℕ) → i < n → get_or o i [] ≡ here s.lent i
  at-is i h = options-at (searchable s.lent) i h

  pub many : length o ≡ n
  many = options-length (searchable s.lent)

  start-fit : Fit 800000 (one_term 400000)
  start-fit = record { form = record { least = lit≤ tt; most = lit< tt }; low = lit≤ tt }

  usable-all : UsableAll p q (one_term 400000) 800000 o start-fit
  usable-all i h =
      let h' : i < n = rw many at h in
      rw (at-is i h', ← add-one i) (usable_at s i h')

  others : (i : ℕ) → i < n → i + length (drop (suc i) o) ≤ 127
  others i h =
      let d : length (drop (suc i) o) ≡ n - suc i = length-drop (suc i) o ∙ ap (λ (z : ℕ). z - suc i) many in
      let short = (searchable s.lent).short in
      omega arith

  pub before-fit : (i x : ℕ) → i < n → Memᴰ x (here s.lent i) → Fit (2 ^ 30) (before_term s.lent i x)
  before-fit i x h m =
      let b = before-holds p q (one_term 400000) 800000 o start-fit usable-all i x (rw many h) (rw (at-is i h) m) in
      let few = others i h in
      record { form = b.form; low = omega (arith, b.low) }

  pub through-fit : (i x : ℕ) → i < n → Memᴰ x (here s.lent i) → Fit (2 ^ 28) (through_term s.lent i x)
  through-fit i x h m =
      let b = through-holds p q (one_term 400000) 800000 o start-fit usable-all i x (rw many h) (rw (at-is i h) m) in
      let few = others i h in
      record { form = b.form; low = omega (arith, b.low) }

  pub position-fit : (i : ℕ) → i < n → Fit (2 ^ 28) (sum_terms (through_term s.lent i) (get_or o i []))
  position-fit i h =
      let b = position-holds p q (one_term 400000) 800000 o start-fit usable-all i (rw many h) in
      let few = others i h in
      record { form = b.form; low = omega (arith, b.low) }

  pub passed-fit : (i x : ℕ) → i < n → Memᴰ x (here s.lent i) → Fit (2 ^ 30) (passed_at s.lent i x)
  passed-fit i x h m =
      let b = passed-holds p q 800000 i (here s.lent i) (drop (i + 1) o) (usable_at s i h) x m in
      let few = rw (← add-one i) at (others i h) in
      record { form = b.form; low = omega (arith, b.low) }

  -- ---- the rows

  -- before the first position stands the start
  pub first-before : (row : List Term) → ((x : ℕ) → x < 64 → row_term row x ≡ one_term 400000) → Before s.lent 0 row
  unfolding before
  first-before row e = record {
    terms = λ x m.
        let known = known_of (searchable s.lent) 0 x s.some m in
        let few = (searchable s.lent).few in
        e x (omega arith);
  }

  pub leads_at : (i x y : ℕ) (row : List Term) → i + 1 < n → Memᴰ x (here s.lent i) → Before s.lent i row → Memᴰ y (here s.lent (i + 1)) → Leads w row i x y
  leads_at i x y row h m r k =
      let known = known_of (searchable s.lent) i x (omega arith) m in
      let few = (searchable s.lent).few in
      record {
        left-known = known;
        right-known = known_of (searchable s.lent) (i + 1) y h k;
        few = omega arith;
        place-form = place-weighs s i x (omega arith) m;
        form = λ e. pair-form s i x y h m k (not-zero x (or_left (eqb x 0) (eqb y 0) e)) (not-zero y (or_right (eqb x 0) (eqb y 0) e));
        term = rw (r.terms x m) (before-fit i x (omega arith) m);
      }

  -- what is written for the next position
  pub next-before : (i y : ℕ) (row : List Term) → i + 1 < n → Before s.lent i row → sum_terms (led w row i y) (here s.lent i) ≡ before_term s.lent (i + 1) y
  unfolding before led
  next-before i y row h r =
      sum-terms-same (led w row i y) (λ z. times (times (before_term s.lent i z) (p i z)) (q z y)) (here s.lent i) (λ z m. ap (λ (t : Term). times (times t (p i z)) (q z y)) (r.terms z m))
      ∙ ap (sum_terms (λ z. times (times (before_term s.lent i z) (p i z)) (q z y))) (sym (at-is i (omega arith)))
      ∙ ap (λ (k : ℕ). before_term s.lent k y) (sym (add-one i))

  -- what is written of both ends
  pub both-ends : (i x : ℕ) (a b : Term) → a ≡ before_term s.lent i x → b ≡ passed_at s.lent i x → times a b ≡ through_term s.lent i x
  both-ends i x a b e f = ap₂ times e (f ∙ ap (λ (k : ℕ). passed p q i (drop k o) x) (add-one i))
