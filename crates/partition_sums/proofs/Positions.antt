-- The rows of the pass, position by position: what is read for one is there, and what is written is the definition's. Assumes nothing.
use mathlib.Core.Path.{◌≡◌, refl, sym, ap, ◌∙◌, subst}
use mathlib.Core.Bool.{Bool, true, false, cond, ◌||◌}
use mathlib.Core.List.{List, [], ◌∷◌, Memᴰ}
use Prim.Native.Nat.{ℕ, zero, suc, ◌+◌, ◌*◌, ◌-◌, ◌^◌, ◌≤◌, ◌<◌}
use native.Mathlib.Nat.{not-suc-le-zero, add-zero, zero-add, add_comm}
use native.Mathlib.Numerals.{add-one}
use native.Mathlib.Omega.{arith}
use lib.Dec.{eqb, lit≤, lit<}
use lib.ListN.{length, get_or, drop, length-drop}
use lib.Seq.{get_or-take, get_or-drop, length-take-le, drop-drop}
use Rattle.lists.specs.Build.{tabulate}
use Rattle.lists.proofs.Build.{length-tabulate, get_or-tabulate, drop-tabulate, tabulate-past}
use Rattle.lists.proofs.Places.{mem-get_or}
use Rattle.ensemble.specs.Layout.{Searchable}
use Rattle.fractions.specs.declared.Weight.{Weight}
use Rattle.partition.specs.declared.Term.{Term}
use Rattle.partition.specs.Terms.{times}
use Rattle.partition.specs.Pass.{sum_terms, passed, passed_whole, none_left}
use Rattle.partition.specs.Weights.{Weights, place_weight, pair_weight}
use Rattle.partition.specs.Sum.{zero_weight}
use Rattle.partition.specs.Summed.{factor_term, factors, lowered, passed_sum, summed, sum_of_weights}
use Rattle.partition.specs.inner.Used.{Weighs, Fit, PlaceFit, PairFit, Used, InUse}
use Rattle.partition.proofs.Cuts.{times_cut}
use Rattle.partition.proofs.Passed.{Usable, usable-from, passed-holds, whole-holds}
use Rattle.partition.proofs.AtPosition.{mem_index}
use Rattle.partition.proofs.Summed.{Few, not-zero, or_left, or_right, usable}
use Rattle.partition_sums.specs.Layout.{options_at, options_in, options_of, weights_of}
use Rattle.partition_sums.specs.declared.lent.Lent.{Lent}
use Rattle.partition_sums.specs.declared.lent.Formed.{Formed}
use Rattle.partition_sums.specs.inner.Rows.{place_term, pair_term, row_term, joined, Joins, Row}
use Rattle.partition_sums.proofs.Rowed.{sum-fit, sum-terms-same, step-passed}

-- ---- what holds of options holds of those from a position on

used-from : (Place Pair : ℕ → ℕ → Type 0) (k i : ℕ) (options : List (List ℕ)) → Used Place Pair i options → k < length options → Used Place Pair (i + k) (drop k options)
used-from Place Pair zero i options u h = rw (add-zero i) u
used-from Place Pair (suc k) i [] u h = absurd (not-suc-le-zero h)
used-from Place Pair (suc k) i (here ∷ []) u h = absurd (not-suc-le-zero (le-of-suc h))
  where
    le-of-suc : suc (suc k) ≤ 1 → suc k ≤ 0
    le-of-suc g = omega arith
used-from Place Pair (suc k) i (here ∷ next ∷ later) u h = rw (shift i k) (used-from Place Pair k (suc i) (next ∷ later) u.2 (omega arith))
  where
    shift : (i k : ℕ) → i + suc k ≡ suc i + k
    shift i k = omega arith

few-tabulate : (n : ℕ) (f : ℕ → List ℕ) → ((k : ℕ) → k < n → length (f k) ≤ 64) → Few (tabulate n f)
unfolding tabulate
few-tabulate zero f h = tt
few-tabulate (suc n) f h = (h 0 (omega arith), few-tabulate n (λ k. f (suc k)) (λ k l. h (suc k) (omega arith)))

some-tabulate : (n : ℕ) (f : ℕ → List ℕ) → ((k : ℕ) → k < n → 0 < length (f k)) → none_left (tabulate n f) ≡ false
unfolding tabulate none_left
some-tabulate zero f h = refl
some-tabulate (suc n) f h = go (f 0) (h 0 (omega arith)) (some-tabulate n (λ k. f (suc k)) (λ k l. h (suc k) (omega arith)))
  where
    go : (here : List ℕ) → 0 < length here → none_left (tabulate n (λ k. f (suc k))) ≡ false → none_left (here ∷ tabulate n (λ k. f (suc k))) ≡ false
    go [] l e = absurd (not-suc-le-zero l)
    go (x ∷ here) l e = e

-- ---- the options of a position

module _ {strands : ℕ} {rows counts : List ℕ} (s : Searchable strands rows counts) where
  pub count-is : (i : ℕ) → i < length counts → length (options_at rows counts i) ≡ get_or counts i 0
  count-is i h =
      let few = s.readable.few i h in
      let sized = s.readable.sized in
      length-take-le (get_or counts i 0) (drop (64 * i) rows) (rw (length-drop (64 * i) rows) (omega arith))

  pub some_at : (i : ℕ) → i < length counts → 0 < length (options_at rows counts i)
  some_at i h = rw (count-is i h) (s.some i h)

  pub few-at : (i : ℕ) → i < length counts → length (options_at rows counts i) ≤ 64
  few-at i h = rw (count-is i h) (s.readable.few i h)

  pub known_at : (i k : ℕ) → i < length counts → k < length (options_at rows counts i) → get_or (options_at rows counts i) k 0 < strands
  known_at i k h l =
      let l' : k < get_or counts i 0 = rw (count-is i h) at l in
      rw (get_or-take (get_or counts i 0) (drop (64 * i) rows) k 0 l', get_or-drop (64 * i) rows k 0) (s.known i k h l')

  pub known_of : (i x : ℕ) → i < length counts → Memᴰ x (options_at rows counts i) → x < strands
  known_of i x h m = let k = mem_index (options_at rows counts i) m in rw k.2 (known_at i k.0 h k.1)

  -- the options from a position on
  pub options-from : (i : ℕ) → i < length counts → drop i (options_in rows counts) ≡ options_at rows counts i ∷ drop (i + 1) (options_in rows counts)
  unfolding options_in
  options-from i h = drop-tabulate (length counts) (options_at rows counts) i h

  pub options-past : (i : ℕ) → length counts ≤ i → drop i (options_in rows counts) ≡ []
  unfolding options_in
  options-past i h = tabulate-past (length counts) (options_at rows counts) i h

  pub options-length : length (options_in rows counts) ≡ length counts
  unfolding options_in
  options-length = length-tabulate (length counts) (options_at rows counts)

  pub options-at : (i : ℕ) → i < length counts → get_or (options_in rows counts) i [] ≡ options_at rows counts i
  unfolding options_in
  options-at i h = get_or-tabulate (length counts) (options_at rows counts) [] i h

  pub few-options : Few (options_in rows counts)
  unfolding options_in
  few-options = few-tabulate (length counts) (options_at rows counts) few-at

  pub some-options : none_left (options_in rows counts) ≡ false
  unfolding options_in
  some-options = some-tabulate (length counts) (options_at rows counts) some_at

-- ---- one factor, and one pair's factor times a term

pub factor-fit : (empty : Bool) (w : Weight) → (empty ≡ false → Weighs 400000 w) → Fit 800000 (factor_term 400000 empty w)
factor-fit true w h = record { form = record { least = lit≤ tt; most = lit< tt }; low = lit≤ tt }
factor-fit false w h = let g = h refl in record { form = record { least = g.form.least; most = g.form.most }; low = g.low }

pub joined-fit : {w : Weights} {row : List Term} {left right : ℕ} → Joins w row left right → Fit (2 ^ 31) (joined w row left right)
unfolding joined
joined-fit {w} {row} {left} {right} j =
    let p = factor-fit (eqb left 0 || eqb right 0) (pair_weight w left right) j.form in
    let c = times_cut (pair_term w left right) (row_term row right) p.form j.term.form in
    record { form = c.form; low = omega (arith, c.low, p.low, j.term.low) }

-- ---- the rows

-- an element of a lent part
pub item-in : {items options : List ℕ} (k : ℕ) → items ≡ options → k < length items → Memᴰ (get_or items k 0) options
item-in {items} k e h = subst (λ (xs : List ℕ). Memᴰ (get_or items k 0) xs) e (mem-get_or 0 items k h)

module _ (l : Lent) where
  -- the options of a position
  abbrev pub here : ℕ → List ℕ
  here i = options_at l.options.rows.now l.options.counts.now i

  -- the term of an occupant of a position with all that can follow it
  abbrev pub passed_at : ℕ → ℕ → Term
  passed_at i = passed (place_term (weights_of l.weights)) (pair_term (weights_of l.weights)) i (drop (i + 1) (options_of l.options))

  -- its options are of as many strands as the weights
  pub searchable : Searchable l.weights.strands l.options.rows.now l.options.counts.now
  searchable = rw l.same_strands l.options.searchable

module _ (s : Formed) where
  abbrev l : Lent
  l = s.lent

  abbrev w : Weights
  w = weights_of s.lent.weights

  used-at : (i : ℕ) → i < length l.options.counts.now → InUse w i (drop i (options_of l.options))
  used-at i h = rw (zero-add i) at (used-from (PlaceFit 400000 (place_weight w)) (PairFit 400000 (pair_weight w)) i 0 (options_of l.options) s.in_use (rw (options-length (searchable l)) h))

  -- each option's weight at its position is in form, and so is that of two neighbours
  pub place-form : (i x : ℕ) → i < length l.options.counts.now → Memᴰ x (here l i) → PlaceFit 400000 (place_weight w) i x
  place-form i x h m = go (drop (i + 1) (options_of l.options)) (subst (λ (o : List (List ℕ)). InUse w i o) (options-from (searchable l) i h) (used-at i h))
    where
      go : (later : List (List ℕ)) → InUse w i (here l i ∷ later) → PlaceFit 400000 (place_weight w) i x
      go [] v = v x m
      go (next ∷ later) v = v.0 x m

  pub pair-form : (i x y : ℕ) → i + 1 < length l.options.counts.now → Memᴰ x (here l i) → Memᴰ y (here l (i + 1)) → PairFit 400000 (pair_weight w) x y
  pair-form i x y h m k =
      let h' : i < length l.options.counts.now = omega arith in
      let v = subst (λ (o : List (List ℕ)). InUse w i o) (options-from (searchable l) i h' ∙ ap (here l i ∷◌) (options-from (searchable l) (i + 1) h)) (used-at i h') in
      v.1 x y m k

  pub usable_at : (i : ℕ) → i < length l.options.counts.now → Usable (place_term w) (pair_term w) 800000 i (here l i) (drop (i + 1) (options_of l.options))
  usable_at i h =
      let o = options_of l.options in
      let split : o ≡ here l 0 ∷ drop 1 o = options-from (searchable l) 0 s.some in
      let v = usable 400000 (lit≤ tt) (place_weight w) (pair_weight w) 0 (here l 0) (drop 1 o) (subst (λ (z : List (List ℕ)). InUse w 0 z) split s.in_use) (subst (λ (z : List (List ℕ)). Few z) split (few-options (searchable l))) (subst (λ (z : List (List ℕ)). none_left z ≡ false) split (some-options (searchable l))) in
      let n : suc (length (drop 1 o)) ≡ length l.options.counts.now = sym (ap length split) ∙ options-length (searchable l) in
      let g = usable-from (place_term w) (pair_term w) 800000 i 0 (here l 0) (drop 1 o) v (omega arith) in
      let first : get_or (here l 0 ∷ drop 1 o) i [] ≡ here l i = sym (ap (λ (z : List (List ℕ)). get_or z i []) split) ∙ at i h in
      let rest : drop i (drop 1 o) ≡ drop (i + 1) o = dropped i in
      subst (λ (z : List (List ℕ)). Usable (place_term w) (pair_term w) 800000 i (here l i) z) rest (subst (λ (z : List ℕ). Usable (place_term w) (pair_term w) 800000 i z (drop i (drop 1 o))) first (rw (zero-add i) at g))
    where
      at : (i : ℕ) → i < length l.options.counts.now → get_or (options_of l.options) i [] ≡ here l i
      at i h = options-at (searchable l) i h

      dropped : (i : ℕ) → drop i (drop 1 (options_of l.options)) ≡ drop (i + 1) (options_of l.options)
      dropped i = drop-drop i 1 (options_of l.options) ∙ ap (λ (k : ℕ). drop k (options_of l.options)) (add_comm 1 i)

  -- the terms of a row have their form
  bounded : (i : ℕ) → i < length l.options.counts.now → 800000 + length (drop (i + 1) (options_of l.options)) * (2 * 800000 + 125) ≤ 2 ^ 30 - 64
  bounded i h =
      let n : length (drop (i + 1) (options_of l.options)) ≡ length l.options.counts.now - (i + 1) = length-drop (i + 1) (options_of l.options) ∙ ap (λ (z : ℕ). z - (i + 1)) (options-length (searchable l)) in
      let short = (searchable l).short in
      omega arith

  pub row-terms : (i : ℕ) (row : List Term) → i < length l.options.counts.now → Row l i row → (x : ℕ) → Memᴰ x (here l i) → Fit (2 ^ 30) (row_term row x)
  row-terms i row h r x m =
      let f = passed-holds (place_term w) (pair_term w) 800000 i (here l i) (drop (i + 1) (options_of l.options)) (usable_at i h) x m in
      let b = bounded i h in
      rw (r.terms x m) (record { form = f.form; low = omega (arith, f.low) })

  -- what the factor of a place reads is there
  pub place-weighs : (i x : ℕ) → i < length l.options.counts.now → Memᴰ x (here l i) → eqb x 0 ≡ false → Weighs 400000 (place_weight w i x)
  place-weighs i x h m e = place-form i x h m (not-zero x e)

  pub place-fit : (i x : ℕ) → i < length l.options.counts.now → Memᴰ x (here l i) → Fit 800000 (place_term w i x)
  place-fit i x h m = factor-fit (eqb x 0) (place_weight w i x) (place-weighs i x h m)

  -- and what the factor of a pair and the term of its right occupant read
  pub joins_at : (i x y : ℕ) (row : List Term) → i + 1 < length l.options.counts.now → Memᴰ x (here l i) → Row l (i + 1) row → Memᴰ y (here l (i + 1)) → Joins w row x y
  joins_at i x y row h m r n =
      let known = known_of (searchable l) (i + 1) y h n in
      let few = (searchable l).few in
      record {
        left-known = known_of (searchable l) i x (omega arith) m;
        right-known = known;
        few = omega arith;
        form = λ e. pair-form i x y h m n (not-zero x (or_left (eqb x 0) (eqb y 0) e)) (not-zero y (or_right (eqb x 0) (eqb y 0) e));
        term = row-terms (i + 1) row h r y n;
      }

  pub joined-sum-fit : (i x : ℕ) (row : List Term) → i + 1 < length l.options.counts.now → Memᴰ x (here l i) → Row l (i + 1) row → Fit (2 ^ 32) (sum_terms (joined w row x) (here l (i + 1)))
  joined-sum-fit i x row h m r =
      sum-fit (joined w row x) (here l (i + 1)) (some_at (searchable l) (i + 1) h) (few-at (searchable l) (i + 1) h)
      (λ k g. joined-fit (joins_at i x (get_or (here l (i + 1)) k 0) row h m r (mem-get_or 0 (here l (i + 1)) k g)))

  -- what is written is the pass's
  pub last-passed : (i x : ℕ) → i + 1 ≡ length l.options.counts.now → place_term w i x ≡ passed_at l i x
  unfolding passed
  last-passed i x e = ap (λ (later : List (List ℕ)). passed (place_term w) (pair_term w) i later x) (sym (options-past (searchable l) (i + 1) (omega arith)))

  pub next-passed : (i x : ℕ) (row : List Term) → i + 1 < length l.options.counts.now → Row l (i + 1) row → times (place_term w i x) (sum_terms (joined w row x) (here l (i + 1))) ≡ passed_at l i x
  next-passed i x row h r =
      step-passed w i (here l (i + 1)) (drop (i + 1 + 1) (options_of l.options)) row x (λ y k. r.terms y k ∙ ap (λ (j : ℕ). passed (place_term w) (pair_term w) j (drop (i + 1 + 1) (options_of l.options)) y) (add-one i))
      ∙ ap (λ (later : List (List ℕ)). passed (place_term w) (pair_term w) i later x) (sym (options-from (searchable l) (i + 1) h))

  -- the sum over the first row
  abbrev pub sum_of_row : Term
  sum_of_row = passed_whole (place_term w) (pair_term w) (here l 0) (drop 1 (options_of l.options))

  pub row-whole : (row : List Term) → Row l 0 row → sum_terms (row_term row) (here l 0) ≡ sum_of_row
  unfolding passed_whole
  row-whole row r = sum-terms-same (row_term row) (passed_at l 0) (here l 0) r.terms

  pub sum-bounded : (sum_of_row.digits < 2 ^ 31) × (sum_of_row.power ≤ 2 ^ 30)
  sum-bounded =
      let f = whole-holds (place_term w) (pair_term w) 800000 (here l 0) (drop 1 (options_of l.options)) (usable_at 0 s.some) in
      let b = bounded 0 s.some in
      (f.form.most, omega (arith, f.low))

  pub sum-lowered : lowered 400000 (factors (length l.options.counts.now)) sum_of_row ≡ sum_of_weights w (options_of l.options)
  unfolding passed_sum summed
  sum-lowered =
      let o = options_of l.options in
      let split : o ≡ here l 0 ∷ drop 1 o = options-from (searchable l) 0 s.some in
      let n : suc (length (drop 1 o)) ≡ length l.options.counts.now = sym (ap length split) ∙ options-length (searchable l) in
      ap (λ (f : ℕ). lowered 400000 (factors f) sum_of_row) (sym n) ∙ ap (passed_sum 400000 (place_weight w) (pair_weight w)) (sym split)
      ∙ ap (λ (b : Bool). cond b zero_weight (passed_sum 400000 (place_weight w) (pair_weight w) o)) (sym (some-options (searchable l)))
