-- The cells of the positions: what is written into those of one leaves the others. Assumes nothing.
use mathlib.Core.Path.{◌≡◌, ap, subst, ◌∙◌}
use mathlib.Core.Logic.{◌⊎◌, inl, inr}
use mathlib.Core.List.{List, Memᴰ}
use Prim.Native.Nat.{ℕ, ◌+◌, ◌*◌, ◌^◌, ◌≤◌, ◌<◌}
use native.Mathlib.Nat.{ne_of_lt}
use native.Mathlib.Omega.{arith}
use native.Mathlib.Decide.{dec_lt}
use borrow.Author.Count.{below_more}
use lib.IntN.{ℤ}
use lib.ListN.{length, get_or, set}
use lib.Seq.{get_or-set_same, get_or-set_other}
use Rattle.lists.proofs.Grid.{row-end, cell_in}
use Rattle.fractions.specs.declared.Weight.{Weight}
use Rattle.partition.specs.declared.Term.{Term}
use Rattle.partition.specs.Sum.{zero_weight}
use Rattle.partition.specs.Weights.{weight_at}
use Rattle.partition.specs.Summed.{sum_at, occupant_sum_at}
use Rattle.partition.specs.inner.Used.{Fit}
use Rattle.partition_sums.specs.Layout.{options_of, weights_of}
use Rattle.partition_sums.specs.declared.lent.Formed.{Formed}
use Rattle.partition_sums.specs.inner.Rows.{row_term, Row, celled_term, Stored, SummedTo, TotalsTo}
use Rattle.partition_sums.proofs.Positions.{here, passed_at, searchable, known_of, row-terms}

module _ (s : Formed) where
  abbrev n : ℕ
  n = length s.lent.options.counts.now

  abbrev strands : ℕ
  strands = s.lent.weights.strands

  known : (j x : ℕ) → j < n → Memᴰ x (here s.lent j) → x < strands
  known j x h m = known_of (searchable s.lent) j x h m

  module _ (digits digits' : List ℕ) (powers powers' : List ℤ) (i : ℕ)
      (kept : (cell : ℕ) → (cell < i * strands) ⊎ (i * strands + strands ≤ cell) → weight_at digits' powers' cell ≡ weight_at digits powers cell) where
    -- a cell of another position is kept
    kept-before : (j x : ℕ) → j < i → x < strands → weight_at digits' powers' (j * strands + x) ≡ weight_at digits powers (j * strands + x)
    kept-before j x h k = kept (j * strands + x) (inl (cell_in strands h k))

    kept-after : (j x : ℕ) → i < j → weight_at digits' powers' (j * strands + x) ≡ weight_at digits powers (j * strands + x)
    kept-after j x h = kept (j * strands + x) (inr (let e : i * strands + strands ≤ j * strands = row-end strands h in omega arith))

    -- the pass's terms from a position on, once they are written there
    pub stored-more : (row : List Term) → i < n → Row s.lent i row
        → ((j x : ℕ) → i < j → j < n → Memᴰ x (here s.lent j) → weight_at digits powers (j * strands + x) ≡ celled_term (passed_at s.lent j x))
        → ((x : ℕ) → x < strands → Fit (2 ^ 30) (row_term row x) → weight_at digits' powers' (i * strands + x) ≡ celled_term (row_term row x))
        → Stored s.lent i digits' powers'
    stored-more row inside r old filled = record { terms = λ j x h k m. go j x h k m (dec_lt i j) }
      where
        now : (x : ℕ) → Memᴰ x (here s.lent i) → weight_at digits' powers' (i * strands + x) ≡ celled_term (passed_at s.lent i x)
        now x m = filled x (known i x inside m) (row-terms s i row inside r x m) ∙ ap celled_term (r.terms x m)

        go : (j x : ℕ) → i ≤ j → j < n → Memᴰ x (here s.lent j) → Dec (i < j) → weight_at digits' powers' (j * strands + x) ≡ celled_term (passed_at s.lent j x)
        go j x h k m (yes l) = kept-after j x l ∙ old j x l k m
        go j x h k m (no l) =
            let e : i ≡ j = omega arith in
            subst (λ (y : ℕ). Memᴰ x (here s.lent y) → weight_at digits' powers' (y * strands + x) ≡ celled_term (passed_at s.lent y x)) e (now x) m

    -- and past it, where other things are written there
    pub stored-less : Stored s.lent i digits powers → Stored s.lent (i + 1) digits' powers'
    stored-less old = record { terms = λ j x h k m. kept-after j x (omega arith) ∙ old.terms j x (omega arith) k m }

    -- the sums of one position more
    pub summed-more : ((x : ℕ) → x < strands → weight_at digits' powers' (i * strands + x) ≡ occupant_sum_at (weights_of s.lent.weights) (options_of s.lent.options) i x)
        → SummedTo s.lent i digits powers → SummedTo s.lent (i + 1) digits' powers'
    summed-more filled old j x h k =
        below_more (λ (y : ℕ). weight_at digits' powers' (y * strands + x) ≡ occupant_sum_at (weights_of s.lent.weights) (options_of s.lent.options) y x) i (λ y l. kept-before y x l k ∙ old y x l k) (filled x k) j h

  -- one total more
  pub totals-more : (i : ℕ) (totals : List Weight) (v : Weight) → i < length totals → v ≡ sum_at (weights_of s.lent.weights) (options_of s.lent.options) i → TotalsTo s.lent i totals → TotalsTo s.lent (i + 1) (set totals i v)
  totals-more i totals v h e old =
      below_more (λ (y : ℕ). get_or (set totals i v) y zero_weight ≡ sum_at (weights_of s.lent.weights) (options_of s.lent.options) y) i (λ y l. get_or-set_other totals i y v zero_weight (ne_of_lt l) ∙ old y l) (get_or-set_same totals i v zero_weight h ∙ e)
