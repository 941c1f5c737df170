-- The cells of the tables of occupants: the sums over the states that have one there, their quotients, and what is written. Assumes nothing.
use mathlib.Core.Path.{◌≡◌, ap₂, subst}
use mathlib.Core.List.{List}
use Prim.Native.Nat.{ℕ, zero, suc, ◌*◌, ◌/◌, ◌%◌, ◌<◌}
use native.Mathlib.Nat.{mul-zero, zero-lt-suc, not-suc-le-zero, div-lt_iff_lt-mul}
use lib.IntN.{ℤ, pos}
use lib.ListN.{length, get_or, set}
use lib.Seq.{get_or-set_other}
use Rattle.fractions.specs.declared.Weight.{Weight}
use Rattle.fractions.specs.Weight.{weight, InForm}
use Rattle.lists.proofs.Build.{length-tabulate}
use Rattle.model.specs.Model as Model
use Rattle.model.specs.Model.{options}
use Rattle.design.specs.Design.{Design, positions, friends_of, model_of}
use Rattle.design.specs.Checks.{Admitted}
use Rattle.design.proofs.FriendLaws.{friends-right}
use Rattle.partition.specs.Sum.{zero_weight}
use Rattle.partition.specs.Weights.{signed, weight_at}
use Rattle.partition.specs.Summed.{occupant_sum_at}
use Rattle.partition_sums.specs.Layout as Layout
use Rattle.partition_sums.specs.Layout.{weights_of}
use Rattle.partition_sums.specs.declared.lent.Formed.{Formed}
use Rattle.partition_sums.specs.inner.Rows.{TotalsTo}
use Rattle.probabilities.specs.Numbers.{FreeEnergySum, ConstrainedEnergySum, Probability}
use Rattle.probabilities.specs.Occupants.{only_here}
use Rattle.probabilities.specs.Quotient.{Quotiented}
use Rattle.probabilities.specs.Weighed.{WeightsNear}
use Rattle.probabilities.proofs.Summable.{Summable, total-summed, occupant-summed, free-formed, probable}

-- a table with a cell has a column
columned : (k rows n : ℕ) → k < rows * n → 0 < n
columned k rows zero h = absurd (not-suc-le-zero (rw (mul-zero rows) at h))
columned k rows (suc n) h = zero-lt-suc n

modelled : (d : Design) → Model.positions (model_of d) ≡ positions d
unfolding model_of
modelled d = length-tabulate (positions d) (friends_of d)

module _ (d : Design) (a : Admitted d) (f : Formed) (same : Layout.options_of f.lent.options ≡ options (model_of d)) (near : WeightsNear (model_of d) (weights_of f.lent.weights))
    (many : length f.lent.options.counts.now ≡ positions d) (n k : ℕ) (h : k < positions d * n) where
  abbrev row : ℕ
  row = k / n

  inside : row < length f.lent.options.counts.now
  inside = rw many ((div-lt_iff_lt-mul (columned k (positions d) n h)).1 h)

  -- the divisor
  module _ (totals : List Weight) (told : TotalsTo f.lent (length f.lent.options.counts.now) totals) where
    pub total : Summable (FreeEnergySum (model_of d)) (get_or totals row zero_weight)
    total = total-summed f (model_of d) same near row inside (get_or totals row zero_weight) (told row inside)

    pub total-form : InForm (get_or totals row zero_weight)
    total-form = free-formed f (model_of d) same near (get_or totals row zero_weight) total.right

    -- the dividend
    module _ (sum : Weight) (is : sum ≡ occupant_sum_at (weights_of f.lent.weights) (Layout.options_of f.lent.options) row (k % n)) where
      abbrev lists : List (List ℕ)
      lists = only_here (positions d) row (k % n)

      pub dividend : Summable (ConstrainedEnergySum (model_of d) lists) sum
      dividend =
          subst (λ (p : ℕ). Summable (ConstrainedEnergySum (model_of d) (only_here p row (k % n))) sum) (modelled d)
          (occupant-summed f (model_of d) same near row inside ((friends-right d).rising row) ((friends-right d).not_null a row) (k % n) sum is)

      -- and their quotient
      pub part : (q : Weight) → Quotiented sum (get_or totals row zero_weight) q → Probability (model_of d) lists q
      part q e = probable f (model_of d) same near lists sum (get_or totals row zero_weight) q dividend total e

-- a cell that is written leaves the others
pub kept : (digits : List ℕ) (powers : List ℤ) (k j v : ℕ) (z : ℤ) → (j ≡ k → ⊥) → weight_at (set digits k v) (set powers k z) j ≡ weight_at digits powers j
kept digits powers k j v z e = ap₂ (λ (a : ℕ) (b : ℤ). weight a (signed b)) (get_or-set_other digits k j v 0 e) (get_or-set_other powers k j z (pos 0) e)
