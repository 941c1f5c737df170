-- What is found from position 0 on is the first state of the whole listing. Assumes nothing.
use mathlib.Core.Path.{◌≡◌, refl, sym, ap, ◌∙◌}
use mathlib.Core.Bool.{Bool, true, false, not}
use mathlib.Core.List.{List, []}
use Rattle.std.specs.Prelude.{Option, Some}
use Prim.Native.Nat.{ℕ, ◌<◌, ◌≤◌}
use lib.ListN.{length, get_or}
use lib.Ieee.{Float, le}
use borrow.Author.Tests.{ltb-true, ltb-false, not-false}
use Rattle.lists.specs.Find.{first_index}
use Rattle.lists.proofs.Find.{first_any, first-same}
use Rattle.doubles.specs.Decimal as Decimal
use Rattle.model.specs.Model.{Model}
use Rattle.model.specs.States.{states, state_at}
use Rattle.model.proofs.Listing.{listed}
use Rattle.prepared.proofs.Begun.{whole-energy}
use Rattle.ceiling.specs.Ceiling.{is_under, first_under, none_under}
use Rattle.ceiling.specs.inner.Passing.{under_on, Told, UnderFrom}
use Rattle.ceiling.specs.inner.Found.{FoundUnder}
use Rattle.ceiling.proofs.Passing.{passing-some, passing-none}

module _ (m : Model) (ceiling : Float) where
  -- both tests of a state are one
  test-same : (s : List ℕ) → under_on m ceiling 0 0 Decimal.zero s ≡ is_under m ceiling s
  unfolding under_on
  test-same s = ap (λ (x : Float). le x ceiling) (whole-energy m s)

  first-is : first_index (under_on m ceiling 0 0 Decimal.zero) (states m) ≡ first_under m ceiling
  unfolding first_under
  first-is = first-same (under_on m ceiling 0 0 Decimal.zero) (is_under m ceiling) test-same (states m)

  -- whether there is one, by its rank
  pub under-rank : none_under m ceiling ≡ false → first_under m ceiling < length (states m)
  unfolding none_under first_under
  under-rank e = ltb-true _ _ (first_any (is_under m ceiling) (states m) ∙ not-false _ e)

  over-rank : none_under m ceiling ≡ true → length (states m) ≤ first_under m ceiling
  unfolding none_under first_under
  over-rank e = ltb-false _ _ (first_any (is_under m ceiling) (states m) ∙ not-true _ e)
    where
      not-true : (b : Bool) → not b ≡ true → b ≡ false
      not-true false e = refl
      not-true true e = sym e

  pub found-under : {before after : List ℕ} {r : Option Float} → UnderFrom m ceiling 0 0 Decimal.zero before after r → FoundUnder m ceiling before after r
  found-under {before} {after} {r} w = record {
    some = λ e.
        let low : first_index (under_on m ceiling 0 0 Decimal.zero) (states m) < length (states m) = rw first-is (under-rank e) in
        let shown : get_or (states m) (first_under m ceiling) [] ≡ state_at m (first_under m ceiling) = (listed m).ranked (first_under m ceiling) (rw (← (listed m).size) (under-rank e)) in
        let first = passing-some (under_on m ceiling 0 0 Decimal.zero) (states m) low ∙ ap (λ (k : ℕ). Some (get_or (states m) k [])) first-is ∙ ap Some shown in
        let told : Told m 0 0 Decimal.zero before after r (Some (state_at m (first_under m ceiling))) = rw first at w in
        (told.0 ∙ ap Some (whole-energy m (state_at m (first_under m ceiling))), told.1);
    none = λ e.
        let high : length (states m) ≤ first_index (under_on m ceiling 0 0 Decimal.zero) (states m) = rw first-is (over-rank e) in
        rw (passing-none (under_on m ceiling 0 0 Decimal.zero) (states m) high) at w;
  }
