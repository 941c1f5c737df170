use Rattle.prepared.proofs.Counted.{many-told, counted}
use Rattle.ensemble.proofs.OptionRows.{product_is}
use Rattle.model.specs.States.{count}
use Rattle.design.specs.Design.{model_of}
use Rattle.doubles.specs.Decimal.{zero}
use Rattle.jobs.specs.declared.job.Job.TheVariants.{EnergyAt}
use Rattle.std.specs.Prelude.{Some}
use Rattle.std.proofs.Common.{rules}
use borrow.Author.Tests.{lt-ltb, le-ltb, le-leb, lt-leb, ltb-false}
use lib.Ieee.{Float, of_bits}
use lib.Dec.{leb, ltb}
use native.Mathlib.Omega.{arith}
use Prim.Native.Nat.{ℕ, ◌≤◌, ◌<◌, min}
use mathlib.Core.Logic.{◌⊎◌, inl, inr}
use mathlib.Core.Bool.{false, cond}
use mathlib.Core.Path.{◌≡◌, sym, ap, ◌∙◌}
use Rattle.jobs.proofs.settle.Settled.energy.Goals as goal
use Rattle.jobs.proofs.settle.Settled.energy.Goals.{then-self-gt-MOST_STATES-via-then-self-gt-MOST_STATES, then-self-gt-MOST_STATES-via-else-self-gt-MOST_STATES+then-self-rank}

-- too many states, or a rank that is too high
no-energy : (n states rank : ℕ) (energy : Float) → states ≡ min n 1048577 → (1048576 < states) ⊎ ((states ≤ 1048576) × (states ≤ rank)) → cond (ltb 1048576 n) zero (cond (leb n rank) zero energy) ≡ zero
no-energy n states rank energy held (inl h) = let many : 1048576 < n = omega arith in rw (lt-ltb 1048576 n many)
no-energy n states rank energy held (inr h) =
    let few : n ≤ 1048576 = omega (arith, h.0) in
    let high : n ≤ rank = omega (arith, h.0, h.1) in
    rw (le-ltb 1048576 n few, le-leb n rank high)

pub returns-then-self-gt-MOST_STATES : goal.returns-then-self-gt-MOST_STATES
unfolding of_bits
returns-then-self-gt-MOST_STATES c =
    let s = c.args.self.now in
    let m = model_of s.admitted.now in
    let held : s.states ≡ min (count m) 1048577 = s.counted ∙ ap (λ (n : ℕ). min n 1048577) (product_is s.option_rows) in
    let why : (1048576 < s.states) ⊎ ((s.states ≤ 1048576) × (s.states ≤ c.in-Some-EnergyAt.rank)) =
    elim c.then-self-gt-MOST_STATES.branch [
      | then-self-gt-MOST_STATES-via-then-self-gt-MOST_STATES w ↦ inl w.if-self-gt-MOST_STATES.true
      | then-self-gt-MOST_STATES-via-else-self-gt-MOST_STATES+then-self-rank w ↦ inr (w.if-self-gt-MOST_STATES.false, w.if-self-rank.true)
    ] in
    let is : c.args.asked ≡ Some (EnergyAt c.in-Some-EnergyAt.rank) = search rules in
    rw is (sym (no-energy (count m) s.states c.in-Some-EnergyAt.rank _ held why))

pub returns-else-self-rank : goal.returns-else-self-rank
returns-else-self-rank c =
    let s = c.args.self.now in
    let m = model_of s.admitted.now in
    let held : s.states ≡ min (count m) 1048577 = s.counted ∙ ap (λ (n : ℕ). min n 1048577) (product_is s.option_rows) in
    let few : ltb 1048576 (count m) ≡ false = sym (many-told (count m) held) ∙ le-ltb 1048576 _ c.if-self-gt-MOST_STATES.false in
    let same : s.states ≡ count m = counted (count m) held (ltb-false _ _ few) in
    let low : leb (count m) c.in-Some-EnergyAt.rank ≡ false = lt-leb (count m) c.in-Some-EnergyAt.rank (rw (← same) c.if-self-rank.false) in
    let is : c.args.asked ≡ Some (EnergyAt c.in-Some-EnergyAt.rank) = search rules in
    rw (is, few, low) c.energy_at.ensures
