use mathlib.Core.Path.{◌≡◌, sym, ap, ◌∙◌}
use Prim.Native.Nat.{ℕ, ◌+◌, ◌*◌, min}
use native.Mathlib.Nat.{mul-one, min-le_right}
use native.Mathlib.Omega.{arith}
use lib.ListN.{drop, get_or}
use Rattle.lists.specs.Build.{product}
use Rattle.ensemble.proofs.Products.{product-more, product-past, held-times}
use Rattle.ensemble.proofs.states.state_count.Goals as goal

pub loop-count-preserved : goal.loop-count-preserved
loop-count-preserved c =
    let l = c.loop-count in
    let counts = c.args.counts.now in
    let number = get_or counts l.count-index 0 in
    let later = product (drop (l.count-index + 1) counts) in
    let counted : c.min-states.result ≡ min (l.states * number) 1048577 = rw (← c.from.ensures) c.min-states.ensures in
    record {
      held = omega (arith, counted, min-le_right (l.states * number) 1048577);
      counted =
          l.invariant.counted
          ∙ ap (λ (k : ℕ). min (l.states * k) 1048577) (product-more counts l.count-index c.loop-count-test.true)
          ∙ held-times 1048577 l.states number later
          ∙ ap (λ (k : ℕ). min (k * later) 1048577) (sym counted);
    }

pub returns : goal.returns
returns c =
    let l = c.loop-count in
    let most = l.invariant.held in
    let one : min (l.states * 1) 1048577 ≡ l.states = ap (λ (k : ℕ). min k 1048577) (mul-one l.states) ∙ omega arith in
    sym (l.invariant.counted ∙ ap (λ (k : ℕ). min (l.states * k) 1048577) (product-past c.args.counts.now l.count-index c.loop-count-test.false) ∙ one)
