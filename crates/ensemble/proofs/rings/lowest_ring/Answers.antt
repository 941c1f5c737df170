use mathlib.Core.Path.{sym, ◌∙◌}
use Prim.Native.Nat.{◌<◌}
use native.Mathlib.Omega.{arith}
use lib.ListN.{length, get_or}
use Rattle.model.specs.Model.{Model}
use Rattle.model.specs.Search.{options_at}
use Rattle.ensemble.specs.Lends.{Lends}
use Rattle.ensemble.proofs.OptionRows.{count-is}
use Rattle.ensemble.proofs.FirstOccupants.{ring-written, ring-first, ring-less, ring-stays, ring-found}
use Rattle.ensemble.proofs.rings.lowest_ring.Goals as goal

pub loop-option-init : goal.loop-option-init
loop-option-init c =
    let sized = c.requires.configuration_len in
    record {
      sized = c.trace.auto.configuration ∙ sized;
      tried = λ m w closing e. ring-first m (ring-written _ _ (c.ring_from-first.ensures.found m w closing e) c.trace.ensures sized);
    }

pub loop-option-preserved : goal.loop-option-preserved
loop-option-preserved c =
    let l = c.loop-option in
    let row = c.of-option-end.ensures in
    let inside : l.option < get_or c.args.lent.now.options.counts.now 0 0 = omega (arith, c.loop-option-test.true, row.sized) in
    let some : 0 < length c.args.lent.now.options.counts.now = omega arith in
    let in_row : (m : Model) → Lends m c.args.lent.now → l.option < length (options_at m 0) = λ m w. rw (← count-is w.options 0 (rw (sym w.options.positions) some)) inside in
    let sized = l.invariant.sized in
    elim c.if-next-least.branch [
      | goal.then-next-least u ↦
          let found = u.trace-then-next-least in
          record {
            sized = rw u.configuration-is (found.auto.configuration ∙ sized);
            tried = λ m w closing e.
                rw (u.least-is, u.configuration-is) (ring-less m l.option (l.invariant.tried m w closing e) (in_row m w) (ring-written _ _ (c.ring_from-next.ensures.found m w closing e) found.ensures sized) u.if-next-least.true);
          }
      | goal.else-next-least u ↦
          record {
            sized = rw u.configuration-is sized;
            tried = λ m w closing e.
                rw (u.least-is, u.configuration-is) (ring-stays m l.option (l.invariant.tried m w closing e) (in_row m w) (c.ring_from-next.ensures.found m w closing e) u.if-next-least.false);
          }
    ]

pub returns : goal.returns
returns c = λ m w closing e.
    let l = c.loop-option in
    let row = c.of-option-end.ensures in
    let some : 0 < length c.args.lent.now.options.counts.now = omega arith in
    let all = count-is w.options 0 (rw (sym w.options.positions) some) in
    ring-found m l.option (l.invariant.tried m w closing e) (omega (arith, c.loop-option-test.false, row.sized, all))
