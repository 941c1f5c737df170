-- The writing of the options that a list allows meets its contract. Assumes nothing.
use mathlib.Core.Path.{sym, ◌∙◌}
use mathlib.Core.List.{[]}
use native.Mathlib.Omega.{arith}
use lib.Seq.{take_at}
use Rattle.lists.specs.Build.{keep}
use Rattle.lists.proofs.Front.{Front, front-whole, front-count, front-step, front_same}
use Rattle.partition.specs.Constraint.{allows}
use Rattle.partition_sums.proofs.Keeping.{keep-here, keep-later, keep-past}
use Rattle.partition_sums.proofs.allowed.keep_row.Goals as goal

pub loop-x-preserved : goal.loop-x-preserved
loop-x-preserved c =
    let a = c.args in
    let r = c.requires in
    let l = c.loop-x in
    let p = allows a.list.now in
    let h = c.loop-x-test.true in
    let few = r.options_len_bound in
    let size = r.row_len in
    let m = l.invariant.0 in
    elim c.if-list_allows.branch [
      | goal.then-list_allows w ↦ (
        omega (arith, w.count-is),
        front-step l.invariant.1 (keep-here p a.options.now l.x-index 0 h (sym c.list_allows.ensures ∙ w.if-list_allows.true)) (omega arith) w.row-is w.count-is,
      )
      | goal.else-list_allows w ↦ (
        omega (arith, w.count-is),
        front_same l.invariant.1 (keep-later p a.options.now l.x-index 0 h (sym c.list_allows.ensures ∙ w.if-list_allows.false)) w.row-is w.count-is,
      )
    ]

pub returns : goal.returns
returns c =
    let a = c.args in
    let l = c.loop-x in
    let few = c.requires.options_len_bound in
    let m = l.invariant.0 in
    let p = allows a.list.now in
    let w : Front a.row.now (keep p a.options.now) [] l.count l.row = rw (keep-past p a.options.now l.x-index c.loop-x-test.false) at l.invariant.1 in
    record {
      number = front-count w;
      few = omega arith;
      holds = rw (front-whole w) (take_at (keep p a.options.now) _ l.count (sym (front-count w)));
    }
