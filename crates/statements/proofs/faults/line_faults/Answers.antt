use mathlib.Core.Path.{◌≡◌, refl, sym, ◌∙◌}
use Prim.Native.Nat.{◌-◌}
use mathlib.Core.List.{[], ◌∷◌}
use native.Mathlib.Omega.{arith}
use lib.ListN.{length, length-set}
use Rattle.statements.specs.Faults.{faults_from}
use Rattle.statements.specs.inner.Lines.{lines_left}
use Rattle.statements.specs.declared.faults.LineFault.{LineFault}
use Rattle.statements.proofs.Lines.{fault-here, fault-later}
use Rattle.statements.proofs.Laid.{laid, laid-count, laid-all, counted-all}
use Rattle.statements.proofs.faults.line_faults.Goals as goal

pub loop-line-preserved-in-Err : goal.loop-line-preserved-in-Err
loop-line-preserved-in-Err c =
    let l = c.loop-line in
    let first = c.in-Some.ensures.steps in
    let n = length c.args.room.now in
    let fault : LineFault = record { line = c.in-Some.line.number; fault = c.in-Err.fault } in
    let left = lines_left c.next.new.self in
    let faults = faults_from c.args.text.now l.line-iterator.number (lines_left l.line-iterator) in
    let rest = faults_from c.args.text.now c.next.new.self.number left in
    let told : faults ≡ fault ∷ rest = fault-here c.args.text.now l.line-iterator c.next.new.self c.in-Some.line l.invariant.0 first c.in-Err.fault (sym c.statement_of.ensures ∙ c.in-Err.is) in (
      first.same ∙ l.invariant.0,
      length-set l.room l.next fault ∙ l.invariant.1,
      omega arith,
      laid-count n l.next fault faults rest told _ l.invariant.3,
      laid n l.next fault faults rest told (omega arith) l.room _ l.invariant.4,
    )

pub loop-line-preserved : goal.loop-line-preserved
loop-line-preserved c =
    let l = c.loop-line in
    let first = c.in-Some.ensures.steps in
    let faults = faults_from c.args.text.now l.line-iterator.number (lines_left l.line-iterator) in
    let rest = faults_from c.args.text.now c.next.new.self.number (lines_left c.next.new.self) in
    let same : faults ≡ rest = fault-later c.args.text.now l.line-iterator c.next.new.self c.in-Some.line l.invariant.0 first _ (sym c.statement_of.ensures ∙ c.in_default.is) in
    (first.same ∙ l.invariant.0, l.invariant.1, l.invariant.2, rw same at l.invariant.3, rw same at l.invariant.4)

pub returns-clause-count : goal.returns-clause-count
unfolding faults_from
returns-clause-count c =
    let l = c.loop-line in
    let faults = faults_from c.args.text.now l.line-iterator.number (lines_left l.line-iterator) in
    let none : faults ≡ [] = rw c.in-None.ensures.steps.0 refl in
    counted-all (length c.args.room.now) l.next faults none l.invariant.2 _ l.invariant.3

pub returns-clause-room : goal.returns-clause-room
unfolding faults_from
returns-clause-room c =
    let l = c.loop-line in
    let faults = faults_from c.args.text.now l.line-iterator.number (lines_left l.line-iterator) in
    let none : faults ≡ [] = rw c.in-None.ensures.steps.0 refl in
    laid-all (length c.args.room.now - l.next) l.next faults none l.room _ l.invariant.4
