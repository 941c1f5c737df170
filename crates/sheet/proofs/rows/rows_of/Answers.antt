use mathlib.Core.Path.{◌≡◌, sym, ap, ◌∙◌}
use mathlib.Core.List.{◌∷◌}
use Prim.Native.Nat.{ℕ, ◌+◌, ◌-◌}
use native.Mathlib.Omega.{arith}
use lib.ListN.{length, drop, take}
use lib.Seq.{take-nil}
use Rattle.lists.specs.Front.{over}
use Rattle.lists.proofs.Front.{front-step, front_same, front-whole}
use Rattle.sheet.specs.Rows.{places_from}
use Rattle.sheet.specs.inner.Laid.{laid}
use Rattle.sheet.proofs.Chosen.{chosen-here, chosen-later, chosen-past}
use Rattle.sheet.proofs.Fill.{take_next}
use Rattle.sheet.proofs.rows.rows_of.Goals as goal

pub loop-i-preserved : goal.loop-i-preserved
loop-i-preserved c =
    let a = c.args in
    let rows = a.rows.now in
    let most = length a.chosen.now in
    let i = c.loop-i.i in
    let n = c.loop-i.n in
    let low = c.loop-i-test.true in
    let rest = places_from a.group (i + 1) (drop (i + 1) rows) in
    elim c.if-n-chosen.branch [
      | goal.then-n-chosen+then-eq w ↦ (
        omega arith,
        front-step c.loop-i.invariant.1
            (ap (take (most - n)) (chosen-here a.group rows i _ low (rw w.from.ensures at (sym w.eq.ensures ∙ w.if-eq.true)))
            ∙ take_next most n i rest (omega arith)
            ∙ ap (λ (k : ℕ). i ∷ take (most - k) rest) (sym w.n-is))
            (omega arith) w.chosen-is w.n-is,
      )
      | goal.else-n-chosen w ↦ elim w.else-n-chosen.branch [
        | goal.else-n-chosen-via-then-n-chosen+else-eq w' ↦ (
          omega arith,
          front_same c.loop-i.invariant.1
              (ap (take (most - n)) (chosen-later a.group rows i _ low (rw w'.from.ensures at (sym w'.eq.ensures ∙ w'.if-eq.false)))
              ∙ ap (λ (k : ℕ). take (most - k) rest) (sym w.n-is))
              w.chosen-is w.n-is,
        )
        | goal.else-n-chosen-via-else-n-chosen w' ↦
            let none : most - n ≡ 0 = omega arith in
            let none' : most - c.if-n-chosen.n ≡ 0 = omega arith in (
              omega arith,
              front_same c.loop-i.invariant.1 (rw (none, none')) w.chosen-is w.n-is,
            )
      ]
    ]

pub returns : goal.returns
unfolding laid over
returns c =
    let a = c.args in
    front-whole (rw (chosen-past a.group a.rows.now c.loop-i.i c.loop-i-test.false, take-nil) at c.loop-i.invariant.1)
