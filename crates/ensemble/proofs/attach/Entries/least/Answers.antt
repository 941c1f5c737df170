use mathlib.Core.Path.{sym, ap, ◌∙◌}
use mathlib.Core.Bool.{Bool, cond}
use mathlib.Core.List.{[], ◌∷◌}
use mathlib.Core.Logic.{inl, inr}
use Prim.Native.Nat.{◌+◌, ◌≤◌, ◌<◌}
use native.Mathlib.Omega.{arith}
use lib.ListN.{length, get_or, length-append, length-drop}
use lib.Ieee.{nan, of_bits}
use borrow.Author.Tests.{eqb-true}
use Rattle.std.specs.Iterator.Adapters.{zip_first, zip_second}
use Rattle.std.specs.Slice.Iter.{iter_rest}
use Rattle.ensemble.proofs.Choosing.{kept-first, kept_more, kept-chosen, none-chosen}
use Rattle.ensemble.proofs.Walked.{past-first, next-of}
use Rattle.ensemble.proofs.attach.Entries.least.Goals as goal

pub returns-then-is_empty-clause-chosen : goal.returns-then-is_empty-clause-chosen
unfolding of_bits
returns-then-is_empty-clause-chosen g c = λ value better keyed decided. none-chosen better value _ (eqb-true _ 0 (sym c.is_empty.ensures ∙ c.if-is_empty.true))

pub loop-next-init : goal.loop-next-init
loop-next-init g c =
    let entries = c.args.self.now in
    let some : 0 < length entries.options.now = grind arith in
    let begun = c.into_iter-next-iterator.ensures.into_iter_gives in
    record {
      known = omega (arith, entries.known 0 some);
      some = omega arith;
      options = ap (λ x. iter_rest (zip_first x)) begun ∙ ap iter_rest c.zip-next-items.ensures.first ∙ c.iter.ensures.rest ∙ past-first entries.options.now;
      energies = ap (λ x. iter_rest (zip_second x)) begun ∙ c.zip-next-items.ensures.second.0 ∙ past-first entries.energies.now;
      kept = λ value better keyed decided. kept-first better value entries.options.now some (keyed 0 _ some c.key-energy.ensures);
    }

pub loop-next-preserved-then-not-stays : goal.loop-next-preserved-then-not-stays
loop-next-preserved-then-not-stays g c =
    let entries = c.args.self.now in
    let l = c.loop-next in
    let step = rw c.in-Some.is at c.next.ensures.steps in
    let k = length l.yielded + 1 in
    let next = next-of entries.options.now k 0 (sym l.invariant.options ∙ step.0) in
    let given = next-of entries.energies.now k nan (sym l.invariant.energies ∙ step.1) in
    let longer = length-append l.yielded ((c.in-Some.next, c.in-Some.given) ∷ []) in
    rw longer (record {
      known = omega (arith, next.next, entries.known k next.inside);
      some = omega (arith, next.inside);
      options = next.later;
      energies = given.later;
      kept = λ value better keyed decided.
          let w = l.invariant.kept value better keyed decided in
          let x = get_or entries.options.now k 0 in
          let new = keyed k c.key-next_energy.result next.inside (rw (next.next, given.next) at c.key-next_energy.ensures) in
          let d = decided l.strand x _ (rw (w.energy-is, new) at c.stays.ensures) ∙ ap (λ (r : Bool). cond r l.strand x) c.if-not-stays.true in
          kept_more w next.inside (next.next ∙ sym d) (new ∙ ap value (sym next.next));
    })

pub loop-next-preserved : goal.loop-next-preserved
loop-next-preserved g c =
    let entries = c.args.self.now in
    let l = c.loop-next in
    let step = rw c.in-Some.is at c.next.ensures.steps in
    let k = length l.yielded + 1 in
    let next = next-of entries.options.now k 0 (sym l.invariant.options ∙ step.0) in
    let given = next-of entries.energies.now k nan (sym l.invariant.energies ∙ step.1) in
    let longer = length-append l.yielded ((c.in-Some.next, c.in-Some.given) ∷ []) in
    rw longer (record {
      known = l.invariant.known;
      some = omega (arith, next.inside);
      options = next.later;
      energies = given.later;
      kept = λ value better keyed decided.
          let w = l.invariant.kept value better keyed decided in
          let x = get_or entries.options.now k 0 in
          let new = keyed k c.key-next_energy.result next.inside (rw (next.next, given.next) at c.key-next_energy.ensures) in
          let d = decided l.strand x _ (rw (w.energy-is, new) at c.stays.ensures) ∙ ap (λ (r : Bool). cond r l.strand x) c.if-not-stays.false in
          kept_more w next.inside (sym d) w.energy-is;
    })

pub returns : goal.returns
returns g c =
    let entries = c.args.self.now in
    let was = c.loop-next.invariant in
    let step = rw c.in-None.is at c.next.ensures.steps in
    let some : 0 < length entries.options.now = omega (arith, was.some) in
    let k = length c.loop-next.yielded + 1 in
    let all : length entries.options.now ≤ k = elim step [
      | inl w ↦ let none = ap length was.options ∙ length-drop k entries.options.now in omega (arith, w.1.0, none)
      | inr w ↦ let none = ap length was.energies ∙ length-drop k entries.energies.now in omega (arith, w.1.0, none, entries.an_energy_each)
    ] in
    record {
      chosen = λ value better keyed decided. kept-chosen (was.kept value better keyed decided) all some;
      known = was.known;
    }
