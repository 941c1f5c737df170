use mathlib.Core.Path.{◌≡◌, sym, ap, ap₂, ◌∙◌}
use mathlib.Core.List.{[], ◌∷◌}
use mathlib.Core.Logic.{inl, inr}
use Prim.Native.Nat.{ℕ, ◌+◌}
use native.Mathlib.Numerals.{add-one}
use native.Mathlib.Omega.{arith}
use lib.ListN.{length, get_or, take, length-append, length-drop}
use lib.Ieee.{Float, nan, binary64, add}
use Rattle.std.specs.Iterator.Adapters.{zip_first, zip_second}
use Rattle.std.specs.Slice.Iter.{iter_rest}
use Rattle.doubles.specs.Least.{or_later, last_least}
use Rattle.ensemble.specs.inner.Entries.{table_bond}
use Rattle.ensemble.proofs.LastLeast.{pick-one, least_more}
use Rattle.ensemble.proofs.Walked.{past-first, next-of}
use Rattle.ensemble.proofs.sums.eight_least.Goals as goal

pub loop-strand-init : goal.loop-strand-init
loop-strand-init c =
    let left = c.args.left.now in
    let some = c.requires.some in
    let row = c.row.ensures in
    let begun = c.into_iter-strand-iterator.ensures.into_iter_gives in
    record {
      some = omega arith;
      options = ap (λ x. iter_rest (zip_first x)) begun ∙ ap iter_rest c.zip-strand-items.ensures.first ∙ c.iter.ensures.rest ∙ past-first left.options.now;
      energies = ap (λ x. iter_rest (zip_second x)) begun ∙ c.zip-strand-items.ensures.second.0 ∙ past-first left.energies.now;
      sums = λ lane h key keys.
          c.eight_sums-least.ensures lane h
          ∙ ap (add binary64 (get_or left.energies.now 0 nan)) (row.bonds (c.args.right + lane) (omega (arith, c.requires.room, h)))
          ∙ keys 0 some
          ∙ ap key (sym (pick-one (or_later key) left.options.now some));
    }

pub loop-strand-preserved : goal.loop-strand-preserved
loop-strand-preserved c =
    let left = c.args.left.now in
    let step = rw c.in-Some.is at c.next.ensures.steps in
    let was = c.loop-strand.invariant in
    let row = c.row-in-loop-strand.ensures in
    let k = length c.loop-strand.yielded + 1 in
    let strand = next-of left.options.now k 0 (sym was.options ∙ step.0) in
    let energy = next-of left.energies.now k nan (sym was.energies ∙ step.1) in
    let longer = length-append c.loop-strand.yielded ((c.in-Some.strand, c.in-Some.energy) ∷ []) in
    rw longer (record {
      some = omega (arith, strand.inside);
      options = strand.later;
      energies = energy.later;
      sums = λ lane h key keys.
          let right = c.args.right + lane in
          let sum = c.eight_sums-sum.ensures lane h
          ∙ ap (add binary64 c.in-Some.energy.now) (row.bonds right (omega (arith, c.requires.room, h)))
          ∙ ap₂ (λ (e : Float) (x : ℕ). add binary64 e (table_bond left.bonds.strands left.bonds.cells.now x right)) energy.next strand.next
          ∙ keys k strand.inside in
          c.eight_lesser-least.ensures lane h
          ∙ least_more key left.options.now k (omega arith) strand.inside (was.sums lane h key keys) sum
          ∙ ap (λ (n : ℕ). key (last_least key (take n left.options.now))) (sym (add-one k));
    })

pub returns : goal.returns
returns c =
    let left = c.args.left.now in
    let was = c.loop-strand.invariant in
    let step = rw c.in-None.is at c.next.ensures.steps in
    let k = length c.loop-strand.yielded + 1 in
    let all : k ≡ length left.options.now = elim step [
      | inl w ↦ let none = ap length was.options ∙ length-drop k left.options.now in omega (arith, w.1.0, none, was.some)
      | inr w ↦ let none = ap length was.energies ∙ length-drop k left.energies.now in omega (arith, w.1.0, none, was.some, left.an_energy_each)
    ] in
    rw all at was.sums
