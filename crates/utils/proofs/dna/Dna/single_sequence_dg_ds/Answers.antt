use mathlib.Core.Path.{◌≡◌, refl, sym, ap, ◌∙◌}
use Prim.Native.Nat.{ℕ, ◌≤◌}
use native.Mathlib.Omega.{arith}
use lib.Ieee.{binary64, add, of_bits}
use lib.ListN.{length, get_or}
use Rattle.std.specs.Slice.Iter.{windows_rest, windows_size}
use Rattle.utils.specs.Bases.{base_of, index_of}
use Rattle.doubles.specs.Decimal.{nearest}
use Rattle.utils.specs.Paper.{stack_of, find, table1}
use Rattle.utils.specs.Figures.{stack_dg, stack_ds, entropy_of}
use Rattle.utils.specs.Single.{stack_sum}
use Rattle.utils.proofs.Letters.{base-here, later-bases}
use Rattle.utils.proofs.Neighbours.{sum_rest, first-two, carry-on, sum-done}
use Rattle.utils.proofs.dna.Dna.single_sequence_dg_ds.Goals as goal
use Rattle.utils.proofs.dna.Dna.single_sequence_dg_ds.Goals.{In-Some}

-- the pair is the first two of the places left
here : (c : In-Some)
    → (2 ≤ length (windows_rest c.loop-pair.pair-iterator))
    × (get_or c.in-Some.pair.now 0 0 ≡ get_or (windows_rest c.loop-pair.pair-iterator) 0 0)
    × (get_or c.in-Some.pair.now 1 0 ≡ get_or (windows_rest c.loop-pair.pair-iterator) 1 0)
here c =
    let step = rw c.in-Some.is at c.next.ensures.steps in
    first-two (windows_rest c.loop-pair.pair-iterator) c.in-Some.pair.now (windows_size c.loop-pair.pair-iterator) c.loop-pair.invariant.two step.1.0 step.1.1

pub loop-pair-init : goal.loop-pair-init
unfolding stack_sum sum_rest of_bits
loop-pair-init c =
    let begun = c.into_iter-pair-iterator.ensures.into_iter_gives in
    let rest : windows_rest c.into_iter-pair-iterator.result ≡ c.args.self.now.letters.now = ap windows_rest begun ∙ c.windows-pair-items.ensures.rest in
    record {
      two = ap windows_size begun ∙ c.windows-pair-items.ensures.size;
      letters = rw rest c.args.self.now.bases;
      energy = rw (rest, c.default-sums.ensures.0) refl;
      entropy = rw (rest, c.default-sums.ensures.1) refl;
    }

pub base_index-first-requires : goal.base_index-first-requires
base_index-first-requires c =
    let two = here (goal.at.base_index-first-requires c).In-Some in
    rw two.1 (base-here (windows_rest c.loop-pair.pair-iterator) 0 c.loop-pair.invariant.letters (omega (arith, two.0)))

pub base_index-second-requires : goal.base_index-second-requires
base_index-second-requires c =
    let two = here (goal.at.base_index-second-requires c).In-Some in
    rw two.2 (base-here (windows_rest c.loop-pair.pair-iterator) 1 c.loop-pair.invariant.letters (omega (arith, two.0)))

pub invariant_of-stacks : goal.invariant_of-stacks
unfolding stack_dg stack_ds entropy_of stack_of find table1 nearest of_bits
invariant_of-stacks c = record { figures = (refl, refl) }

pub loop-pair-preserved : goal.loop-pair-preserved
loop-pair-preserved c =
    let step = rw c.in-Some.is at c.next.ensures.steps in
    let two = here (goal.at.loop-pair-preserved c).In-Some in
    let rest = windows_rest c.loop-pair.pair-iterator in
    let was = c.loop-pair.invariant in
    let first = c.base_index-first.ensures.0 ∙ ap (λ (x : ℕ). index_of (base_of x)) two.1 in
    let second = c.base_index-second.ensures.0 ∙ ap (λ (x : ℕ). index_of (base_of x)) two.2 in
    let stack = c.at.ensures (base_of (get_or rest 0 0)) (base_of (get_or rest 1 0)) first second in
    record {
      two = step.0 ∙ was.two;
      letters = rw step.1.2 (later-bases rest was.letters);
      energy = rw step.1.2 (carry-on stack_dg c.loop-pair.sums.dg.0 rest two.0 was.energy (c.add-sums.ensures.0 ∙ ap (add binary64 _) stack.0));
      entropy = rw step.1.2 (carry-on stack_ds c.loop-pair.sums.ds.0 rest two.0 was.entropy (c.add-sums.ensures.1 ∙ ap (add binary64 _) stack.1));
    }

pub returns : goal.returns
returns c =
    let step = rw c.in-None.is at c.next.ensures.steps in
    let rest = windows_rest c.loop-pair.pair-iterator in
    let was = c.loop-pair.invariant in
    (sym (was.energy ∙ sum-done stack_dg c.loop-pair.sums.dg.0 rest (omega (arith, step.1, was.two))), sym (was.entropy ∙ sum-done stack_ds c.loop-pair.sums.ds.0 rest (omega (arith, step.1, was.two))))
