-- `utils::Dna::single_sequence_dg_ds` meets its contract: the sums so far are to be carried on over what is left. Assumes nothing.
use mathlib.Core.Path.{◌≡◌}
use mathlib.Core.Bool.{false}
use Rattle.std.specs.Slice.Iter.{windows_size, windows_rest}
use Rattle.lists.specs.Find.{any}
use Rattle.utils.specs.Bases.{not_a_base, bases}
use Rattle.utils.specs.Figures.{stack_dg, stack_ds}
use Rattle.utils.specs.Single.{stack_sum}
use Rattle.utils.proofs.Neighbours.{sum_rest}
use Rattle.utils.proofs.dna.Dna.single_sequence_dg_ds.Given as goal

abbrev pub invariant-loop-pair : goal.invariant-loop-pair
invariant-loop-pair l =
    let rest = windows_rest l.pair-iterator in
    record {
      two : windows_size l.pair-iterator ≡ 2;
      letters : any not_a_base rest ≡ false;
      energy : stack_sum stack_dg (bases l.self.letters.now) ≡ sum_rest stack_dg l.sums.dg.0 rest;
      entropy : stack_sum stack_ds (bases l.self.letters.now) ≡ sum_rest stack_ds l.sums.ds.0 rest;
    }
