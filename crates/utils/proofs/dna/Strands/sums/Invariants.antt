-- `utils::Strands::sums` meets its contract: the sums so far are to be carried on over the windows left. Assumes nothing.
use mathlib.Core.Path.{◌≡◌}
use mathlib.Core.Bool.{false}
use Prim.Native.Nat.{◌+◌, ◌≤◌}
use lib.ListN.{length}
use Rattle.std.specs.Iterator.Adapters.{zip_first, zip_second}
use Rattle.std.specs.Slice.Iter.{windows_size, windows_rest}
use Rattle.lists.specs.Find.{any}
use Rattle.utils.specs.Bases.{not_a_base, bases}
use Rattle.utils.specs.Pair.{pair_sums, lacks_loop}
use Rattle.utils.specs.inner.Code.{sums_of}
use Rattle.utils.proofs.Windows.{sums_rest, lacks_rest}
use Rattle.utils.proofs.dna.Strands.sums.Given as goal

abbrev pub invariant-loop-upper : goal.invariant-loop-upper
invariant-loop-upper l =
    let a = windows_rest (zip_first l.upper-iterator) in
    let b = windows_rest (zip_second l.upper-iterator) in
    record {
      two : (windows_size (zip_first l.upper-iterator) ≡ 2) × (windows_size (zip_second l.upper-iterator) ≡ 2);
      one_length : length a ≡ length b;
      letters : (any not_a_base a ≡ false) × (any not_a_base b ≡ false);
      room : l.sums.bad + length a ≤ 256;
      figures : pair_sums (bases l.self.upper.letters.now) (bases l.self.lower.letters.now) ≡ sums_rest (sums_of l.sums) a b;
      loops : lacks_loop l.self.upper.letters.now l.self.lower.letters.now ≡ lacks_rest l.sums.bad a b;
    }
