-- Bad windows at the end of two strands add no loop, worked out on two strands. Assumes nothing.
use mathlib.Core.Path.{◌≡◌, refl, sym, ◌∙◌}
use mathlib.Core.Bool.{false}
use mathlib.Core.List.{[], ◌∷◌}
use lib.IntN.{negsuc}
use lib.Ieee.{Float, fin, add}
use Rattle.lists.specs.Build.{keep}
use Rattle.lists.specs.Fold.{foldl}
use Rattle.doubles.specs.Decimal.{plus, nearest}
use Rattle.utils.specs.Paper.{table2, mismatch_of, table4}
use Rattle.utils.specs.Figures.{penalty, mismatch_dg, loop_rows, row_up_to, entry_up_to, energy_from, loop_energy}
use Rattle.utils.specs.Pair.{windows, step, pair_sums, NoLoopAtTheEnd}
use Rattle.utils.specs.declared.bases.DnaNucleotideBase.TheVariants.{A, T}

-- the double nearest to 0.61
mismatch : Float
mismatch = fin false 5494391545392005 (negsuc 52)

computed : (pair_sums (A ∷ A ∷ A ∷ A ∷ A ∷ []) (T ∷ A ∷ A ∷ A ∷ A ∷ [])).dg ≡ mismatch
unfolding mismatch pair_sums foldl windows step penalty mismatch_dg mismatch_of table2 loop_energy energy_from entry_up_to row_up_to loop_rows keep table4 nearest add
computed = refl

stated : nearest (plus 61 2) ≡ mismatch
unfolding mismatch nearest
stated = refl

pub no-loop-at-the-end : NoLoopAtTheEnd
no-loop-at-the-end = computed ∙ sym stated
