-- The bench table's lines on sequences. A fact on doubles goes through the value written out, so that no two sums are compared before they are worked out. Assumes nothing.
use mathlib.Core.Path.{◌≡◌, refl, sym, ◌∙◌}
use mathlib.Core.Bool.{true, false}
use mathlib.Core.List.{List, [], ◌∷◌}
use Prim.Native.Nat.{ℕ}
use lib.IntN.{negsuc}
use lib.Ieee.{fin, add}
use Rattle.lists.specs.Build.{keep}
use Rattle.lists.specs.Find.{any}
use Rattle.lists.specs.Fold.{foldl}
use Rattle.doubles.specs.Decimal.{plus, minus, nearest, zero}
use Rattle.doubles.specs.Sum.{sum_from}
use Rattle.utils.specs.Answers.{DgDsFigures, refused_dg_ds, given_dg_ds}
use Rattle.utils.specs.Bases.{is_base, base_of, bases}
use Rattle.utils.specs.Paper.{table1, find, stack_of, initiation_dg, table2, mismatch_of, table4}
use Rattle.utils.specs.Figures.{stack_dg, entropy_of, stack_ds, start_dg, start_ds, penalty, mismatch_dg, loop_rows, row_up_to, entry_up_to, energy_from, loop_energy}
use Rattle.utils.specs.Single.{neighbours, stack_sum, string_dna_dg_ds}
use Rattle.utils.specs.Pair.{windows, step, pair_sums, needed_after, lacks_loop, sequence_pair_dg_ds}
use Rattle.bench_table.specs.Letters.{A, C, G, T}
use Rattle.bench_table.specs.Table.{◌⊕◌}

-- What the lines unfold: the call and all that it is made of.
unfoldable one_sequence : List ℕ → DgDsFigures
unfolding string_dna_dg_ds any is_base base_of bases sum_from neighbours stack_sum stack_dg stack_ds entropy_of stack_of find table1 start_dg start_ds initiation_dg nearest add
one_sequence s = string_dna_dg_ds s

unfoldable two_sequences : List ℕ → List ℕ → DgDsFigures
unfolding one_sequence sequence_pair_dg_ds pair_sums lacks_loop needed_after foldl windows step penalty mismatch_dg mismatch_of table2 loop_energy energy_from entry_up_to row_up_to loop_rows keep table4
two_sequences a b = sequence_pair_dg_ds a b

pub a : string_dna_dg_ds (A ∷ []) ≡ refused_dg_ds 3
unfolding string_dna_dg_ds any is_base
a = refl

ac-figures : DgDsFigures
ac-figures = given_dg_ds (fin false 1170935903116329 (negsuc 50)) (fin true 2406723640866793 (negsuc 56))

ac-computed : string_dna_dg_ds (A ∷ C ∷ []) ≡ ac-figures
unfolding ac-figures one_sequence
ac-computed = refl

ac-stated : given_dg_ds (nearest (minus 144 2) ⊕ nearest (plus 196 2)) (nearest (minus 224 4) ⊕ nearest (plus 57 4)) ≡ ac-figures
unfolding ac-figures nearest add
ac-stated = refl

pub ac : string_dna_dg_ds (A ∷ C ∷ []) ≡ given_dg_ds (nearest (minus 144 2) ⊕ nearest (plus 196 2)) (nearest (minus 224 4) ⊕ nearest (plus 57 4))
ac = ac-computed ∙ sym ac-stated

aac-tag-figures : DgDsFigures
aac-tag-figures = given_dg_ds (fin false 3512807709348987 (negsuc 51)) zero

aac-tag-computed : sequence_pair_dg_ds (A ∷ A ∷ C ∷ []) (T ∷ A ∷ G ∷ []) ≡ aac-tag-figures
unfolding aac-tag-figures two_sequences
aac-tag-computed = refl

aac-tag-stated : given_dg_ds (nearest (plus 61 2) ⊕ nearest (plus 17 2)) zero ≡ aac-tag-figures
unfolding aac-tag-figures nearest add
aac-tag-stated = refl

pub aac-tag : sequence_pair_dg_ds (A ∷ A ∷ C ∷ []) (T ∷ A ∷ G ∷ []) ≡ given_dg_ds (nearest (plus 61 2) ⊕ nearest (plus 17 2)) zero
aac-tag = aac-tag-computed ∙ sym aac-tag-stated

pub loop-of-2 : sequence_pair_dg_ds (A ∷ A ∷ A ∷ A ∷ A ∷ []) (T ∷ A ∷ A ∷ T ∷ T ∷ []) ≡ refused_dg_ds 5
unfolding two_sequences
loop-of-2 = refl

loop-of-3-figures : DgDsFigures
loop-of-3-figures = given_dg_ds (fin false 7 (negsuc 0)) (fin true 1534826753007865 (negsuc 55))

loop-of-3-computed : sequence_pair_dg_ds (A ∷ A ∷ A ∷ A ∷ A ∷ A ∷ []) (T ∷ A ∷ A ∷ A ∷ T ∷ T ∷ []) ≡ loop-of-3-figures
unfolding loop-of-3-figures two_sequences
loop-of-3-computed = refl

loop-of-3-stated : given_dg_ds (nearest (plus 61 2) ⊕ nearest (plus 69 2) ⊕ nearest (minus 10 1) ⊕ nearest (plus 32 1)) (nearest (minus 213 4)) ≡ loop-of-3-figures
unfolding loop-of-3-figures nearest add
loop-of-3-stated = refl

pub loop-of-3 :
    sequence_pair_dg_ds (A ∷ A ∷ A ∷ A ∷ A ∷ A ∷ []) (T ∷ A ∷ A ∷ A ∷ T ∷ T ∷ [])
    ≡ given_dg_ds (nearest (plus 61 2) ⊕ nearest (plus 69 2) ⊕ nearest (minus 10 1) ⊕ nearest (plus 32 1)) (nearest (minus 213 4))
loop-of-3 = loop-of-3-computed ∙ sym loop-of-3-stated
