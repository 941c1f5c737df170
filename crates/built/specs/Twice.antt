-- Two energy entries of one pair. Were they written, the later one would win, and the answer would hang on their order, which the Rust's hash
-- map leaves free; both orders are refused with 8.
use Rattle.std.specs.Prelude.{◌≡◌, refl, [], ◌∷◌, Float}
use Rattle.std.specs.Float.Ieee.{add}
use Rattle.doubles.specs.Decimal.{minus, nearest, zero}
use Rattle.lists.specs.Build.{tabulate}
use Rattle.lists.specs.Find.{any, first_index}
use Rattle.lists.specs.Fold.{foldl}
use Rattle.sdc_common.specs.Names.{base_length, base_of, stars_of, same_name}
use Rattle.sdc_common.specs.Lent.{part_of, glue_of, glues_of, unfit_glue, unfit_names}
use Rattle.sdc_common.specs.Numbers.{learn, bases_of, base_number}
use Rattle.sdc_common.specs.Spelled.{known_names, is_unknown}
use Rattle.sdc1d_params.specs.Entries.{cell_of, energy_of, unfit_entry, unfit_entries, same_pair}
use Rattle.sdc1d_params.specs.Tables.{write_of, duplicated, set_both, empty_table, dg_table}
use Rattle.sdc1d_params.specs.Params.{writes_of, wrong_size, from_params}
use Rattle.design.specs.Design.{cell}
use Rattle.sdc1d_params.specs.declared.Build.{Build}
use Rattle.sdc1d_params.specs.declared.Entry.{Entry}
use Rattle.built.specs.Order.{with_entries}
use Rattle.built.specs.Bench.{one_strand, lent}

-- an entry for the one name `a`, of the text `a**`, with dG 0.0
abbrev pub for_name : Entry
for_name = record { first = record { start = 0; size = 1 }; second = record { mark = 0; part = record { start = 0; size = 0 } }; form = 0; sequence = record { start = 0; size = 0 }; dg = zero; ds = zero }

-- and one for the pair of `a*` and `a`, which are its base* and its base, with dG −1
abbrev pub for_pair : Entry
for_pair = record { first = record { start = 0; size = 2 }; second = record { mark = 1; part = record { start = 0; size = 1 } }; form = 0; sequence = record { start = 0; size = 0 }; dg = nearest (minus 1 0); ds = zero }

-- what stands at [1][2], the cell of `a` and `a*`, after both
abbrev pub after_both : Entry → Entry → Float
after_both first second = cell (dg_table (writes_of (with_entries (one_strand 2) (first ∷ second ∷ [])))) 1 2

-- the later one would win
pub pair-last : after_both for_name for_pair ≡ nearest (minus 1 0)
unfolding with_entries writes_of write_of tabulate glues_of glue_of part_of bases_of foldl learn any first_index base_of base_length stars_of same_name base_number cell_of energy_of set_both empty_table dg_table nearest add
pair-last = refl

-- and so it would in the other order
pub name-last : after_both for_pair for_name ≡ zero
unfolding with_entries writes_of write_of tabulate glues_of glue_of part_of bases_of foldl learn any first_index base_of base_length stars_of same_name base_number cell_of energy_of set_both empty_table dg_table nearest add
name-last = refl

-- each order is refused
pub name-pair-refused : (build : Build) → (from_params build (with_entries (one_strand 2) (for_name ∷ for_pair ∷ [])) lent).number ≡ 8
unfolding with_entries from_params wrong_size unfit_names unfit_glue any tabulate glues_of glue_of part_of is_unknown known_names bases_of foldl learn first_index base_of base_length stars_of same_name base_number writes_of write_of cell_of energy_of unfit_entry unfit_entries same_pair duplicated
name-pair-refused build = refl

-- and so is the other order
pub pair-name-refused : (build : Build) → (from_params build (with_entries (one_strand 2) (for_pair ∷ for_name ∷ [])) lent).number ≡ 8
unfolding with_entries from_params wrong_size unfit_names unfit_glue any tabulate glues_of glue_of part_of is_unknown known_names bases_of foldl learn first_index base_of base_length stars_of same_name base_number writes_of write_of cell_of energy_of unfit_entry unfit_entries same_pair duplicated
pair-name-refused build = refl
