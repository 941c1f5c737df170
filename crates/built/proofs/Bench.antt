-- What is handed on as what, and a refused build, worked out. Assumes nothing.
use mathlib.Core.Path.{◌≡◌, refl, sym, ◌∙◌}
use Prim.Native.Nat.{ℕ}
use native.Mathlib.Omega.{arith}
use Rattle.lists.specs.Build.{tabulate}
use Rattle.lists.specs.Find.{any}
use Rattle.lists.specs.Fold.{foldl}
use Rattle.sdc_common.specs.Names.{base_length, base_of, same_name}
use Rattle.sdc_common.specs.Lent.{part_of, glue_of, glues_of, unfit_glue, unfit_names}
use Rattle.sdc_common.specs.Numbers.{learn, bases_of}
use Rattle.sdc_common.specs.Spelled.{known_names, is_unknown}
use Rattle.sdc1d_params.specs.Entries.{unfit_entries}
use Rattle.sdc1d_params.specs.declared.Build.{Build}
use Rattle.sdc1d_params.specs.Params.{wrong_size, from_params}
use Rattle.built.specs.Bench.{one_strand, odd, HandedOn}

refused : (build : Build) → (from_params build (one_strand 3) odd).number ≡ 6
unfolding from_params wrong_size unfit_names unfit_glue unfit_entries any tabulate glues_of glue_of part_of is_unknown known_names bases_of foldl learn base_of base_length same_name
refused build = refl

kept : (build : Build) → (from_params build (one_strand 3) odd).dg ≡ odd.dg
unfolding from_params wrong_size unfit_names unfit_glue unfit_entries any tabulate glues_of glue_of part_of is_unknown known_names bases_of foldl learn base_of base_length same_name
kept build = refl

not-answered : (build : Build) → (from_params build (one_strand 3) odd).number ≡ 0 → ⊥
not-answered build e = let z : ◌≡◌ {A = ℕ} 6 0 = sym (refused build) ∙ e in omega arith

pub handed-on : HandedOn
handed-on = record { made = λ marks amounts given ambient. refl; kept = kept; unclaimed = λ build. record { dg = λ e. absurd (not-answered build e); ds = λ e. absurd (not-answered build e) } }
