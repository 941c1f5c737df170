-- Names that retire, as the code looks at them. Assumes nothing.
use mathlib.Core.Path.{◌≡◌, refl, sym, ap, ◌∙◌}
use mathlib.Core.Bool.{Bool, ◌&&◌, ◌||◌}
use mathlib.Core.List.{List}
use Prim.Native.Nat.{ℕ}
use Rattle.lists.specs.Find.{any}
use Rattle.sdc_common.specs.Names.{is_retired}
use Rattle.sdc_common.specs.Lent.{part_of, glue_of, is_retired_glue}
use Rattle.sdc_common.specs.declared.names.LentName.{LentName}
use Rattle.sdc1d_params.specs.inner.Cells.{first_of}
use Rattle.sdc1d_params.specs.Params.{Params, strand_names, is_retired_entry, any_retired, is_ordinary}
use Rattle.sdc1d_params.specs.declared.Build.{Build}
use Rattle.sdc1d_params.specs.declared.Entry.{Entry}

-- the first name of an entry, which is always there
first-retired : (text : List ℕ) (e : Entry) → is_retired_glue (glue_of text (first_of e)) ≡ is_retired (part_of text e.first.start e.first.size)
unfolding glue_of is_retired_glue
first-retired text e = refl

-- what the code says of it
pub first-said : (text : List ℕ) (e : Entry) {name : LentName} {r t : Bool} → name ≡ first_of e → r ≡ is_retired_glue (glue_of text name) → r ≡ t → is_retired (part_of text e.first.start e.first.size) ≡ t
first-said text e n r t = sym (first-retired text e) ∙ sym (ap (λ (x : LentName). is_retired_glue (glue_of text x)) n) ∙ sym r ∙ t

-- what the last check of a build says
pub stars-said :
    (p : Params) (build : Build) {r t : Bool}
    → r ≡ (is_ordinary build && (any is_retired_glue (strand_names p) || any (is_retired_entry p.text) p.entries.each))
    → r ≡ t
    → (is_ordinary build && any_retired p) ≡ t
unfolding any_retired
stars-said p build e h = sym e ∙ h
