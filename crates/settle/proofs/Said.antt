-- The design that rows say, out of its parts, and the rows that reading gives. Assumes nothing.
use mathlib.Core.Path.{◌≡◌, refl}
use mathlib.Core.List.{List}
use Prim.Native.Nat.{ℕ}
use lib.ListN.{length, take}
use Rattle.std.specs.Prelude.{Float, Result, Ok, Err, IfOk}
use Rattle.lists.proofs.Front.{take-over}
use Rattle.statements.specs.Rows.{rows_of, read_answer, rows_after}
use Rattle.statements.specs.declared.statement.Row.{Row}
use Rattle.statements.specs.declared.ReadFault.{ReadFault}
use Rattle.statements.proofs.Theorems.{reading}
use Rattle.units.specs.declared.Ambient.{Ambient}
use Rattle.sdc1d_params.specs.Params.{Outcome}
use Rattle.sdc1d_params.specs.declared.Build.{Build}
use Rattle.sheet.specs.Rows.{count_of}
use Rattle.sheet.specs.Said.{ambient_said, marks_said, potentials_said}
use Rattle.sheet.specs.declared.rows.Group.TheVariants.{Position}
use Rattle.design.specs.declared.Amounts.TheVariants.{Potentials}
use Rattle.design.specs.Design.{design}
use Rattle.settle.specs.Files.{strands_of, built_said, ambient_from, design_said, rows_told, read_fault, lines_told}

pub designed : (which : Build) (text : List ℕ) (rows : List Row) (o : Outcome) (marks : List ℕ) (potentials : List Float) (ambient : Ambient)
    → o ≡ built_said which text rows → marks ≡ marks_said (count_of Position rows) rows → potentials ≡ potentials_said (strands_of rows) rows → ambient ≡ ambient_from (ambient_said rows)
    → design o.scaffold_glues marks o.strand_glues o.dg o.ds potentials Potentials ambient ≡ design_said which text rows
unfolding design_said
designed which text rows o marks potentials ambient b m p a = rw (b, m, p, a) refl

-- the first rows of the room, as many as reading answers, are the text's
pub rows_read : (text : List ℕ) (before rows : List Row) (n : ℕ) → read_answer text (length before) ≡ Ok n → rows ≡ rows_after text before → take n rows ≡ rows_of text
rows_read text before rows n e r =
    let read = reading.answered text before n e in
    rw (r, read.filled, read.count) (take-over (rows_of text) before)

module _ (which : Build) (text : List ℕ) (room : ℕ) (long : room ≡ 2048) where
  pub told_rows : {n : ℕ} → read_answer text room ≡ Ok n → lines_told which text ≡ rows_told which text (rows_of text)
  unfolding lines_told
  told_rows e = rw (rw long at e)

  pub told_fault : {fault : ReadFault} → read_answer text room ≡ Err fault → lines_told which text ≡ read_fault fault
  unfolding lines_told
  told_fault e = rw (rw long at e)

-- what holds whatever is answered holds where it is an answer
pub where_ok : {T E : Type 0} (r : Result T E) {P : Type 0} → P → IfOk r (λ (x : T). P)
where_ok (Ok x) p = p
where_ok (Err e) p = tt
