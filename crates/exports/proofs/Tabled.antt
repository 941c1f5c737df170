-- What a search over tables that is answered says of its design and tables. Assumes nothing.
use mathlib.Core.Path.{◌≡◌, sym, ◌∙◌}
use mathlib.Core.Bool.{false, not}
use mathlib.Core.List.{List, []}
use Prim.Native.Nat.{ℕ}
use lib.Dec.{eqb}
use lib.ListN.{length}
use lib.Ieee.{Float}
use borrow.Author.Tests.{eqb-true, not-false}
use Rattle.doubles.specs.Decimal.{zero}
use Rattle.reply.specs.First.{first_of}
use Rattle.reply.proofs.Figures.{number-admitted}
use Rattle.model.specs.Search.{search}
use Rattle.model.specs.LowestConfiguration.{LowestConfiguration}
use Rattle.design.specs.Design.{Design, positions}
use Rattle.design.specs.Checks.{Admitted}
use Rattle.bond_tables.specs.Tables.{wrong_tables, bonds_out, model_over}
use Rattle.bond_tables.specs.Answers.{search_over_checks, search_over_answer}
use Rattle.bond_tables.proofs.Over.{passed_over}
use Rattle.exports.specs.Tables.{LowestToldOver}

module _ (d : Design) (t u : List Float) (entries : List ℕ) where
  -- demand 3 over tables, shown of what is admitted, holds wherever 0 is answered
  pub lowest-told-over : {r : ℕ} {written : List ℕ} {energy figure : Float}
      → (Admitted d → wrong_tables d t u ≡ false → bonds_out t u ≡ false → length entries ≡ positions d → LowestConfiguration (model_over d t u) written figure)
      → r ≡ (search_over_answer d t u entries).number → energy ≡ figure → LowestToldOver d t u r written energy
  lowest-told-over shown number same none =
      let reply = number-admitted (first_of (search_over_checks d t u entries)) zero (search (model_over d t u)).energy (sym number ∙ none) in
      let p = passed_over (not (eqb (length entries) (positions d))) d t u [] reply in
      rw same (shown p.design p.tables p.cells (eqb-true _ _ (not-false _ p.size)))
