-- `sheet::faults::is_name_twice` meets its contract. Assumes nothing.
use borrow.Author.Rules.{rules}
use borrow.Author.Tests.{tests}
use mathlib.Core.Path.{◌≡◌, sym, ◌∙◌}
use mathlib.Core.Bool.{true}
use Rattle.std.specs.List.{list_any}
use Rattle.std.proofs.lemmas.Iterator.{YieldsList-from_slice}
use Rattle.std.proofs.lemmas.Iterator.Search.{any_from_yields_List}
use Rattle.sheet.specs.Rows.{is_of}
use Rattle.sheet.specs.Faults.{has_name, name_of, is_name_twice}
use Rattle.sheet.specs.declared.rows.Group.TheVariants.{Strand}
use Rattle.sheet.proofs.faults.is_name_twice.Goals as goal

pub returns-then-eq : goal.returns-then-eq
unfolding is_name_twice
returns-then-eq c =
    let text = c.args.text.now in
    let row = c.args.row.now in
    let strand : is_of Strand row ≡ true = rw c.from.ensures at (sym c.eq.ensures ∙ c.if-eq.true) in
    let found : c.any.result ≡ list_any (has_name text (name_of row)) c.args.before.now =
    any_from_yields_List (has_name text (name_of row)) _ _ c.any.result c.any.ensures.ran (YieldsList-from_slice c.args.before.now (search rules)) (λ x b q k. search (rules, tests)) in
    rw (strand, found)
