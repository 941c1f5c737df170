-- `settle::settle::first_dilute` meets its contract. Assumes nothing.
use mathlib.Core.Path.{◌≡◌, refl, sym, ◌∙◌}
use native.Mathlib.Omega.{arith}
use Rattle.std.proofs.Common.{rules, tests}
use Rattle.std.specs.Option.{option_map}
use Rattle.std.specs.List.{find, range_with_len}
use Rattle.std.proofs.lemmas.Iterator.{YieldsList-from_range}
use Rattle.std.proofs.lemmas.Iterator.Search.{find_from_yields_List}
use Rattle.std.proofs.lemmas.Iterator.Adapters.{option_map_id}
use Rattle.lists.proofs.Searches.{up_to_is}
use Rattle.settle.specs.Files.{is_dilute}
use Rattle.settle.proofs.settle.first_dilute.Goals as goal

pub returns : goal.returns
returns c =
    let test = is_dilute c.args.sheet.now.rows.now c.args.design.now in
    let n = c.strands.result in
    let found : option_map (λ x. x) c.find.result ≡ find test (range_with_len 0 n) = find_from_yields_List test _ _ c.find.result c.find.ensures.ran (YieldsList-from_range 0 n n refl (omega arith)) (λ x b q k. search (rules, tests)) in
    rw (sym c.strands.ensures, up_to_is n) (sym (option_map_id c.find.result) ∙ found)
