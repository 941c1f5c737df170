-- `settle::found::word_in` meets its contract. Assumes nothing.
use mathlib.Core.Path.{◌≡◌, sym, ◌∙◌}
use Rattle.std.specs.Prelude.{slice_get}
use Rattle.std.specs.Option.{option_map}
use Rattle.std.proofs.Common.{rules}
use Rattle.std.proofs.lemmas.Iterator.Consumers.{YieldsList-from_first, nth_from_yields_List}
use Rattle.std.proofs.lemmas.Iterator.Adapters.{option_map_id}
use Rattle.statements.specs.Words.{words_in}
use Rattle.statements.specs.declared.words.Word.{Word}
use Rattle.statements.specs.declared.words.Words.{Words}
use Rattle.settle.proofs.found.word_in.Goals as goal

pub returns : goal.returns
returns c =
    let line = c.args.line.now in
    let all = words_in line.text.now line.start in
    let found : option_map (λ (x : Word). x) c.nth.result ≡ slice_get all c.args.n =
    nth_from_yields_List c.nth.result c.nth.new.self c.args.n c.nth.ensures.ran (YieldsList-from_first (λ (x : Word). x) (λ (words : Words). words_in words.line.now words.at) all (search rules)) in
    sym (option_map_id c.nth.result) ∙ found
