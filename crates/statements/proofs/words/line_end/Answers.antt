-- `statements::words::line_end` meets its contract: up to the first newline. Assumes nothing.
use Rattle.std.proofs.Common.{◌≡◌, ◌∙◌, ap, drop, arith}
use Rattle.std.specs.List.{prefix_len}
use Rattle.std.proofs.lemmas.List.{length-drop}
use Rattle.statements.specs.inner.Words.{not_newline}
use Rattle.statements.proofs.Bytes.{rest_is, line_ends}
use Rattle.statements.proofs.words.line_end.Goals as goal

pub returns : goal.returns
returns c =
    let text = c.args.text.now in
    let at = c.args.at in
    let l = length-drop at text in
    let n : c.line_length.result ≡ prefix_len not_newline (drop at text) = c.line_length.ensures.0 ∙ ap (prefix_len not_newline) (rest_is text at) in
    (omega arith, omega (arith, l), line_ends text at c.line_length.result n c.requires)
