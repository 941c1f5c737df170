-- `sheet::once::copied` meets its contract: a strand's number is its place, counted from 1. Assumes nothing.
use Rattle.std.proofs.Common.{rules}
use Rattle.sheet.proofs.Named.{numbered}
use Rattle.sheet.proofs.once.copied.Goals as goal

pub returns-in-Some : goal.returns-in-Some
returns-in-Some c =
    let strands = c.args.strands.now in
    let number = numbered c.args.text.now strands.rows.now strands.places.now _ c.strand_named-place.result c.strand_named-place.ensures c.map_or.ensures (λ k h. search rules) in
    search rules
