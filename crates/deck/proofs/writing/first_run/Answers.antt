-- `deck::writing::first_run` meets its contract: a position by itself, or as many as have its occupant. Assumes nothing.
use Rattle.std.proofs.Common.{rules, tests, arith, ◌≡◌, ◌∙◌, length, drop, sym, ap}
use Rattle.std.proofs.lemmas.Iterator.{YieldsList-from_slice}
use Rattle.std.proofs.lemmas.Iterator.Consumers.{count_from_yields_List}
use Rattle.std.proofs.lemmas.Iterator.Search.{YieldsList-from_take_while}
use Rattle.std.proofs.lemmas.List.Folds.{length-prefix_len}
use Rattle.std.proofs.lemmas.List.Sums.{prefix_len-le-length}
use Rattle.std.specs.List.{prefix_len}
use Rattle.deck.specs.Forms.{form_of}
use Rattle.deck.proofs.FirstRun.{is, alone, run}
use Rattle.deck.proofs.writing.first_run.Goals as goal

pub returns-then-not-in_runs : goal.returns-then-not-in_runs
returns-then-not-in_runs c =
    let left = c.args.left.now in
    let long = ap length c.requires in
    (omega (arith, long), alone (form_of c.args.form) c.args.first (drop 1 left) left c.requires (sym c.in_runs.ensures ∙ c.if-not-in_runs.true))

pub returns : goal.returns
returns c =
    let first = c.args.first in
    let left = c.args.left.now in
    let counted : c.count.result ≡ prefix_len (is first) left =
    count_from_yields_List _ _ c.count.ensures.ran (YieldsList-from_take_while _ (is first) (YieldsList-from_slice left cc) c.take_while.ensures.closure c.take_while.ensures.done (λ x b q k. search (rules, tests)))
    ∙ length-prefix_len (is first) left in
    rw counted
    (prefix_len-le-length (is first) left, run (form_of c.args.form) first (drop 1 left) left c.requires (sym c.in_runs.ensures ∙ c.if-not-in_runs.false))
