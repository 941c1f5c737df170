-- `answers::shown::first_run` meets its contract. Assumes nothing.
use Rattle.std.proofs.Common.{rules, tests}
use Rattle.std.proofs.lemmas.Fn.{always_returns_same}
use Rattle.answers.proofs.Runs.{run-given}
use Rattle.answers.proofs.shown.first_run.Goals as goal

pub returns : goal.returns
returns c =
    run-given c.args.style c.args.as_text _ c.args.bytes.now _ _ _ c.chunk_by.ensures.rest (always_returns_same _ _ _ (λ a r f k. search (rules, tests))) c.next.ensures.steps
