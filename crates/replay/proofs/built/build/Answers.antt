-- `replay::built::build` meets its contract: the call leaves what the definition says, and the rest of the line says it. Assumes nothing.
use Rattle.std.proofs.Common.{ap, ◌∙◌}
use Rattle.replay.specs.Kinds.{word, later}
use Rattle.replay.proofs.Words.{as-decimal}
use Rattle.replay.proofs.Values.{on-some}
use Rattle.replay.proofs.Letters.{built-as}
use Rattle.replay.proofs.built.build.Goals as goal

pub returns : goal.returns
returns c =
    let one = c.split_at_first.ensures in
    let two = c.split_at_first-2.ensures in
    on-some c.says_built.result c.says_built.ensures
    (λ e.
    record {
      build = c.in_ok-number.number;
      cell = c.in_ok-cell.cell;
      lent = _;
      first = as-decimal one.before c.in_ok-number.ensures;
      second = as-decimal (two.before ∙ ap word one.after) c.in_ok-cell.ensures;
      answer = built-as (two.after ∙ ap later one.after) c.mj_params-reply.ensures e;
    })
