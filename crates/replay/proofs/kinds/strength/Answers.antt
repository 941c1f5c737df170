-- `replay::kinds::strength` meets its contract: the call has the definition's figures, and the rest of the line says them. Assumes nothing.
use Rattle.std.proofs.Common.{ap, ◌∙◌, sym}
use Rattle.replay.specs.Kinds.{word, later, letters}
use Rattle.replay.proofs.Values.{on-some}
use Rattle.replay.proofs.Figures.{says-as}
use Rattle.replay.proofs.kinds.strength.Goals as goal

pub returns : goal.returns
returns c =
    let told = c.mj_sequence_strength-reply.ensures in
    let one = c.split_at_first.ensures in
    let two = c.split_at_first-2.ensures in
    let s = c.letters-s.ensures ∙ ap letters (two.before ∙ ap word one.after) in
    on-some c.says.result c.says.ensures
    (λ e.
    record {
      excess = c.in_ok-read.read;
      first = sym one.before ∙ c.in_ok-read.ensures;
      answer =
          says-as (two.after ∙ ap later one.after) (rw (told.value, s, c.double-excess.ensures))
          (rw (c.bits.ensures, told.strength_after, s, c.double-excess.ensures))
          e;
    })
