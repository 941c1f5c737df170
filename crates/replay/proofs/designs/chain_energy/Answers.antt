-- `replay::designs::chain_energy` meets its contract: the call has the definition's figures, and the rest of the line says them. Assumes nothing.
use Rattle.std.proofs.Common.{sym, ap, ◌∙◌}
use Rattle.design.specs.Answers.{Chain}
use Rattle.replay.specs.Kinds.{letters}
use Rattle.replay.proofs.Values.{on-some}
use Rattle.replay.proofs.Figures.{says-as}
use Rattle.replay.proofs.designs.chain_energy.Goals as goal

pub returns : goal.returns
returns c =
    let told = c.mj_chain_energy-reply.ensures in
    let words = c.split_at_first.ensures in
    on-some c.says.result c.says.ensures
    (λ e.
    record {
      first = ap letters (sym words.before) ∙ c.is_places.ensures c.if-not-is_places.false;
      answer = says-as words.after told.number
          (rw (c.bits.ensures, c.bits-2.ensures, ap (λ (x : Chain). x.bare) told.figure, ap (λ (x : Chain). x.times_rt) told.figure))
          e;
    })
