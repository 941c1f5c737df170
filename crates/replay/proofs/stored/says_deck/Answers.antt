-- `replay::stored::says_deck` meets its contract. Assumes nothing.
use Rattle.std.proofs.Common.{sym, ap, ◌∙◌, inl, inr}
use Rattle.replay.specs.Kinds.{letters}
use Rattle.replay.proofs.Words.{as-word-ne}
use Rattle.replay.proofs.Values.{on-some, on-then}
use Rattle.replay.proofs.stored.says_deck.Goals as goal

pub returns-then-number-ne0 : goal.returns-then-number-ne0
returns-then-number-ne0 c = on-some c.refused.result c.refused.ensures (λ e. inl e)

pub returns : goal.returns
returns c =
    let words = c.split_at_first.ensures in
    on-then c.is_deck.result tt c.then_some.result c.then_some.ensures
    (λ e.
    inr
    (record {
      answered = c.if-number-ne0.false;
      first = sym words.before ∙ as-word-ne c.ne.ensures c.if-ne.false ∙ c.as_slice.ensures;
      second = ap letters (sym words.after) ∙ c.is_deck.ensures e;
    }))
