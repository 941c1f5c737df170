-- `replay::stored::move_deck` meets its contract: the call has the definition's figures, and the rest of the line says them. Assumes nothing.
use Rattle.std.proofs.Common.{◌≡◌, take, sym, ap, ◌∙◌, rules}
use Rattle.replay.specs.Kinds.{letters, word, later}
use Rattle.replay.proofs.Words.{as-decimal}
use Rattle.replay.proofs.Values.{on-some}
use Rattle.replay.proofs.Letters.{deck-as}
use Rattle.replay.proofs.stored.move_deck.Goals as goal

pub returns : goal.returns
returns c =
    let told = c.mj_deck_move-reply.ensures in
    let one = c.split_at_first.ensures in
    let two = c.split_at_first-2.ensures in
    let found : c.in_ok-moved.moved.now ≡ take c.mj_deck_move-reply.new.count c.mj_deck_move-reply.new.moved = let l = c.in_ok-moved.ensures.lookup in search rules in
    on-some c.says_deck.result c.says_deck.ensures
    (λ e.
    record {
      form = c.in_ok-form.form;
      deck = _;
      lent = _;
      first = as-decimal one.before c.in_ok-form.ensures;
      second = ap letters (sym (two.before ∙ ap word one.after)) ∙ c.is_deck.ensures c.if-not-is_deck.false;
      answer = deck-as (two.after ∙ ap later one.after) told.value (rw (found, told.count_after, told.moved_after)) e;
    })
