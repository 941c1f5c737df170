-- `replay::stored::write` meets its contract: the call has the definition's figures, and the rest of the line says them. Assumes nothing.
use Rattle.std.proofs.Common.{◌≡◌, take, sym, ap, ◌∙◌, rules}
use Rattle.replay.specs.Kinds.{letters, word, later}
use Rattle.replay.proofs.Words.{as-decimal}
use Rattle.replay.proofs.Values.{on-some}
use Rattle.replay.proofs.Letters.{deck-as}
use Rattle.replay.proofs.stored.write.Goals as goal

pub returns : goal.returns
returns c =
    let told = c.mj_deck_write-reply.ensures in
    let one = c.split_at_first.ensures in
    let two = c.split_at_first-2.ensures in
    let found : c.in_ok-deck.deck.now ≡ take c.mj_deck_write-reply.new.count c.mj_deck_write-reply.new.words = let l = c.in_ok-deck.ensures.lookup in search rules in
    on-some c.says_deck.result c.says_deck.ensures
    (λ e.
    record {
      form = c.in_ok-form.form;
      configuration = _;
      lent = _;
      first = as-decimal one.before c.in_ok-form.ensures;
      second = ap letters (sym (two.before ∙ ap word one.after)) ∙ c.is_places.ensures c.if-not-is_places.false;
      answer = deck-as (two.after ∙ ap later one.after) told.value (rw (found, told.count_after, told.words_after)) e;
    })
