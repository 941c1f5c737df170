-- `replay::built::says_built` meets its contract. Assumes nothing.
use Rattle.std.proofs.Common.{sym, ap, ◌∙◌, inl, inr}
use Rattle.replay.specs.Kinds.{letters, word, later}
use Rattle.replay.proofs.Words.{as-word-ne}
use Rattle.replay.proofs.Values.{on-some, on-then}
use Rattle.replay.proofs.built.says_built.Goals as goal

pub returns-then-number-ne0 : goal.returns-then-number-ne0
returns-then-number-ne0 c = on-some c.refused.result c.refused.ensures (λ e. inl e)

pub returns : goal.returns
returns c =
    let one = c.split_at_first.ensures in
    let two = c.split_at_first-2.ensures in
    let three = c.split_at_first-3.ensures in
    let four = c.split_at_first-4.ensures in
    let after-two = two.after ∙ ap later one.after in
    let after-three = three.after ∙ ap later after-two in
    on-then c.is_hex-2.result tt c.then_some.result c.then_some.ensures
    (λ e.
    inr
    (record {
      answered = c.if-number-ne0.false;
      first = sym one.before ∙ as-word-ne c.ne.ensures c.if-ne.false ∙ c.as_slice.ensures;
      strand_glues = ap letters (sym (two.before ∙ ap word one.after)) ∙ c.is_places.ensures c.if-not-is_places.false;
      scaffold_glues = ap letters (sym (three.before ∙ ap word after-two)) ∙ c.is_places-2.ensures c.if-not-is_places-2.false;
      dg = rw c.bits.ensures at (sym (four.before ∙ ap word after-three) ∙ c.is_hex.ensures c.if-not-is_hex.false);
      ds = rw c.bits-2.ensures at (sym (four.after ∙ ap later after-three) ∙ c.is_hex-2.ensures e);
    }))
