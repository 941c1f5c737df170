-- `replay::stored::is_deck` meets its contract: each part is a word of the deck. Assumes nothing.
use Rattle.std.proofs.Common.{◌≡◌, ℕ, ◌/◌, ◌%◌, ◌<◌, List, [], length, get_or, sym, ap, ◌∙◌, arith, eqb-true}
use Rattle.decimals.specs.Digits.{digits_in}
use Rattle.replay.proofs.Figures.{chunks-text}
use Rattle.replay.proofs.stored.is_deck.Goals as goal

pub returns : goal.returns
returns c = λ e.
    let text = c.letters.result.now in
    let parts = c.as_chunks.ensures in
    let many : length c.as_chunks.result.0.now ≡ length text / 8 = parts.front_len in
    let none : length text % 8 ≡ 0 = sym parts.back_len ∙ eqb-true _ _ (sym c.is_empty.ensures ∙ c.if-not-is_empty.false) in
    let told = c.are_words.ensures e in
    let each = λ (k : ℕ) (h : k < length text / 8). ap (λ (l : List (List ℕ)). get_or l k []) (sym parts.front) ∙ told.1 k (omega (arith, h, many)) in
    sym c.letters.ensures ∙ chunks-text 8 (digits_in 16 8) (length text / 8) text c.args.deck.now (sym told.0 ∙ many) (omega (arith, none)) each
