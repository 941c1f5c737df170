-- `replay::says::given` meets its contract. Assumes nothing.
use Rattle.std.proofs.Common.{◌≡◌, ℕ, ◌/◌, ◌%◌, ◌<◌, List, [], length, get_or, take, drop, sym, ap, ◌∙◌, refl, arith, eqb-true, take-append-drop}
use Rattle.replay.specs.Says.{ok, figure_text, figures_text}
use Rattle.replay.proofs.Words.{as-word}
use Rattle.replay.proofs.Values.{on-then}
use Rattle.replay.proofs.Figures.{chunks-text}
use Rattle.replay.proofs.says.given.Goals as goal

pub returns : goal.returns
returns c =
    let words = c.args.words.now in
    let text = c.in_ok-text.text.now in
    let figures = c.args.figures.now in
    let cut = c.in_ok-text.ensures.cases in
    let parts = c.as_chunks.ensures in
    let many : length c.as_chunks.result.0.now ≡ length text / 17 = parts.front_len in
    let none : length text % 17 ≡ 0 = sym parts.back_len ∙ eqb-true _ _ (sym c.is_empty.ensures ∙ c.if-not-is_empty.false) in
    let s = c.as_slice.result.now in
    let same : take (length s) words ≡ s = as-word refl cut.0 in
    let two : take 2 words ≡ ok = rw c.as_slice.ensures at same in
    let rest : text ≡ drop 2 words = rw c.as_slice.ensures at cut.1 in
    on-then c.are_figures.result tt c.then_some.result c.then_some.ensures
    (λ e.
    let told = c.are_figures.ensures e in
    let each = λ (k : ℕ) (h : k < length text / 17). ap (λ (l : List (List ℕ)). get_or l k []) (sym parts.front) ∙ told.1 k (omega (arith, h, many)) in
    let figured : text ≡ figures_text figures = chunks-text 17 figure_text (length text / 17) text figures (sym told.0 ∙ many) (omega (arith, none)) each in
    let later : drop 2 words ≡ figures_text figures = sym rest ∙ figured in
    sym (take-append-drop 2 words) ∙ rw (two, later))
