-- `deck::writing::pack` meets its contract: the first word, and after it those of the stretches. Assumes nothing.
use mathlib.Core.Path.{subst}
use Rattle.std.proofs.Common.{◌≡◌, ◌∙◌, ◌+◌, ℕ, List, sym, length, arith}
use Rattle.std.specs.Prelude.{map}
use lib.ListN.{set, length-map}
use lib.Seq.{sets}
use Rattle.deck.specs.Word.{word_of}
use Rattle.deck.specs.Forms.{form_of}
use Rattle.deck.specs.Deck.{deck_of, stretches_of}
use Rattle.deck.specs.declared.DeckForm.{DeckForm}
use Rattle.deck.specs.declared.DeckForm.TheVariants.{Singles, Runs}
use Rattle.deck.proofs.writing.pack.Goals as goal

module _ (configuration words new : List ℕ) (n : ℕ) where
  abbrev Packed : DeckForm → Type 0
  Packed form = (n ≡ length (deck_of (form_of form) configuration)) × (new ≡ sets words 0 (deck_of (form_of form) configuration))

  packed : (form : DeckForm) (first : ℕ) → first ≡ word_of 1 (length configuration) → n ≡ 1 + length (stretches_of (form_of form) configuration)
      → new ≡ sets (set words 0 first) 1 (map (form_of form).word_for (stretches_of (form_of form) configuration)) → Packed form
  unfolding deck_of
  packed form first e count laid =
      let long = length-map (stretches_of (form_of form) configuration) (form_of form).word_for in
      (omega (arith, count, long), laid ∙ rw e)

pub returns-in-Singles : goal.returns-in-Singles
returns-in-Singles c =
    let a = c.args in
    let w = c.lay in
    subst (Packed a.configuration.now a.words.now w.new.words w.result) (sym c.in-Singles.is)
    (packed a.configuration.now a.words.now w.new.words w.result Singles c.bits.result c.bits.ensures w.ensures.0 w.ensures.1)

pub returns-in-Runs : goal.returns-in-Runs
returns-in-Runs c =
    let a = c.args in
    let w = c.lay-in-Runs in
    subst (Packed a.configuration.now a.words.now w.new.words w.result) (sym c.in-Runs.is)
    (packed a.configuration.now a.words.now w.new.words w.result Runs c.bits.result c.bits.ensures w.ensures.0 w.ensures.1)
