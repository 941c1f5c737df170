-- What a walk through a deck's words finds.
use Rattle.std.specs.Prelude.{cond, List, [], ◌∷◌, ℕ, Option, None, Some}
use Rattle.reply.specs.Number.{Reply}
use Rattle.reply.specs.First.{◌if◌at◌, first_of}
use Rattle.reply.specs.declared.Refusal.TheVariants.{BadDeck}
use Rattle.deck.specs.Form.{Form}
use Rattle.deck.specs.Deck.{is_deck, misfit_of}
use Rattle.deck.specs.Reading.{bad_deck}

-- where the fault is, and nowhere in a valid deck
unfoldable pub fault_of : Form → List ℕ → Option ℕ
fault_of form words = cond (is_deck form words) None (Some (misfit_of form words))

-- the reply to the words alone: a fault refuses at its place
abbrev pub fault_reply : Form → List ℕ → Reply
fault_reply form words = first_of (BadDeck if bad_deck form words at misfit_of form words ∷ [])
