-- The form that a caller names.
use Rattle.deck.specs.Form.{Form, singles, runs}
use Rattle.deck.specs.declared.DeckForm.{DeckForm}
use Rattle.deck.specs.declared.DeckForm.TheVariants.{Singles, Runs}

-- its rules
abbrev pub form_of : DeckForm → Form
form_of Singles = singles
form_of Runs = runs

-- the form that a deck is moved to
abbrev pub other_form : DeckForm → DeckForm
other_form Singles = Runs
other_form Runs = Singles
