-- The place that is shown: a line, a word of it as far as there is one, and the reason.
use Rattle.std.specs.Prelude.{cond, List, [], ◌∷◌, ℕ, ◌+◌, eqb, slice_get, Option, None, Some}
use Rattle.reply.specs.declared.Refusal.{Refusal}
use Rattle.reply.specs.declared.Refusal.TheVariants as refusal
use Rattle.reply.specs.declared.Refused.{Refused}
use Rattle.statements.specs.Layout.{row_word}
use Rattle.statements.specs.Words.{Line, up_to_end, lines_of, words_in}
use Rattle.statements.specs.declared.grammar.Kind.{Kind}
use Rattle.statements.specs.declared.grammar.Kind.TheVariants as kind
use Rattle.statements.specs.declared.statement.Row.{Row}
use Rattle.statements.specs.declared.words.Word.{Word}
use Rattle.sheet.specs.Rows.{first_of}
use Rattle.sheet.specs.Place.{place_of, row_of_strand}
use Rattle.sheet.specs.declared.place.BuildFault.{BuildFault}
use Rattle.sheet.specs.declared.place.Cause.{Cause}
use Rattle.sheet.specs.declared.place.Cause.TheVariants as cause
use Rattle.sheet.specs.declared.rows.Group.{Group}
use Rattle.sheet.specs.declared.rows.Group.TheVariants as group
use Rattle.answers.specs.declared.Found.{Found}
use Rattle.answers.specs.declared.reasons.Why.{Why}
use Rattle.answers.specs.declared.reasons.Why.TheVariants as why

-- ---- a place

-- a reason that lies nowhere in particular
abbrev pub nowhere : Why → Found
nowhere why = record { spot = record { line = None; word = None }; why = why }

-- in a line
abbrev pub at_line : ℕ → Why → Found
at_line line why = record { spot = record { line = Some line; word = None }; why = why }

-- at a word of a line; a word of no bytes is none
abbrev pub at_word : ℕ → Word → Why → Found
at_word line word why = record { spot = record { line = Some line; word = cond (eqb word.size 0) None (Some word) }; why = why }

-- word n, counted from 0, of the line with a number; the first of these lines has the number `at`
unfoldable pub word_on : List ℕ → ℕ → ℕ → ℕ → List Line → Option Word
word_on text number n at [] = None
word_on text number n at (line ∷ rest) =
    cond (eqb at number) (slice_get (words_in (up_to_end text line) line.start) n) (word_on text number n (at + 1) rest)

-- at word n of the line with a number
abbrev pub on_line : List ℕ → ℕ → ℕ → Why → Found
on_line text number n why = record { spot = record { line = Some number; word = word_on text number n 1 (lines_of text) }; why = why }

-- at word n of the line of a row, where there is one
abbrev pub on_row : List ℕ → Option Row → ℕ → Why → Found
on_row text None n why = nowhere why
on_row text (Some row) n why = on_line text row.line n why

-- at the first word that a row has, where there is one
abbrev pub in_row : Option Row → Why → Found
in_row None why = nowhere why
in_row (Some row) why = at_word row.line (row_word (Some row) 0) why

-- ---- of each refusal

-- what is too many, by the group of its rows
abbrev pub too_many : Group → Why
too_many group.Strand = why.TooManyStrands
too_many group.Position = why.TooManyPositions
too_many group.Entry = why.TooManyEnergies
too_many other = why.Refused

-- the reason of a build's fault
abbrev pub why_of : Cause → Why
why_of cause.LongName = why.LongName
why_of cause.LongSequence = why.LongSequence
why_of cause.NoSuchStrand = why.NoSuchStrand
why_of cause.NotABase = why.NotABase
why_of cause.ShortSequence = why.ShortSequence
why_of cause.UnknownName = why.UnknownName
why_of cause.TooManyGlues = why.TooManyGlues
why_of cause.PairTwice = why.PairTwice
why_of cause.EnergyRange = why.EnergyRange
why_of cause.TwoStars = why.TwoStars

-- a build's fault
abbrev pub fault_found : Option BuildFault → Found
fault_found None = nowhere why.Refused
fault_found (Some f) = at_word f.line f.word (why_of f.cause)

-- of a build that is refused so
unfoldable pub build_found : List ℕ → List Row → Refused → Found
build_found text rows refused = fault_found (place_of text rows refused)

-- of the temperature: the word after `kelvin` or `celsius`
unfoldable pub kelvin_found : List ℕ → List Row → Found
kelvin_found text rows = on_row text (first_of group.Ambient rows) 1 why.KelvinRange

-- the word of a strand's line that holds its amount: after `strand` come its name and three glues, after `quencher` and `reporter` a strand's name
abbrev pub amount_word : Kind → ℕ
amount_word kind.Strand = 5
amount_word other = 2

-- at the amount of a row, where there is one
abbrev pub on_amount : List ℕ → Option Row → Found
on_amount text None = nowhere why.ConcentrationRange
on_amount text (Some row) = on_line text row.line (amount_word row.kind) why.ConcentrationRange

-- of a strand's concentration
unfoldable pub amount_found : List ℕ → List Row → ℕ → Found
amount_found text rows strand = on_amount text (row_of_strand rows strand)

-- the word of the ambient's line that holds one of its numbers: after `ambient` come RT, the strand excess and the scaffold excess
abbrev pub ambient_word : ℕ → ℕ
ambient_word number = cond (eqb number 0) 1 (cond (eqb number 1) 2 3)

-- of a design that was built, by its refusal and its place: a number of the ambient, the potential of a strand, or `ring`
abbrev pub design_by : List ℕ → List Row → Refusal → Option ℕ → Found
design_by text rows refusal.AmbientOut (Some number) = on_row text (first_of group.Ambient rows) (ambient_word number) why.AmbientRange
design_by text rows refusal.PotentialOut (Some strand) = in_row (row_of_strand rows strand) why.PotentialRange
design_by text rows refusal.NotARing place = on_row text (first_of group.Ring rows) 0 why.RingSize
design_by text rows other place = nowhere why.Refused

-- the same
unfoldable pub design_found : List ℕ → List Row → Refused → Found
design_found text rows refused = design_by text rows refused.refusal refused.place
