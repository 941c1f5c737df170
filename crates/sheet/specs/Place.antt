-- Where the fault of a build that is refused lies in the file, and what is wrong there: the line of a row, and a word in it.
use Rattle.std.specs.Prelude.{Bool, cond, List, [], ◌∷◌, ℕ, ◌-◌, eqb, ltb, take, drop, find, Option, None, Some}
use Rattle.std.specs.Option.{option_map, option_and_then, option_or}
use Rattle.reply.specs.declared.Refusal.{Refusal}
use Rattle.reply.specs.declared.Refusal.TheVariants as refusal
use Rattle.reply.specs.declared.Refused.{Refused}
use Rattle.utils.specs.Single.{too_long}
use Rattle.sdc_common.specs.Names.{is_retired}
use Rattle.sdc_common.specs.Lent.{unfit_name}
use Rattle.statements.specs.Layout.{row_word}
use Rattle.statements.specs.Words.{spelled}
use Rattle.statements.specs.declared.grammar.Kind.{Kind}
use Rattle.statements.specs.declared.grammar.Kind.TheVariants as kind
use Rattle.statements.specs.declared.statement.Row.{Row}
use Rattle.statements.specs.declared.words.Word.{Word}
use Rattle.sheet.specs.Rows.{rows_of, count_of, first_of, row_among}
use Rattle.sheet.specs.Once.{copied_of}
use Rattle.sheet.specs.declared.place.BuildFault.{BuildFault}
use Rattle.sheet.specs.declared.place.Cause.{Cause}
use Rattle.sheet.specs.declared.place.Cause.TheVariants as cause
use Rattle.sheet.specs.declared.rows.Group.{Group}
use Rattle.sheet.specs.declared.rows.Group.TheVariants.{Strand, Quencher, Reporter, Position, Entry}

-- ---- words of a row

-- the names of glues in the row of a strand or an entry
abbrev pub own_names : Kind → List Word → List Word
own_names kind.Strand words = take 3 (drop 1 words)
own_names kind.EnergyGiven words = take 1 words
own_names kind.EnergySequence words = take 1 words
own_names kind.PairGiven words = take 2 words
own_names kind.PairSequence words = take 2 words
own_names other words = []

-- the names of glues in any row
abbrev pub all_names : Kind → List Word → List Word
all_names kind.Position words = take 1 words
all_names kind.Blocked words = take 1 words
all_names other words = own_names other words

-- the sequence of an entry that has one
abbrev pub sequence_by : Kind → Row → Option Word
sequence_by kind.EnergySequence row = Some (row_word (Some row) 1)
sequence_by kind.PairSequence row = Some (row_word (Some row) 2)
sequence_by other row = None

-- ---- a word at fault

-- a name is too long by itself
abbrev pub is_long : List ℕ → Word → Bool
is_long text name = unfit_name text name.start name.size

-- a name ends in two or more stars
abbrev pub has_stars : List ℕ → Word → Bool
has_stars text name = is_retired (spelled text name)

-- the first name that is too long
unfoldable pub long_name : List ℕ → Row → Option Word
long_name text row = find (is_long text) (all_names row.kind row.words)

-- the first name of a strand or an entry that ends in two or more stars; names of the scaffold follow the old rule
unfoldable pub starred_name : List ℕ → Row → Option Word
starred_name text row = find (has_stars text) (own_names row.kind row.words)

-- a sequence that is too long
abbrev pub long_by : List ℕ → Option Word → Option Word
long_by text None = None
long_by text (Some bases) = cond (too_long (spelled text bases)) (Some bases) None

-- the sequence of a row, if it is too long
unfoldable pub long_sequence : List ℕ → Row → Option Word
long_sequence text row = long_by text (sequence_by row.kind row)

-- the name of a strand that is not there: it stands for strand 0
abbrev pub lost_name : Option ℕ → Row → Option Word
lost_name None row = None
lost_name (Some strand) row = cond (eqb strand 0) (Some (row_word (Some row) 0)) None

-- the name of a strand that is not there, in the row of the quencher or the reporter
abbrev pub lost_by : Kind → List ℕ → List Row → Row → Option Word
lost_by kind.Quencher text rows row = lost_name (copied_of Quencher text rows (rows_of Strand rows)) row
lost_by kind.Reporter text rows row = lost_name (copied_of Reporter text rows (rows_of Strand rows)) row
lost_by other text rows row = None

-- ---- a row at fault

-- a word of a row, and what is wrong with it
abbrev pub at_word : Row → Cause → Word → BuildFault
at_word row cause word = record { line = row.line; word = word; cause = cause }

-- what is too large in a row, or not there
unfoldable pub size_fault : List ℕ → List Row → Row → Option BuildFault
size_fault text rows row =
    option_or (option_map (at_word row cause.LongName) (long_name text row))
    (option_or (option_map (at_word row cause.LongSequence) (long_sequence text row))
    (option_map (at_word row cause.NoSuchStrand) (lost_by row.kind text rows row)))

-- the fault of a row by itself, of a refusal that says no place: 1 and 21
unfoldable pub row_fault : List ℕ → List Row → Refusal → Row → Option BuildFault
row_fault text rows refusal.WrongSize row = size_fault text rows row
row_fault text rows refusal.TwoStars row = option_map (at_word row cause.TwoStars) (starred_name text row)
row_fault text rows other row = None

-- the first row at fault
unfoldable pub first_fault : (Row → Option BuildFault) → List Row → Option BuildFault
first_fault rule [] = None
first_fault rule (row ∷ rest) = option_or (rule row) (first_fault rule rest)

-- ---- a row at fault by its number, which the build's refusal says

-- the row of a group with a number, from 0
abbrev pub member : List Row → Group → Option ℕ → Option Row
member rows group number = option_and_then (row_among rows (rows_of group rows)) number

-- at the first word of a row
abbrev pub at_first_word : Cause → Row → BuildFault
at_first_word cause row = at_word row cause (row_word (Some row) 0)

-- a row at fault there
unfoldable pub at_name : Cause → Option Row → Option BuildFault
at_name cause row = option_map (at_first_word cause) row

-- a row at fault at its sequence
unfoldable pub at_sequence : Cause → Option Row → Option BuildFault
at_sequence cause None = None
at_sequence cause (Some row) = option_map (at_word row cause) (sequence_by row.kind row)

-- ---- of any refusal

-- by its number and the place that it says
abbrev pub place_by : List ℕ → List Row → Refusal → Option ℕ → Option BuildFault
place_by text rows refusal.NotABase place = at_sequence cause.NotABase (member rows Entry place)
place_by text rows refusal.TooShort place = at_sequence cause.ShortSequence (member rows Entry place)
place_by text rows refusal.UnknownName place = at_name cause.UnknownName (member rows Position place)
place_by text rows refusal.TooManyGlues place = at_name cause.TooManyGlues (member rows Strand place)
place_by text rows refusal.DuplicatePair place = at_name cause.PairTwice (member rows Entry place)
place_by text rows refusal.OutOfRange place = at_name cause.EnergyRange (member rows Entry place)
place_by text rows other place = first_fault (row_fault text rows other) rows

-- where a build that is refused so is at fault
unfoldable pub place_of : List ℕ → List Row → Refused → Option BuildFault
place_of text rows refused = place_by text rows refused.refusal refused.place

-- ---- the row of a strand

-- by its number: strand 0 has none; then come the user strands, the quencher and the reporter
unfoldable pub row_of_strand : List Row → ℕ → Option Row
row_of_strand rows strand =
    cond (eqb strand 0) None
    (cond (ltb (strand - 1) (count_of Strand rows)) (row_among rows (rows_of Strand rows) (strand - 1))
    (cond (eqb (strand - 1) (count_of Strand rows)) (first_of Quencher rows)
    (first_of Reporter rows)))
