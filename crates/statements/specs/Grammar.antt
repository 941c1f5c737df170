-- The grammar: a line is one statement, whose first word says which. Keywords are in lower case.
--
--     kelvin NUMBER
--     celsius NUMBER
--     ambient NUMBER NUMBER NUMBER
--     strand NAME GLUE GLUE GLUE AMOUNT
--     quencher GLUE AMOUNT                    GLUE is here a strand's name
--     reporter GLUE AMOUNT
--     scaffold GLUE ..                        any number of them
--     blocked GLUE ..                         the same
--     energy NAME dg NUMBER ds NUMBER         or: energy NAME seq BASES
--     pair NAME NAME dg NUMBER ds NUMBER      or: pair NAME NAME seq BASES
--     penalty NUMBER NUMBER
--     ring
--
-- A GLUE may be `-`, which stands for none; a NAME may not. An AMOUNT is a potential, which is a NUMBER, or a concentration (Amounts.antt).
use Rattle.std.specs.Prelude.{Bool, true, false, List, [], ◌∷◌, ℕ, ◌<◌, Option, slice_get}
use Rattle.std.specs.List.{find}
use Rattle.std.specs.Option.{option_map}
use Rattle.statements.specs.Words.{spells}
use Rattle.statements.specs.declared.grammar.Kind.{Kind}
use Rattle.statements.specs.declared.grammar.Kind.TheVariants.{Kelvin, Ambient, Strand, Quencher, Reporter, Position, EnergyGiven, EnergySequence, PairGiven, PairSequence, Penalty, Blocked, Celsius, Ring}
use Rattle.statements.specs.declared.grammar.Item.{Item}
use Rattle.statements.specs.declared.grammar.Item.TheVariants.{Number, Amount, Name, Glue, Bases, DgOrSeq, Ds}

-- the kind is a position's, open or blocked
abbrev pub is_position : Kind → Bool
is_position Position = true
is_position Blocked = true
is_position kind = false

-- ---- the words with a meaning, byte by byte

-- k e l v i n
abbrev pub kelvin_bytes : List ℕ
kelvin_bytes = 107 ∷ 101 ∷ 108 ∷ 118 ∷ 105 ∷ 110 ∷ []

-- a m b i e n t
abbrev pub ambient_bytes : List ℕ
ambient_bytes = 97 ∷ 109 ∷ 98 ∷ 105 ∷ 101 ∷ 110 ∷ 116 ∷ []

-- s t r a n d
abbrev pub strand_bytes : List ℕ
strand_bytes = 115 ∷ 116 ∷ 114 ∷ 97 ∷ 110 ∷ 100 ∷ []

-- q u e n c h e r
abbrev pub quencher_bytes : List ℕ
quencher_bytes = 113 ∷ 117 ∷ 101 ∷ 110 ∷ 99 ∷ 104 ∷ 101 ∷ 114 ∷ []

-- r e p o r t e r
abbrev pub reporter_bytes : List ℕ
reporter_bytes = 114 ∷ 101 ∷ 112 ∷ 111 ∷ 114 ∷ 116 ∷ 101 ∷ 114 ∷ []

-- s c a f f o l d
abbrev pub scaffold_bytes : List ℕ
scaffold_bytes = 115 ∷ 99 ∷ 97 ∷ 102 ∷ 102 ∷ 111 ∷ 108 ∷ 100 ∷ []

-- e n e r g y
abbrev pub energy_bytes : List ℕ
energy_bytes = 101 ∷ 110 ∷ 101 ∷ 114 ∷ 103 ∷ 121 ∷ []

-- p a i r
abbrev pub pair_bytes : List ℕ
pair_bytes = 112 ∷ 97 ∷ 105 ∷ 114 ∷ []

-- p e n a l t y
abbrev pub penalty_bytes : List ℕ
penalty_bytes = 112 ∷ 101 ∷ 110 ∷ 97 ∷ 108 ∷ 116 ∷ 121 ∷ []

-- b l o c k e d
abbrev pub blocked_bytes : List ℕ
blocked_bytes = 98 ∷ 108 ∷ 111 ∷ 99 ∷ 107 ∷ 101 ∷ 100 ∷ []

-- c e l s i u s
abbrev pub celsius_bytes : List ℕ
celsius_bytes = 99 ∷ 101 ∷ 108 ∷ 115 ∷ 105 ∷ 117 ∷ 115 ∷ []

-- r i n g
abbrev pub ring_bytes : List ℕ
ring_bytes = 114 ∷ 105 ∷ 110 ∷ 103 ∷ []

-- d g
abbrev pub dg_bytes : List ℕ
dg_bytes = 100 ∷ 103 ∷ []

-- d s
abbrev pub ds_bytes : List ℕ
ds_bytes = 100 ∷ 115 ∷ []

-- s e q
abbrev pub seq_bytes : List ℕ
seq_bytes = 115 ∷ 101 ∷ 113 ∷ []

-- -
abbrev pub dash_bytes : List ℕ
dash_bytes = 45 ∷ []

-- ---- the first word

-- the words that begin a statement, each with its kind. `energy` and `pair` are of the kind with numbers, until `seq` is met.
abbrev pub keywords : List (List ℕ × Kind)
keywords =
    (kelvin_bytes, Kelvin)
    ∷ (ambient_bytes, Ambient)
    ∷ (strand_bytes, Strand)
    ∷ (quencher_bytes, Quencher)
    ∷ (reporter_bytes, Reporter)
    ∷ (scaffold_bytes, Position)
    ∷ (energy_bytes, EnergyGiven)
    ∷ (pair_bytes, PairGiven)
    ∷ (penalty_bytes, Penalty)
    ∷ (blocked_bytes, Blocked)
    ∷ (celsius_bytes, Celsius)
    ∷ (ring_bytes, Ring)
    ∷ []

-- the kind of a statement with this first word
unfoldable pub kind_of : List ℕ → Option Kind
kind_of word = option_map (λ (entry : List ℕ × Kind). entry.1) (find (λ (entry : List ℕ × Kind). spells word entry.0) keywords)

-- ---- the words after it

-- What each word has to be, with the slot of the row that it fills: a row has the word slots 0 to 3 and the number slots 0 to 2, of which an amount
-- fills the first. `dg` or `seq`
-- decides between the two kinds of `energy` and of `pair`, which are alike up to there.
unfoldable pub items_of : Kind → List Item
items_of Kelvin = Number 0 ∷ []
items_of Ambient = Number 0 ∷ Number 1 ∷ Number 2 ∷ []
items_of Strand = Name 0 ∷ Glue 1 ∷ Glue 2 ∷ Glue 3 ∷ Amount ∷ []
items_of Quencher = Glue 0 ∷ Amount ∷ []
items_of Reporter = Glue 0 ∷ Amount ∷ []
items_of Position = Glue 0 ∷ []
items_of EnergyGiven = Name 0 ∷ DgOrSeq ∷ Number 0 ∷ Ds ∷ Number 1 ∷ []
items_of EnergySequence = Name 0 ∷ DgOrSeq ∷ Bases 1 ∷ []
items_of PairGiven = Name 0 ∷ Name 1 ∷ DgOrSeq ∷ Number 0 ∷ Ds ∷ Number 1 ∷ []
items_of PairSequence = Name 0 ∷ Name 1 ∷ DgOrSeq ∷ Bases 2 ∷ []
items_of Penalty = Number 0 ∷ Number 1 ∷ []
items_of Blocked = Glue 0 ∷ []
items_of Celsius = Number 0 ∷ []
items_of Ring = []

-- what the word at a place after the keyword has to be; after the last item there is none
unfoldable pub item_of : Kind → ℕ → Option Item
item_of kind place = slice_get (items_of kind) place

-- the kind with a sequence for its numbers
unfoldable pub sequence_kind : Kind → Kind
sequence_kind EnergyGiven = EnergySequence
sequence_kind PairGiven = PairSequence
sequence_kind kind = kind

-- the slot is one of a row's
abbrev pub InRow : Item → Type 0
InRow (Number slot) = slot < 3
InRow Amount = Unit
InRow (Name slot) = slot < 4
InRow (Glue slot) = slot < 4
InRow (Bases slot) = slot < 4
InRow DgOrSeq = Unit
InRow Ds = Unit
