-- Who sits at a position of a settled design, and the names under which strands and glues are shown.
use Rattle.std.specs.Prelude.{cond, if◌then◌else◌, nat_lt, List, [], ◌∷◌, ℕ, ◌+◌, ◌-◌, eqb, leb, length, take, drop, get_or}
use lib.Chars.{codes}
use Rattle.statements.specs.Words.{word_at}
use Rattle.statements.specs.declared.words.Word.{Word}
use Rattle.answers.specs.declared.SettledDesign.{SettledDesign}
use Rattle.answers.specs.declared.draw.Line.{Line}
use Rattle.answers.specs.declared.draw.Line.TheVariants.{Strands, Scaffold}
use Rattle.answers.specs.declared.names.Occupant.{Occupant}
use Rattle.answers.specs.declared.names.Occupant.TheVariants.{Nobody, Strand, Quencher, Reporter, Blocked}

-- who a number in a configuration stands for: nobody, the user strands, the quencher, the reporter
abbrev pub occupant_of : ℕ → ℕ → Occupant
occupant_of users number =
    cond (eqb number 0) Nobody (cond (leb number users) (Strand (number - 1)) (cond (eqb (number - 1) users) Quencher Reporter))

-- who sits at a position, where nobody can if it is blocked
abbrev pub occupant_at : List ℕ → List ℕ → ℕ → ℕ → Occupant
occupant_at marks configuration users i = cond (eqb (get_or marks i 0) 1) Blocked (occupant_of users (get_or configuration i 0))

-- a word's bytes; nothing where it would leave the text
abbrev pub part : List ℕ → Word → List ℕ
part text word = if nat_lt (length text) (word.start + word.size) then [] else take word.size (drop word.start text)

-- the bytes of word i of a list; nothing past its end
abbrev pub word_of : List ℕ → List Word → ℕ → List ℕ
word_of text words i = part text (get_or words i (word_at 0 0))

-- the name of who sits at a position
abbrev pub name_of : List ℕ → List Word → Occupant → List ℕ
name_of text names Nobody = codes "-"
name_of text names (Strand i) = word_of text names i
name_of text names Quencher = codes "quencher"
name_of text names Reporter = codes "reporter"
name_of text names Blocked = codes "blocked"

-- a glue, or - where there is none
abbrev pub or_dash : List ℕ → List ℕ
or_dash [] = codes "-"
or_dash (byte ∷ rest) = byte ∷ rest

-- what a line of the drawing shows of a position: the name of who sits there, or its glue
abbrev pub shown : Line → SettledDesign → ℕ → List ℕ
shown Strands d i = name_of d.text.now d.strand_names.now (occupant_at d.marks.now d.configuration.now (length d.strand_names.now) i)
shown Scaffold d i = or_dash (word_of d.text.now d.glues.now i)
