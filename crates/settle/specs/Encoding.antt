-- Texts that are not written as a design file is. Each of them can't be read; what it is goes before the first word at fault.
use Rattle.std.specs.Prelude.{Bool, cond, not, ◌&&◌, ◌||◌, List, [], ◌∷◌, ℕ, eqb, take, Option, None, Some}
use Rattle.std.specs.List.{list_any}
use Rattle.statements.specs.Words.{spells}
use Rattle.answers.specs.declared.Found.{Found}
use Rattle.answers.specs.declared.reasons.FileFault.{FileFault}
use Rattle.answers.specs.declared.reasons.FileFault.TheVariants.{ByteOrderMark, Utf16, ReturnsAlone}
use Rattle.answers.specs.declared.reasons.Why.TheVariants.{File}
use Rattle.settle.specs.Places.{nowhere}
use Rattle.settle.specs.Told.{Told, unreadable, refused, settled}

-- a byte stands in the text
abbrev pub holds : ℕ → List ℕ → Bool
holds byte text = list_any (λ other. eqb other byte) text

-- carriage returns stand in the text, and no line feed
abbrev pub returns_alone : List ℕ → Bool
returns_alone text = holds 13 text && not (holds 10 text)

-- the byte order mark of UTF-8 stands at the front
abbrev pub has_mark : List ℕ → Bool
has_mark text = spells (take 3 text) (239 ∷ 187 ∷ 191 ∷ [])

-- UTF-16 has a mark at the front, in one order or the other, or a 0 among its first two bytes
abbrev pub is_utf16 : List ℕ → Bool
is_utf16 text = holds 0 (take 2 text) || (spells (take 2 text) (255 ∷ 254 ∷ []) || spells (take 2 text) (254 ∷ 255 ∷ []))

-- what the text is
unfoldable pub encoding_fault : List ℕ → Option FileFault
encoding_fault text = cond (has_mark text) (Some ByteOrderMark) (cond (is_utf16 text) (Some Utf16) (cond (returns_alone text) (Some ReturnsAlone) None))

-- what it is, or else what was found
abbrev pub explained_by : Option FileFault → Found → Told
explained_by None found = unreadable found
explained_by (Some fault) found = unreadable (nowhere (File fault))

-- of a text that can't be read what it is, where it is no plain text
unfoldable pub explained : List ℕ → Told → Told
explained text (unreadable found) = explained_by (encoding_fault text) found
explained text (refused number found) = refused number found
explained text (settled design) = settled design
