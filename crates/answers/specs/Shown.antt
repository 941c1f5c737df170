-- How bytes of a file, or of its name, are shown: text as it is, anything else byte by byte.
use Rattle.std.specs.Prelude.{◌≡◌, Bool, false, cond, not, ◌&&◌, ◌||◌, List, [], ◌∷◌, ◌++◌, ℕ, ◌<◌, eqb, ltb, leb, length, get_or, take, drop}
use Rattle.std.specs.List.{IsChunkByPrefix}
use Rattle.std.specs.Str.{is_utf8}
use lib.Chars.{codes}
use Rattle.answers.specs.Text.{hex_text, pieces}
use Rattle.answers.specs.declared.print.Style.{Style}
use Rattle.answers.specs.declared.print.Style.TheVariants.{People, Json, Tsv}

-- ---- what a text is

-- a byte that goes on with a character of UTF-8
abbrev pub is_continuation : ℕ → Bool
is_continuation byte = leb 128 byte && ltb byte 192

-- a byte with which a control character ends, by the byte before it: below 32, 127, and the characters 128 to 159, which begin with byte 194
abbrev pub is_control : ℕ → ℕ → Bool
is_control before byte = ltb byte 32 || (eqb byte 127 || (eqb before 194 && ltb byte 160))

-- some character is a control character; a byte stood before
unfoldable pub has_control : ℕ → List ℕ → Bool
has_control before [] = false
has_control before (byte ∷ rest) = is_control before byte || has_control byte rest

-- well-formed UTF-8 with no control character
abbrev pub is_text : List ℕ → Bool
is_text bytes = is_utf8 bytes && not (has_control 0 bytes)

-- ---- one byte

-- a printable byte of ASCII
abbrev pub is_printable : ℕ → Bool
is_printable byte = leb 32 byte && ltb byte 127

-- a byte that JSON escapes: a quote or a backslash
abbrev pub is_quote : ℕ → Bool
is_quote byte = eqb byte 34 || eqb byte 92

-- A byte of a text stands for itself, and so does a printable one where the bytes are no text; any other is told by its two hexadecimal digits.
unfoldable pub byte_text : Style → Bool → ℕ → List ℕ
byte_text People as_text byte = cond (as_text || is_printable byte) (byte ∷ []) (codes "\\x" ++ hex_text 2 byte)
byte_text Tsv as_text byte = cond (as_text || is_printable byte) (byte ∷ []) (codes "\\x" ++ hex_text 2 byte)
byte_text Json as_text byte =
    cond (is_quote byte) (92 ∷ byte ∷ []) (cond (as_text || is_printable byte) (byte ∷ []) (codes "\\u00" ++ hex_text 2 byte))

-- the same, whatever the byte's place
abbrev pub byte_piece : Style → Bool → ℕ → ℕ → List ℕ
byte_piece style as_text i byte = byte_text style as_text byte

-- a byte that stands for itself
abbrev pub is_itself : Style → Bool → ℕ → Bool
is_itself People as_text byte = as_text || is_printable byte
is_itself Tsv as_text byte = as_text || is_printable byte
is_itself Json as_text byte = not (is_quote byte) && (as_text || is_printable byte)

-- bytes begin with a run: a byte, and all behind it that stand for themselves
abbrev pub IsFirstRun : Style → Bool → List ℕ → List ℕ → Type 0
IsFirstRun style as_text bytes run =
    (0 < length run) × (bytes ≡ run ++ drop (length run) bytes) × IsChunkByPrefix (λ before byte. is_itself style as_text byte) bytes (length run)

-- the text of a run
abbrev pub run_text : Style → Bool → List ℕ → List ℕ
run_text style as_text [] = []
run_text style as_text (byte ∷ plain) = byte_text style as_text byte ++ plain

-- ---- names and words

-- bytes of a file, or of its name
unfoldable pub shown_bytes : Style → List ℕ → List ℕ
shown_bytes style bytes = pieces (byte_piece style (is_text bytes)) 0 bytes

-- a text of JSON, between its quotes
unfoldable pub json_text : List ℕ → List ℕ
json_text bytes = 34 ∷ (shown_bytes Json bytes ++ (34 ∷ []))

-- a character goes on at a place
abbrev pub is_inside : List ℕ → ℕ → Bool
is_inside bytes place = is_continuation (get_or bytes place 0)

-- how much is shown of a word of more than 64 bytes: 64, or fewer where a character would be cut
abbrev pub cut : List ℕ → ℕ
cut bytes = cond (not (is_inside bytes 64)) 64 (cond (not (is_inside bytes 63)) 63 (cond (not (is_inside bytes 62)) 62 61))

-- a word at fault, its beginning where it is long
unfoldable pub word_text : Style → List ℕ → List ℕ
word_text style word = cond (leb (length word) 64) (shown_bytes style word) (shown_bytes style (take (cut word) word) ++ codes "...")
