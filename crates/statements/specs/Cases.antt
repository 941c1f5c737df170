-- Texts and what reading them answers, worked out by hand and computed from the definitions. Texts are written byte by byte.
use Rattle.std.specs.Prelude.{true, false, List, [], ◌∷◌, ◌≡◌, refl, ℕ, pos, negsuc, Float, Bool, Result, Ok, Err}
use Rattle.std.specs.Float.{fin}
use Rattle.statements.specs.Words.{line_of, lines_from, lines_of, word_at, scan, words_in, spelled}
use Rattle.decimals.specs.Digits.{digit_value}
use Rattle.decimals.specs.Number.{number_of, scaled_of}
use Rattle.decimals.specs.declared.NumberFault.{NumberFault}
use Rattle.decimals.specs.declared.NumberFault.TheVariants.{NotANumber}
use Rattle.lists.specs.Find.{first_index}
use Rattle.statements.specs.Amounts.{unit_of, amount_of}
use Rattle.statements.specs.declared.amounts.Amount.{Amount}
use Rattle.statements.specs.Grammar.{kind_of, sequence_kind, items_of, item_of}
use Rattle.statements.specs.Statement.{put, accepted, closed, fit, statement_from, statement_of_words, statement_of}
use Rattle.statements.specs.Rows.{statement_count, count_of, answer_by, answer_from}
use Rattle.statements.specs.declared.statement.Reason.TheVariants.{NoSuchStatement, TooFewWords, TooManyWords, NeitherDgNorSeq, NotAName}
use Rattle.statements.specs.declared.statement.Reason.{Reason}
use Rattle.statements.specs.declared.words.Word.{Word}
use Rattle.statements.specs.declared.ReadFault.{ReadFault}
use Rattle.statements.specs.declared.ReadFault.TheVariants.{Unreadable, TooManyRows}

-- ---- lines and words

-- two lines, the first with CRLF and the last without a newline
pub two-lines : lines_of (97 ∷ 13 ∷ 10 ∷ 98 ∷ []) ≡ line_of 0 2 ∷ line_of 3 4 ∷ []
unfolding lines_from
two-lines = refl

-- `a#b`, tab, `-`, space, carriage return, `#c`: two words and a comment
pub two-words : words_in (97 ∷ 35 ∷ 98 ∷ 9 ∷ 45 ∷ 32 ∷ 13 ∷ 35 ∷ 99 ∷ []) 0 ≡ word_at 0 3 ∷ word_at 4 1 ∷ []
unfolding words_in scan
two-words = refl

-- ---- answers, with room for two rows

-- what a text is read as
abbrev pub answer_to : List ℕ → Result ℕ ReadFault
answer_to text = answer_from text 2 1 0 (lines_of text)

-- the answer at a word at fault
abbrev pub unreadable : ℕ → Word → Reason → Result ℕ ReadFault
unreadable number word reason = Err (Unreadable number (record { word = word; reason = reason }))

-- no bytes
pub empty : answer_to [] ≡ Ok 0
unfolding lines_from words_in scan spelled kind_of items_of item_of sequence_kind put accepted closed fit statement_from statement_of_words statement_of statement_count count_of answer_by answer_from
empty = refl

-- `scaffold a -`: two rows
pub two-positions : answer_to (115 ∷ 99 ∷ 97 ∷ 102 ∷ 102 ∷ 111 ∷ 108 ∷ 100 ∷ 32 ∷ 97 ∷ 32 ∷ 45 ∷ []) ≡ Ok 2
unfolding lines_from words_in scan spelled kind_of items_of item_of sequence_kind put accepted closed fit statement_from statement_of_words statement_of statement_count count_of answer_by answer_from
two-positions = refl

-- `scaffold a - b`: one more than there is room for
pub three-positions : answer_to (115 ∷ 99 ∷ 97 ∷ 102 ∷ 102 ∷ 111 ∷ 108 ∷ 100 ∷ 32 ∷ 97 ∷ 32 ∷ 45 ∷ 32 ∷ 98 ∷ []) ≡ Err (TooManyRows 1)
unfolding lines_from words_in scan spelled kind_of items_of item_of sequence_kind put accepted closed fit statement_from statement_of_words statement_of statement_count count_of answer_by answer_from
three-positions = refl

-- `blocked a`, `scaffold -`: two rows
pub blocked-first : answer_to (98 ∷ 108 ∷ 111 ∷ 99 ∷ 107 ∷ 101 ∷ 100 ∷ 32 ∷ 97 ∷ 10 ∷ 115 ∷ 99 ∷ 97 ∷ 102 ∷ 102 ∷ 111 ∷ 108 ∷ 100 ∷ 32 ∷ 45 ∷ []) ≡ Ok 2
unfolding lines_from words_in scan spelled kind_of items_of item_of sequence_kind put accepted closed fit statement_from statement_of_words statement_of statement_count count_of answer_by answer_from
blocked-first = refl

-- `Kelvin` is no keyword
pub upper-case : answer_to (75 ∷ 101 ∷ 108 ∷ 118 ∷ 105 ∷ 110 ∷ 32 ∷ 49 ∷ []) ≡ unreadable 1 (word_at 0 6) NoSuchStatement
unfolding lines_from words_in scan spelled kind_of items_of item_of sequence_kind put accepted closed fit statement_from statement_of_words statement_of statement_count count_of answer_by answer_from
upper-case = refl

-- `kelvin` in line 2, after an empty line: its number is missing
pub number-missing : answer_to (10 ∷ 107 ∷ 101 ∷ 108 ∷ 118 ∷ 105 ∷ 110 ∷ []) ≡ unreadable 2 (word_at 1 6) TooFewWords
unfolding lines_from words_in scan spelled kind_of items_of item_of sequence_kind put accepted closed fit statement_from statement_of_words statement_of statement_count count_of answer_by answer_from
number-missing = refl

-- `strand -`: `-` is no name
pub no_name : answer_to (115 ∷ 116 ∷ 114 ∷ 97 ∷ 110 ∷ 100 ∷ 32 ∷ 45 ∷ []) ≡ unreadable 1 (word_at 7 1) NotAName
unfolding lines_from words_in scan spelled kind_of items_of item_of sequence_kind put accepted closed fit statement_from statement_of_words statement_of statement_count count_of answer_by answer_from
no_name = refl

-- `energy a is`: neither `dg` nor `seq`
pub neither : answer_to (101 ∷ 110 ∷ 101 ∷ 114 ∷ 103 ∷ 121 ∷ 32 ∷ 97 ∷ 32 ∷ 105 ∷ 115 ∷ []) ≡ unreadable 1 (word_at 9 2) NeitherDgNorSeq
unfolding lines_from words_in scan spelled kind_of items_of item_of sequence_kind put accepted closed fit statement_from statement_of_words statement_of statement_count count_of answer_by answer_from
neither = refl

-- `celsius`: it takes a number, too
pub celsius_missing : answer_to (99 ∷ 101 ∷ 108 ∷ 115 ∷ 105 ∷ 117 ∷ 115 ∷ []) ≡ unreadable 1 (word_at 0 7) TooFewWords
unfolding lines_from words_in scan spelled kind_of items_of item_of sequence_kind put accepted closed fit statement_from statement_of_words statement_of statement_count count_of answer_by answer_from
celsius_missing = refl

-- `ring`: one row, and `ring a`: no word comes after it
pub ring : answer_to (114 ∷ 105 ∷ 110 ∷ 103 ∷ []) ≡ Ok 1
unfolding lines_from words_in scan spelled kind_of items_of item_of sequence_kind put accepted closed fit statement_from statement_of_words statement_of statement_count count_of answer_by answer_from
ring = refl

pub ring_alone : answer_to (114 ∷ 105 ∷ 110 ∷ 103 ∷ 32 ∷ 97 ∷ []) ≡ unreadable 1 (word_at 5 1) TooManyWords
unfolding lines_from words_in scan spelled kind_of items_of item_of sequence_kind put accepted closed fit statement_from statement_of_words statement_of statement_count count_of answer_by answer_from
ring_alone = refl

-- `energy a seq Ac`: one row
pub sequence : answer_to (101 ∷ 110 ∷ 101 ∷ 114 ∷ 103 ∷ 121 ∷ 32 ∷ 97 ∷ 32 ∷ 115 ∷ 101 ∷ 113 ∷ 32 ∷ 65 ∷ 67 ∷ []) ≡ Ok 1
unfolding lines_from words_in scan spelled kind_of items_of item_of sequence_kind put accepted closed fit statement_from statement_of_words statement_of statement_count count_of answer_by answer_from
sequence = refl

-- ---- amounts

-- an amount
abbrev pub amount : Float → Bool → Result Amount NumberFault
amount number concentration = Ok (record { number = number; concentration = concentration })

-- 16 is a potential; 100nM and 1e-7M are one concentration, and uM is 10 ^ -6 with each of its signs; no blank and no other letter stands behind
pub record Amounts : Type 0 where
  pub potential : amount_of (49 ∷ 54 ∷ []) ≡ amount (fin false 1 (pos 4)) false
  pub hundred : amount_of (49 ∷ 48 ∷ 48 ∷ 110 ∷ 77 ∷ []) ≡ amount (fin false 944473296573929 (negsuc 72)) true
  pub plain : amount_of (49 ∷ 101 ∷ 45 ∷ 55 ∷ 77 ∷ []) ≡ amount (fin false 944473296573929 (negsuc 72)) true
  pub micro : amount_of (48 ∷ 46 ∷ 49 ∷ 117 ∷ 77 ∷ []) ≡ amount (fin false 944473296573929 (negsuc 72)) true
  pub micro_sign : amount_of (48 ∷ 46 ∷ 49 ∷ 194 ∷ 181 ∷ 77 ∷ []) ≡ amount (fin false 944473296573929 (negsuc 72)) true
  pub greek : amount_of (48 ∷ 46 ∷ 49 ∷ 206 ∷ 188 ∷ 77 ∷ []) ≡ amount (fin false 944473296573929 (negsuc 72)) true
  pub no_digits : amount_of (110 ∷ 77 ∷ []) ≡ Err NotANumber
  pub small_letter : amount_of (49 ∷ 110 ∷ 109 ∷ []) ≡ Err NotANumber
  pub two_units : amount_of (49 ∷ 110 ∷ 77 ∷ 77 ∷ []) ≡ Err NotANumber

-- the definitions read them so
pub amounts : Amounts
unfolding amount_of unit_of number_of scaled_of first_index digit_value
amounts =
    record {
      potential = refl;
      hundred = refl;
      plain = refl;
      micro = refl;
      micro_sign = refl;
      greek = refl;
      no_digits = refl;
      small_letter = refl;
      two_units = refl;
    }
