-- The text of a list: parts of it between marks, and numbers as it writes them.
use Rattle.std.specs.Prelude.{◌≡◌, ℕ, ◌+◌, List, [], ◌∷◌, ◌++◌, take, drop, nat_eq}
use Rattle.decimals.specs.Digits.{digits_in}
use Rattle.replay.specs.Digits.{IsDigitCount}
use Rattle.lists.specs.Find.{first_index}

-- what comes before the first mark, and all of a text that has none
abbrev pub up_to : ℕ → List ℕ → List ℕ
up_to mark text = take (first_index (nat_eq mark) text) text

-- what comes after the first mark, and nothing where there is none
abbrev pub past : ℕ → List ℕ → List ℕ
past mark text = drop (first_index (nat_eq mark) text + 1) text

-- 64 bits as 16 hex digits
abbrev pub hex_text : ℕ → List ℕ
hex_text bits = digits_in 16 16 bits

-- the texts of numbers, one after the other
unfoldable pub texts : (ℕ → List ℕ) → List ℕ → List ℕ
texts text [] = []
texts text (number ∷ numbers) = text number ++ texts text numbers

-- a number in the fewest decimal digits
pub record Decimal (word : List ℕ) (number : ℕ) : Type 0 where
  pub places : ℕ
  pub fewest : IsDigitCount 10 1 number places
  pub written : word ≡ digits_in 10 places number
