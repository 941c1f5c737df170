-- Document 01's rules for a valid deck, one by one and in its words; nothing here speaks of forms.
use Rattle.std.specs.Prelude.{cond, List, [], ◌∷◌, ◌++◌, ◌≡◌, ℕ, ◌+◌, ◌≤◌, eqb}
use Rattle.deck.specs.Word.{kind_of, payload_of}

-- "Kind 2: one strand, 1 to 63. Kind 3: a run of empties, payload 1 or more"
pub data StrandOrEmpties (word : ℕ) : Type 0 where
  strand : kind_of word ≡ 2 → 1 ≤ payload_of word → payload_of word ≤ 63 → StrandOrEmpties word
  empties : kind_of word ≡ 3 → 1 ≤ payload_of word → StrandOrEmpties word

-- how many positions such a word stands for
abbrev pub positions_of : ℕ → ℕ
positions_of word = cond (eqb (kind_of word) 3) (payload_of word) 1

-- the positions of all of them
unfoldable pub total : List ℕ → ℕ
total [] = 0
total (word ∷ rest) = positions_of word + total rest

-- a valid deck
pub record ValidDeck (words : List ℕ) : Type 0 where
  pub first : ℕ
  pub rest : List ℕ
  pub split : words ≡ first ∷ rest
  -- "Kind 1: first word only, number of positions, 0 to 128."
  pub kind : kind_of first ≡ 1
  pub most : payload_of first ≤ 128
  pub each : (front back : List ℕ) (word : ℕ) → rest ≡ front ++ word ∷ back → StrandOrEmpties word
  -- a run of empties is "never next to another"
  pub apart : (front back : List ℕ) (left right : ℕ) → rest ≡ front ++ left ∷ right ∷ back → kind_of left ≡ 3 → kind_of right ≡ 3 → ⊥
  -- "Positions must add up."
  pub sum : total rest ≡ payload_of first
