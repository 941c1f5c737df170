-- Document 02's rules for a valid deck with runs, one by one; nothing here speaks of forms.
use Rattle.std.specs.Prelude.{List, [], ◌∷◌, ◌++◌, ◌≡◌, ℕ, ◌+◌, ◌-◌, ◌*◌, ◌≤◌}
use Rattle.deck.specs.Word.{kind_of, payload_of}

-- kind 4: a run of one strand; the payload is the strand, and 64 for each position after the first
pub record StrandRun (word strand run : ℕ) : Type 0 where
  pub kind : kind_of word ≡ 4
  pub least : 1 ≤ strand
  pub most : strand ≤ 63
  pub some : 1 ≤ run
  pub payload : payload_of word ≡ strand + 64 * (run - 1)

-- kind 3, as in document 01's form: a run of empties
pub record EmptyRun (word run : ℕ) : Type 0 where
  pub kind : kind_of word ≡ 3
  pub some : 1 ≤ run
  pub payload : payload_of word ≡ run

-- words that are all of kind 3 or 4, with so many positions
pub data Total : List ℕ → ℕ → Type 0 where
  none : Total [] 0
  strands : {word strand run rest-total : ℕ} {rest : List ℕ} → StrandRun word strand run → Total rest rest-total → Total (word ∷ rest) (run + rest-total)
  empties : {word run rest-total : ℕ} {rest : List ℕ} → EmptyRun word run → Total rest rest-total → Total (word ∷ rest) (run + rest-total)

-- a valid deck with runs
pub record ValidRuns (words : List ℕ) : Type 0 where
  pub first : ℕ
  pub rest : List ℕ
  pub split : words ≡ first ∷ rest
  -- the first word is as in document 01's form
  pub kind : kind_of first ≡ 1
  pub most : payload_of first ≤ 128
  -- positions must add up
  pub sum : Total rest (payload_of first)
  -- a run is maximal: words of kind 4 side by side have different strands
  pub differ : (front back : List ℕ) (left right strand left_run right_run : ℕ) → rest ≡ front ++ left ∷ right ∷ back
      → StrandRun left strand left_run → StrandRun right strand right_run → ⊥
  -- a run of empties is never next to another
  pub apart : (front back : List ℕ) (left right : ℕ) → rest ≡ front ++ left ∷ right ∷ back → kind_of left ≡ 3 → kind_of right ≡ 3 → ⊥
