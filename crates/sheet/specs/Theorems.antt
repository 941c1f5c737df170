-- What is shown of the answers and lists, each fact as a field. proofs/Theorems.antt shows them.
use Rattle.std.specs.Prelude.{true, false, List, ◌≡◌, ℕ, ◌≤◌, ◌<◌, length, Some, Ok, IsSome, slice_get}
use Rattle.statements.specs.Layout.{word_in, number_in}
use Rattle.statements.specs.declared.statement.Row.{Row}
use Rattle.sheet.specs.Rows.{is_of, rows_of, count_of, first_of, word_among, number_among}
use Rattle.sheet.specs.Faults.{limit_of, same_word, name_of, sheet_answer}
use Rattle.sheet.specs.declared.faults.Counts.{Counts}
use Rattle.sheet.specs.declared.rows.Group.{Group}
use Rattle.sheet.specs.declared.rows.Group.TheVariants.{Ambient, Strand, Position, Entry}

-- the rows of a file with nothing wrong, of which there are so many strands, positions and entries
pub record Sound (text : List ℕ) (rows : List Row) (counts : Counts) : Type 0 where
  pub strands : (counts.strands ≡ count_of Strand rows) × (counts.strands ≤ 61)
  pub positions : (counts.positions ≡ count_of Position rows) × (counts.positions ≤ 128)
  pub entries : (counts.entries ≡ count_of Entry rows) × (counts.entries ≤ 1024)
  pub few : (group : Group) → count_of group rows ≤ limit_of group
  pub ambient : IsSome (first_of Ambient rows)
  pub names : (i j : ℕ) (a b : Row) → j < i → slice_get rows i ≡ Some a → slice_get rows j ≡ Some b → is_of Strand a ≡ true → is_of Strand b ≡ true
      → same_word text (name_of a) (name_of b) ≡ false

-- what is shown
pub record Sheets : Type 0 where
  -- words and numbers of a list's rows are where crate `statements` has them
  pub words : (rows : List Row) (chosen : List ℕ) (k row j : ℕ) → slice_get chosen k ≡ Some row → word_among rows chosen k j ≡ word_in rows row j
  pub numbers : (rows : List Row) (chosen : List ℕ) (k row j : ℕ) → slice_get chosen k ≡ Some row → number_among rows chosen k j ≡ number_in rows row j
  -- an answer without a fault is one about sound rows
  pub sound : (text : List ℕ) (rows : List Row) (counts : Counts) → sheet_answer text rows ≡ Ok counts → Sound text rows counts
  -- a list of a group's rows has as many as there are
  pub counted : (group : Group) (rows : List Row) → length (rows_of group rows) ≡ count_of group rows
