-- What a line that sets one number of a design or of a parameter set does, its kind's own word left out.
use Rattle.std.specs.Prelude.{◌≡◌, ℕ, List, from_bits, slice_set, Float}
use Rattle.std.specs.Float.{binary64}
use Rattle.replay.specs.Text.{hex_text, Decimal}
use Rattle.replay.specs.Kinds.{word, later}

-- the entry that a word names is set to a value
pub record EntrySet {A : Type 0} (name : List ℕ) (value : A) (before after : List A) : Type 0 where
  pub index : ℕ
  pub first : Decimal name index
  pub entries : after ≡ slice_set before index value

-- INDEX BYTE, INDEX NUMBER
pub record NumberSet (words : List ℕ) (before after : List ℕ) : Type 0 where
  pub value : ℕ
  pub second : Decimal (later words) value
  pub set : EntrySet (word words) value before after

-- INDEX DOUBLE
pub record DoubleSet (words : List ℕ) (before after : List Float) : Type 0 where
  pub bits : ℕ
  pub second : later words ≡ hex_text bits
  pub set : EntrySet (word words) (from_bits binary64 bits) before after
