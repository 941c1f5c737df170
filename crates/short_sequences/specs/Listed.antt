-- What is to hold of the sequences by their ranks: each of 2 to 8 bases comes, at one rank alone, shorter first, then alphabetically.
-- proofs/Listed.antt shows it.
use Rattle.std.specs.Prelude.{◌≡◌, ◌⊎◌, ℕ, ◌<◌, ◌≤◌, length}
use mathlib.Core.List.{List, [], ◌∷◌, Memᴰ}
use Rattle.lists.specs.Each.{Each}
use Rattle.short_sequences.specs.Sequences.{letters, sequences, sequence_count, sequence_at}

-- one of a, c, g, t
abbrev pub Letter : ℕ → Type 0
Letter x = Memᴰ x letters

-- 2 to 8 bases, in lower case
pub record ShortSequence (s : List ℕ) : Type 0 where
  pub not-shorter : 2 ≤ length s
  pub not-longer : length s ≤ 8
  pub bases : Each Letter s

-- alphabetically before, of two of one length: it has the smaller letter where they first part
abbrev pub Alphabetical : List ℕ → List ℕ → Type 0
Alphabetical [] t = ⊥
Alphabetical (x ∷ s) [] = ⊥
Alphabetical (x ∷ s) (y ∷ t) = (x < y) ⊎ ((x ≡ y) × Alphabetical s t)

-- shorter first, then alphabetically
abbrev pub Earlier : List ℕ → List ℕ → Type 0
Earlier s t = (length s < length t) ⊎ ((length s ≡ length t) × Alphabetical s t)

-- a rank at which a sequence comes
pub record RankOf (s : List ℕ) : Type 0 where
  pub rank : ℕ
  pub inside : rank < sequence_count
  pub is : sequence_at rank ≡ s

-- all by their ranks
pub record AllListed : Type 0 where
  pub size : length sequences ≡ sequence_count
  -- at each rank there is one of 2 to 8 bases
  pub only : (rank : ℕ) → rank < sequence_count → ShortSequence (sequence_at rank)
  -- each of these comes
  pub all : (s : List ℕ) → ShortSequence s → RankOf s
  -- at one rank alone
  pub once : (i j : ℕ) → i < sequence_count → j < sequence_count → sequence_at i ≡ sequence_at j → i ≡ j
  -- and in order
  pub order : (i j : ℕ) → i < j → j < sequence_count → Earlier (sequence_at i) (sequence_at j)
