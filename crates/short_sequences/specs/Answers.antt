-- What the call answers at a rank, and what the lent bytes then hold.
use Rattle.std.specs.Prelude.{Bool, not, List, [], ◌∷◌, ℕ, eqb, leb, length, None, Result, Ok, Err}
use Rattle.lists.specs.Front.{over}
use Rattle.reply.specs.First.{Check, ◌if◌, first_of}
use Rattle.reply.specs.Figures.{Figures, given, refused_with, figures_of, entries_of}
use Rattle.reply.specs.declared.Refusal.{Refusal}
use Rattle.reply.specs.declared.Refusal.TheVariants.{WrongSize, RankTooHigh}
use Rattle.short_sequences.specs.Sequences.{sequence_count, sequence_at}

-- the longest has 8 bases, and so many bytes are lent
abbrev pub wrong_size : List ℕ → Bool
wrong_size bytes = not (eqb (length bytes) 8)

-- the last rank is one below the number of sequences
abbrev pub rank_too_high : ℕ → Bool
rank_too_high rank = leb sequence_count rank

-- when the call refuses, sorted by number
abbrev pub sequence_checks : ℕ → List ℕ → List Check
sequence_checks rank bytes = WrongSize if wrong_size bytes ∷ RankTooHigh if rank_too_high rank ∷ []

-- what it answers: the number of bases
unfoldable pub sequence_answer : ℕ → List ℕ → Figures ℕ
sequence_answer rank bytes = figures_of (first_of (sequence_checks rank bytes)) 0 (length (sequence_at rank))

-- the lent bytes afterwards: the sequence from the start on, and past it what they held
unfoldable pub sequence_bytes : ℕ → List ℕ → List ℕ
sequence_bytes rank bytes = entries_of (first_of (sequence_checks rank bytes)) bytes (over (sequence_at rank) bytes)

-- an answer of the code as its number and figure
abbrev pub sequence_figures : Result ℕ Refusal → Figures ℕ
sequence_figures (Ok bases) = given bases
sequence_figures (Err refusal) = refused_with 0 refusal None
