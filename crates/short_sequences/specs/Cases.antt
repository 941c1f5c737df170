-- Ranks worked out by hand, and the sequences that the definitions give there; proofs/Cases.antt computes them.
use Rattle.std.specs.Prelude.{◌≡◌, [], ◌∷◌, replicate}
use Rattle.short_sequences.specs.Sequences.{sequence_at}

-- the first and the last of a length, and some between
pub record WorkedRanks : Type 0 where
  pub aa : sequence_at 0 ≡ 97 ∷ 97 ∷ []
  pub ac : sequence_at 1 ≡ 97 ∷ 99 ∷ []
  pub at : sequence_at 3 ≡ 97 ∷ 116 ∷ []
  pub ca : sequence_at 4 ≡ 99 ∷ 97 ∷ []
  pub tt : sequence_at 15 ≡ 116 ∷ 116 ∷ []
  pub aaa : sequence_at 16 ≡ 97 ∷ 97 ∷ 97 ∷ []
  pub ttt : sequence_at 79 ≡ 116 ∷ 116 ∷ 116 ∷ []
  pub aaaa : sequence_at 80 ≡ replicate 4 97
  pub five : sequence_at 336 ≡ replicate 5 97
  pub six : sequence_at 1360 ≡ replicate 6 97
  pub seven : sequence_at 5456 ≡ replicate 7 97
  pub eight : sequence_at 21840 ≡ replicate 8 97
  pub last : sequence_at 87375 ≡ replicate 8 116
