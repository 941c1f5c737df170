-- What a line of each kind has to say, its kind's own word left out: the words of the question, then what the definition answers.
use Rattle.std.specs.Prelude.{◌≡◌, ℕ, cond, List, [], ◌∷◌, length, ◌==◌, from_bits, slice_index, to_bits}
use Rattle.std.specs.Float.{binary64}
use Rattle.units.specs.Ambient.{Figures, ambient_at}
use Rattle.utils.specs.Answers.{DgDsFigures, DgFigures}
use Rattle.utils.specs.Single.{string_dna_dg_ds}
use Rattle.utils.specs.Pair.{sequence_pair_dg_ds}
use Rattle.utils.specs.Loops.{loop_penalty}
use Rattle.utils.specs.Strength.{sequence_strength, pair_strength}
use Rattle.sdc_common.specs.Calls.{NameFigures, self_and_inverse}
use Rattle.exports.specs.Flag.{flag}
use Rattle.replay.specs.Text.{up_to, past, hex_text, Decimal}
use Rattle.replay.specs.Says.{blank, Says}

-- the first word
abbrev pub word : List ℕ → List ℕ
word words = up_to blank words

-- the words after it
abbrev pub later : List ℕ → List ℕ
later words = past blank words

-- a sequence stands as it is, an empty one as `-`
unfoldable pub letters : List ℕ → List ℕ
letters w = cond (length w == 1) (cond (slice_index w 0 == 45) [] w) w

-- a number, a dG and a dS
abbrev pub SaysDgDs : List ℕ → DgDsFigures → Type 0
SaysDgDs words f = Says words f.number (to_bits binary64 f.dg ∷ to_bits binary64 f.ds ∷ [])

-- a number and a dG
abbrev pub SaysDg : List ℕ → DgFigures → Type 0
SaysDg words f = Says words f.number (to_bits binary64 f.dg ∷ [])

-- a number, RT and the two excesses
abbrev pub SaysAmbient : List ℕ → Figures → Type 0
SaysAmbient words f =
    Says words f.number
    (to_bits binary64 f.rt ∷ to_bits binary64 f.strand_excess ∷ to_bits binary64 f.scaffold_excess ∷ [])

-- S
abbrev pub SequenceLine : List ℕ → Type 0
SequenceLine words = SaysDgDs (later words) (string_dna_dg_ds (letters (word words)))

-- A B
abbrev pub PairLine : List ℕ → Type 0
PairLine words = SaysDgDs (later (later words)) (sequence_pair_dg_ds (letters (word words)) (letters (word (later words))))

-- LENGTH KIND
pub record LoopLine (words : List ℕ) : Type 0 where
  pub size : ℕ
  pub kind : ℕ
  pub first : Decimal (word words) size
  pub second : Decimal (word (later words)) kind
  pub answer : SaysDg (later (later words)) (loop_penalty size kind)

-- E S
pub record StrengthLine (words : List ℕ) : Type 0 where
  pub excess : ℕ
  pub first : word words ≡ hex_text excess
  pub answer : SaysDg (later (later words)) (sequence_strength (letters (word (later words))) (from_bits binary64 excess))

-- E A B
pub record Strength2Line (words : List ℕ) : Type 0 where
  pub excess : ℕ
  pub first : word words ≡ hex_text excess
  pub answer :
      SaysDg (later (later (later words)))
      (pair_strength (letters (word (later words))) (letters (word (later (later words)))) (from_bits binary64 excess))

-- KELVIN
pub record AmbientLine (words : List ℕ) : Type 0 where
  pub kelvin : ℕ
  pub first : word words ≡ hex_text kelvin
  pub answer : SaysAmbient (later words) (ambient_at (from_bits binary64 kelvin))

-- NAME: the length of its base, and 1 where the name stands for it
abbrev pub SaysName : List ℕ → NameFigures → Type 0
SaysName words f = Says words f.number (f.size ∷ flag f.from ∷ [])

-- the base of a name
abbrev pub NameLine : List ℕ → Type 0
NameLine words = SaysName (later words) (self_and_inverse (letters (word words)) 0 (length (letters (word words))))
