-- What a line about a build has to say, its kind's own word left out: the words of the question, then what the definition leaves of the slices
-- that the call is lent.
use Rattle.std.specs.Prelude.{◌≡◌, ℕ, ◌⊎◌, List, get_or, to_bits}
use Rattle.std.specs.Float.{nan, binary64}
use Rattle.sdc1d_params.specs.Params.{Params, Outcome}
use Rattle.exports.specs.Builds.{build_numbered, built_in}
use Rattle.replay.specs.Text.{hex_text, Decimal}
use Rattle.replay.specs.Says.{ok, SaysRefused}
use Rattle.replay.specs.Kinds.{word, later}
use Rattle.replay.specs.Places.{Places}

-- `ok STRAND_GLUES SCAFFOLD_GLUES DG DS`: all glues, and a cell of both tables
pub record SaysTables (words : List ℕ) (o : Outcome) (cell : ℕ) : Type 0 where
  pub answered : o.number ≡ 0
  pub first : word words ≡ ok
  pub strand_glues : Places (word (later words)) o.strand_glues
  pub scaffold_glues : Places (word (later (later words))) o.scaffold_glues
  pub dg : word (later (later (later words))) ≡ hex_text (to_bits binary64 (get_or o.dg cell nan))
  pub ds : later (later (later (later words))) ≡ hex_text (to_bits binary64 (get_or o.ds cell nan))

-- a build: refused, or what it leaves
abbrev pub SaysBuilt : List ℕ → Outcome → ℕ → Type 0
SaysBuilt words o cell = SaysRefused words o.number ⊎ SaysTables words o cell

-- BUILD CELL
pub record BuildLine (p : Params) (words : List ℕ) : Type 0 where
  pub build : ℕ
  pub cell : ℕ
  pub lent : Outcome
  pub first : Decimal (word words) build
  pub second : Decimal (word (later words)) cell
  pub answer : SaysBuilt (later (later words)) (built_in (build_numbered build) p lent) cell
