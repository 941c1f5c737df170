-- Document 01's bench table, the lines that it marks with a dagger, in its order. Each field is one line: the input as the table has it, and what the definitions
-- of the calls give. `plus 196 2` is the decimal 1.96, `minus 144 2` is −1.44; ⊕ is one rounded sum of doubles.
use Rattle.std.specs.Prelude.{◌≡◌, List, [], ◌∷◌, ◌++◌, ℕ, length, drop, Float, Some}
use Rattle.std.specs.Float.{binary64}
use Rattle.std.specs.Float.Ieee.{add}
use Rattle.doubles.specs.Decimal.{plus, minus, nearest, zero}
use Rattle.utils.specs.Answers.{refused_dg_ds, given_dg_ds}
use Rattle.utils.specs.Single.{string_dna_dg_ds}
use Rattle.utils.specs.Pair.{sequence_pair_dg_ds}
use Rattle.sdc1d_params.specs.Tables.{empty_table}
use Rattle.sdc1d_params.specs.Params.{from_params}
use Rattle.sdc1d_params.specs.declared.Build.{Build}
use Rattle.sdc1d_params.specs.declared.Build.TheVariants.{Ordinary, Archive}
use Rattle.built.specs.Bench.{one_strand, starred_strand, lent}
use Rattle.model.specs.States.{states}
use Rattle.model.specs.Energy.{walk}
use Rattle.design.specs.Design.{model_of}
use Rattle.reply.specs.Figures.{given, refused}
use Rattle.design.specs.Answers.{count_answer, rank_answer, rank_entries}
use Rattle.mfe.specs.Answers.{search_answer, search_entries}
use Rattle.deck.specs.Form.{singles}
use Rattle.deck.specs.Reading.{read_figures, read_entries}
use Rattle.deck.specs.Writing.{write_figures, write_words}
use Rattle.bench_table.specs.Letters.{A, C, G, T}
use Rattle.bench_table.specs.Designs.{bare, one_position, two_positions}

infixl 60 ◌⊕◌
-- one rounded sum of doubles
abbrev pub ◌⊕◌ : Float → Float → Float
x ⊕ y = add binary64 x y

-- "[1,0,0,2]"
abbrev pub configuration : List ℕ
configuration = 1 ∷ 0 ∷ 0 ∷ 2 ∷ []

-- the words of its deck
abbrev pub words : List ℕ
words = 0x1000_0004 ∷ 0x2000_0001 ∷ 0x3000_0002 ∷ 0x2000_0002 ∷ []

-- "10000002 30000001 30000001"
abbrev pub faulty : List ℕ
faulty = 0x1000_0002 ∷ 0x3000_0001 ∷ 0x3000_0001 ∷ []

-- the daggered lines, each a field
pub record BenchTable : Type 0 where
  -- "A": 3
  pub a : string_dna_dg_ds (A ∷ []) ≡ refused_dg_ds 3
  -- "AC": dG −1.44 + 1.96; dS −0.0224 + 0.0057
  pub ac : string_dna_dg_ds (A ∷ C ∷ []) ≡ given_dg_ds (nearest (minus 144 2) ⊕ nearest (plus 196 2)) (nearest (minus 224 4) ⊕ nearest (plus 57 4))
  -- pair AAC, TAG: dG 0.61 + 0.17, dS 0.0
  pub aac-tag : sequence_pair_dg_ds (A ∷ A ∷ C ∷ []) (T ∷ A ∷ G ∷ []) ≡ given_dg_ds (nearest (plus 61 2) ⊕ nearest (plus 17 2)) zero
  -- pair AAAAA, TAATT: 5 (length 2)
  pub loop-of-2 : sequence_pair_dg_ds (A ∷ A ∷ A ∷ A ∷ A ∷ []) (T ∷ A ∷ A ∷ T ∷ T ∷ []) ≡ refused_dg_ds 5
  -- pair AAAAAA, TAAATT: dG 0.61 + 0.69 − 1.0 + 3.2, left to right; dS −0.0213
  pub loop-of-3 :
      sequence_pair_dg_ds (A ∷ A ∷ A ∷ A ∷ A ∷ A ∷ []) (T ∷ A ∷ A ∷ A ∷ T ∷ T ∷ [])
      ≡ given_dg_ds (nearest (plus 61 2) ⊕ nearest (plus 69 2) ⊕ nearest (minus 10 1) ⊕ nearest (plus 32 1)) (nearest (minus 213 4))
  -- scaffold name `a**`, strands use `a`: 6, in both builds; all that was lent is as it was
  pub two-stars : (build : Build) → from_params build (one_strand 3) lent ≡ record { number = 6; strand_glues = lent.strand_glues; scaffold_glues = lent.scaffold_glues; dg = lent.dg; ds = lent.ds }
  -- no position: search: empty, 0.0; one state
  pub no-position : (search_answer bare [] ≡ given zero) × (search_entries bare [] ≡ []) × (walk (model_of bare) ≡ zero)
  pub one_state : (count_answer bare ≡ given 1) × (states (model_of bare) ≡ [] ∷ [])
  -- RT 0.5, one friend 1, dG −2, dS 0, potential −1: [1], −1.5. What the lent entry held before, x, does not matter, here and
  -- below; and the walk through all states ends with the same energy.
  pub bound : (x : ℕ) → (search_answer (one_position (nearest (minus 2 0))) (x ∷ []) ≡ given (nearest (minus 15 1))) × (search_entries (one_position (nearest (minus 2 0))) (x ∷ []) ≡ 1 ∷ []) × (walk (model_of (one_position (nearest (minus 2 0)))) ≡ nearest (minus 15 1))
  -- same, dG −0.5: [1], 0.0
  pub tied : (x : ℕ) → (search_answer (one_position (nearest (minus 5 1))) (x ∷ []) ≡ given zero) × (search_entries (one_position (nearest (minus 5 1))) (x ∷ []) ≡ 1 ∷ []) × (walk (model_of (one_position (nearest (minus 5 1)))) ≡ zero)
  -- that position, then one with friend 2 (dG −2, potential −1), strand bonds 0: [0, 2], −1.5
  pub later : (x y : ℕ) → (search_answer two_positions (x ∷ y ∷ []) ≡ given (nearest (minus 15 1))) × (search_entries two_positions (x ∷ y ∷ []) ≡ 0 ∷ 2 ∷ []) × (walk (model_of two_positions) ≡ nearest (minus 15 1))
  -- friends 1, then 2, rank 0, 2, 3, 4: [1,2], [0,2], [0,0], 13
  pub rank-0 : (x y : ℕ) → (rank_answer two_positions 0 (x ∷ y ∷ []) ≡ given tt) × (rank_entries two_positions 0 (x ∷ y ∷ []) ≡ 1 ∷ 2 ∷ [])
  pub rank-2 : (x y : ℕ) → (rank_answer two_positions 2 (x ∷ y ∷ []) ≡ given tt) × (rank_entries two_positions 2 (x ∷ y ∷ []) ≡ 0 ∷ 2 ∷ [])
  pub rank-3 : (x y : ℕ) → (rank_answer two_positions 3 (x ∷ y ∷ []) ≡ given tt) × (rank_entries two_positions 3 (x ∷ y ∷ []) ≡ 0 ∷ 0 ∷ [])
  pub rank-4 : (x y : ℕ) → (rank_answer two_positions 4 (x ∷ y ∷ []) ≡ refused tt 13) × (rank_entries two_positions 4 (x ∷ y ∷ []) ≡ x ∷ y ∷ [])
  -- [1,0,0,2]: 10000004 20000001 30000002 20000002
  pub written : (held : List ℕ) → length held ≡ 129 → (write_figures singles configuration held ≡ record { number = 0; count = 4 }) × (write_words singles configuration held ≡ words ++ drop 4 held)
  -- 10000002 30000001 30000001: 14 at word 2 (first word is 0)
  pub fault : (held : List ℕ) → length held ≡ 128 → (read_figures singles faulty held ≡ record { number = 14; count = 0; place = Some 2 }) × (read_entries singles faulty held ≡ held)

-- Added, no line of document 01: beside the line with `a**`, `a*` is a known name. It is built in both builds, the strand's glue 1 and the scaffold's 2. A strand that
-- uses `a**` itself is 21 in an ordinary build, and `a` in the archive's.
pub record Added : Type 0 where
  pub one-star :
      (build : Build)
      → from_params build (one_strand 2) lent
      ≡ record { number = 0; strand_glues = 0 ∷ 0 ∷ 0 ∷ 1 ∷ 0 ∷ 0 ∷ 0 ∷ 0 ∷ 0 ∷ 0 ∷ 0 ∷ 0 ∷ []; scaffold_glues = 2 ∷ []; dg = empty_table; ds = empty_table }
  pub retired : from_params Ordinary starred_strand lent ≡ record { number = 21; strand_glues = lent.strand_glues; scaffold_glues = lent.scaffold_glues; dg = lent.dg; ds = lent.ds }
  pub reduced :
      from_params Archive starred_strand lent
      ≡ record { number = 0; strand_glues = 0 ∷ 0 ∷ 0 ∷ 1 ∷ 0 ∷ 0 ∷ 0 ∷ 0 ∷ 0 ∷ 0 ∷ 0 ∷ 0 ∷ []; scaffold_glues = 1 ∷ []; dg = empty_table; ds = empty_table }
