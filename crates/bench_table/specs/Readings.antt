-- Designs on which two readings of document 01 part: what the search, the walk and both energies give, where the other reading gives something else.
use Rattle.std.specs.Prelude.{◌≡◌, true, [], ◌∷◌, ℕ, set, pos}
use Rattle.std.specs.Float.{fin, binary64}
use Rattle.std.specs.Float.Ieee.{lt, to_bits}
use Rattle.doubles.specs.Decimal.{Decimal, plus, minus, nearest, zero}
use Rattle.units.specs.declared.Ambient.{Ambient}
use Rattle.model.specs.Energy.{walk, state_energy, chain_energy, chain_product}
use Rattle.design.specs.declared.Amounts.TheVariants.{Potentials}
use Rattle.design.specs.Design.{Design, design, model_of}
use Rattle.reply.specs.Figures.{given}
use Rattle.mfe.specs.Answers.{search_answer, search_entries}
use Rattle.bench_table.specs.Designs.{zeros}

-- an RT, and no excess
abbrev pub no_excess : Decimal → Ambient
no_excess rt = record { rt = record { 0 = nearest rt }; strand_excess = record { 0 = zero }; scaffold_excess = record { 0 = zero } }

-- RT 1/8; numbers of a few of the smallest doubles, and one strand bond of 1 / RT
unfoldable pub tiny : Design
unfolding nearest
tiny =
    design (1 ∷ 2 ∷ []) (0 ∷ 0 ∷ []) (0 ∷ 0 ∷ 0 ∷ 0 ∷ 1 ∷ 3 ∷ 3 ∷ 2 ∷ 0 ∷ []) (set (set (set zeros 65 (nearest (minus 5 324))) 130 (nearest (plus 5 324))) 195 (nearest (plus 1 0))) zeros
    (zero ∷ nearest (minus 35 324) ∷ nearest (plus 4 323) ∷ []) Potentials (no_excess (plus 125 3))

-- the search gives 0.0 and the walk −0.0: equal as doubles, not as data
pub record TwoZeros : Type 0 where
  pub energy : (x y : ℕ) → search_answer tiny (x ∷ y ∷ []) ≡ given zero
  pub configuration : (x y : ℕ) → search_entries tiny (x ∷ y ∷ []) ≡ 0 ∷ 2 ∷ []
  pub walked : walk (model_of tiny) ≡ fin true 0 (pos 0)

-- RT 0.7; one position with two friends of dG −2, whose potentials are −1 and the second double above it
unfoldable pub close : Design
unfolding nearest
close =
    design (1 ∷ []) (0 ∷ []) (0 ∷ 0 ∷ 0 ∷ 0 ∷ 1 ∷ 0 ∷ 0 ∷ 1 ∷ 0 ∷ []) (set zeros 65 (nearest (minus 2 0))) zeros
    (zero ∷ nearest (minus 1 0) ∷ nearest (minus 9999999999999998 16) ∷ []) Potentials (no_excess (plus 7 1))

-- the second friend has the smaller chain energy, both have one product with RT, and the first is shown: products are compared
pub record OneProduct : Type 0 where
  pub smaller : lt (chain_energy (model_of close) (2 ∷ [])) (chain_energy (model_of close) (1 ∷ [])) ≡ true
  pub same : chain_product (model_of close) (2 ∷ []) ≡ chain_product (model_of close) (1 ∷ [])
  pub configuration : (x : ℕ) → search_entries close (x ∷ []) ≡ 1 ∷ []

-- RT 1; two positions with a friend each: dG −0.1 on the scaffold, −0.3 between the two, potentials −0.3 and −0.1
unfoldable pub parted : Design
unfolding nearest
parted =
    design (1 ∷ 2 ∷ []) (0 ∷ 0 ∷ []) (0 ∷ 0 ∷ 0 ∷ 0 ∷ 1 ∷ 3 ∷ 3 ∷ 2 ∷ 0 ∷ []) (set (set (set zeros 65 (nearest (minus 1 1))) 130 (nearest (minus 1 1))) 195 (nearest (minus 3 1))) zeros
    (zero ∷ nearest (minus 3 1) ∷ nearest (minus 1 1) ∷ []) Potentials (no_excess (plus 1 0))

-- the search shows both friends with −0.1, and their state energy is −0.10000000000000003: the two sums round in different orders
pub record TwoSums : Type 0 where
  pub configuration : (x y : ℕ) → search_entries parted (x ∷ y ∷ []) ≡ 1 ∷ 2 ∷ []
  pub energy : (x y : ℕ) → to_bits binary64 (search_answer parted (x ∷ y ∷ [])).figure ≡ 0xbfb9_9999_9999_999a
  pub chain : to_bits binary64 (chain_product (model_of parted) (1 ∷ 2 ∷ [])) ≡ 0xbfb9_9999_9999_999a
  pub state : to_bits binary64 (state_energy (model_of parted) (1 ∷ 2 ∷ [])) ≡ 0xbfb9_9999_9999_999c

-- RT 1; strand 1 on the first position, with dG −0.3, strands 2 and 3 on the second, with −0.9 and −0.4, and −0.5 between neighbours
unfoldable pub lower : Design
unfolding nearest
lower =
    design (1 ∷ 2 ∷ []) (0 ∷ 0 ∷ []) (0 ∷ 0 ∷ 0 ∷ 0 ∷ 1 ∷ 3 ∷ 3 ∷ 2 ∷ 0 ∷ 3 ∷ 4 ∷ 0 ∷ [])
    (set (set (set (set zeros 65 (nearest (minus 3 1))) 130 (nearest (minus 9 1))) 132 (nearest (minus 4 1))) 195 (nearest (minus 5 1))) zeros
    (zero ∷ nearest (minus 5 1) ∷ nearest (minus 8 1) ∷ nearest (minus 3 1) ∷ []) Potentials (no_excess (plus 1 0))

-- the search shows [1, 3], whose state energy is −0.4000000000000001, and that of [1, 2] is lower, −0.40000000000000013
pub record LowerState : Type 0 where
  pub configuration : (x y : ℕ) → search_entries lower (x ∷ y ∷ []) ≡ 1 ∷ 3 ∷ []
  pub shown : to_bits binary64 (state_energy (model_of lower) (1 ∷ 3 ∷ [])) ≡ 0xbfd9_9999_9999_999b
  pub other : to_bits binary64 (state_energy (model_of lower) (1 ∷ 2 ∷ [])) ≡ 0xbfd9_9999_9999_999c
