-- Small models on which two readings of document 01 part, and what its definitions give there: bits of energies, states and configurations.
-- proofs/Bits.antt works each of them out.
use Rattle.std.specs.Prelude.{◌≡◌, cond, List, [], ◌∷◌, ℕ, suc, eqb, get_or, Float}
use Rattle.std.specs.Float.{binary64}
use Rattle.std.specs.Float.Ieee.{to_bits}
use Rattle.doubles.specs.Decimal.{Decimal, plus, minus, nearest, zero}
use Rattle.model.specs.Model.{Model, State}
use Rattle.model.specs.States.{states, count, state_at}
use Rattle.model.specs.Energy.{state_energy, chain_energy, chain_product, walk}
use Rattle.model.specs.Search.{search}
use Rattle.model.specs.LowestConfiguration.{LowestConfiguration}

-- the double of a decimal in a list, and 0.0 past its end
abbrev pub figure_at : List Decimal → ℕ → Float
figure_at figures k = nearest (get_or figures k (plus 0 0))

-- A row of strands: strand 1 is a friend at position 0, strand 2 at position 1, and so on. Each has a scaffold bond there, and a strand bond to the
-- next; all other strand bonds are 0.0. The lists go by the strands, from 0.
abbrev pub row : List (List ℕ) → List Decimal → List Decimal → List Decimal → Decimal → Model
row friends scaffold_bonds strand_bonds potentials rt =
    record {
      friends = friends;
      site = λ i strand. figure_at scaffold_bonds strand;
      pair = λ left right. cond (eqb right (suc left)) (figure_at strand_bonds left) zero;
      potential = λ strand. figure_at potentials strand;
      rt = nearest rt;
    }

-- ---- the order of terms, and the product with RT

-- three strands, RT 0.7
unfoldable pub three : Model
unfolding nearest
three =
    row ((1 ∷ []) ∷ (2 ∷ []) ∷ (3 ∷ []) ∷ []) (plus 0 0 ∷ minus 30 1 ∷ minus 16 1 ∷ minus 11 1 ∷ []) (plus 0 0 ∷ minus 2 1 ∷ minus 7 1 ∷ [])
    (plus 0 0 ∷ minus 2 1 ∷ minus 37 1 ∷ minus 15 1 ∷ []) (plus 7 1)

-- The energies of the state that takes all three. Each other order of the terms of a place gives other bits, of either sum, and so does RT left
-- out or taken in term by term.
pub record OrderOfTerms : Type 0 where
  pub state : to_bits binary64 (state_energy three (1 ∷ 2 ∷ 3 ∷ [])) ≡ 0xbfea_e147_ae14_7adf
  pub chain : to_bits binary64 (chain_energy three (1 ∷ 2 ∷ 3 ∷ [])) ≡ 0xbff3_3333_3333_3330
  pub chain_times_rt : to_bits binary64 (chain_product three (1 ∷ 2 ∷ 3 ∷ [])) ≡ 0xbfea_e147_ae14_7adc
  -- each place is taken or empty: twice two ways, twice
  pub counted : count three ≡ 8

-- ---- the state energy is not what is searched, and the walk looks at every state

-- two strands, RT 1
unfoldable pub two : Model
unfolding nearest
two = row ((1 ∷ []) ∷ (2 ∷ []) ∷ []) (plus 0 0 ∷ minus 1 1 ∷ minus 1 1 ∷ []) (plus 0 0 ∷ minus 3 1 ∷ []) (plus 0 0 ∷ minus 3 1 ∷ minus 1 1 ∷ []) (plus 1 0)

-- Strand 1 alone has 0.2, strand 2 alone 0.0, both together −0.1.
pub record ChainSearched : Type 0 where
  -- friends come before empty, and the last position changes fastest
  pub listed : states two ≡ (1 ∷ 2 ∷ []) ∷ (1 ∷ 0 ∷ []) ∷ (0 ∷ 2 ∷ []) ∷ (0 ∷ 0 ∷ []) ∷ []
  pub second : state_at two 1 ≡ 1 ∷ 0 ∷ []
  pub taken : State two (1 ∷ 2 ∷ [])
  -- the search shows both, with RT times their chain energy, −0.1
  pub shown : (search two).configuration ≡ 1 ∷ 2 ∷ []
  pub energy : to_bits binary64 (search two).energy ≡ 0xbfb9_9999_9999_999a
  -- which is not their state energy, −0.10000000000000003
  pub state : to_bits binary64 (state_energy two (1 ∷ 2 ∷ [])) ≡ 0xbfb9_9999_9999_999c
  -- demand 3 lets no other energy through for them
  pub demanded : (e : Float) → LowestConfiguration two (1 ∷ 2 ∷ []) e → to_bits binary64 e ≡ 0xbfb9_9999_9999_999a
  -- the walk ends with that energy, which the state of rank 0 alone has
  pub walked : to_bits binary64 (walk two) ≡ 0xbfb9_9999_9999_999a
