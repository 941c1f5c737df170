-- Small rings on which two readings of document 02 part, and what its definitions give there; proofs/RingCases.antt works each of them out.
use Rattle.std.specs.Prelude.{◌≡◌, cond, ◌||◌, List, [], ◌∷◌, suc, eqb}
use Rattle.std.specs.Float.{binary64}
use Rattle.std.specs.Float.Ieee.{to_bits}
use Rattle.doubles.specs.Decimal.{Decimal, plus, minus, nearest, zero}
use Rattle.model.specs.Model.{Model}
use Rattle.model.specs.Bits.{figure_at}
use Rattle.model.specs.Search.{search}
use Rattle.model.specs.Ring.{ring_energy, ring_search}

-- One strand that is a friend at three positions, RT 0.5: its scaffold bonds there, its strand bond with itself, and its potential.
abbrev pub one_strand : List Decimal → Decimal → Decimal → Model
one_strand scaffold_bonds strand_bond potential =
    record {
      friends = (1 ∷ []) ∷ (1 ∷ []) ∷ (1 ∷ []) ∷ [];
      site = λ i strand. figure_at scaffold_bonds i;
      pair = λ left right. cond (eqb left 0 || eqb right 0) zero (nearest strand_bond);
      potential = λ strand. nearest potential;
      rt = nearest (plus 5 1);
    }

-- ---- of equal first occupants the first is kept

-- scaffold bonds less the potential: 0, −1, 0; the strand binds nothing to its side
unfoldable pub tied : Model
unfolding nearest
tied = one_strand (minus 1 0 ∷ minus 2 0 ∷ minus 1 0 ∷ []) (plus 0 0) (minus 1 0)

-- [0, 1, 1] has the same energy: the chain's search shows it, and so would a ring's that tries empty first or keeps the last smallest
pub record FirstKept : Type 0 where
  pub shown : (ring_search tied).configuration ≡ 1 ∷ 1 ∷ 1 ∷ []
  pub energy : to_bits binary64 (ring_search tied).energy ≡ 0xbfe0_0000_0000_0000
  pub chain : (search tied).configuration ≡ 0 ∷ 1 ∷ 1 ∷ []

-- ---- the closing bond is part of what is compared

-- 0.5, −0.5, −1, and neighbours attract
unfoldable pub attracting : Model
unfolding nearest
attracting = one_strand (plus 5 1 ∷ minus 5 1 ∷ minus 1 0 ∷ []) (minus 5 1) (plus 0 0)

-- less the potential −1, −0.5, 0, and neighbours repel
unfoldable pub repelling : Model
unfolding nearest
repelling = one_strand (minus 2 0 ∷ minus 15 1 ∷ minus 1 0 ∷ []) (plus 1 0) (minus 1 0)

-- The chain's configuration, closed afterwards, is not the lowest ring: [0, 1, 1] has −1.0, and [1, 0, 1] has 0.0.
pub record ClosingDecides : Type 0 where
  pub attracted : (ring_search attracting).configuration ≡ 1 ∷ 1 ∷ 1 ∷ []
  pub attracted_energy : to_bits binary64 (ring_search attracting).energy ≡ 0xbff4_0000_0000_0000
  pub attracted_chain : (search attracting).configuration ≡ 0 ∷ 1 ∷ 1 ∷ []
  pub attracted_closed : to_bits binary64 (ring_energy attracting (0 ∷ 1 ∷ 1 ∷ [])) ≡ 0xbff0_0000_0000_0000
  pub repelled : (ring_search repelling).configuration ≡ 1 ∷ 0 ∷ 0 ∷ []
  pub repelled_energy : to_bits binary64 (ring_search repelling).energy ≡ 0xbfe0_0000_0000_0000
  pub repelled_chain : (search repelling).configuration ≡ 1 ∷ 0 ∷ 1 ∷ []
  pub repelled_closed : to_bits binary64 (ring_energy repelling (1 ∷ 0 ∷ 1 ∷ [])) ≡ 0

-- ---- with one first occupant, the chain's tie rules

-- less the potential −0.5, 0, −1
unfoldable pub level : Model
unfolding nearest
level = one_strand (minus 15 1 ∷ minus 1 0 ∷ minus 2 0 ∷ []) (plus 0 0) (minus 1 0)

-- [1, 1, 1] has the same energy and comes first in the listing's order
pub record ChainTies : Type 0 where
  pub shown : (ring_search level).configuration ≡ 1 ∷ 0 ∷ 1 ∷ []
  pub energy : to_bits binary64 (ring_search level).energy ≡ 0xbfe8_0000_0000_0000

-- ---- the first occupant is tried outside, the last position inside

-- −0.5, 1, −0.5, and neighbours repel
unfoldable pub ends : Model
unfolding nearest
ends = one_strand (minus 5 1 ∷ plus 1 0 ∷ minus 5 1 ∷ []) (plus 1 0) (plus 0 0)

-- with the last position outside [0, 0, 1] would be shown
pub record FirstOutside : Type 0 where
  pub shown : (ring_search ends).configuration ≡ 1 ∷ 0 ∷ 0 ∷ []
  pub energy : to_bits binary64 (ring_search ends).energy ≡ 0xbfd0_0000_0000_0000

-- ---- first occupants are compared after the product with RT

-- two friends at position 0 alone, whose sums differ by one unit in the last place, and whose products with 0.7 are one double
unfoldable pub rounded : Model
unfolding nearest
rounded =
    record {
      friends = (1 ∷ 2 ∷ []) ∷ [] ∷ [] ∷ [];
      site = λ i strand. nearest (minus 2857142857142857 15);
      pair = λ left right. zero;
      potential = λ strand. figure_at (plus 0 0 ∷ minus 1 0 ∷ minus 9999999999999998 16 ∷ []) strand;
      rt = nearest (plus 7 1);
    }

-- by the sums [2, 0, 0] would be shown
pub record AfterTheProduct : Type 0 where
  pub shown : (ring_search rounded).configuration ≡ 1 ∷ 0 ∷ 0 ∷ []
  pub energy : to_bits binary64 (ring_search rounded).energy ≡ 0xbff4_cccc_cccc_cccd

-- ---- the closing bond comes last

-- three strands, each a friend at one position, RT 1: bonds of 0.1, and 0.3 from the last strand to the first
unfoldable pub unlike : Model
unfolding nearest
unlike =
    record {
      friends = (1 ∷ []) ∷ (2 ∷ []) ∷ (3 ∷ []) ∷ [];
      site = λ i strand. nearest (plus 1 1);
      pair = λ left right. cond (eqb right (suc left)) (nearest (plus 1 1)) (cond (eqb left 3) (nearest (plus 3 1)) zero);
      potential = λ strand. zero;
      rt = nearest (plus 1 0);
    }

-- with the closing bond first it would be 0.7999999999999999
pub record ClosedAtTheEnd : Type 0 where
  pub energy : to_bits binary64 (ring_energy unlike (1 ∷ 2 ∷ 3 ∷ [])) ≡ 0x3fe9_9999_9999_999a
