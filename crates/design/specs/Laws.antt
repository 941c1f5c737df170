-- What is shown of every design: that its friends are the documents', that a configuration is a state exactly if no check refuses it, and
-- that the model of an admitted design is within the bounds under which the laws of states, energies and the search hold.
use Rattle.std.specs.Prelude.{◌≡◌, ◌⊎◌, ◌↔◌, true, false, List, ℕ, ◌<◌, T, length, get_or}
use Rattle.std.specs.Float.{nan, binary64}
use Rattle.std.specs.Float.Ieee.{fits, ne}
use Rattle.doubles.specs.Decimal.{zero}
use Rattle.lists.specs.Order.{Rising}
use Rattle.model.specs.Model.{Friend, State, friends_at}
use Rattle.model.specs.Bounds.{Bounded}
use Rattle.design.specs.Design.{Design, positions, strands, blocked, scaffold_glue, bottom, cell, model_of}
use Rattle.design.specs.Checks.{Admitted, not_all_friends}

-- one of the design's strands, at a position that is open, with a nonzero dG or dS at the cell of the position's glue and its own bottom glue
pub record Bound (d : Design) (i strand : ℕ) : Type 0 where
  pub position : i < positions d
  pub free : blocked d i ≡ false
  pub known : strand < strands d
  pub nonzero : (ne (cell d.dg (scaffold_glue d i) (bottom d.glues strand)) zero ≡ true) ⊎ (ne (cell d.ds (scaffold_glue d i) (bottom d.glues strand)) zero ≡ true)

-- the friends of a design's model are the documents', and its states those that no check refuses
pub record FriendsRight (d : Design) : Type 0 where
  -- a strand is a friend at a position exactly if the position is open, the strand is one of the design's and a cell is nonzero
  pub exactly : (i strand : ℕ) → Friend (model_of d) i strand ↔ Bound d i strand
  -- friends run in rising order
  pub rising : (i : ℕ) → Rising (friends_at (model_of d) i)
  -- 0 is none of them in an admitted design
  pub not_null : Admitted d → (i : ℕ) → Friend (model_of d) i 0 → ⊥
  -- a configuration with an entry for each position is a state exactly if it holds no stranger
  pub states : (s : List ℕ) → length s ≡ positions d → (not_all_friends d s ≡ false) ↔ State (model_of d) s

-- every number of the design is a double
pub record Doubles (d : Design) : Type 0 where
  pub dg : (k : ℕ) → k < length d.dg → T (fits binary64 (get_or d.dg k nan))
  pub ds : (k : ℕ) → k < length d.ds → T (fits binary64 (get_or d.ds k nan))
  pub amounts : (k : ℕ) → k < length d.amounts → T (fits binary64 (get_or d.amounts k nan))
  pub rt : T (fits binary64 d.ambient.rt.0)
  pub strand-excess : T (fits binary64 d.ambient.strand_excess.0)
  pub scaffold-excess : T (fits binary64 d.ambient.scaffold_excess.0)

-- each bond of an admitted design is finite and at most 80,000 in size, and all else that the laws ask holds too
abbrev pub BoundsRight : Design → Type 0
BoundsRight d = Doubles d → Admitted d → Bounded (model_of d) (strands d)
