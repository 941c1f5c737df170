-- What the place of a refused design is: of the numbers of its kind, in their order, the lowest that is out. proofs/Places.antt shows it of every
-- call that takes a design.
use Rattle.std.specs.Prelude.{◌≡◌, ◌⊎◌, Bool, true, false, cond, List, [], ◌∷◌, ℕ, ◌+◌, ◌-◌, ◌<◌, ltb, get_or, Float, Option, None, Some}
use Rattle.doubles.specs.Decimal.{zero}
use Rattle.reply.specs.Limits.{cell_count, most_dg, most_ds}
use Rattle.reply.specs.Number.{number_of, Reply}
use Rattle.reply.specs.declared.Refusal.{Refusal}
use Rattle.reply.specs.declared.Refusal.TheVariants.{OutOfRange, AmbientOut, PotentialOut}
use Rattle.units.specs.declared.Ambient.{Ambient}
use Rattle.design.specs.Design.{Design, strands}
use Rattle.reply.specs.First.{refuses}
use Rattle.design.specs.Checks.{beyond, cells_out, rt_out, strand_excess_out, scaffold_excess_out, unfit}

-- the cell of a number is out: the cell [row][column] of dG has 64 × row + column, that of dS 4,096 more
abbrev pub cell_out : List Float → List Float → ℕ → Bool
cell_out dg ds k = cond (ltb k cell_count) (beyond most_dg (get_or dg k zero)) (beyond most_ds (get_or ds (k - cell_count) zero))

-- a number of the ambient is out: 0 RT, 1 the strand excess, 2 the scaffold excess
abbrev pub ambient_number_out : Ambient → ℕ → Bool
ambient_number_out ambient k = get_or (rt_out ambient ∷ strand_excess_out ambient ∷ scaffold_excess_out ambient ∷ []) k false

-- a strand is somewhere a friend, and its potential is out
abbrev pub potential_out : Design → ℕ → Bool
potential_out d = unfit d

-- the place is one of so many, the number there is out, and none below it is
pub record LowestOut (out : ℕ → Bool) (many : ℕ) (place : Option ℕ) : Type 0 where
  pub at : ℕ
  pub is : place ≡ Some at
  pub known : at < many
  pub here : out at ≡ true
  pub below : (k : ℕ) → k < at → out k ≡ false

-- the places that a reply on a design can have
pub record PlacesRight (d : Design) (reply : Reply) : Type 0 where
  pub cell : (place : Option ℕ) → reply ≡ refuses OutOfRange place → LowestOut (cell_out d.dg d.ds) (cell_count + cell_count) place
  pub ambient : (place : Option ℕ) → reply ≡ refuses AmbientOut place → LowestOut (ambient_number_out d.ambient) 3 place
  pub potential : (place : Option ℕ) → reply ≡ refuses PotentialOut place → LowestOut (potential_out d) (strands d) place
  -- strand 0's potential never decides a reply: where it is a friend, 10 is given
  pub not_null : reply ≡ refuses PotentialOut (Some 0) → ⊥
  -- no other number has a place
  pub elsewhere :
      (refusal : Refusal) (place : Option ℕ)
      → reply ≡ refuses refusal place
      → (number_of refusal ≡ 9 → ⊥)
      → (number_of refusal ≡ 16 → ⊥)
      → (number_of refusal ≡ 17 → ⊥)
      → place ≡ None

-- the same of a call that finds something else out of range too, which is no cell and has no place
pub record PlacesBeside (d : Design) (own_range : Bool) (reply : Reply) : Type 0 where
  -- where nothing else is out, or a cell is, the places are those of every call
  pub right : (own_range ≡ false) ⊎ (cells_out d.dg d.ds ≡ true) → PlacesRight d reply
  -- and else there is none
  pub nowhere : own_range ≡ true → cells_out d.dg d.ds ≡ false → (refusal : Refusal) (place : Option ℕ) → reply ≡ refuses refusal place → place ≡ None
