-- Of every call on a design: one that comes with concentrations, none of them dilute, is answered as with the logarithms of these for potentials.
use Rattle.std.specs.Prelude.{◌≡◌, false, List, ℕ, Float}
use Rattle.design.specs.declared.Amounts.{Amounts}
use Rattle.design.specs.declared.Amounts.TheVariants.{Potentials}
use Rattle.design.specs.Design.{Design}
use Rattle.design.specs.Checks.{dilute}
use Rattle.design.specs.Unread.{with_amounts, PotentialsOf, AnswersAlike}
use Rattle.mfe.specs.Answered.{SearchUnread}
use Rattle.bond_tables.specs.Unread.{OverUnread}
use Rattle.ring.specs.Unread.{RingsUnread}
use Rattle.state_sums.specs.Unread.{SumsUnread}
use Rattle.probabilities.specs.Unread.{EnergiesUnread}
use Rattle.ceiling.specs.Unread.{CeilingUnread}
use Rattle.jobs.specs.Unread.{SheetUnread}

-- what each call gives of a design it gives of the one with these amounts
pub record EveryCall (d : Design) (amounts : List Float) (given : Amounts) : Type 0 where
  -- of `sdc1d`: bonds, friends, the count, the state at a rank, the state energy and the chain energy
  pub direct : AnswersAlike d (with_amounts d amounts given)
  -- of `mfe`: the search
  pub searches : (entries : List ℕ) → SearchUnread d amounts given entries
  -- of `bond_tables`: the filling, and energy, count, rank and search over tables
  pub over_tables : OverUnread d (with_amounts d amounts given)
  -- of `ring`: the ring energy and the search
  pub rings : RingsUnread d (with_amounts d amounts given)
  -- of `state_sums`: both sums over given weights
  pub sums : SumsUnread d amounts given
  -- of `probabilities`: both sums over the design's energies, the probability, and those of all occupants
  pub energies : EnergiesUnread d (with_amounts d amounts given)
  -- of `ceiling`: the first state under one
  pub ceilings : CeilingUnread d (with_amounts d amounts given)
  -- of `jobs`: a sheet
  pub sheets : SheetUnread d (with_amounts d amounts given)

-- of every design, and of all potentials that are its logarithms where these are read
abbrev pub ByLogarithms : Type 0
ByLogarithms = (d : Design) (potentials : List Float) → dilute d ≡ false → PotentialsOf d potentials → EveryCall d potentials Potentials
