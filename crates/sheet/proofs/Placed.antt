-- Where a fault lies: the rows one by one, and the members of a group. Assumes nothing.
use mathlib.Core.Path.{◌≡◌, refl}
use mathlib.Core.List.{List}
use Prim.Native.Nat.{ℕ, ◌+◌, ◌<◌, ◌≤◌}
use native.Mathlib.Omega.{arith}
use native.Mathlib.Numerals.{add-one}
use lib.ListN.{length, get_or, drop, drop_of_length-le}
use lib.Seq.{drop-cons}
use Rattle.std.specs.Prelude.{Option, None, Some}
use Rattle.statements.specs.declared.statement.Row.{Row}
use Rattle.sheet.specs.Faults.{limit_of}
use Rattle.sheet.specs.Place.{first_fault}
use Rattle.sheet.specs.declared.place.BuildFault.{BuildFault}
use Rattle.sheet.specs.declared.rows.Group.{Group}
use Rattle.sheet.specs.declared.rows.Group.TheVariants.{Ambient, Strand, Quencher, Reporter, Position, Entry, Penalty, Ring}

module _ (rule : Row → Option BuildFault) (rows : List Row) (i : ℕ) where
  pub fault_here : (d : Row) → i < length rows → {fault : BuildFault} → rule (get_or rows i d) ≡ Some fault → first_fault rule (drop i rows) ≡ Some fault
  unfolding first_fault
  fault_here d h e = rw (drop-cons rows i d h) (simp e)

  pub fault_later : (d : Row) → i < length rows → rule (get_or rows i d) ≡ None → first_fault rule (drop i rows) ≡ first_fault rule (drop (i + 1) rows)
  unfolding first_fault
  fault_later d h e = rw (drop-cons rows i d h) (simp (e, add-one))

  pub fault_past : length rows ≤ i → first_fault rule (drop i rows) ≡ None
  unfolding first_fault
  fault_past h = rw (drop_of_length-le rows h) refl

-- no group may have more rows than there are entries
pub limit_most : (group : Group) → limit_of group ≤ 1024
limit_most Ambient = omega arith
limit_most Strand = omega arith
limit_most Quencher = omega arith
limit_most Reporter = omega arith
limit_most Position = omega arith
limit_most Entry = omega arith
limit_most Penalty = omega arith
limit_most Ring = omega arith
