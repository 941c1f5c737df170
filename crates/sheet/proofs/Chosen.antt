-- The places of a group's rows, row by row. Assumes nothing.
use mathlib.Core.Path.{◌≡◌}
use mathlib.Core.Bool.{true, false}
use mathlib.Core.List.{List, [], ◌∷◌}
use Prim.Native.Nat.{ℕ, ◌+◌, ◌<◌, ◌≤◌}
use native.Mathlib.Numerals.{add-one}
use lib.ListN.{length, get_or, drop, drop_of_length-le}
use lib.Seq.{drop-cons}
use Rattle.statements.specs.declared.statement.Row.{Row}
use Rattle.sheet.specs.Rows.{is_of, places_from}
use Rattle.sheet.specs.declared.rows.Group.{Group}

module _ (group : Group) (rows : List Row) (i : ℕ) where
  -- a row of the group
  pub chosen-here : (d : Row) → i < length rows → is_of group (get_or rows i d) ≡ true
      → places_from group i (drop i rows) ≡ i ∷ places_from group (i + 1) (drop (i + 1) rows)
  unfolding places_from
  chosen-here d h e = rw (drop-cons rows i d h) (simp (e, add-one))

  -- any other row
  pub chosen-later : (d : Row) → i < length rows → is_of group (get_or rows i d) ≡ false
      → places_from group i (drop i rows) ≡ places_from group (i + 1) (drop (i + 1) rows)
  unfolding places_from
  chosen-later d h e = rw (drop-cons rows i d h) (simp (e, add-one))

  -- past the last row
  pub chosen-past : length rows ≤ i → places_from group i (drop i rows) ≡ []
  unfolding places_from
  chosen-past h = rw (drop_of_length-le rows h)
