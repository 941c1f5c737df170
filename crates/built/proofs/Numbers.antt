-- Of at most 31 base names every number is below 64. Assumes nothing.
use mathlib.Core.Path.{◌≡◌, refl, ◌∙◌}
use mathlib.Core.Bool.{Bool, true, false, cond}
use mathlib.Core.List.{List, [], ◌∷◌}
use mathlib.Core.Option.{none, some}
use Prim.Native.Nat.{ℕ, ◌*◌, ◌%◌, ◌<◌, ◌≤◌}
use native.Mathlib.Nat.{mod-lt}
use native.Mathlib.Omega.{arith}
use lib.ListN.{length}
use borrow.Author.Tests.{ltb-true, not-false}
use Rattle.lists.specs.Find.{any, first_index}
use Rattle.lists.proofs.Find.{first_any}
use Rattle.sdc_common.specs.Names.{Name, base_of, stars_of, same_name}
use Rattle.sdc_common.specs.Lent.{Glue}
use Rattle.sdc_common.specs.Numbers.{is_known, number_at, base_number, glue_number}
use Rattle.sdc_common.specs.Spelled.{known_names, is_unknown, spelled_number}
use Rattle.sdc1d_params.specs.Entries.{Cell, cell_of}

-- rows and columns lie in the tables
pub record Small (c : Cell) : Type 0 where
  pub row : c.row < 64
  pub column : c.column < 64

pub known-length : (bases : List Name) → length (known_names bases) ≡ 2 * length bases
unfolding known_names
known-length [] = refl
known-length (base ∷ rest) = let e = known-length rest in omega arith

module _ (bases : List Name) (few : length bases ≤ 31) where
  pub number_small : (base : Name) (stars : ℕ) → base_number bases base stars < 64
  unfolding base_number
  number_small base stars = go (is_known bases base) refl
    where
      go : (t : Bool) → any (same_name base) bases ≡ t → cond t (number_at (first_index (same_name base) bases) stars) 0 < 64
      go false e = omega arith
      go true e =
          let place : first_index (same_name base) bases < length bases = ltb-true _ _ (first_any (same_name base) bases ∙ e) in
          let parity : stars % 2 < 2 = mod-lt stars (omega arith) in
          omega arith

  pub glue-small : (g : Glue) → glue_number bases g < 64
  unfolding glue_number
  glue-small none = omega arith
  glue-small (some name) = number_small (base_of name) (stars_of name)

  pub cell-small : (first : Name) (second : Glue) → Small (cell_of bases first second)
  unfolding cell_of
  cell-small first none = record { row = number_small (base_of first) 0; column = number_small (base_of first) 1 }
  cell-small first (some second) = record { row = number_small (base_of first) (stars_of first); column = number_small (base_of second) (stars_of second) }

  pub spelled-small : (g : Glue) → is_unknown bases g ≡ false → spelled_number bases g < 64
  unfolding is_unknown spelled_number
  spelled-small none e = omega arith
  spelled-small (some name) e =
      let place : first_index (same_name name) (known_names bases) < length (known_names bases) = ltb-true _ _ (first_any (same_name name) (known_names bases) ∙ not-false _ e) in
      let many = known-length bases in
      omega arith
