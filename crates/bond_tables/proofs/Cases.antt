-- The cases over lent tables, computed. Assumes nothing.
use mathlib.Core.Path.{◌≡◌, refl}
use mathlib.Core.List.{[], ◌∷◌}
use Prim.Native.Nat.{ℕ}
use lib.Ieee.{nan, add, sub, neg, mul, div, ne, le, lt, eq}
use Rattle.lists.specs.Build.{tabulate, keep}
use Rattle.lists.specs.Find.{any, first_index}
use Rattle.lists.specs.Fold.{foldl}
use Rattle.doubles.specs.Decimal.{plus, minus, nearest, zero}
use Rattle.doubles.specs.Least.{pick}
use Rattle.doubles.specs.Sum.{sum_from}
use Rattle.reply.specs.Figures.{given, refused_with}
use Rattle.reply.specs.declared.Refusal.TheVariants.{WrongSize, OutOfRange}
use Rattle.model.specs.Energy.{state_terms, state_energy}
use Rattle.model.specs.Search.{least_left, left_choice, traced, search_over, search}
use Rattle.design.specs.Design.{strand_bond, scaffold_bond, befriends, friends_to, model_of}
use Rattle.design.specs.Checks.{wrong_sizes, cells_out, bad_cell, ambient_out, bad_ambient, somewhere, dilute, potentials_out, bad_potential, null_binds, not_all_friends}
use Rattle.bond_tables.specs.Tables.{bonds_out, model_over}
use Rattle.bond_tables.specs.Answers.{energy_over_answer, search_over_answer, search_over_entries}
use Rattle.std.specs.Prelude.{None, Some}
use Rattle.bond_tables.specs.Cases.{two_positions, strand_cells, scaffold_cells, EmptyPlacesCount, EveryCell}

-- what a case unfolds: the checks of a design and of the tables, and the model that they give
unfoldable checked : ℕ
unfolding two_positions model_over model_of friends_to befriends scaffold_bond strand_bond tabulate keep any first_index nearest wrong_sizes cells_out bad_cell bonds_out ambient_out bad_ambient somewhere dilute potentials_out bad_potential null_binds not_all_friends le lt eq ne
checked = 0

-- and with it the search and the state energy
unfoldable searched : ℕ
unfolding checked add sub neg mul div foldl pick least_left left_choice traced search search_over sum_from state_terms state_energy
searched = 0

energy : (x y : ℕ) → search_over_answer (two_positions zero) (strand_cells zero) scaffold_cells (x ∷ y ∷ []) ≡ given (nearest (minus 2 0))
unfolding searched
energy x y = refl

shown : (x y : ℕ) → search_over_entries (two_positions zero) (strand_cells zero) scaffold_cells (x ∷ y ∷ []) ≡ 0 ∷ 2 ∷ []
unfolding searched
shown x y = refl

state : energy_over_answer (two_positions zero) (strand_cells zero) scaffold_cells (0 ∷ 2 ∷ []) ≡ given (nearest (minus 5 1))
unfolding searched
state = refl

pub empty-places-count : EmptyPlacesCount
empty-places-count = record { energy = energy; shown = shown; state = state }

end : (x y : ℕ) → search_over_answer (two_positions zero) (strand_cells (nearest (plus 80000 0))) scaffold_cells (x ∷ y ∷ []) ≡ given (nearest (minus 2 0))
unfolding searched
end x y = refl

above : (x y : ℕ) → search_over_answer (two_positions zero) (strand_cells (nearest (minus 80001 0))) scaffold_cells (x ∷ y ∷ []) ≡ refused_with zero OutOfRange None
unfolding checked
above x y = refl

none : (x y : ℕ) → search_over_answer (two_positions zero) (strand_cells nan) scaffold_cells (x ∷ y ∷ []) ≡ refused_with zero OutOfRange None
unfolding checked
none x y = refl

glue : (x y : ℕ) → search_over_answer (two_positions nan) (strand_cells nan) scaffold_cells (x ∷ y ∷ []) ≡ refused_with zero OutOfRange (Some 8191)
unfolding checked
glue x y = refl

long : (x y : ℕ) → search_over_answer (two_positions nan) (strand_cells nan) (zero ∷ scaffold_cells) (x ∷ y ∷ []) ≡ refused_with zero WrongSize None
unfolding checked
long x y = refl

pub every-cell : EveryCell
every-cell = record { end = end; above = above; none = none; glue = glue; long = long }
