-- The bench table's lines on states and on the search, and the designs on which two readings part, computed. Assumes nothing.
use mathlib.Core.Path.{◌≡◌, refl}
use mathlib.Core.Bool.{true}
use mathlib.Core.List.{[], ◌∷◌}
use Prim.Native.Nat.{ℕ}
use lib.IntN.{pos}
use lib.Ieee.{binary64, fin, add, sub, neg, mul, div, ne, le, lt, eq, to_bits}
use Rattle.lists.specs.Build.{tabulate, keep, product}
use Rattle.lists.specs.Find.{any}
use Rattle.lists.specs.Fold.{foldl}
use Rattle.doubles.specs.Decimal.{minus, nearest, zero}
use Rattle.doubles.specs.Sum.{sum_from}
use Rattle.doubles.specs.Least.{pick}
use Rattle.model.specs.States.{each_before, listing, choices, choice_at, states, count}
use Rattle.model.specs.Energy.{state_terms, state_energy, chain_terms, chain_energy, chain_product, walk}
use Rattle.model.specs.Search.{least_left, left_choice, traced, search_over, search}
use Rattle.design.specs.Design.{strand_bond, scaffold_bond, befriends, friends_to, model_of}
use Rattle.design.specs.Checks.{wrong_sizes, cells_out, bad_cell, ambient_out, bad_ambient, somewhere, dilute, potentials_out, bad_potential, null_binds}
use Rattle.reply.specs.Figures.{given, refused}
use Rattle.design.specs.Answers.{count_answer, rank_answer, rank_entries}
use Rattle.mfe.specs.Answers.{search_answer, search_entries}
use Rattle.bench_table.specs.Designs.{bare, one_position, two_positions}
use Rattle.bench_table.specs.Readings.{tiny, TwoZeros, close, OneProduct, parted, TwoSums, lower, LowerState}

-- What a line unfolds: the checks of a design, and the model that it gives.
unfoldable checked : ℕ
unfolding bare one_position two_positions tiny model_of friends_to befriends scaffold_bond strand_bond tabulate keep any nearest wrong_sizes cells_out bad_cell ambient_out bad_ambient somewhere dilute potentials_out bad_potential null_binds le lt eq ne
checked = 0

-- and with it the search
unfoldable searched : ℕ
unfolding checked add sub neg mul div foldl pick least_left left_choice traced search search_over
searched = 0

-- and with it the walk
unfoldable walked : ℕ
unfolding searched each_before listing choices choice_at chain_terms chain_energy chain_product sum_from walk
walked = 0

-- and with it counts and ranks
unfoldable ranked : ℕ
unfolding checked product count choices choice_at
ranked = 0

pub no-position : (search_answer bare [] ≡ given zero) × (search_entries bare [] ≡ []) × (walk (model_of bare) ≡ zero)
unfolding walked
no-position = (refl, refl, refl)

pub one_state : (count_answer bare ≡ given 1) × (states (model_of bare) ≡ [] ∷ [])
unfolding ranked listing
one_state = (refl, refl)

pub bound : (x : ℕ) → (search_answer (one_position (nearest (minus 2 0))) (x ∷ []) ≡ given (nearest (minus 15 1))) × (search_entries (one_position (nearest (minus 2 0))) (x ∷ []) ≡ 1 ∷ []) × (walk (model_of (one_position (nearest (minus 2 0)))) ≡ nearest (minus 15 1))
unfolding walked
bound x = (refl, refl, refl)

pub tied : (x : ℕ) → (search_answer (one_position (nearest (minus 5 1))) (x ∷ []) ≡ given zero) × (search_entries (one_position (nearest (minus 5 1))) (x ∷ []) ≡ 1 ∷ []) × (walk (model_of (one_position (nearest (minus 5 1)))) ≡ zero)
unfolding walked
tied x = (refl, refl, refl)

pub later : (x y : ℕ) → (search_answer two_positions (x ∷ y ∷ []) ≡ given (nearest (minus 15 1))) × (search_entries two_positions (x ∷ y ∷ []) ≡ 0 ∷ 2 ∷ []) × (walk (model_of two_positions) ≡ nearest (minus 15 1))
unfolding walked
later x y = (refl, refl, refl)

pub rank-0 : (x y : ℕ) → (rank_answer two_positions 0 (x ∷ y ∷ []) ≡ given tt) × (rank_entries two_positions 0 (x ∷ y ∷ []) ≡ 1 ∷ 2 ∷ [])
unfolding ranked
rank-0 x y = (refl, refl)

pub rank-2 : (x y : ℕ) → (rank_answer two_positions 2 (x ∷ y ∷ []) ≡ given tt) × (rank_entries two_positions 2 (x ∷ y ∷ []) ≡ 0 ∷ 2 ∷ [])
unfolding ranked
rank-2 x y = (refl, refl)

pub rank-3 : (x y : ℕ) → (rank_answer two_positions 3 (x ∷ y ∷ []) ≡ given tt) × (rank_entries two_positions 3 (x ∷ y ∷ []) ≡ 0 ∷ 0 ∷ [])
unfolding ranked
rank-3 x y = (refl, refl)

pub rank-4 : (x y : ℕ) → (rank_answer two_positions 4 (x ∷ y ∷ []) ≡ refused tt 13) × (rank_entries two_positions 4 (x ∷ y ∷ []) ≡ x ∷ y ∷ [])
unfolding ranked
rank-4 x y = (refl, refl)

tiny-energy : (x y : ℕ) → search_answer tiny (x ∷ y ∷ []) ≡ given zero
unfolding searched
tiny-energy x y = refl

tiny-configuration : (x y : ℕ) → search_entries tiny (x ∷ y ∷ []) ≡ 0 ∷ 2 ∷ []
unfolding searched
tiny-configuration x y = refl

tiny-walk : walk (model_of tiny) ≡ fin true 0 (pos 0)
unfolding walked
tiny-walk = refl

pub two-zeros : TwoZeros
two-zeros = record { energy = tiny-energy; configuration = tiny-configuration; walked = tiny-walk }

close-same : chain_product (model_of close) (2 ∷ []) ≡ chain_product (model_of close) (1 ∷ [])
unfolding searched close nearest chain_terms chain_energy chain_product sum_from
close-same = refl

close-configuration : (x : ℕ) → search_entries close (x ∷ []) ≡ 1 ∷ []
unfolding searched close nearest
close-configuration x = refl

close-smaller : lt (chain_energy (model_of close) (2 ∷ [])) (chain_energy (model_of close) (1 ∷ [])) ≡ true
unfolding searched close nearest chain_terms chain_energy sum_from
close-smaller = refl

pub one_product : OneProduct
one_product = record { smaller = close-smaller; same = close-same; configuration = close-configuration }

parted-configuration : (x y : ℕ) → search_entries parted (x ∷ y ∷ []) ≡ 1 ∷ 2 ∷ []
unfolding searched parted
parted-configuration x y = refl

parted-energy : (x y : ℕ) → to_bits binary64 (search_answer parted (x ∷ y ∷ [])).figure ≡ 0xbfb9_9999_9999_999a
unfolding searched parted to_bits
parted-energy x y = refl

parted-chain : to_bits binary64 (chain_product (model_of parted) (1 ∷ 2 ∷ [])) ≡ 0xbfb9_9999_9999_999a
unfolding walked parted to_bits
parted-chain = refl

parted-state : to_bits binary64 (state_energy (model_of parted) (1 ∷ 2 ∷ [])) ≡ 0xbfb9_9999_9999_999c
unfolding searched parted state_terms state_energy sum_from to_bits
parted-state = refl

pub two-sums : TwoSums
two-sums = record { configuration = parted-configuration; energy = parted-energy; chain = parted-chain; state = parted-state }

lower-configuration : (x y : ℕ) → search_entries lower (x ∷ y ∷ []) ≡ 1 ∷ 3 ∷ []
unfolding searched lower
lower-configuration x y = refl

lower-shown : to_bits binary64 (state_energy (model_of lower) (1 ∷ 3 ∷ [])) ≡ 0xbfd9_9999_9999_999b
unfolding searched lower state_terms state_energy sum_from to_bits
lower-shown = refl

lower-other : to_bits binary64 (state_energy (model_of lower) (1 ∷ 2 ∷ [])) ≡ 0xbfd9_9999_9999_999c
unfolding searched lower state_terms state_energy sum_from to_bits
lower-other = refl

pub lower-state : LowerState
lower-state = record { configuration = lower-configuration; shown = lower-shown; other = lower-other }
