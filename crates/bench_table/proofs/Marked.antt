-- Two positions of which some are blocked, computed. Assumes nothing.
use mathlib.Core.Path.{◌≡◌, refl}
use mathlib.Core.List.{[], ◌∷◌}
use Prim.Native.Nat.{ℕ}
use lib.ListN.{replicate}
use lib.Ieee.{add, sub, neg, mul, div, ne, le, lt, eq}
use Rattle.lists.specs.Build.{tabulate, keep, product}
use Rattle.lists.specs.Find.{any, first_index}
use Rattle.lists.specs.Fold.{foldl}
use Rattle.doubles.specs.Decimal.{minus, nearest, zero}
use Rattle.doubles.specs.Least.{pick}
use Rattle.reply.specs.Figures.{given, refused_with}
use Rattle.reply.specs.declared.Refusal.TheVariants.{WrongSize, NotAFriend}
use Rattle.model.specs.States.{each_before, listing, choices, count, states}
use Rattle.model.specs.Search.{least_left, left_choice, traced, search_over, search}
use Rattle.design.specs.Design.{strand_bond, scaffold_bond, befriends, friends_to, model_of}
use Rattle.design.specs.Checks.{wrong_sizes, cells_out, bad_cell, ambient_out, bad_ambient, somewhere, dilute, potentials_out, bad_potential, null_binds, not_all_friends}
use Rattle.design.specs.Answers.{friends_answer, friends_entries, count_answer, state_energy_answer, scaffold_bond_answer}
use Rattle.mfe.specs.Answers.{search_answer, search_entries}
use Rattle.std.specs.Prelude.{None}
use Rattle.bench_table.specs.Marked.{marked, usual, wild, FirstBlocked, LastBlocked, BothBlocked, NoMarks}

-- what a line unfolds: the checks of a design, and the model that it gives
unfoldable checked : ℕ
unfolding marked model_of friends_to befriends scaffold_bond strand_bond tabulate keep any first_index nearest wrong_sizes cells_out bad_cell ambient_out bad_ambient somewhere dilute potentials_out bad_potential null_binds not_all_friends le lt eq ne
checked = 0

-- and with it the states and their number
unfoldable listed : ℕ
unfolding checked each_before listing product count choices
listed = 0

-- and with it the search
unfoldable searched : ℕ
unfolding checked add sub neg mul div foldl pick least_left left_choice traced search search_over
searched = 0

first-listed : states (model_of (marked (1 ∷ 0 ∷ []) usual)) ≡ (0 ∷ 2 ∷ []) ∷ (0 ∷ 0 ∷ []) ∷ []
unfolding listed
first-listed = refl

first-number : count_answer (marked (1 ∷ 0 ∷ []) usual) ≡ given 2
unfolding listed
first-number = refl

first-energy : (x y : ℕ) → search_answer (marked (1 ∷ 0 ∷ []) usual) (x ∷ y ∷ []) ≡ given (nearest (minus 15 1))
unfolding searched
first-energy x y = refl

first-shown : (x y : ℕ) → search_entries (marked (1 ∷ 0 ∷ []) usual) (x ∷ y ∷ []) ≡ 0 ∷ 2 ∷ []
unfolding searched
first-shown x y = refl

first-stranger : state_energy_answer (marked (1 ∷ 0 ∷ []) usual) (1 ∷ 2 ∷ []) ≡ refused_with zero NotAFriend None
unfolding checked
first-stranger = refl

first-friends : friends_answer (marked (1 ∷ 0 ∷ []) usual) 0 (replicate 64 0) ≡ given 0
unfolding checked
first-friends = refl

first-kept : friends_entries (marked (1 ∷ 0 ∷ []) usual) 0 (replicate 64 7) ≡ replicate 64 7
unfolding checked
first-kept = refl

first-bond : scaffold_bond_answer (marked (1 ∷ 0 ∷ []) usual) 0 1 ≡ given (nearest (minus 1 0))
unfolding searched
first-bond = refl

pub first-blocked : FirstBlocked
first-blocked = record { listed = first-listed; number = first-number; energy = first-energy; shown = first-shown; stranger = first-stranger; friends = first-friends; kept = first-kept; bond = first-bond }

last-listed : states (model_of (marked (0 ∷ 1 ∷ []) usual)) ≡ (1 ∷ 0 ∷ []) ∷ (0 ∷ 0 ∷ []) ∷ []
unfolding listed
last-listed = refl

last-energy : (x y : ℕ) → search_answer (marked (0 ∷ 1 ∷ []) usual) (x ∷ y ∷ []) ≡ given zero
unfolding searched
last-energy x y = refl

last-shown : (x y : ℕ) → search_entries (marked (0 ∷ 1 ∷ []) usual) (x ∷ y ∷ []) ≡ 0 ∷ 0 ∷ []
unfolding searched
last-shown x y = refl

pub last-blocked : LastBlocked
last-blocked = record { listed = last-listed; energy = last-energy; shown = last-shown }

both-listed : states (model_of (marked (1 ∷ 1 ∷ []) wild)) ≡ (0 ∷ 0 ∷ []) ∷ []
unfolding listed
both-listed = refl

both-energy : (x y : ℕ) → search_answer (marked (1 ∷ 1 ∷ []) wild) (x ∷ y ∷ []) ≡ given zero
unfolding searched
both-energy x y = refl

both-shown : (x y : ℕ) → search_entries (marked (1 ∷ 1 ∷ []) wild) (x ∷ y ∷ []) ≡ 0 ∷ 0 ∷ []
unfolding searched
both-shown x y = refl

pub both-blocked : BothBlocked
both-blocked = record { listed = both-listed; energy = both-energy; shown = both-shown }

no-long : (x y : ℕ) → search_answer (marked (0 ∷ 0 ∷ 0 ∷ []) usual) (x ∷ y ∷ []) ≡ refused_with zero WrongSize None
unfolding checked
no-long x y = refl

no_short : (x y : ℕ) → search_answer (marked (0 ∷ []) usual) (x ∷ y ∷ []) ≡ refused_with zero WrongSize None
unfolding checked
no_short x y = refl

no-two : (x y : ℕ) → search_answer (marked (0 ∷ 2 ∷ []) usual) (x ∷ y ∷ []) ≡ refused_with zero WrongSize None
unfolding checked
no-two x y = refl

pub no-marks : NoMarks
no-marks = record { long = no-long; short = no_short; two = no-two }
