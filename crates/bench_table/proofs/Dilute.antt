-- The answers to designs that come with concentrations, computed. Assumes nothing.
use mathlib.Core.Path.{◌≡◌, refl}
use mathlib.Core.Bool.{true, false}
use mathlib.Core.List.{[], ◌∷◌}
use Prim.Native.Nat.{ℕ}
use lib.IntN.{pos}
use lib.ListN.{set, replicate}
use lib.Ieee.{nan, inf, fin, add, sub, neg, mul, div, ne, le, lt, eq, to_bits, of_int}
use Rattle.lists.specs.Build.{tabulate, keep, product}
use Rattle.lists.specs.Find.{any, first_index}
use Rattle.lists.specs.Fold.{foldl}
use Rattle.doubles.specs.Decimal.{minus, nearest, zero}
use Rattle.doubles.specs.Least.{pick}
use Rattle.reply.specs.Figures.{refused_with}
use Rattle.reply.specs.declared.Refusal.TheVariants.{WrongSize, OutOfRange, NullBinds, NotAFriend, TooManyStates, RankTooHigh, TooDilute}
use Rattle.logarithm.specs.Figure.{mul_units, terms_from, ln_series, ln_reduced, ln_ratio, fixed, ln_of_fields, ln_of}
use Rattle.logarithm.specs.Near.{least_argument, most_argument}
use Rattle.model.specs.States.{choices, count}
use Rattle.model.specs.Search.{least_left, left_choice, traced, search_over, search}
use Rattle.design.specs.declared.Amounts.TheVariants.{Concentrations}
use Rattle.design.specs.Design.{design, strand_bond, scaffold_bond, befriends, friends_to, model_of}
use Rattle.design.specs.Checks.{wrong_sizes, cells_out, bad_cell, ambient_out, bad_ambient, somewhere, dilute, potentials_out, bad_potential, null_binds, not_all_friends}
use Rattle.design.specs.Answers.{count_answer, rank_answer, state_energy_answer}
use Rattle.mfe.specs.Answers.{search_answer, search_entries}
use Rattle.bench_table.specs.Designs.{half, zeros}
use Rattle.bench_table.specs.Faults.{cold, bound, null_bound, mild, one}
use Rattle.std.specs.Prelude.{None, Some}
use Rattle.bench_table.specs.Dilute.{solution, least, below_least, most, above_most, one_molar, ConcentrationEnds, DiluteAndMore, AsItsLogarithm}

-- what a reply unfolds: the checks of a design
unfoldable checked : ℕ
unfolding befriends friends_to tabulate keep any first_index nearest wrong_sizes cells_out bad_cell ambient_out bad_ambient somewhere dilute potentials_out bad_potential null_binds not_all_friends least_argument most_argument le lt eq ne
checked = 0

-- and with it the logarithm
unfoldable measured : ℕ
unfolding checked mul_units terms_from ln_series ln_reduced ln_ratio fixed ln_of_fields ln_of to_bits of_int neg div
measured = 0

-- and with it the states
unfoldable counted : ℕ
unfolding checked model_of product count choices
counted = 0

-- and with it the search
unfoldable searched : ℕ
unfolding measured model_of scaffold_bond strand_bond add sub mul foldl pick least_left left_choice traced search search_over
searched = 0

least-taken : (x : ℕ) → (search_answer (solution bound zeros least nan half) (x ∷ [])).number ≡ 0
unfolding measured
least-taken x = refl

most-taken : (x : ℕ) → (search_answer (solution bound zeros most (inf true) half) (x ∷ [])).number ≡ 0
unfolding measured
most-taken x = refl

below : (x : ℕ) → search_answer (solution bound zeros below_least zero half) (x ∷ []) ≡ refused_with zero TooDilute None
unfolding checked
below x = refl

above : (x : ℕ) → search_answer (solution bound zeros above_most zero half) (x ∷ []) ≡ refused_with zero TooDilute None
unfolding checked
above x = refl

nothing : (x : ℕ) → search_answer (solution bound zeros zero one_molar half) (x ∷ []) ≡ refused_with zero TooDilute None
unfolding checked
nothing x = refl

minus-zero : (x : ℕ) → search_answer (solution bound zeros (fin true 0 (pos 0)) one_molar half) (x ∷ []) ≡ refused_with zero TooDilute None
unfolding checked
minus-zero x = refl

negative : (x : ℕ) → search_answer (solution bound zeros (nearest (minus 1 0)) one_molar half) (x ∷ []) ≡ refused_with zero TooDilute None
unfolding checked
negative x = refl

no-number : (x : ℕ) → search_answer (solution bound zeros nan one_molar half) (x ∷ []) ≡ refused_with zero TooDilute None
unfolding checked
no-number x = refl

endless : (x : ℕ) → search_answer (solution bound zeros (inf false) one_molar half) (x ∷ []) ≡ refused_with zero TooDilute None
unfolding checked
endless x = refl

entry : (x y : ℕ) → search_answer (solution bound zeros zero zero half) (x ∷ y ∷ []) ≡ refused_with zero WrongSize None
unfolding checked
entry x y = refl

cell : (x : ℕ) → search_answer (solution (set bound 4095 nan) zeros zero zero half) (x ∷ []) ≡ refused_with zero OutOfRange (Some 4095)
unfolding checked
cell x = refl

null : (x : ℕ) → search_answer (solution null_bound zeros zero zero half) (x ∷ []) ≡ refused_with zero NullBinds None
unfolding checked
null x = refl

stranger : state_energy_answer (solution bound zeros zero zero half) (2 ∷ []) ≡ refused_with zero NotAFriend None
unfolding checked
stranger = refl

many : count_answer (design (replicate 21 1) (replicate 21 0) (0 ∷ 0 ∷ 0 ∷ 0 ∷ 1 ∷ 0 ∷ []) bound zeros mild Concentrations half) ≡ refused_with 0 TooManyStates None
unfolding counted
many = refl

rank : (x : ℕ) → rank_answer (solution bound zeros zero zero half) 2 (x ∷ []) ≡ refused_with tt RankTooHigh None
unfolding counted
rank x = refl

ambient : (x : ℕ) → search_answer (solution bound zeros zero zero cold) (x ∷ []) ≡ refused_with zero TooDilute None
unfolding checked
ambient x = refl

answer : (x : ℕ) → search_answer (solution bound zeros one_molar nan half) (x ∷ []) ≡ search_answer (one bound zeros mild half) (x ∷ [])
unfolding searched
answer x = refl

entries : (x : ℕ) → search_entries (solution bound zeros one_molar nan half) (x ∷ []) ≡ search_entries (one bound zeros mild half) (x ∷ [])
unfolding searched
entries x = refl

pub concentration-ends : ConcentrationEnds
concentration-ends = record { least_taken = least-taken; most_taken = most-taken; below = below; above = above; nothing = nothing; minus_zero = minus-zero; negative = negative; no_number = no-number; endless = endless }

pub dilute-and-more : DiluteAndMore
dilute-and-more = record { entry = entry; cell = cell; null = null; stranger = stranger; many = many; rank = rank; ambient = ambient }

pub as-its-logarithm : AsItsLogarithm
as-its-logarithm = record { answer = answer; entries = entries }
