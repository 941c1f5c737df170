-- The replies to designs with faults, computed. Assumes nothing.
use mathlib.Core.Path.{◌≡◌, refl}
use mathlib.Core.List.{[], ◌∷◌}
use Prim.Native.Nat.{ℕ}
use lib.ListN.{set}
use lib.Ieee.{nan, add, sub, neg, mul, div, ne, le, lt, eq}
use Rattle.lists.specs.Build.{tabulate, keep, product}
use Rattle.lists.specs.Find.{any, first_index}
use Rattle.lists.specs.Fold.{foldl}
use Rattle.doubles.specs.Decimal.{plus, minus, nearest, zero}
use Rattle.doubles.specs.Least.{pick}
use Rattle.reply.specs.Figures.{given, refused_with}
use Rattle.reply.specs.declared.Refusal.TheVariants.{OutOfRange, NullBinds, NotAFriend, TooManyStates, RankTooHigh, AmbientOut, PotentialOut}
use Rattle.model.specs.States.{choices, count}
use Rattle.model.specs.Search.{least_left, left_choice, traced, search_over, search}
use Rattle.design.specs.declared.Amounts.TheVariants.{Potentials}
use Rattle.design.specs.Design.{design, strand_bond, scaffold_bond, befriends, friends_to, model_of}
use Rattle.design.specs.Checks.{wrong_sizes, cells_out, bad_cell, ambient_out, bad_ambient, somewhere, dilute, potentials_out, bad_potential, null_binds, not_all_friends}
use Rattle.design.specs.Answers.{count_answer, rank_answer, state_energy_answer}
use Rattle.mfe.specs.Answers.{search_answer}
use Rattle.bench_table.specs.Designs.{half, zeros}
use Rattle.std.specs.Prelude.{None, Some}
use Rattle.bench_table.specs.Faults.{ambient_with, cold, one, bound, null_bound, mild, wild, long, eight, FaultPlaces, TwoFaults}

-- what a reply unfolds: the checks of a design
unfoldable checked : ℕ
unfolding befriends friends_to tabulate keep any first_index nearest wrong_sizes cells_out bad_cell ambient_out bad_ambient somewhere dilute potentials_out bad_potential null_binds not_all_friends le lt eq ne
checked = 0

-- and with it the states
unfoldable counted : ℕ
unfolding checked model_of product count choices
counted = 0

-- and with it the search
unfoldable searched : ℕ
unfolding checked model_of scaffold_bond strand_bond add sub neg mul div foldl pick least_left left_choice traced search search_over
searched = 0

dg : (x : ℕ) → search_answer (one (set zeros 65 nan) zeros mild half) (x ∷ []) ≡ refused_with zero OutOfRange (Some 65)
unfolding checked
dg x = refl

both : (x : ℕ) → search_answer (one (set bound 4095 nan) (set zeros 0 nan) mild half) (x ∷ []) ≡ refused_with zero OutOfRange (Some 4095)
unfolding checked
both x = refl

first : (x : ℕ) → search_answer (one bound (set zeros 0 nan) mild half) (x ∷ []) ≡ refused_with zero OutOfRange (Some 4096)
unfolding checked
first x = refl

last : (x : ℕ) → search_answer (one bound (set zeros 4095 nan) mild half) (x ∷ []) ≡ refused_with zero OutOfRange (Some 8191)
unfolding checked
last x = refl

rt : (x : ℕ) → search_answer (one bound zeros mild (ambient_with (plus 0 0) (plus 2000 0) (plus 0 0))) (x ∷ []) ≡ refused_with zero AmbientOut (Some 0)
unfolding checked
rt x = refl

strand : (x : ℕ) → search_answer (one bound zeros mild (ambient_with (plus 5 1) (plus 2000 0) (plus 2000 0))) (x ∷ []) ≡ refused_with zero AmbientOut (Some 1)
unfolding checked
strand x = refl

scaffold : (x : ℕ) → search_answer (one bound zeros mild (ambient_with (plus 5 1) (plus 0 0) (plus 2000 0))) (x ∷ []) ≡ refused_with zero AmbientOut (Some 2)
unfolding checked
scaffold x = refl

potential : (x : ℕ) → search_answer eight (x ∷ []) ≡ refused_with zero PotentialOut (Some 7)
unfolding checked
potential x = refl

cell-and-ambient : (x : ℕ) → search_answer (one (set zeros 65 nan) zeros mild cold) (x ∷ []) ≡ refused_with zero OutOfRange (Some 65)
unfolding checked
cell-and-ambient x = refl

cell-and-null : (x : ℕ) → search_answer (one (set null_bound 65 nan) zeros mild half) (x ∷ []) ≡ refused_with zero OutOfRange (Some 65)
unfolding checked
cell-and-null x = refl

ambient-and-null : (x : ℕ) → search_answer (one null_bound zeros mild cold) (x ∷ []) ≡ refused_with zero NullBinds None
unfolding checked
ambient-and-null x = refl

potential-and-null : (x : ℕ) → search_answer (one null_bound zeros wild half) (x ∷ []) ≡ refused_with zero NullBinds None
unfolding checked
potential-and-null x = refl

ambient-and-stranger : state_energy_answer (one bound zeros mild cold) (2 ∷ []) ≡ refused_with zero NotAFriend None
unfolding checked
ambient-and-stranger = refl

potential-and-stranger : state_energy_answer (one bound zeros wild half) (2 ∷ []) ≡ refused_with zero NotAFriend None
unfolding checked
potential-and-stranger = refl

ambient-and-many : count_answer (long cold) ≡ refused_with 0 TooManyStates None
unfolding counted
ambient-and-many = refl

ambient-and-rank : (x : ℕ) → rank_answer (one bound zeros mild cold) 2 (x ∷ []) ≡ refused_with tt RankTooHigh None
unfolding counted
ambient-and-rank x = refl

potential-and-rank : (x : ℕ) → rank_answer (one bound zeros wild half) 2 (x ∷ []) ≡ refused_with tt RankTooHigh None
unfolding counted
potential-and-rank x = refl

ambient-and-potential : (x : ℕ) → search_answer (one bound zeros wild cold) (x ∷ []) ≡ refused_with zero AmbientOut (Some 0)
unfolding checked
ambient-and-potential x = refl

null-potential : (x : ℕ) → search_answer (design (1 ∷ []) (0 ∷ []) (0 ∷ 0 ∷ 0 ∷ []) (set zeros 64 (nearest (minus 1 0))) zeros (nan ∷ []) Potentials half) (x ∷ []) ≡ refused_with zero NullBinds None
unfolding checked
null-potential x = refl

ambient-alone : search_answer (design [] [] (0 ∷ 0 ∷ 0 ∷ 0 ∷ 1 ∷ 0 ∷ []) bound zeros wild Potentials cold) [] ≡ refused_with zero AmbientOut (Some 0)
unfolding checked
ambient-alone = refl

no-potential : search_answer (design [] [] (0 ∷ 0 ∷ 0 ∷ 0 ∷ 1 ∷ 0 ∷ []) bound zeros wild Potentials half) [] ≡ given zero
unfolding searched
no-potential = refl

pub fault-places : FaultPlaces
fault-places = record { dg = dg; both = both; first = first; last = last; rt = rt; strand = strand; scaffold = scaffold; potential = potential }

pub two-faults : TwoFaults
two-faults =
    record {
      cell_and_ambient = cell-and-ambient;
      cell_and_null = cell-and-null;
      ambient_and_null = ambient-and-null;
      potential_and_null = potential-and-null;
      ambient_and_stranger = ambient-and-stranger;
      potential_and_stranger = potential-and-stranger;
      ambient_and_many = ambient-and-many;
      ambient_and_rank = ambient-and-rank;
      potential_and_rank = potential-and-rank;
      ambient_and_potential = ambient-and-potential;
      null_potential = null-potential;
      ambient_alone = ambient-alone;
      no_potential = no-potential;
    }
