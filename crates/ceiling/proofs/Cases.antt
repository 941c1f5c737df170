-- The model on which readings part, worked out. Assumes nothing.
use mathlib.Core.Path.{refl}
use lib.Ieee.{add, neg, mul, le}
use Rattle.lists.specs.Build.{product}
use Rattle.lists.specs.Find.{any, first_index}
use Rattle.lists.specs.Fold.{foldl}
use Rattle.doubles.specs.Decimal.{nearest}
use Rattle.doubles.specs.Sum.{sum_from}
use Rattle.model.specs.States.{each_before, listing, choices, choice_at}
use Rattle.model.specs.Energy.{state_terms, state_energy}
use Rattle.ceiling.specs.Ceiling.{first_under, none_under}
use Rattle.ceiling.specs.Cases.{several, FirstOfSeveral}

pub first-of-several : FirstOfSeveral
unfolding several nearest product foldl each_before listing choices choice_at sum_from state_terms state_energy add neg mul le any first_index first_under none_under
first-of-several = record { of_three = refl; of_two = refl; of_none = refl }
