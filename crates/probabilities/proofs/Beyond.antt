-- The sums that no double holds, computed. Assumes nothing.
use mathlib.Core.Path.{refl}
use lib.Ieee.{round}
use Rattle.lists.specs.Build.{keep}
use Rattle.lists.specs.Find.{any}
use Rattle.partition.specs.Constraint.{allows}
use Rattle.partition.specs.Terms.{times, plus_lower, plus}
use Rattle.partition.specs.Pass.{sum_from, sum_terms, passed, passed_whole, allowed, none_left}
use Rattle.partition.specs.Summed.{passed_sum, summed}
use Rattle.probabilities.specs.Beyond.{BeyondDoubles}

pub beyond-doubles : BeyondDoubles
unfolding keep any allows times plus_lower plus sum_from sum_terms passed passed_whole allowed none_left passed_sum summed round
beyond-doubles = record { large = refl; large_double = refl; small = refl; small_double = refl }
