-- The rings on which two readings part, worked out. Assumes nothing.
use mathlib.Core.Path.{refl}
use lib.Ieee.{add, sub, neg, mul, lt, to_bits}
use Rattle.doubles.specs.Decimal.{nearest}
use Rattle.doubles.specs.Sum.{sum_from}
use Rattle.doubles.specs.Least.{pick}
use Rattle.lists.specs.Fold.{foldl}
use Rattle.model.specs.Energy.{chain_terms, chain_energy}
use Rattle.model.specs.Search.{least_left, left_choice, traced, search_over, search}
use Rattle.model.specs.Ring.{ring_energy, ring_from, ring_search}
use Rattle.model.specs.RingCases.{tied, FirstKept, attracting, repelling, ClosingDecides, level, ChainTies, ends, FirstOutside, rounded, AfterTheProduct, unlike, ClosedAtTheEnd}

pub first-kept : FirstKept
unfolding tied nearest foldl pick least_left left_choice traced search_over search ring_from ring_search add sub neg mul lt to_bits
first-kept = record { shown = refl; energy = refl; chain = refl }

pub closing-decides : ClosingDecides
unfolding attracting repelling nearest foldl sum_from chain_terms chain_energy ring_energy pick least_left left_choice traced search_over search ring_from ring_search add sub neg mul lt to_bits
closing-decides =
    record {
      attracted = refl;
      attracted_energy = refl;
      attracted_chain = refl;
      attracted_closed = refl;
      repelled = refl;
      repelled_energy = refl;
      repelled_chain = refl;
      repelled_closed = refl;
    }

pub chain-ties : ChainTies
unfolding level nearest foldl pick least_left left_choice traced search_over ring_from ring_search add sub neg mul lt to_bits
chain-ties = record { shown = refl; energy = refl }

pub first-outside : FirstOutside
unfolding ends nearest foldl pick least_left left_choice traced search_over ring_from ring_search add sub neg mul lt to_bits
first-outside = record { shown = refl; energy = refl }

pub after-the-product : AfterTheProduct
unfolding rounded nearest foldl pick least_left left_choice traced search_over ring_from ring_search add sub neg mul lt to_bits
after-the-product = record { shown = refl; energy = refl }

pub closed-at-the-end : ClosedAtTheEnd
unfolding unlike nearest foldl sum_from chain_terms chain_energy ring_energy add neg mul to_bits
closed-at-the-end = record { energy = refl }
