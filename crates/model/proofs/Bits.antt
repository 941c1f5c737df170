-- The models on which two readings part, worked out. Assumes nothing.
use mathlib.Core.Path.{◌≡◌, refl}
use mathlib.Core.Logic.{◌⊎◌, inr}
use mathlib.Core.List.Memᴰ
use mathlib.Core.List.{[], ◌∷◌}
use Prim.Native.Nat.{ℕ, zero, suc, ◌<◌}
use native.Mathlib.Omega.{arith}
use lib.Ieee.{Float, binary64, add, sub, neg, mul, lt, to_bits}
use Rattle.lists.specs.Build.{product}
use Rattle.lists.specs.Fold.{foldl}
use Rattle.doubles.specs.Decimal.{nearest}
use Rattle.doubles.specs.Sum.{sum_from}
use Rattle.doubles.specs.Least.{pick}
use Rattle.model.specs.Model.{State, Friend, occupant}
use Rattle.model.specs.States.{each_before, listing, choices, choice_at, count}
use Rattle.model.specs.Energy.{state_terms, state_energy, chain_terms, chain_energy, chain_product, walk}
use Rattle.model.specs.Search.{least_left, left_choice, traced, search_over, search}
use Rattle.model.specs.LowestConfiguration.{LowestConfiguration}
use Rattle.model.specs.Bits.{three, OrderOfTerms, two, ChainSearched}

pub order-of-terms : OrderOfTerms
unfolding three nearest state_terms state_energy chain_terms chain_energy chain_product sum_from add neg mul to_bits product foldl count
order-of-terms = record { state = refl; chain = refl; chain_times_rt = refl; counted = refl }

two-occupants : (i : ℕ) → i < 2 → (occupant (1 ∷ 2 ∷ []) i ≡ 0) ⊎ Friend two i (occupant (1 ∷ 2 ∷ []) i)
unfolding two
two-occupants zero h = inr (Memᴰ.head refl)
two-occupants (suc zero) h = inr (Memᴰ.head refl)
two-occupants (suc (suc i)) h = absurd (omega arith)

two-taken : State two (1 ∷ 2 ∷ [])
unfolding two
two-taken = record { places = refl; occupants = two-occupants }

two-demanded : (e : Float) → LowestConfiguration two (1 ∷ 2 ∷ []) e → to_bits binary64 e ≡ 0xbfb9_9999_9999_999a
unfolding two nearest state_terms state_energy chain_terms chain_energy chain_product sum_from add neg mul to_bits
two-demanded e lowest = rw lowest.energy refl

pub chain-searched : ChainSearched
unfolding two nearest each_before listing choices choice_at state_terms state_energy chain_terms chain_energy chain_product sum_from foldl walk pick least_left left_choice traced search_over search add sub neg mul lt to_bits product
chain-searched = record {
  listed = refl;
  second = refl;
  taken = two-taken;
  shown = refl;
  energy = refl;
  state = refl;
  demanded = two-demanded;
  walked = refl;
}
