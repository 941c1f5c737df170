-- That the weights in use are in form has one proof at most, so that a struct may hold it.
use Rattle.std.specs.Prelude.{ℕ, suc, ℤ, pos, negsuc, ◌*◌, ◌≤◌}
use Rattle.std.specs.Coded.{×_prop, Π_prop, →_prop, Unit-prop, le_prop}
use mathlib.Core.Path.{ap₂}
use mathlib.Core.List.{List, [], ◌∷◌, Memᴰ}
use Rattle.fractions.specs.declared.Weight.{Weight}
use Rattle.fractions.specs.Weight.{InForm}
use Rattle.partition.specs.Weights.{Weights, place_weight, pair_weight}
use Rattle.partition.specs.Summed.{lifted}
use Rattle.partition.specs.inner.Used.{Reaches, Weighs, PlaceFit, PairFit, Used, InUse}

reaches_prop : (bias : ℕ) (power : ℤ) → IsProp (Reaches bias power)
reaches_prop bias (pos k) = Unit-prop
reaches_prop bias (negsuc k) = le_prop

in_form_prop : (w : Weight) → IsProp (InForm w)
in_form_prop w a b = ap₂ (λ least most. record { least = least; most = most }) (le_prop a.least b.least) (le_prop a.most b.most)

weighs_prop : (bias : ℕ) (w : Weight) → IsProp (Weighs bias w)
weighs_prop bias w a b =
    ap₂ (λ (form : InForm w) (rest : Reaches bias w.power × (lifted bias w.power ≤ 2 * bias)). record { form = form; reaches = rest.0; low = rest.1 }) (in_form_prop w a.form b.form)
    (×_prop (reaches_prop bias w.power) le_prop (a.reaches, a.low) (b.reaches, b.low))

used_prop : (Place Pair : ℕ → ℕ → Type 0) → ((i x : ℕ) → IsProp (Place i x)) → ((x y : ℕ) → IsProp (Pair x y)) → (i : ℕ) (options : List (List ℕ)) → IsProp (Used Place Pair i options)
used_prop Place Pair p q i [] a b = Unit-prop a b
used_prop Place Pair p q i (here ∷ []) a b = Π_prop (λ x. →_prop (p i x)) a b
used_prop Place Pair p q i (here ∷ next ∷ later) a b =
    let places : IsProp ((x : ℕ) → Memᴰ x here → Place i x) = Π_prop (λ x. →_prop (p i x)) in
    let pairs : IsProp ((x y : ℕ) → Memᴰ x here → Memᴰ y next → Pair x y) = Π_prop (λ x. Π_prop (λ y. →_prop (→_prop (q x y)))) in
    ap₂ (λ (at : (x : ℕ) → Memᴰ x here → Place i x) (rest : ((x y : ℕ) → Memᴰ x here → Memᴰ y next → Pair x y) × Used Place Pair (suc i) (next ∷ later)). (at, rest.0, rest.1)) (places a.0 b.0)
    (×_prop pairs (used_prop Place Pair p q (suc i) (next ∷ later)) (a.1, a.2) (b.1, b.2))

pub in_use_prop : (w : Weights) (i : ℕ) (options : List (List ℕ)) → IsProp (InUse w i options)
in_use_prop w i options =
    used_prop (PlaceFit 400000 (place_weight w)) (PairFit 400000 (pair_weight w)) (λ i x. →_prop (weighs_prop 400000 (place_weight w i x))) (λ x y. →_prop (→_prop (weighs_prop 400000 (pair_weight w x y)))) i options
