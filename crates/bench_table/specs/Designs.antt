-- The designs that the bench table speaks of.
use Rattle.std.specs.Prelude.{List, [], ◌∷◌, set, replicate, Float}
use Rattle.doubles.specs.Decimal.{plus, minus, nearest, zero}
use Rattle.units.specs.declared.Ambient.{Ambient}
use Rattle.design.specs.declared.Amounts.TheVariants.{Potentials}
use Rattle.design.specs.Design.{Design, design}

-- RT 0.5, and no excess
abbrev pub half : Ambient
half = record { rt = record { 0 = nearest (plus 5 1) }; strand_excess = record { 0 = zero }; scaffold_excess = record { 0 = zero } }

-- a glue table in which nothing binds
abbrev pub zeros : List Float
zeros = replicate 4096 zero

-- "no position"
unfoldable pub bare : Design
unfolding nearest
bare = design [] [] (0 ∷ 0 ∷ 0 ∷ []) zeros zeros (zero ∷ []) Potentials half

-- "RT 0.5, one friend 1", with dG as given, dS 0 and potential −1
unfoldable pub one_position : Float → Design
unfolding nearest
one_position dg = design (1 ∷ []) (0 ∷ []) (0 ∷ 0 ∷ 0 ∷ 0 ∷ 1 ∷ 0 ∷ []) (set zeros 65 dg) zeros (zero ∷ nearest (minus 1 0) ∷ []) Potentials half

-- "that position" with dG −0.5, "then one with friend 2 (dG −2, potential −1), strand bonds 0"
unfoldable pub two_positions : Design
unfolding nearest
two_positions =
    design (1 ∷ 2 ∷ []) (0 ∷ 0 ∷ []) (0 ∷ 0 ∷ 0 ∷ 0 ∷ 1 ∷ 0 ∷ 0 ∷ 2 ∷ 0 ∷ []) (set (set zeros 65 (nearest (minus 5 1))) 130 (nearest (minus 2 0))) zeros
    (zero ∷ nearest (minus 1 0) ∷ nearest (minus 1 0) ∷ []) Potentials half
