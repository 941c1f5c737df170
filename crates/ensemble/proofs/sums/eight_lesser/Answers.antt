use mathlib.Core.Path.{◌≡◌, refl, ap, ◌∙◌}
use mathlib.Core.Bool.{Bool}
use mathlib.Core.List.{List, [], ◌∷◌}
use native.Mathlib.Omega.{arith}
use lib.ListN.{get_or}
use lib.Lanes.{zip2, sel_l}
use lib.Ieee.{Float, nan, lt}
use mir.Syntax.{w64}
use Rattle.std.proofs.lemmas.Simd.{tops_compared, get_or-zip2}
use Rattle.ensemble.specs.inner.Entries.{lesser}
use Rattle.ensemble.proofs.sums.eight_lesser.Goals as goal

selected : (xs ys : List Float) → sel_l (zip2 lt xs ys) xs ys ≡ zip2 lesser xs ys
selected [] ys = refl
selected (x ∷ xs) [] = refl
selected (x ∷ xs) (y ∷ ys) = ap (λ (zs : List Float). lesser x y ∷ zs) (selected xs ys)

pub returns : goal.returns
returns c = λ lane h.
    let xs = c.args.least in
    let ys = c.args.sum in
    ap (λ (zs : List Float). get_or zs lane nan) (ap (λ (ms : List Bool). sel_l ms xs ys) (tops_compared w64 lt xs ys) ∙ selected xs ys)
    ∙ get_or-zip2 lesser xs ys lane nan nan nan (omega (arith, c.fits-least.0)) (omega (arith, c.fits-sum.0))
