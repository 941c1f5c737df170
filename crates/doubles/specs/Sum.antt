-- Sums of doubles, each addition rounded once.
use Rattle.std.specs.Prelude.{List, [], ◌∷◌, Float}
use Rattle.std.specs.Float.{binary64}
use Rattle.std.specs.Float.Ieee.{add}

-- the terms added one after the other, left to right
unfoldable pub sum_from : Float → List Float → Float
sum_from sum [] = sum
sum_from sum (x ∷ xs) = sum_from (add binary64 sum x) xs
