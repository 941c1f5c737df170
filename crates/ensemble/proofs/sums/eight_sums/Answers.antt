use mathlib.Core.Path.{◌≡◌, ap₂, ◌∙◌}
use native.Mathlib.Omega.{arith}
use lib.ListN.{length, replicate, length-replicate, get_or-replicate}
use lib.Lanes.{chunk}
use lib.Ieee.{nan, binary64, add}
use Rattle.std.proofs.lemmas.Simd.{get_or-zip2, get_or-chunk, length-chunk}
use Rattle.ensemble.proofs.sums.eight_sums.Goals as goal

pub returns : goal.returns
returns c = λ lane h.
    let bonds = c.args.bonds.now in
    let energy = c.args.energy in
    let right = c.args.right in
    let full = length-chunk right 8 bonds c.requires in
    let same : length (replicate 8 energy) ≡ 8 = length-replicate 8 energy in
    get_or-zip2 (add binary64) (replicate 8 energy) (chunk right 8 bonds) lane nan nan nan (omega (arith, same, h)) (omega (arith, full, h))
    ∙ ap₂ (add binary64) (get_or-replicate 8 lane energy nan h) (get_or-chunk right 8 bonds lane nan h)
