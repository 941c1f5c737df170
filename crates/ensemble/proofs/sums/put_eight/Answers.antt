use mathlib.Core.Path.{◌≡◌, sym, ap, ◌∙◌}
use mathlib.Core.List.{◌++◌}
use Prim.Native.Nat.{ℕ, ◌+◌, ◌-◌}
use native.Mathlib.Omega.{arith}
use lib.ListN.{length, get_or, take, drop, length-drop, get_or-append}
use lib.Seq.{length-take-le, get_or-append-add}
use lib.Lanes.{put_chunk}
use lib.Ieee.{nan}
use Rattle.std.proofs.lemmas.Simd.{get_or-put_chunk_at, length-put_chunk}
use Rattle.ensemble.proofs.sums.put_eight.Goals as goal

pub returns-clause-put : goal.returns-clause-put
returns-clause-put c = λ lane h.
    let best = c.args.best.now in
    let right = c.args.right in
    let least = c.args.least in
    let mid = take (64 - right) (drop right best) in
    let rest = drop (64 - right) (drop right best) in
    let eight = c.fits-least.0 in
    let front : length (take right best) ≡ right = length-take-le right best (omega (arith, c.told-best, c.requires)) in
    let wide : length mid ≡ 64 - right = length-take-le (64 - right) (drop right best) (omega (arith, length-drop right best, c.told-best)) in
    let stored : length (put_chunk 0 mid least) ≡ length mid = length-put_chunk 0 mid least in
    ap (λ (n : ℕ). get_or (take right best ++ (put_chunk 0 mid least ++ rest)) (n + lane) nan) (sym front)
    ∙ get_or-append-add (take right best) (put_chunk 0 mid least ++ rest) lane nan
    ∙ get_or-append (put_chunk 0 mid least) rest nan lane (omega (arith, stored, wide, c.requires, h))
    ∙ ap (λ (n : ℕ). get_or (put_chunk 0 mid least) n nan) (let first : lane ≡ 0 + lane = omega arith in first)
    ∙ get_or-put_chunk_at 0 mid least lane nan (omega (arith, eight, h)) (omega (arith, eight, wide, c.requires))
