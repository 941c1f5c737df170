-- Rows of options that are copied for positions with a glue that was met before. Assumes nothing.
use mathlib.Core.Path.{◌≡◌, sym, ap, ◌∙◌}
use mathlib.Core.List.{List, ◌++◌}
use Prim.Native.Nat.{ℕ, ◌+◌, ◌*◌, ◌-◌, ◌<◌, ◌≤◌}
use native.Mathlib.Decide.{ℕ_discrete}
use native.Mathlib.Omega.{arith}
use lib.ListN.{length, get_or, set, take, drop, length-take, length-drop}
use lib.Seq.{get_or-set_same, get_or-set_other}
use Rattle.std.specs.List.{copy_within}
use Rattle.std.proofs.lemmas.List.{append_assoc, drop-drop}
use Rattle.design.proofs.Optioned.{RowAt, rows_more}
use Rattle.design.proofs.Parts.{with_part}

-- of the glues met among the first i positions there is a position whose friends are those of the glue
abbrev pub Met : (ℕ → List ℕ) → (ℕ → List ℕ) → ℕ → List ℕ → Type 0
Met friends of_glue i met = (glue : ℕ) → glue < 64 → 0 < get_or met glue 0 → (get_or met glue 0 ≤ i) × (friends (get_or met glue 0 - 1) ≡ of_glue glue)

pub met-later : (friends of_glue : ℕ → List ℕ) (i : ℕ) (met : List ℕ) → Met friends of_glue i met → Met friends of_glue (i + 1) met
met-later friends of_glue i met w glue h some = let v = w glue h some in (omega (arith, v.0), v.1)

pub met-more : (friends of_glue : ℕ → List ℕ) (i : ℕ) (met : List ℕ) (new : ℕ) → new < length met → friends i ≡ of_glue new → Met friends of_glue i met → Met friends of_glue (i + 1) (set met new (i + 1))
met-more friends of_glue i met new inside e w glue h some = go (ℕ_discrete glue new)
  where
    go : Dec (glue ≡ new) → (get_or (set met new (i + 1)) glue 0 ≤ i + 1) × (friends (get_or (set met new (i + 1)) glue 0 - 1) ≡ of_glue glue)
    go (yes same) =
        let at : get_or (set met new (i + 1)) glue 0 ≡ i + 1 = ap (λ (g : ℕ). get_or (set met new (i + 1)) g 0) same ∙ get_or-set_same met new (i + 1) 0 inside in
        let back : i + 1 - 1 ≡ i = omega arith in
        (omega (arith, at), rw (at, back) (e ∙ ap of_glue (sym same)))
    go (no other) =
        let at = get_or-set_other met new glue (i + 1) 0 other in
        let v = met-later friends of_glue i met w glue h (rw at at some) in
        rw at v

copy-is : (rows : List ℕ) (from to : ℕ) → copy_within rows from (from + 64) to ≡ with_part rows to 64 (take 64 (drop from rows))
copy-is rows from to =
    let size : from + 64 - from ≡ 64 = omega arith in
    rw size (append_assoc (take to rows) (take 64 (drop from rows)) (drop (to + 64) rows) ∙ ap (λ (rest : List ℕ). take to rows ++ (take 64 (drop from rows) ++ rest)) (sym (drop-drop 64 to rows)))

-- the row of position p, copied for position i, which has the same friends
pub copied-row : (friends : ℕ → List ℕ) (rows counts : List ℕ) (i p : ℕ) → 64 * i + 64 ≤ length rows → i < length counts → p < i → friends p ≡ friends i → ((k : ℕ) → k < i → RowAt friends rows counts k)
    → (k : ℕ) → k < i + 1 → RowAt friends (copy_within rows (64 * p) (64 * p + 64) (64 * i)) (set counts i (get_or counts p 0)) k
copied-row friends rows counts i p inside here earlier same old =
    let row = take 64 (drop (64 * p) rows) in
    let full : length row ≡ 64 = simp (length-take, length-drop) (omega arith) in
    rw (copy-is rows (64 * p) (64 * i)) (rows_more friends rows counts i row (get_or counts p 0) inside here full old (rw (sym same) (old p earlier)))
