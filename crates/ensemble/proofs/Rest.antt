-- A loop that traces a configuration back, from its last place to its first. Assumes nothing.
use mathlib.Core.Path.{◌≡◌, refl, ap, ◌∙◌}
use mathlib.Core.List.{List, [], ◌∷◌}
use Prim.Native.Nat.{ℕ, zero, suc, ◌-◌, ◌<◌, ◌≤◌}
use native.Mathlib.Nat.{lt_irrefl}
use native.Mathlib.Numerals.{sub-one}
use native.Mathlib.Omega.{arith}
use lib.ListN.{length, drop, set, drop_of_length-le}
use lib.Seq.{drop-cons, drop-set-lt, get_or-set_same, lt-length-set}
use Rattle.model.specs.Search.{traced}
use Rattle.ensemble.specs.inner.Entries.{traced_back}

-- what is still to be traced, before a position: its occupant is the strand, and those to its right are written
abbrev pub Rest : (ℕ → ℕ → ℕ) → ℕ → ℕ → ℕ → ℕ → List ℕ → Type 0
Rest left n last zero strand s = s ≡ traced_back left n last
Rest left n last (suc p) strand s = traced left p strand (drop (suc p) s) ≡ traced_back left n last

nothing : (s : List ℕ) → length s ≡ 0 → s ≡ []
nothing [] e = refl
nothing (x ∷ s) e = absurd (omega arith)

pub rest-first : (left : ℕ → ℕ → ℕ) (n last : ℕ) (s : List ℕ) → length s ≡ n → Rest left n last n last s
unfolding traced_back
rest-first left zero last s e = nothing s e
rest-first left (suc p) last s e = rw (drop_of_length-le s (let l : length s ≤ suc p = omega arith in l)) refl

-- the part from a place on, once that is written
written : (s : List ℕ) (p strand : ℕ) → p < length s → drop p (set s p strand) ≡ strand ∷ drop (suc p) s
written s p strand h =
    drop-cons (set s p strand) p 0 (lt-length-set s p strand h)
    ∙ ap (λ (x : ℕ). x ∷ drop (suc p) (set s p strand)) (get_or-set_same s p strand 0 h)
    ∙ ap (λ (ys : List ℕ). strand ∷ ys) (drop-set-lt (suc p) s p strand (omega arith))

pub rest_more : (left : ℕ → ℕ → ℕ) (n last position strand next : ℕ) (s : List ℕ) → 0 < position → position ≤ length s → Rest left n last position strand s
    → next ≡ left (position - 1) strand → Rest left n last (position - 1) next (set s (position - 1) strand)
unfolding traced
rest_more left n last zero strand next s h l w e = absurd (lt_irrefl 0 h)
rest_more left n last (suc zero) strand next s h l w e = written s 0 strand l ∙ w
rest_more left n last (suc (suc q)) strand next s h l w e =
    let same : suc (suc q) - 1 ≡ suc q = sub-one (suc (suc q)) in
    let next-is : next ≡ left (suc q) strand = e ∙ ap (λ (p : ℕ). left p strand) same in
    rw same
    (ap (traced left q next) (written s (suc q) strand l) ∙ ap (λ (x : ℕ). traced left q x (strand ∷ drop (suc (suc q)) s)) next-is ∙ w)
