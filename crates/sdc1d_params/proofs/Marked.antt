-- A cell is marked exactly if one of its pair was met. Assumes nothing.
use mathlib.Core.Path.{◌≡◌, refl, ap, ap₂, sym, ◌∙◌}
use mathlib.Core.Bool.{Bool, true, false, cond, ◌&&◌, ◌||◌, or_assoc, or-false}
use mathlib.Core.List.{List, [], ◌∷◌}
use Prim.Native.Nat.{ℕ, zero, suc, ◌<◌}
use native.Mathlib.Decide.{ℕ_discrete}
use native.Mathlib.Omega.{arith}
use lib.Dec.{eqb}
use lib.ListN.{length, get_or, set, replicate, length-set, length-replicate}
use lib.Seq.{get_or-set_same, get_or-set_other}
use borrow.Author.Tests.{eq-eqb, ne_eqb}
use Rattle.lists.specs.Find.{any}
use Rattle.lists.specs.Fold.{foldl}
use Rattle.lists.specs.Each.{Each}
use Rattle.lists.specs.Build.{tabulate}
use Rattle.lists.proofs.Places.{tabulate-get_or}
use Rattle.lists.proofs.Each.{each-tabulate}
use Rattle.sdc1d_params.specs.Entries.{Cell, cell, is_written, same_pair}
use Rattle.sdc1d_params.specs.Tables.{place_of}
use Rattle.sdc1d_params.specs.inner.Cells.{mark_both, is_marked}

-- a cell of the tables
abbrev Inside : Cell → Type 0
Inside c = (c.row < 64) × (c.column < 64)

-- two cells of one place are one cell
places : (r c s d : ℕ) → c < 64 → d < 64 → eqb (place_of r c) (place_of s d) ≡ (eqb r s && eqb c d)
places r c s d h l = go (ℕ_discrete r s) (ℕ_discrete c d)
  where
    go : Dec (r ≡ s) → Dec (c ≡ d) → eqb (place_of r c) (place_of s d) ≡ (eqb r s && eqb c d)
    go (yes e) (yes f) = eq-eqb (place_of r c) (place_of s d) (ap₂ place_of e f) ∙ sym (rw (eq-eqb r s e, eq-eqb c d f))
    go (yes e) (no f) = ne_eqb (place_of r c) (place_of s d) (λ (z : place_of r c ≡ place_of s d). f (omega arith)) ∙ sym (rw (eq-eqb r s e, ne_eqb c d f))
    go (no e) f = ne_eqb (place_of r c) (place_of s d) (λ (z : place_of r c ≡ place_of s d). e (omega arith)) ∙ sym (rw (ne_eqb r s e))

-- what stands at a place after two stores
stored-two : (seen : List Bool) (a b k : ℕ) → a < length seen → b < length seen → get_or (set (set seen a true) b true) k false ≡ (get_or seen k false || (eqb k a || eqb k b))
stored-two seen a b k h l = go (ℕ_discrete k b) (ℕ_discrete k a)
  where
    last : (t u : Bool) → (t || (u || true)) ≡ true
    last true u = refl
    last false true = refl
    last false false = refl

    first : (t u : Bool) → (t || (true || u)) ≡ true
    first true u = refl
    first false u = refl

    none : (t : Bool) → (t || (false || false)) ≡ t
    none true = refl
    none false = refl

    go : Dec (k ≡ b) → Dec (k ≡ a) → get_or (set (set seen a true) b true) k false ≡ (get_or seen k false || (eqb k a || eqb k b))
    go (yes e) f = rw e (get_or-set_same (set seen a true) b true false (rw (length-set seen a true) l) ∙ sym (rw (eq-eqb b b refl) (last (get_or seen b false) (eqb b a))))
    go (no e) (yes f) =
        get_or-set_other (set seen a true) b k true false e ∙ rw f (get_or-set_same seen a true false h ∙ sym (rw (eq-eqb a a refl) (first (get_or seen a false) (eqb a b))))
    go (no e) (no f) =
        get_or-set_other (set seen a true) b k true false e ∙ get_or-set_other seen a k true false f ∙ sym (rw (ne_eqb k a f, ne_eqb k b e) (none (get_or seen k false)))

pub mark-length : (seen : List Bool) (d : Cell) → length (mark_both seen d) ≡ length seen
unfolding mark_both
mark-length seen d = go (is_written d)
  where
    go : (t : Bool) → length (cond t (set (set seen (place_of d.row d.column) true) (place_of d.column d.row) true) seen) ≡ length seen
    go true = simp length-set
    go false = refl

-- one cell more is met
mark-more : (seen : List Bool) (c d : Cell) → length seen ≡ 4096 → Inside c → Inside d → is_marked (mark_both seen d) c ≡ (is_marked seen c || same_pair c d)
unfolding is_marked mark_both same_pair
mark-more seen c d many inc ind = go (is_written c) (is_written d)
  where
    at : ℕ
    at = place_of c.row c.column

    swap : (t u v w : Bool) → ((t && u) || (v && w)) ≡ ((t && u) || (w && v))
    swap t u true true = refl
    swap t u true false = refl
    swap t u false true = refl
    swap t u false false = refl

    go : (w v : Bool) → (w && get_or (cond v (set (set seen (place_of d.row d.column) true) (place_of d.column d.row) true) seen) at false) ≡ ((w && get_or seen at false) || (w && v && (eqb c.row d.row && eqb c.column d.column || eqb c.row d.column && eqb c.column d.row)))
    go false v = refl
    go true true =
        stored-two seen (place_of d.row d.column) (place_of d.column d.row) at (omega (arith, ind.0, ind.1)) (omega (arith, ind.0, ind.1))
        ∙ ap (λ (b : Bool). get_or seen at false || b) (ap₂ (λ (x y : Bool). x || y) (places c.row c.column d.row d.column inc.1 ind.1) (places c.row c.column d.column d.row inc.1 ind.0))
    go true false = sym (or-false (get_or seen at false))

none-marked : (n : ℕ) (c : Cell) → is_marked (replicate n false) c ≡ false
unfolding is_marked
none-marked n c = go (is_written c)
  where
    empty : (m k : ℕ) → get_or (replicate m false) k false ≡ false
    empty zero k = refl
    empty (suc m) zero = refl
    empty (suc m) (suc k) = empty m k

    go : (t : Bool) → (t && get_or (replicate n false) (place_of c.row c.column) false) ≡ false
    go true = empty n (place_of c.row c.column)
    go false = refl

module _ (f : ℕ → Cell) where
  -- the table after the first i cells
  abbrev pub seen_after : ℕ → List Bool
  seen_after i = foldl mark_both (replicate 4096 false) (tabulate i f)

  fold-marked : (seen : List Bool) (cs : List Cell) (c : Cell) → length seen ≡ 4096 → Inside c → Each Inside cs → is_marked (foldl mark_both seen cs) c ≡ (is_marked seen c || any (same_pair c) cs)
  unfolding foldl any
  fold-marked seen [] c many inc each = sym (or-false (is_marked seen c))
  fold-marked seen (d ∷ cs) c many inc each =
      fold-marked (mark_both seen d) cs c (mark-length seen d ∙ many) inc each.1
      ∙ ap (λ (b : Bool). b || any (same_pair c) cs) (mark-more seen c d many inc each.0)
      ∙ or_assoc (is_marked seen c) (same_pair c d) (any (same_pair c) cs)

  pub marked-is : (i : ℕ) → ((k : ℕ) → k < i → ((f k).row < 64) × ((f k).column < 64)) → ((f i).row < 64) × ((f i).column < 64) → is_marked (seen_after i) (f i) ≡ any (same_pair (f i)) (tabulate i f)
  marked-is i h l =
      fold-marked (replicate 4096 false) (tabulate i f) (f i) (length-replicate 4096 false) l (each-tabulate Inside i f h)
      ∙ ap (λ (b : Bool). b || any (same_pair (f i)) (tabulate i f)) (none-marked 4096 (f i))

-- the cells of a list, by their places
abbrev pub nth : List Cell → ℕ → Cell
nth cells k = get_or cells k (cell 0 0)

pub listed : (cells : List Cell) → cells ≡ tabulate (length cells) (nth cells)
listed cells = sym (tabulate-get_or (cell 0 0) (length cells) cells refl)
