-- The paper's terms after the pairs: the sum taken one term after the other, and the reverse complement place by place. Assumes nothing.
use mathlib.Core.Path.{◌≡◌, refl, ap, ◌∙◌}
use mathlib.Core.Bool.{Bool, true, false, ◌&&◌}
use mathlib.Core.List.{List, [], ◌∷◌, ◌++◌, map, reverse, reverse-cons}
use Prim.Native.Nat.{ℕ, ◌-◌, ◌<◌, ◌≤◌}
use native.Mathlib.Omega.{arith}
use lib.Ieee.{Float, binary64, add}
use lib.ListN.{length, get_or}
use Rattle.std.specs.List.{list_all, zip}
use Rattle.std.proofs.lemmas.List.{map-append, length-reverse, get_or-reverse}
use Rattle.std.proofs.lemmas.Slice.Zip.{get_or-zip, length-zip}
use Rattle.doubles.specs.Sum.{sum_from}
use Rattle.doubles.proofs.Sums.{sum-append}
use Rattle.lists.specs.Find.{any}
use Rattle.utils.specs.Bases.{Base, base_of, bases, is_base, not_a_base, complement, complementary, index_of}
use Rattle.utils.specs.Terms.{is_a_or_t, same_bases, self_complementary, first_base, last_base, end_term, symmetry_term, terms_after}
use Rattle.utils.specs.declared.bases.DnaNucleotideBase.TheVariants.{A, T, G, C}
use Rattle.utils.proofs.Letters.{base-in}
use Rattle.utils.proofs.Neighbours.{base-at, bases-length}

-- the sum of the terms, one after the other
pub terms-sum : (x start end symmetry : Float) (s : List Base)
    → sum_from x (terms_after start end symmetry s) ≡ sum_from (sum_from (sum_from (add binary64 x start) (end_term end (first_base s))) (end_term end (last_base s))) (symmetry_term symmetry s)
unfolding terms_after sum_from
terms-sum x start end symmetry s =
    sum-append (add binary64 x start) (end_term end (first_base s)) (end_term end (last_base s) ++ symmetry_term symmetry s)
    ∙ sum-append (sum_from (add binary64 x start) (end_term end (first_base s))) (end_term end (last_base s)) (symmetry_term symmetry s)

-- the ends of the bases are the bases of the ends
pub base-of : (s : List ℕ) (i : ℕ) → get_or (bases s) i C ≡ base_of (get_or s i 0)
unfolding base_of
base-of s i = base-at s i

-- what the code adds, one term after the other, is the sum
pub by-the-paper : (dna : List ℕ) (stacks start end symmetry : Float) {begun first last all : Float} → begun ≡ add binary64 stacks start
    → first ≡ sum_from begun (end_term end (base_of (get_or dna 0 0))) → last ≡ sum_from first (end_term end (base_of (get_or dna (length dna - 1) 0)))
    → all ≡ sum_from last (symmetry_term symmetry (bases dna)) → all ≡ sum_from stacks (terms_after start end symmetry (bases dna))
by-the-paper dna stacks start end symmetry b f l a =
    a ∙ rw (l, f, b, terms-sum stacks start end symmetry (bases dna), base-of dna 0, bases-length dna, base-of dna (length dna - 1))

-- A and T have the lowest two numbers
pub low-number : (b : Base) → index_of b < 2 → is_a_or_t b ≡ true
low-number A h = refl
low-number T h = refl
low-number G h = absurd (omega arith)
low-number C h = absurd (omega arith)

pub high-number : (b : Base) → 2 ≤ index_of b → is_a_or_t b ≡ false
high-number A h = absurd (omega arith)
high-number T h = absurd (omega arith)
high-number G h = refl
high-number C h = refl

-- ---- the reverse complement

bases_reverse : (s : List ℕ) → bases (reverse s) ≡ reverse (bases s)
unfolding bases
bases_reverse [] = refl
bases_reverse (x ∷ s) = rw (reverse-cons x s, reverse-cons (base_of x) (map base_of s), map-append base_of (reverse s) (x ∷ [])) (ap (◌++ (base_of x ∷ [])) (bases_reverse s))

-- two letters that pair
abbrev pub pairs : ℕ × ℕ → Bool
pairs p = complementary (base_of p.0) (base_of p.1)

-- each letter pairs with the one beside it
all_pair : (back front : List ℕ) → length back ≡ length front → list_all pairs (zip back front) ≡ same_bases (map complement (bases back)) (bases front)
unfolding bases same_bases
all_pair [] [] e = refl
all_pair [] (y ∷ front) e = absurd (omega arith)
all_pair (x ∷ back) [] e = absurd (omega arith)
all_pair (x ∷ back) (y ∷ front) e = ap (complementary (base_of x) (base_of y) &&◌) (all_pair back front (omega arith))

-- of letters and the same from the last to the first
pub all_symmetric : (s : List ℕ) → list_all pairs (zip (reverse s) s) ≡ self_complementary (bases s)
unfolding self_complementary
all_symmetric s = all_pair (reverse s) s (length-reverse s) ∙ ap (λ (t : List Base). same_bases (map complement t) (bases s)) (bases_reverse s)

-- each that is looked at is a base
pub both-bases : (s : List ℕ) (k : ℕ) (d : ℕ × ℕ) → any not_a_base s ≡ false → k < length (zip (reverse s) s) → d ≡ get_or (zip (reverse s) s) k d → (is_base d.0 ≡ true) × (is_base d.1 ≡ true)
both-bases s k d b h e =
    let long = length-reverse s in
    let size = length-zip (reverse s) s in
    let inside : k < length s = omega (arith, h, long, size) in
    let here = e ∙ get_or-zip (reverse s) s k d (omega (arith, long, inside)) inside in
    let back : d.0 ≡ get_or s (length s - 1 - k) d.0 = ap (λ (p : ℕ × ℕ). p.0) here ∙ get_or-reverse s k d.0 inside in
    let front : d.1 ≡ get_or s k d.1 = ap (λ (p : ℕ × ℕ). p.1) here in
    (ap is_base back ∙ base-in s (length s - 1 - k) d.0 b (omega (arith, inside)), ap is_base front ∙ base-in s k d.1 b inside)
