-- Bases: the letters that stand for them, and which two pair.
use Rattle.std.specs.Prelude.{Bool, cond, not, ◌||◌, List, map, ℕ, eqb}
use Rattle.utils.specs.declared.bases.DnaNucleotideBase.{DnaNucleotideBase}
use Rattle.utils.specs.declared.bases.DnaNucleotideBase.TheVariants.{A, T, G, C}

-- a base, under the name that the Rust has for it
abbrev pub Base : Type 0
Base = DnaNucleotideBase

-- a letter in lower or in upper case
abbrev pub is_letter : ℕ → ℕ → ℕ → Bool
is_letter lower upper byte = eqb byte lower || eqb byte upper

-- a, c, g, t in either case
unfoldable pub is_base : ℕ → Bool
is_base byte = is_letter 97 65 byte || is_letter 99 67 byte || is_letter 103 71 byte || is_letter 116 84 byte

-- a byte that stands for no base: refusal 2
abbrev pub not_a_base : ℕ → Bool
not_a_base byte = not (is_base byte)

-- the base that a letter stands for. A byte that is none of the letters is refused before its base is asked.
unfoldable pub base_of : ℕ → Base
base_of byte = cond (is_letter 97 65 byte) A (cond (is_letter 116 84 byte) T (cond (is_letter 103 71 byte) G C))

-- the bases of a sequence
unfoldable pub bases : List ℕ → List Base
bases sequence = map base_of sequence

-- the base that pairs with this one
abbrev pub complement : Base → Base
complement A = T
complement T = A
complement G = C
complement C = G

-- the Rust's numbers of the bases, in whose order its tables stand
abbrev pub index_of : Base → ℕ
index_of A = 0
index_of T = 1
index_of G = 2
index_of C = 3

-- one base, told by its number
abbrev pub same : Base → Base → Bool
same a b = eqb (index_of a) (index_of b)

-- the two bases pair
abbrev pub complementary : Base → Base → Bool
complementary a b = same (complement a) b
