-- Names of glues: a base and stars after it. Names are lists of bytes; stars inside or in front are bytes like any other.
use Rattle.std.specs.Prelude.{Bool, true, false, cond, ◌&&◌, List, [], ◌∷◌, ℕ, suc, ◌-◌, ◌%◌, eqb, leb, length, take}

-- a name, as its bytes
abbrev pub Name : Type 0
Name = List ℕ

-- the byte `*`
abbrev pub is_star : ℕ → Bool
is_star byte = eqb byte 42

-- the length of a name without its trailing stars: a star counts where something other than stars comes after it
unfoldable pub base_length : Name → ℕ
base_length [] = 0
base_length (byte ∷ rest) = cond (is_star byte && eqb (base_length rest) 0) 0 (suc (base_length rest))

-- document 01: "a name's trailing `*` bytes are stripped to its base"
unfoldable pub base_of : Name → Name
base_of name = take (base_length name) name

-- the trailing stars
unfoldable pub stars_of : Name → ℕ
stars_of name = length name - base_length name

-- document 02: "a strand or entry name that ends in two or more stars" retires
abbrev pub is_retired : Name → Bool
is_retired name = leb 2 (stars_of name)

-- "an even number means the base, an odd number the base with one `*`"
unfoldable pub is_from : Name → Bool
is_from name = eqb (stars_of name % 2) 0

-- the same bytes
unfoldable pub same_name : Name → Name → Bool
same_name [] [] = true
same_name [] (b ∷ bs) = false
same_name (a ∷ rest) [] = false
same_name (a ∷ rest) (b ∷ bs) = eqb a b && same_name rest bs
