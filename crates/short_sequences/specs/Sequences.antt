-- Document 02's short sequences: all of 2 to 8 bases in lower case, shorter first, then alphabetically. Those of one length are the ways to take one
-- letter at each place, the last place fastest, as the states of a model are listed.
use Rattle.std.specs.Prelude.{List, [], ◌∷◌, ◌++◌, ℕ, zero, suc, get_or, replicate}
use Rattle.model.specs.States.{listing}

-- a, c, g, t
abbrev pub letters : List ℕ
letters = 97 ∷ 99 ∷ 103 ∷ 116 ∷ []

-- those of so many bases
abbrev pub of_length : ℕ → List (List ℕ)
of_length n = listing (replicate n letters)

-- those of so many lengths, from the shortest on
unfoldable pub of_lengths : ℕ → ℕ → List (List ℕ)
of_lengths zero shortest = []
of_lengths (suc more) shortest = of_length shortest ++ of_lengths more (suc shortest)

-- of 2, 3, .. up to 8 bases: seven lengths
abbrev pub sequences : List (List ℕ)
sequences = of_lengths 7 2

-- how many there are: 4² + 4³ + .. + 4⁸
abbrev pub sequence_count : ℕ
sequence_count = 87376

-- the sequence at a rank, counted from 0
abbrev pub sequence_at : ℕ → List ℕ
sequence_at rank = get_or sequences rank []
