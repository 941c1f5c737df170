-- Letters of sequences and names, as bytes.
use Rattle.std.specs.Prelude.{ℕ}

-- the letter A
abbrev pub A : ℕ
A = 65

-- the letter C
abbrev pub C : ℕ
C = 67

-- the letter G
abbrev pub G : ℕ
G = 71

-- the letter T
abbrev pub T : ℕ
T = 84
