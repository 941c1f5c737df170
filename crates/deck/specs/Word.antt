-- A deck's words: "32-bit words, top 4 bits the kind, low 28 the payload".
use Rattle.std.specs.Prelude.{ℕ, ◌+◌, ◌*◌, ◌/◌, ◌%◌, ◌^◌}

-- the top 4 bits
abbrev pub kind_of : ℕ → ℕ
kind_of word = word / 2 ^ 28

-- the low 28 bits
abbrev pub payload_of : ℕ → ℕ
payload_of word = word % 2 ^ 28

-- the word of a kind and a payload
abbrev pub word_of : ℕ → ℕ → ℕ
word_of kind payload = kind * 2 ^ 28 + payload
