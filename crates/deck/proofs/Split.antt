-- A word and its kind and payload. Assumes nothing.
use mathlib.Core.Path.{◌≡◌}
use Prim.Native.Nat.{ℕ, ◌<◌, ◌^◌}
use native.Mathlib.Omega.{arith}
use Rattle.deck.specs.Word.{kind_of, payload_of, word_of}

module _ (kind payload : ℕ) (fits : payload < 2 ^ 28) where
  pub kind-word : kind_of (word_of kind payload) ≡ kind
  kind-word = omega arith

  pub payload-word : payload_of (word_of kind payload) ≡ payload
  payload-word = omega arith

pub word_split : (word : ℕ) → word_of (kind_of word) (payload_of word) ≡ word
word_split word = omega arith
