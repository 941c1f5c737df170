-- What a text is: UTF-8, and control characters byte by byte. Assumes nothing.
use mathlib.Core.Path.{◌≡◌, refl}
use mathlib.Core.Bool.{Bool, true, false, ◌||◌}
use mathlib.Core.List.{List}
use Prim.Native.Nat.{ℕ, ◌+◌, ◌<◌, ◌≤◌}
use native.Mathlib.Numerals.{add-one}
use lib.ListN.{length, get_or, drop, drop_of_length-le}
use lib.Seq.{drop-cons}
use Rattle.std.specs.Prelude.{not}
use Rattle.std.specs.Str.{IsUtf8, is_utf8}
use Rattle.std.proofs.lemmas.Str.{IsUtf8-from_is_utf8, is_utf8-from_IsUtf8}
use Rattle.answers.specs.Shown.{is_control, has_control, is_text}

module _ (bytes : List ℕ) (i before : ℕ) where
  control_step : (d : ℕ) → i < length bytes
      → has_control before (drop i bytes) ≡ (is_control before (get_or bytes i d) || has_control (get_or bytes i d) (drop (i + 1) bytes))
  unfolding has_control
  control_step d h = rw (drop-cons bytes i d h) (simp add-one)

  -- found before, or here, or later
  pub control_on : (d : ℕ) → i < length bytes → (found : Bool)
      → (found || has_control before (drop i bytes)) ≡ ((found || is_control before (get_or bytes i d)) || has_control (get_or bytes i d) (drop (i + 1) bytes))
  control_on d h true = refl
  control_on d h false = control_step d h

  -- none where no byte is left
  pub control_past : length bytes ≤ i → (found : Bool) → (found || has_control before (drop i bytes)) ≡ found
  unfolding has_control
  control_past h true = refl
  control_past h false = rw (drop_of_length-le bytes h) refl

module _ (bytes : List ℕ) where
  -- well-formed bytes are a text unless a control character is among them
  pub text_so : IsUtf8 bytes → (b : Bool) → b ≡ has_control 0 bytes → not b ≡ is_text bytes
  text_so u b e = rw (is_utf8-from_IsUtf8 bytes u, e) refl

  -- and others are none
  pub no_text : ¬ (IsUtf8 bytes) → false ≡ is_text bytes
  no_text n = by_case (is_utf8 bytes) refl
    where
      by_case : (b : Bool) → is_utf8 bytes ≡ b → false ≡ is_text bytes
      by_case true e = absurd (n (IsUtf8-from_is_utf8 bytes e))
      by_case false e = rw e refl
