-- Numbers in the words of a line, one after the other. Assumes nothing.
use Rattle.std.proofs.Common.{◌≡◌, ℕ, zero, suc, ◌*◌, ◌<◌, List, [], ◌∷◌, length, get_or, take, drop, sym, ◌∙◌, refl, arith, take-append-drop, length-drop}
use native.Mathlib.Nat.{suc-mul}
use Rattle.std.specs.Simd.{first_chunks}
use Rattle.replay.specs.Text.{texts}
use Rattle.replay.specs.Says.{Says}
use Rattle.replay.proofs.Values.{said-as}

-- a text is those of numbers where each of its parts of one size is that of one
pub chunks-text : (size : ℕ) (text_of : ℕ → List ℕ) (n : ℕ) (text numbers : List ℕ) → length numbers ≡ n → length text ≡ n * size
    → ((k : ℕ) → k < n → get_or (first_chunks size n text) k [] ≡ text_of (get_or numbers k 0)) → text ≡ texts text_of numbers
unfolding texts
chunks-text size text_of zero [] [] m l h = refl
chunks-text size text_of zero (x ∷ text) numbers m l h = absurd (omega arith)
chunks-text size text_of zero [] (f ∷ numbers) m l h = absurd (omega arith)
chunks-text size text_of (suc n) text [] m l h = absurd (omega arith)
chunks-text size text_of (suc n) text (f ∷ numbers) m l h =
    let first : take size text ≡ text_of f = h 0 (omega arith) in
    let split = suc-mul n size in
    let left : length (drop size text) ≡ n * size = omega (arith, length-drop size text, split) in
    let later = chunks-text size text_of n (drop size text) numbers (omega arith) left (λ k b. h (suc k) (omega arith)) in
    sym (take-append-drop size text) ∙ rw (first, later)

-- the same said of equal words, numbers and figures
pub says-as : {v w : List ℕ} {m n : ℕ} {fs gs : List ℕ} → v ≡ w → m ≡ n → fs ≡ gs → Says v m fs → Says w n gs
says-as p q r s = said-as Says p q r s
