-- A pattern of bits stands for a number of 64 bits. Assumes nothing.
use Rattle.std.proofs.Common.{◌≡◌, ◌∙◌, sym, ap, subst, Bool, true, List, ℕ, ◌+◌, ◌-◌, ◌*◌, ◌^◌, ◌≤◌, ◌<◌, length, get_or, drop, length-drop, refl}
use mathlib.Core.Bool.{false, ◌&&◌, false≢true}
use native.Mathlib.Nat.{le_of_suc-le-suc}
use lib.Dec.{eqb}
use borrow.Author.Tests.{eqb-true}
use Rattle.lists.proofs.Find.{each-fails}
use Rattle.decimals.specs.Digits.{not_digit, digit_run, numeral}
use Rattle.decimals.specs.Number.{is_pattern}
use Rattle.decimals.proofs.Worth.{numeral-below}

both : (a b : Bool) → (a && b) ≡ true → (a ≡ true) × (b ≡ true)
both true b e = (refl, e)
both false b e = absurd (false≢true e)

pub pattern_below : (word : List ℕ) → is_pattern word ≡ true → numeral 16 0 (drop 2 word) ≤ 18446744073709551615
pattern_below word is =
    let parts = both (eqb (length word) 18 && eqb (get_or word 0 0) 48 && eqb (get_or word 1 0) 120) (eqb (digit_run 16 (drop 2 word)) 16) is in
    let size : length word ≡ 18 = eqb-true (length word) 18 (both _ _ (both _ _ parts.0).0).0 in
    let run : digit_run 16 (drop 2 word) ≡ 16 = eqb-true (digit_run 16 (drop 2 word)) 16 parts.1 in
    let n : length (drop 2 word) ≡ 16 = length-drop 2 word ∙ ap (◌- 2) size in
    let below = numeral-below 16 0 (drop 2 word) (each-fails (not_digit 16) 0 (drop 2 word) (run ∙ sym n)) in
    le_of_suc-le-suc (subst (λ (k : ℕ). numeral 16 0 (drop 2 word) < (0 + 1) * 16 ^ k) n below)
