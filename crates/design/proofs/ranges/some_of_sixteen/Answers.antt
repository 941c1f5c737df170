-- A lane is set where its number lies within, and all bits are set where all lanes are. Assumes nothing.
use mathlib.Core.Path.{◌≡◌, refl, sym, ap, ◌∙◌}
use mathlib.Core.Bool.{Bool, true, false, not, ◌&&◌, ◌||◌, cond}
use mathlib.Core.List.{List, [], ◌∷◌, map}
use Prim.Native.Nat.{ℕ, suc, ◌+◌, ◌-◌, ◌*◌, ◌%◌, ◌^◌, ◌<◌}
use native.Mathlib.Nat.{two-pow-succ}
use native.Mathlib.Omega.{arith}
use lib.Dec.{eqb}
use lib.Pow.{pow_pos}
use lib.ListN.{length, take, replicate}
use lib.Lanes.{zip2, mask_l, top}
use lib.Ieee.{Float, neg, le}
use borrow.Author.Tests.{ne_eqb}
use Rattle.std.proofs.lemmas.Bool.Decides.{nat_tests}
use Rattle.std.proofs.lemmas.List.{length-map, take_all}
use Rattle.std.proofs.lemmas.Simd.{mask_l-mod}
use Rattle.std.specs.Prelude.{bit_and}
use Rattle.doubles.specs.Range.{within}
use Rattle.lists.specs.Find.{any}
use Rattle.design.specs.Checks.{outside}
use Rattle.design.proofs.ranges.some_of_sixteen.Goals as goal

abbrev lane : Bool → ℕ
lane b = cond b (2 ^ 64 - 1) 0

set : (b c : Bool) → top 63 (bit_and (lane b) (lane c)) ≡ (b && c)
set true true = refl
set true false = refl
set false true = refl
set false false = refl

-- a lane is set where both comparisons hold
both-set : (low high : Float) (xs : List Float) → map (top 63) (zip2 bit_and (zip2 (λ (a b : Float). lane (le a b)) (replicate (length xs) low) xs) (zip2 (λ (a b : Float). lane (le a b)) xs (replicate (length xs) high))) ≡ map (within low high) xs
both-set low high [] = refl
both-set low high (x ∷ xs) = rw (set (le low x) (le x high), both-set low high xs) refl

-- a lane more: all bits are set where it passes and all others are
full : (n m : ℕ) → 0 < n → eqb (1 + 2 * m) (n + n - 1) ≡ eqb m (n - 1)
full n m p = grind (arith, nat_tests)

odd : (n m : ℕ) → 0 < n → eqb (0 + 2 * m) (n + n - 1) ≡ false
odd n m p = ne_eqb (0 + 2 * m) (n + n - 1) (λ e. omega arith)

more : (b : Bool) (k m : ℕ) → not (eqb (cond b 1 0 + 2 * m) (2 ^ suc k - 1)) ≡ (not b || not (eqb m (2 ^ k - 1)))
more true k m = rw (two-pow-succ k) (ap not (full (2 ^ k) m (pow_pos k)))
more false k m = rw (two-pow-succ k) (ap not (odd (2 ^ k) m (pow_pos k)))

-- a bit is not set where a lane fails
some-fails : (p : Float → Bool) (xs : List Float) → not (eqb (mask_l (map p xs)) (2 ^ length xs - 1)) ≡ any (λ (x : Float). not (p x)) xs
unfolding any
some-fails p [] = refl
some-fails p (x ∷ xs) = more (p x) (length xs) (mask_l (map p xs)) ∙ rw (some-fails p xs) refl

pub returns : goal.returns
returns c =
    let most = c.args.most in
    let xs = take 16 c.args.numbers.now in
    let loaded : xs ≡ c.args.numbers.now = take_all 16 c.args.numbers.now (omega (arith, c.told-numbers)) in
    let sixteen : length xs ≡ 16 = ap length loaded ∙ c.told-numbers in
    let ones : 2 ^ length xs - 1 ≡ 65535 = ap (λ (n : ℕ). 2 ^ n - 1) sixteen in
    let p = within (neg most) most in
    let bits = rw sixteen at (both-set (neg most) most xs) in
    ap (λ (ms : List Bool). not (eqb (mask_l ms % 2 ^ 64) 65535)) bits
    ∙ ap (λ (n : ℕ). not (eqb n 65535)) (mask_l-mod (map p xs) 64 (omega (arith, length-map xs p, sixteen)))
    ∙ rw (sym ones) (some-fails p xs)
    ∙ ap (any (outside (neg most) most)) loaded
