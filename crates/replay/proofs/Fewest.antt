-- A number takes as many decimal digits as `places` counts, and no fewer do. Assumes nothing.
use Rattle.std.proofs.Common.{arith, sub-one, inl, inr}
use Rattle.std.proofs.lemmas.Bool.{cases_lt}
use Prim.Native.Nat.{ℕ, zero, suc, ◌-◌, ◌/◌, ◌^◌, ◌≤◌, ◌<◌}
use native.Mathlib.Nat.{not-suc-le-zero, pow-suc, zero-lt-suc, div-lt_iff_lt-mul, le-div_iff_mul-le}
use Rattle.decimals.specs.Digits.{places}
use Rattle.decimals.proofs.Written.{places-more, places-one, tenth-lt}
use Rattle.replay.specs.Digits.{IsDigitCount}

fewest-one : (more n : ℕ) → n < 10 → IsDigitCount 10 1 n (places 10 more n)
fewest-one more n h = rw (places-one more n h) (omega arith, omega arith, λ l. absurd (omega (arith, l)))

-- where n / 10 takes k digits, n takes one more
lower : (k n : ℕ) → 1 ≤ k → 10 ≤ n → (1 < k → 10 ^ (k - 1) ≤ n / 10) → 10 ^ k ≤ n
lower zero n p h f = absurd (not-suc-le-zero p)
lower (suc zero) n p h f = omega arith
lower (suc (suc j)) n p h f =
    let left = rw (sub-one (suc (suc j))) at (f (omega arith)) in
    rw (pow-suc 10 (suc j)) ((le-div_iff_mul-le (zero-lt-suc 9)).0 left)

fewest-more : (more n : ℕ) → 10 ≤ n → IsDigitCount 10 1 (n / 10) (places 10 more (n / 10)) → IsDigitCount 10 1 n (places 10 (suc more) n)
fewest-more more n h few =
    let k = places 10 more (n / 10) in
    let within : n < 10 ^ suc k = rw (pow-suc 10 k) ((div-lt_iff_lt-mul (zero-lt-suc 9)).0 few.1) in
    rw (places-more more n h, sub-one (suc k)) (omega arith, within, λ _. lower k n few.0 h few.2)

pub places-fewest : (more n : ℕ) → n < 10 ^ suc more → IsDigitCount 10 1 n (places 10 more n)
places-fewest zero n h = fewest-one zero n (omega (arith, h))
places-fewest (suc more) n h =
    elim (cases_lt n 10) [
      | inl l ↦ fewest-one (suc more) n l
      | inr l ↦ fewest-more more n l (places-fewest more (n / 10) (tenth-lt (suc more) n h))
    ]
