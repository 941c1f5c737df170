-- The error rule: what k cut operations may lose. Each loses at most one part in 2^30 of what it gives. Assumes nothing.
use mathlib.Core.Path.{◌≡◌}
use Prim.Native.Nat.{ℕ, zero, suc, ◌+◌, ◌-◌, ◌*◌, ◌^◌, ◌≤◌, ◌<◌}
use native.Mathlib.Nat.{le_trans, le_refl, mul-le-mul, mul-le-mul_right, mul-le-mul_left, le_of_mul-le-mul_right, mul-mul-mul_comm, pow-suc, pow-zero, pow-le-pow_left, one-le-pow, le_dest, add-zero, add-suc, zero-lt-suc}
use native.Mathlib.Omega.{arith}
use lib.Pow.{pow-add}
use lib.Dec.{lit<}

-- 2^30, of which one part may be lost
unfoldable pub parts : ℕ
parts = 2 ^ 30

-- r ≤ x ≤ r (1 + 1 / parts)^k
pub record Loses (k x r : ℕ) : Type 0 where
  pub under : r ≤ x
  pub near : x * parts ^ k ≤ r * suc parts ^ k

pub loses-none : (x : ℕ) → Loses 0 x x
loses-none x = record { under = le_refl x; near = rw (pow-zero parts, pow-zero (suc parts)) (le_refl _) }

chain-alg : (x y r a b c d : ℕ) → x * a ≤ y * c → y * b ≤ r * d → x * (a * b) ≤ r * (c * d)
chain-alg x y r a b c d h g = omega (arith, mul-le-mul_right b h, mul-le-mul_right c g)

-- one after the other
pub loses-then : {j k x y r : ℕ} → Loses j x y → Loses k y r → Loses (j + k) x r
loses-then {j} {k} {x} {y} {r} p q = record {
  under = le_trans q.under p.under;
  near = rw (pow-add parts j k, pow-add (suc parts) j k) (chain-alg x y r (parts ^ j) (parts ^ k) (suc parts ^ j) (suc parts ^ k) p.near q.near);
}

-- products add what they lose
pub loses-times : {j k x y r s : ℕ} → Loses j x r → Loses k y s → Loses (j + k) (x * y) (r * s)
loses-times {j} {k} {x} {y} {r} {s} p q = record {
  under = mul-le-mul p.under q.under;
  near = rw (pow-add parts j k, pow-add (suc parts) j k, mul-mul-mul_comm x y (parts ^ j) (parts ^ k), mul-mul-mul_comm r s (suc parts ^ j) (suc parts ^ k)) (mul-le-mul p.near q.near);
}

-- sums lose no more than each summand
pub loses-plus : {k x y r s : ℕ} → Loses k x r → Loses k y s → Loses k (x + y) (r + s)
loses-plus {k} {x} {y} {r} {s} p q = record {
  under = omega (arith, p.under, q.under);
  near = omega (arith, p.near, q.near);
}

more-alg : (x r a c : ℕ) → x * a ≤ r * c → x * (a * parts) ≤ r * (c * suc parts)
more-alg x r a c h = omega (arith, mul-le-mul_right parts h)

wider : {k x r : ℕ} (j : ℕ) → Loses k x r → Loses (k + j) x r
wider {k} {x} {r} zero p = rw (add-zero k) p
wider {k} {x} {r} (suc j) p = record {
  under = p.under;
  near = rw (add-suc k j, pow-suc parts (k + j), pow-suc (suc parts) (k + j)) (more-alg x r (parts ^ (k + j)) (suc parts ^ (k + j)) (wider j p).near);
}

-- a larger count says less
pub loses-more : {j k x r : ℕ} → j ≤ k → Loses j x r → Loses k x r
loses-more {j} {k} {x} {r} h p = let w = le_dest h in rw (← w.1) (wider w.0 p)

-- ---- after k operations at least 1 - k / (parts + 1) is left, by Bernoulli

left-alg : (d a A B : ℕ) → B * (d + 1) ≤ A * suc a → A ≤ B → B * suc a * d ≤ A * a * suc a
left-alg d a A B h g =
    let l : B * d ≤ A * a = omega arith in
    omega (arith, mul-le-mul_right (suc a) l)

pub left_over : (k d : ℕ) → d + k ≡ suc parts → suc parts ^ k * d ≤ parts ^ k * suc parts
left_over zero d e = rw (pow-zero parts, pow-zero (suc parts)) (omega arith)
left_over (suc k) d e =
    rw (pow-suc (suc parts) k, pow-suc parts k)
    (left-alg d parts (parts ^ k) (suc parts ^ k) (left_over k (d + 1) (omega arith)) (pow-le-pow_left (omega arith) k))

-- ---- so while k 2^15 ≤ 2^30 at most one part in 2^15 is lost

part-alg : (x r d K A B : ℕ) → x * A ≤ r * B → B * d ≤ A * suc K → 0 < A → x * d ≤ r * suc K
part-alg x r d K A B h g P = le_of_mul-le-mul_right {k = A} (omega (arith, mul-le-mul_right d h, mul-le-mul_left r g)) P

fifteen-alg : (x r d k K : ℕ) → d + k ≡ suc K → 2 ^ 15 * k ≤ K → x * d ≤ r * suc K → x * (2 ^ 15 - 1) ≤ r * 2 ^ 15
fifteen-alg x r d k K e l h =
    let m : suc K * (2 ^ 15 - 1) ≤ d * 2 ^ 15 = omega arith in
    le_of_mul-le-mul_right {k = suc K} (omega (arith, mul-le-mul_left x m, mul-le-mul_right (2 ^ 15) h)) (zero-lt-suc K)

pub one-part : {k x r : ℕ} → k ≤ 2 ^ 15 → Loses k x r → (x * (2 ^ 15 - 1) ≤ r * 2 ^ 15) × (r ≤ x)
unfolding parts
one-part {k} {x} {r} l p =
    let d = suc parts - k in
    let e : d + k ≡ suc parts = omega arith in
    (fifteen-alg x r d k parts e (omega arith) (part-alg x r d parts (parts ^ k) (suc parts ^ k) p.near (left_over k d e) (one-le-pow k parts (lit< tt))), p.under)
