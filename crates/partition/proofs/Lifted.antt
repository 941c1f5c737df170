-- Weights as terms, and back: what a lifted weight and a lowered term are, in units. Assumes nothing.
use mathlib.Core.Path.{◌≡◌, sym, ap, ◌∙◌}
use mathlib.Core.Bool.{Bool, true, false, cond, not}
use mathlib.Core.List.{List, ◌∷◌}
use Prim.Native.Nat.{ℕ, zero, suc, ◌+◌, ◌-◌, ◌*◌, ◌^◌, ◌≤◌, ◌<◌}
use native.Mathlib.Nat.{mul_assoc, mul_comm, mul-suc, pow-suc, pow-zero, one-mul, mul-one, mul-zero, le_of_mul-le-mul_right, mul-le-mul_right, zero-lt-suc, sub-add_cancel, one-le-pow}
use native.Mathlib.Omega.{arith}
use lib.Dec.{T, ltb, ltb→lt, nltb→le}
use lib.IntN.{ℤ, pos, negsuc, sub_ℕ}
use lib.Ieee.{up, down}
use lib.Ieee.Fits.{down_pos}
use lib.Pow.{pow-add, pow_pos}
use lib.ListN.{length}
use Rattle.fractions.specs.Frac.{Frac, one}
use Rattle.fractions.specs.Number.{exactly, WithinPart}
use Rattle.fractions.specs.declared.Weight.{Weight}
use Rattle.fractions.specs.Weight.{worth}
use Rattle.model.specs.States.{listing}
use Rattle.partition.specs.declared.Term.{Term}
use Rattle.partition.specs.Terms.{size}
use Rattle.partition.specs.Pass.{passed_whole}
use Rattle.partition.specs.Sum as Sum
use Rattle.partition.specs.Summed.{lifted, lifted_term, one_term, lowered, factors, place_term, pair_term}
use Rattle.partition.specs.inner.Used.{Reaches}
use Rattle.partition.proofs.Exact.{sum_of_states}
use Rattle.partition.proofs.Passed.{Usable, Near, sum_near}
use Rattle.partition.proofs.Units.{Scaled, Counted, sum-scaled}

module _ (bias : ℕ) (B : 30 ≤ bias) where
  power-lifted : (e : ℤ) → Reaches bias e → up e * 2 ^ bias ≡ 2 ^ lifted bias e * down e
  power-lifted (pos k) r = mul_comm (2 ^ k) (2 ^ bias) ∙ sym (pow-add 2 bias k) ∙ sym (mul-one _)
  power-lifted (negsuc k) r = one-mul (2 ^ bias) ∙ ap (λ (z : ℕ). 2 ^ z) (sym (sub-add_cancel r)) ∙ pow-add 2 (bias - suc k) (suc k)

  pub lifted-scaled : (w : Weight) → Reaches bias w.power → Scaled (2 ^ bias) (size (lifted_term bias w)) (worth w)
  lifted-scaled w r = record {
    positive = down_pos w.power;
    cross = mul_assoc w.digits (up w.power) (2 ^ bias) ∙ ap (λ (z : ℕ). w.digits * z) (power-lifted w.power r) ∙ sym (mul_assoc w.digits (2 ^ lifted bias w.power) (down w.power));
  }

  pub one-scaled : Scaled (2 ^ bias) (size (one_term bias)) one
  one-scaled = record {
    positive = zero-lt-suc 0;
    cross = one-mul (2 ^ bias) ∙ ap (λ (z : ℕ). 2 ^ z) (sym (sub-add_cancel B)) ∙ pow-add 2 (bias - 30) 30 ∙ mul_comm (2 ^ (bias - 30)) (2 ^ 30) ∙ sym (mul-one _);
  }

  -- ---- back
  sub_cases : (P : ℤ → Type 0) (a b : ℕ) → (a < b → P (negsuc (b - suc a))) → (b ≤ a → P (pos (a - b))) → P (sub_ℕ a b)
  sub_cases P a b f g = go (ltb a b) (ltb→lt a b) (nltb→le a b)
    where
      go : (c : Bool) → (T c → a < b) → (T (not c) → b ≤ a) → P (cond c (negsuc (b - suc a)) (pos (a - b)))
      go true h l = f (h tt)
      go false h l = g (l tt)

  pub power-back : (a b : ℕ) → up (sub_ℕ a b) * 2 ^ b ≡ 2 ^ a * down (sub_ℕ a b)
  power-back a b = sub_cases (λ z. up z * 2 ^ b ≡ 2 ^ a * down z) a b low high
    where
      low : a < b → 1 * 2 ^ b ≡ 2 ^ a * 2 ^ suc (b - suc a)
      low h = let e : a + suc (b - suc a) ≡ b = omega arith in one-mul (2 ^ b) ∙ ap (λ (z : ℕ). 2 ^ z) (sym e) ∙ pow-add 2 a (suc (b - suc a))

      high : b ≤ a → 2 ^ (a - b) * 2 ^ b ≡ 2 ^ a * 1
      high h = sym (pow-add 2 (a - b) b) ∙ ap (λ (z : ℕ). 2 ^ z) (sub-add_cancel h) ∙ sym (mul-one (2 ^ a))

  pow-mul : (a i j : ℕ) → (a ^ i) ^ j ≡ a ^ (i * j)
  pow-mul a i zero = pow-zero (a ^ i) ∙ sym (pow-zero a) ∙ ap (λ (z : ℕ). a ^ z) (sym (mul-zero i))
  pow-mul a i (suc j) = pow-suc (a ^ i) j ∙ ap (λ (z : ℕ). z * a ^ i) (pow-mul a i j) ∙ sym (pow-add a (i * j) i) ∙ ap (λ (z : ℕ). a ^ z) (sym (mul-suc i j))

  pub lowered-scaled : (f : ℕ) (t : Term) → Scaled ((2 ^ bias) ^ f) (size t) (worth (lowered bias f t))
  lowered-scaled f t = rw (pow-mul 2 bias f) (record {
    positive = down_pos (sub_ℕ t.power (bias * f));
    cross = mul_assoc t.digits (up (sub_ℕ t.power (bias * f))) (2 ^ (bias * f)) ∙ ap (λ (z : ℕ). t.digits * z) (power-back t.power (bias * f)) ∙ sym (mul_assoc t.digits (2 ^ t.power) (down (sub_ℕ t.power (bias * f))));
  })

-- ---- from units to fractions
near-alg : (N R c sn sd wn wd a b : ℕ) → 0 < c → sn * c ≡ N * sd → wn * c ≡ R * wd → N * a ≤ R * b → a * sn * wd ≤ wn * (b * sd)
near-alg N R c sn sd wn wd a b C p q h = le_of_mul-le-mul_right {k = c} (omega (arith, ap (λ (z : ℕ). a * wd * z) p, ap (λ (z : ℕ). b * sd * z) q, mul-le-mul_right (sd * wd) h)) C

kept-alg : (N R c sn sd wn wd a b : ℕ) → 0 < c → sn * c ≡ N * sd → wn * c ≡ R * wd → R * b ≤ N * a → wn * (b * sd) ≤ a * sn * wd
kept-alg N R c sn sd wn wd a b C p q h = le_of_mul-le-mul_right {k = c} (omega (arith, ap (λ (z : ℕ). a * wd * z) p, ap (λ (z : ℕ). b * sd * z) q, mul-le-mul_right (sd * wd) h)) C

pub near_within : (c N : ℕ) (t : Term) (s w : Frac) → 0 < c → Scaled c N s → Scaled c (size t) w → Near N t → WithinPart 15 0 (exactly s) w
near_within c N t s w C p q n = record {
  positive = q.positive;
  reached = λ _ _. record { cross = near-alg N (size t) c s.num s.den w.num w.den (2 ^ 15 - 1) (2 ^ 15) C p.cross q.cross n.reached };
  kept = λ _ _. record { cross = kept-alg N (size t) c s.num s.den w.num w.den (2 ^ 15 + 1) (2 ^ 15) C p.cross q.cross n.kept };
}

-- ---- over one position or more, of options that are not empty, the pass gives the sum over all states

module _ (bias most : ℕ) (B : 30 ≤ bias) (place pair : ℕ → ℕ → Weight) where
  -- in units
  abbrev pub place_size : ℕ → ℕ → ℕ
  place_size i x = size (place_term bias place pair i x)

  abbrev pub pair_size : ℕ → ℕ → ℕ
  pair_size x y = size (pair_term bias place pair x y)

  -- what each weight is worth
  abbrev place_worth : ℕ → ℕ → Frac
  place_worth i x = worth (place i x)

  abbrev pair_worth : ℕ → ℕ → Frac
  pair_worth x y = worth (pair x y)

  pub sum-within : (here : List ℕ) (later : List (List ℕ)) → length later ≤ 127
      → Usable (place_term bias place pair) (pair_term bias place pair) most 0 here later
      → Counted (2 ^ bias) place_worth pair_worth place_size pair_size 0 here later
      → WithinPart 15 0 (exactly (Sum.sum_over place_worth pair_worth (listing (here ∷ later)))) (worth (lowered bias (factors (suc (length later))) (passed_whole (place_term bias place pair) (pair_term bias place pair) here later)))
  sum-within here later l u c =
      let f = factors (suc (length later)) in
      let t = passed_whole (place_term bias place pair) (pair_term bias place pair) here later in
      near_within ((2 ^ bias) ^ f) (sum_of_states place_size pair_size (here ∷ later)) t
      (Sum.sum_over place_worth pair_worth (listing (here ∷ later))) (worth (lowered bias f t))
      (one-le-pow f (2 ^ bias) (pow_pos bias)) (sum-scaled (2 ^ bias) place_worth pair_worth place_size pair_size here later c) (lowered-scaled bias B f t)
      (sum_near (place_term bias place pair) (pair_term bias place pair) most here later l u)
