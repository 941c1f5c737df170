-- From fractions to whole numbers of units: a weight is so many parts in u, a state's product so many in a power of u. Assumes nothing.
use mathlib.Core.Path.{◌≡◌, refl, ap, ap₂, ◌∙◌}
use mathlib.Core.List.{List, [], ◌∷◌, map, Memᴰ}
use Prim.Native.Nat.{ℕ, suc, ◌+◌, ◌*◌, ◌^◌, ◌<◌}
use native.Mathlib.Nat.{mul-pos, mul-mul-mul_comm, pow-suc, pow-zero, one-mul, zero-lt-suc}
use native.Mathlib.Omega.{arith}
use lib.ListN.{length}
use Rattle.lists.specs.Each.{Each}
use Rattle.lists.proofs.Each.{each_append}
use Rattle.fractions.specs.Frac.{Frac, plus, times}
use Rattle.model.specs.States.{each_before, listing}
use Rattle.partition.specs.Sum as Sum
use Rattle.partition.specs.Sum.{place_factor, pair_factor, product_from}
use Rattle.partition.specs.Summed.{factors}
use Rattle.partition.proofs.Exact.{sum_over, weight_from, sum_of_states}

-- f is n / c
pub record Scaled (c n : ℕ) (f : Frac) : Type 0 where
  pub positive : 0 < f.den
  pub cross : f.num * c ≡ n * f.den

pub scaled-times : {c d n m : ℕ} {f g : Frac} → Scaled c n f → Scaled d m g → Scaled (c * d) (n * m) (times f g)
scaled-times {c} {d} {n} {m} {f} {g} p q = record {
  positive = mul-pos p.positive q.positive;
  cross = mul-mul-mul_comm f.num g.num c d ∙ ap₂ ◌*◌ p.cross q.cross ∙ mul-mul-mul_comm n f.den m g.den;
}

plus-alg : (a b x y n m c : ℕ) → a * c ≡ n * x → b * c ≡ m * y → (a * y + b * x) * c ≡ (n + m) * (x * y)
plus-alg a b x y n m c p q = omega (arith, ap (λ (z : ℕ). z * y) p, ap (λ (z : ℕ). z * x) q)

pub scaled-plus : {c n m : ℕ} {f g : Frac} → Scaled c n f → Scaled c m g → Scaled c (n + m) (plus f g)
scaled-plus {c} {n} {m} {f} {g} p q = record {
  positive = mul-pos p.positive q.positive;
  cross = plus-alg f.num g.num f.den g.den n m c p.cross q.cross;
}

-- ---- what holds of each state that begins with one of several options

each-cons : (P : List ℕ → Type 0) (x : ℕ) (tails : List (List ℕ)) → Each (λ s. P (x ∷ s)) tails → Each P (map (x ∷◌) tails)
each-cons P x [] p = tt
each-cons P x (s ∷ tails) p = (p.0, each-cons P x tails p.1)

pub each-each : (P : List ℕ → Type 0) (heads : List ℕ) (tails : List (List ℕ)) → ((x : ℕ) → Memᴰ x heads → Each (λ s. P (x ∷ s)) tails) → Each P (each_before heads tails)
unfolding each_before
each-each P [] tails h = tt
each-each P (x ∷ heads) tails h =
    each_append P (map (x ∷◌) tails) (each_before heads tails) (each-cons P x tails (h x (Memᴰ.head refl))) (each-each P heads tails (λ y m. h y (Memᴰ.tail m)))

-- ---- sums over states

module _ (u : ℕ) (place pair : ℕ → ℕ → Frac) (place_n pair_n : ℕ → ℕ → ℕ) where
  abbrev pub PlaceIs : ℕ → ℕ → Type 0
  PlaceIs i x = Scaled u (place_n i x) (place_factor place pair i x)

  abbrev pub PairIs : ℕ → ℕ → Type 0
  PairIs x y = Scaled u (pair_n x y) (pair_factor place pair x y)

  -- the factors that the states of these options use
  abbrev pub Counted : ℕ → List ℕ → List (List ℕ) → Type 0
  Counted i here [] = (x : ℕ) → Memᴰ x here → PlaceIs i x
  Counted i here (next ∷ later) =
      ((x : ℕ) → Memᴰ x here → PlaceIs i x) × ((x y : ℕ) → Memᴰ x here → Memᴰ y next → PairIs x y) × Counted (suc i) next later

  -- a state of n places, in units
  abbrev pub Weighed : ℕ → ℕ → List ℕ → Type 0
  Weighed i n s = Scaled (u ^ factors n) (weight_from place_n pair_n i s) (product_from place pair i s)

  onward-weighed : (i x y n : ℕ) (s : List ℕ) → PlaceIs i x → PairIs x y → Weighed (suc i) (suc n) (y ∷ s) → Weighed i (suc (suc n)) (x ∷ y ∷ s)
  unfolding weight_from product_from
  onward-weighed i x y n s p q r = rw e (scaled-times p (scaled-times q r))
    where
      e : u ^ (suc n + suc (suc n)) ≡ u * (u * u ^ (n + suc n))
      e = let h : suc n + suc (suc n) ≡ suc (suc (n + suc n)) = omega arith in ap (λ (z : ℕ). u ^ z) h ∙ pow-suc u _ ∙ ap (λ (z : ℕ). z * u) (pow-suc u _) ∙ omega arith

  last-weighed : (i x : ℕ) → PlaceIs i x → Weighed i 1 (x ∷ [])
  unfolding weight_from product_from
  last-weighed i x p = rw (pow-suc u 0, pow-zero u, one-mul u) p

  pub states-weighed : (i : ℕ) (here : List ℕ) (later : List (List ℕ)) → Counted i here later → (x : ℕ) → Memᴰ x here → Each (λ s. Weighed i (suc (length later)) (x ∷ s)) (listing later)
  unfolding listing
  states-weighed i here [] c x m = (last-weighed i x (c x m), tt)
  states-weighed i here (next ∷ later) c x m =
      each-each (λ s. Weighed i (suc (suc (length later))) (x ∷ s)) next (listing later) (λ y k. more y (listing later) (c.1 x y m k) (states-weighed (suc i) next later c.2 y k))
    where
      more : (y : ℕ) (tails : List (List ℕ)) → PairIs x y → Each (λ s. Weighed (suc i) (suc (length later)) (y ∷ s)) tails → Each (λ s. Weighed i (suc (suc (length later))) (x ∷ y ∷ s)) tails
      more y [] q a = tt
      more y (s ∷ tails) q a = (onward-weighed i x y (length later) s (c.0 x m) q a.0, more y tails q a.1)

  sum-weighed : (n : ℕ) (states : List (List ℕ)) → Each (Weighed 0 n) states → Scaled (u ^ factors n) (sum_over (weight_from place_n pair_n 0) states) (Sum.sum_over place pair states)
  unfolding sum_over Sum.sum_over
  sum-weighed n [] a = record { positive = zero-lt-suc 0; cross = omega arith }
  sum-weighed n (s ∷ states) a = scaled-plus a.0 (sum-weighed n states a.1)

  -- the sum over all states of one position or more, in units
  pub sum-scaled : (here : List ℕ) (later : List (List ℕ)) → Counted 0 here later
      → Scaled (u ^ factors (suc (length later))) (sum_of_states place_n pair_n (here ∷ later)) (Sum.sum_over place pair (listing (here ∷ later)))
  unfolding sum_of_states listing
  sum-scaled here later c =
      sum-weighed (suc (length later)) (each_before here (listing later)) (each-each (Weighed 0 (suc (length later))) here (listing later) (λ x m. states-weighed 0 here later c x m))
