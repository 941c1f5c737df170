-- The order is the one that the tests `<`, `<=` and `==` see, and it is total on finite values. Assumes nothing.
use mathlib.Core.Path.{◌≡◌, refl, sym, ap, ◌∙◌}
use mathlib.Core.Logic.{inl, inr}
use mathlib.Core.Bool.{Bool, true, false, not, ◌||◌}
use Prim.Native.Nat.{ℕ, ◌+◌, ◌*◌, ◌^◌, ◌≤◌, ◌<◌}
use native.Mathlib.Nat.{le_refl, zero-mul, add-mul, mul_comm, mul_assoc, mul_right_comm, mul-pos, mul-lt-mul_of_pos_right, lt_of_mul-lt-mul_right, eq_of_mul-eq-mul_right}
use native.Mathlib.Omega.{arith}
use lib.IntN.{ℤ}
use lib.Dec.{T, ltb, eqb, ltb→lt, lt→ltb, nltb→le, eqb→eq, not_T}
use lib.Pow.{pow_pos}
use lib.Ieee.{Float, nan, inf, fin, Format, low, up, down, lt, eq, le, below, level, fits}
use lib.Ieee.Fits.{eq→eqb, down_pos, and_l, and_r, and_i}
use Rattle.doubles.specs.Size.{mag, sgn, Real}
use Rattle.doubles.proofs.Size.{exact, or_split}
use Rattle.doubles.specs.Order.{over_part, under_part, over, under, Le}

pub Le-refl : (f : Format) (x : Float) → Le f x x
Le-refl f x = record { rise = le_refl (over f x); fall = le_refl (under f x) }

pub Le-trans : {f : Format} {x y z : Float} → Le f x y → Le f y z → Le f x z
Le-trans p q = record { rise = omega arith; fall = omega arith }

-- ---- ±a < ±b, by their parts
abbrev Ple : Bool → ℕ → Bool → ℕ → Type 0
Ple s a t b = (over_part s a ≤ over_part t b) × (under_part t b ≤ under_part s a)

not-below : (s : Bool) (a : ℕ) (t : Bool) (b : ℕ) → T (not (below s a t b)) → Ple t b s a
not-below false a false b h = omega (arith, nltb→le)
not-below false a true b h = omega arith
not-below true a false b h = omega (arith, nltb→le)
not-below true a true b h = omega (arith, nltb→le)

below-not : (s : Bool) (a : ℕ) (t : Bool) (b : ℕ) → T (below s a t b) → Ple t b s a → ⊥
below-not false a false b h k = omega (arith, ltb→lt)
below-not false a true b h k = h
below-not true a false b h k = omega (arith, ltb→lt)
below-not true a true b h k = omega (arith, ltb→lt)

below-ple : (s : Bool) (a : ℕ) (t : Bool) (b : ℕ) → T (below s a t b) → Ple s a t b
below-ple false a false b h = omega (arith, ltb→lt)
below-ple false a true b h = absurd h
below-ple true a false b h = omega arith
below-ple true a true b h = omega (arith, ltb→lt)

level-ple : (s : Bool) (a : ℕ) (t : Bool) (b : ℕ) → T (level s a t b) → Ple s a t b
level-ple false a false b h = let e = eqb→eq a b (and_l (eqb a b) true h) in omega arith
level-ple true a true b h = let e = eqb→eq a b (and_l (eqb a b) true h) in omega arith
level-ple false a true b h = let e = eqb→eq a b (and_l (eqb a b) (eqb a 0) h) in let z = eqb→eq a 0 (and_r (eqb a b) (eqb a 0) h) in omega arith
level-ple true a false b h = let e = eqb→eq a b (and_l (eqb a b) (eqb a 0) h) in let z = eqb→eq a 0 (and_r (eqb a b) (eqb a 0) h) in omega arith

ple-level : (s : Bool) (a : ℕ) (t : Bool) (b : ℕ) → Ple s a t b → Ple t b s a → T (level s a t b)
ple-level false a false b h k = and_i (eqb a b) true (eq→eqb {a = a} {b = b} (omega arith)) tt
ple-level true a true b h k = and_i (eqb a b) true (eq→eqb {a = a} {b = b} (omega arith)) tt
ple-level false a true b h k = and_i (eqb a b) (eqb a 0) (eq→eqb {a = a} {b = b} (omega arith)) (eq→eqb {a = a} {b = 0} (omega arith))
ple-level true a false b h k = and_i (eqb a b) (eqb a 0) (eq→eqb {a = a} {b = b} (omega arith)) (eq→eqb {a = a} {b = 0} (omega arith))

-- ---- the tests see only the sizes' proportion
same_test : (a b : Bool) → (T a → T b) → (T b → T a) → a ≡ b
same_test true true p q = refl
same_test true false p q = absurd (p tt)
same_test false true p q = absurd (q tt)
same_test false false p q = refl

module _ (k : ℕ) (K : 0 < k) where
  ltb-scale : (a b : ℕ) → ltb (a * k) (b * k) ≡ ltb a b
  ltb-scale a b = same_test _ _ (λ t. lt→ltb a b (lt_of_mul-lt-mul_right k (ltb→lt (a * k) (b * k) t))) (λ t. lt→ltb (a * k) (b * k) (mul-lt-mul_of_pos_right (ltb→lt a b t) K))

  eqb-scale : (a b : ℕ) → eqb (a * k) (b * k) ≡ eqb a b
  eqb-scale a b = same_test _ _ (λ t. eq→eqb (eq_of_mul-eq-mul_right k K a b (eqb→eq (a * k) (b * k) t))) (λ t. eq→eqb (ap (λ (z : ℕ). z * k) (eqb→eq a b t)))

  below-scale : (s : Bool) (a : ℕ) (t : Bool) (b : ℕ) → below s (a * k) t (b * k) ≡ below s a t b
  below-scale false a false b = ltb-scale a b
  below-scale false a true b = refl
  below-scale true a false b = ap (λ (z : ℕ). ltb 0 z) (sym (add-mul a b k)) ∙ ap (λ (z : ℕ). ltb z ((a + b) * k)) (sym (zero-mul k)) ∙ ltb-scale 0 (a + b)
  below-scale true a true b = ltb-scale b a

  zero-scale : (a : ℕ) → eqb (a * k) 0 ≡ eqb a 0
  zero-scale a = ap (λ (z : ℕ). eqb (a * k) z) (sym (zero-mul k)) ∙ eqb-scale a 0

  level-scale : (s : Bool) (a : ℕ) (t : Bool) (b : ℕ) → level s (a * k) t (b * k) ≡ level s a t b
  level-scale s a t b = rw (eqb-scale a b, zero-scale a)

-- ---- the cross products are the sizes, in another unit
pub cross-l : (f : Format) (s : Bool) (m : ℕ) (e d : ℤ) → T (fits f (fin s m e)) → m * up e * down d * 2 ^ low f ≡ mag f (fin s m e) * (down e * down d)
cross-l f s m e d t = mul_right_comm (m * up e) (down d) (2 ^ low f) ∙ ap (λ (z : ℕ). z * down d) (exact f s m e t) ∙ mul_assoc (mag f (fin s m e)) (down e) (down d)

pub cross-r : (f : Format) (s : Bool) (m : ℕ) (e d : ℤ) → T (fits f (fin s m e)) → m * up e * down d * 2 ^ low f ≡ mag f (fin s m e) * (down d * down e)
cross-r f s m e d t = cross-l f s m e d t ∙ ap (λ (z : ℕ). mag f (fin s m e) * z) (mul_comm (down e) (down d))

-- a test that no scale changes takes the cross products as it takes the sizes
by-sizes :
    (test : Bool → ℕ → Bool → ℕ → Bool)
    → ((k : ℕ) → 0 < k → (s : Bool) (a : ℕ) (t : Bool) (b : ℕ) → test s (a * k) t (b * k) ≡ test s a t b)
    → (f : Format) (s : Bool) (m : ℕ) (e : ℤ) (t : Bool) (n : ℕ) (d : ℤ)
    → T (fits f (fin s m e)) → T (fits f (fin t n d))
    → test s (m * up e * down d) t (n * up d * down e) ≡ test s (mag f (fin s m e)) t (mag f (fin t n d))
by-sizes test scale f s m e t n d p q =
    let U = 2 ^ low f in
    let K = down e * down d in
    sym (scale U (pow_pos (low f)) s (m * up e * down d) t (n * up d * down e))
    ∙ ap (λ (z : ℕ). test s z t (n * up d * down e * U)) (cross-l f s m e d p)
    ∙ ap (λ (z : ℕ). test s (mag f (fin s m e) * K) t z) (cross-r f t n d e q)
    ∙ scale K (mul-pos (down_pos e) (down_pos d)) s (mag f (fin s m e)) t (mag f (fin t n d))

pub lt-is : (f : Format) (x y : Float) → Real f x → Real f y → lt x y ≡ below (sgn x) (mag f x) (sgn y) (mag f y)
unfolding lt sgn
lt-is f nan y p q = absurd p.fini
lt-is f (inf s) y p q = absurd p.fini
lt-is f (fin s m e) nan p q = absurd q.fini
lt-is f (fin s m e) (inf t) p q = absurd q.fini
lt-is f (fin s m e) (fin t n d) p q = by-sizes below below-scale f s m e t n d p.fit q.fit

pub eq_is : (f : Format) (x y : Float) → Real f x → Real f y → eq x y ≡ level (sgn x) (mag f x) (sgn y) (mag f y)
unfolding eq sgn
eq_is f nan y p q = absurd p.fini
eq_is f (inf s) y p q = absurd p.fini
eq_is f (fin s m e) nan p q = absurd q.fini
eq_is f (fin s m e) (inf t) p q = absurd q.fini
eq_is f (fin s m e) (fin t n d) p q = by-sizes level level-scale f s m e t n d p.fit q.fit

-- ---- the order and the three tests
module _ (f : Format) (x y : Float) (p : Real f x) (q : Real f y) where
  pub nlt→Le : T (not (lt x y)) → Le f y x
  unfolding over under
  nlt→Le h = let k = not-below (sgn x) (mag f x) (sgn y) (mag f y) (rw (lt-is f x y p q) at h) in record { rise = k.0; fall = k.1 }

  pub lt→Le : T (lt x y) → Le f x y
  unfolding over under
  lt→Le h = let k = below-ple (sgn x) (mag f x) (sgn y) (mag f y) (rw (lt-is f x y p q) at h) in record { rise = k.0; fall = k.1 }

  -- from a branch of a program, which knows the test's value
  pub no→Le : lt x y ≡ false → Le f y x
  no→Le e = nlt→Le (rw e tt)

  pub yes→Le : lt x y ≡ true → Le f x y
  yes→Le e = lt→Le (rw e tt)

  pub lt→not-Le : T (lt x y) → Le f y x → ⊥
  unfolding over under
  lt→not-Le h k = below-not (sgn x) (mag f x) (sgn y) (mag f y) (rw (lt-is f x y p q) at h) (k.rise, k.fall)

  pub Le→nlt : Le f y x → T (not (lt x y))
  Le→nlt k = not_T (lt x y) (λ h. lt→not-Le h k)

  pub le→Le : T (le x y) → Le f x y
  unfolding over under le
  le→Le h = elim (or_split (lt x y) (eq x y) h) [
    | inl a ↦ lt→Le a
    | inr a ↦ let k = level-ple (sgn x) (mag f x) (sgn y) (mag f y) (rw (eq_is f x y p q) at a) in record { rise = k.0; fall = k.1 }
  ]

module _ (f : Format) (x y : Float) (p : Real f x) (q : Real f y) where
  pub Le→le : Le f x y → T (le x y)
  unfolding over under le
  Le→le k = go (lt x y) refl
    where
      go : (b : Bool) → lt x y ≡ b → T (b || eq x y)
      go true e = tt
      go false e =
          let r = nlt→Le f x y p q (rw e tt) in
          rw (eq_is f x y p q) (ple-level (sgn x) (mag f x) (sgn y) (mag f y) (k.rise, k.fall) (r.rise, r.fall))

  -- both ways: equal, as -0 and 0 are
  pub Le-antisymm : Le f x y → Le f y x → T (eq x y)
  unfolding over under
  Le-antisymm h k = rw (eq_is f x y p q) (ple-level (sgn x) (mag f x) (sgn y) (mag f y) (h.rise, h.fall) (k.rise, k.fall))

  pub le-yes→Le : le x y ≡ true → Le f x y
  le-yes→Le e = le→Le f x y p q (rw e tt)
