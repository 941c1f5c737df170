-- Laws of a double's size: it is exact, rounding keeps its order, and what the format holds is not changed by rounding. Assumes nothing.
use mathlib.Core.Path.{◌≡◌, refl, sym, ap, ◌∙◌}
use mathlib.Core.Logic.{◌⊎◌, inl, inr}
use mathlib.Core.Bool.{Bool, true, false, ◌&&◌, ◌||◌, cond, true≢false}
use Prim.Native.Nat.{ℕ, zero, suc, ◌+◌, ◌-◌, ◌*◌, ◌/◌, ◌%◌, ◌^◌, ◌≤◌, ◌<◌, zero-le}
use native.Mathlib.Nat.{le_trans, le_of_eq, le_refl, le_of_lt, le_antisymm, lt_of_lt_of_le, mul-le-mul_right, le_of_suc-le-suc, lt_of_not-le, lt_irrefl, not-le_of_lt, lt_of_le_of_lt, zero-lt-suc, zero-mul, zero-div, mul-one, div-one, mul_comm, mul_assoc, mul_right_comm, mul-div_cancel, mul-lt-mul_of_pos_right, div-lt_iff_lt-mul}
use lib.IntN.{ℤ, pos, negsuc}
use lib.Dec.{T, ltb, leb, eqb, ltb→lt, leb→le, eqb→eq, lit<}
use lib.Pow.{pow-add, pow_pos, pow-lt}
use lib.Ieee.{Float, nan, inf, fin, Format, binary32, binary64, prec, emax, low, up, down, odd, units, round, fits, le}
use lib.Ieee.Digits.{back}
use lib.Ieee.Fits.{round_is, round-fits, down_pos, and_l, and_r}
use lib.Ieee.Nearest.{div_mono}
use lib.Ieee.Scale.{finite, overflow}
use lib.Ieee.Order.{round_mono}
use lib.Ieee.Exact.{HasValue, round_exact}
use lib.Ieee.Back.{round_whole}
use Rattle.doubles.specs.Size.{mag, Real}

-- ---- what `fits` says of a value that is not zero
fits-parts : (f : Format) (s : Bool) (m : ℕ) (e : ℤ) → T (fits f (fin s (suc m) e)) → (suc m < 2 ^ prec f) × (down e ≤ 2 ^ low f) × (suc m * up e < 2 ^ suc (emax f) * down e)
unfolding fits
fits-parts f s m e t =
    let a = eqb (suc m % 2) 1 in
    let b = ltb (suc m) (2 ^ prec f) in
    let c = leb (down e) (2 ^ low f) in
    let d = ltb (suc m * up e) (2 ^ suc (emax f) * down e) in
    let abc = and_l (a && b && c) d t in
    (ltb→lt (suc m) (2 ^ prec f) (and_r a b (and_l (a && b) c abc)), leb→le (down e) (2 ^ low f) (and_r (a && b) c abc), ltb→lt (suc m * up e) (2 ^ suc (emax f) * down e) (and_r (a && b && c) d t))

-- ---- the size is exact
low-enough : (k l : ℕ) → 2 ^ k ≤ 2 ^ l → k ≤ l
low-enough k l h = le_of_suc-le-suc (lt_of_not-le (λ (g : suc l ≤ k). not-le_of_lt (pow-lt g) h))

whole : (a : ℕ) (e : ℤ) (l : ℕ) → down e ≤ 2 ^ l → a * 2 ^ l / down e * down e ≡ a * 2 ^ l
whole a (pos k) l h = mul-one (a * 2 ^ l / 1) ∙ div-one (a * 2 ^ l)
whole a (negsuc k) l h =
    let d = 2 ^ suc k in
    let e : a * 2 ^ l ≡ a * 2 ^ (l - suc k) * d = ap (λ (z : ℕ). a * 2 ^ z) (sym (back l (suc k) (low-enough (suc k) l h))) ∙ ap (λ (z : ℕ). a * z) (pow-add 2 (l - suc k) (suc k)) ∙ sym (mul_assoc a (2 ^ (l - suc k)) d) in
    ap (λ (z : ℕ). z / d * d) e ∙ ap (λ (z : ℕ). z * d) (mul-div_cancel (a * 2 ^ (l - suc k)) (pow_pos (suc k))) ∙ sym e

pub mag-zero : (f : Format) (s : Bool) (e : ℤ) → mag f (fin s 0 e) ≡ 0
unfolding mag
mag-zero f s e = ap (λ (z : ℕ). z * 2 ^ low f / down e) (zero-mul (up e)) ∙ ap (λ (z : ℕ). z / down e) (zero-mul (2 ^ low f)) ∙ zero-div (down e)

pub exact : (f : Format) (s : Bool) (m : ℕ) (e : ℤ) → T (fits f (fin s m e)) → m * up e * 2 ^ low f ≡ mag f (fin s m e) * down e
unfolding mag
exact f s zero e t = ap (λ (z : ℕ). z * 2 ^ low f) (zero-mul (up e)) ∙ zero-mul (2 ^ low f) ∙ sym (ap (λ (y : ℕ). y * down e) (mag-zero f s e) ∙ zero-mul (down e))
exact f s (suc m) e t = sym (whole (suc m * up e) e (low f) (fits-parts f s m e t).1)

-- ---- the size of what fits is at most an infinity's, and below it where the value is finite
pub mag-lt : (f : Format) (s : Bool) (m : ℕ) (e : ℤ) → T (fits f (fin s m e)) → mag f (fin s m e) < overflow f
unfolding mag
mag-lt f s zero e t = lt_of_le_of_lt (le_of_eq (mag-zero f s e)) (pow_pos (low f + suc (emax f)))
mag-lt f s (suc m) e t =
    (div-lt_iff_lt-mul (down_pos e)).1
    (lt_of_lt_of_le (mul-lt-mul_of_pos_right (fits-parts f s m e t).2 (pow_pos (low f)))
    (le_of_eq (mul_right_comm (2 ^ suc (emax f)) (down e) (2 ^ low f) ∙ ap (λ (z : ℕ). z * down e) (mul_comm (2 ^ suc (emax f)) (2 ^ low f) ∙ sym (pow-add 2 (low f) (suc (emax f)))))))

pub mag-le : (f : Format) (x : Float) → T (fits f x) → mag f x ≤ overflow f
unfolding mag
mag-le f nan t = le_refl (overflow f)
mag-le f (inf s) t = le_refl (overflow f)
mag-le f (fin s m e) t = le_of_lt (mag-lt f s m e t)

pub real-lt : (f : Format) (x : Float) → Real f x → mag f x < overflow f
real-lt f nan p = absurd p.fini
real-lt f (inf s) p = absurd p.fini
real-lt f (fin s m e) p = mag-lt f s m e p.fit

-- ---- what `round` makes: its sign is the one that it was given, and its size does not depend on that
-- neither a NaN, nor of another sign
abbrev pub Signed : Bool → Float → Type 0
Signed s nan = ⊥
Signed s (inf t) = t ≡ s
Signed s (fin t m e) = t ≡ s

odd-signed : (d : ℕ) (s : Bool) (q k l : ℕ) → Signed s (odd d s q k l)
unfolding odd
odd-signed d s zero k l = refl
odd-signed d s (suc q) k l = refl

units-signed : (f : Format) (s : Bool) (q k : ℕ) → Signed s (units f s q k)
unfolding units
units-signed f s q k = go (ltb (q * 2 ^ k) (overflow f))
  where
    go : (b : Bool) → Signed s (cond b (odd (suc (prec f)) s q k (low f)) (inf s))
    go true = odd-signed (suc (prec f)) s q k (low f)
    go false = refl

pub round-signed : (f : Format) (s : Bool) (a c : ℕ) → Signed s (round f s a c)
round-signed f s a c = rw round_is (units-signed f s _ _)

odd-mag : (f : Format) (d : ℕ) (s : Bool) (q k l : ℕ) → mag f (odd d s q k l) ≡ mag f (odd d false q k l)
unfolding odd mag
odd-mag f d s zero k l = refl
odd-mag f d s (suc q) k l = refl

units-mag : (f : Format) (s : Bool) (q k : ℕ) → mag f (units f s q k) ≡ mag f (units f false q k)
unfolding units
units-mag f s q k = go (ltb (q * 2 ^ k) (overflow f))
  where
    go : (b : Bool) → mag f (cond b (odd (suc (prec f)) s q k (low f)) (inf s)) ≡ mag f (cond b (odd (suc (prec f)) false q k (low f)) (inf false))
    go true = odd-mag f (suc (prec f)) s q k (low f)
    go false = unfold mag in refl

-- the size of a / c rounded
pub grid : Format → ℕ → ℕ → ℕ
grid f a c = mag f (round f false a c)

pub round-mag : (f : Format) (s : Bool) (a c : ℕ) → mag f (round f s a c) ≡ grid f a c
unfolding grid
round-mag f s a c = rw (round_is f s a c, round_is f false a c) (units-mag f s _ _)

-- ---- the order of two values that are not negative is that of their sizes
pub or_split : (a b : Bool) → T (a || b) → T a ⊎ T b
or_split true b t = inl tt
or_split false b t = inr t

lt-or-eq : (a b : ℕ) → T (ltb a b || (eqb a b && true)) → a ≤ b
lt-or-eq a b t = elim (or_split (ltb a b) (eqb a b && true) t) [ inl u ↦ le_of_lt (ltb→lt a b u) | inr u ↦ le_of_eq (eqb→eq a b (and_l (eqb a b) true u)) ]

le-mag : (f : Format) (x y : Float) → Signed false x → Signed false y → T (fits f x) → T (le x y) → mag f x ≤ mag f y
unfolding le mag
le-mag f nan y p q t h = absurd p
le-mag f (inf s) nan p q t h = absurd q
le-mag f (inf true) (inf u) p q t h = le_refl (overflow f)
le-mag f (inf false) (inf u) p q t h = le_refl (overflow f)
le-mag f (inf true) (fin u n d) p q t h = absurd (true≢false p)
le-mag f (inf false) (fin u n d) p q t h = absurd h
le-mag f (fin s m e) nan p q t h = absurd q
le-mag f (fin s m e) (inf u) p q t h = le_of_lt (mag-lt f s m e t)
le-mag f (fin true m e) (fin u n d) p q t h = absurd (true≢false p)
le-mag f (fin false m e) (fin true n d) p q t h = absurd (true≢false q)
le-mag f (fin false m e) (fin false n d) p q t h =
    div_mono (m * up e * 2 ^ low f) (down e) (n * up d * 2 ^ low f) (down d) (down_pos e) (down_pos d)
    (le_trans (le_of_eq (mul_right_comm (m * up e) (2 ^ low f) (down d)))
    (le_trans (mul-le-mul_right (2 ^ low f) (lt-or-eq (m * up e * down d) (n * up d * down e) h)) (le_of_eq (mul_right_comm (n * up d) (down e) (2 ^ low f)))))

pub grid_mono : (f : Format) (a b c d : ℕ) → 0 < b → 0 < d → a * d ≤ c * b → grid f a b ≤ grid f c d
unfolding grid
grid_mono f a b c d B D h = le-mag f (round f false a b) (round f false c d) (round-signed f false a b) (round-signed f false c d) (round-fits f false a b) (round_mono f a b c d B D h)

pub grid-same : (f : Format) (a b c d : ℕ) → 0 < b → 0 < d → a * d ≡ c * b → grid f a b ≡ grid f c d
grid-same f a b c d B D e = le_antisymm (grid_mono f a b c d B D (le_of_eq e)) (grid_mono f c d a b D B (le_of_eq (sym e)))

-- ---- whole numbers up to 2 ^ prec are held
value-mag : (f : Format) (x : Float) (s : Bool) (n : ℕ) → HasValue x s n 1 → mag f x ≡ n * 2 ^ low f
unfolding mag
value-mag f nan s n v = absurd v
value-mag f (inf t) s n v = absurd v
value-mag f (fin t m e) s n v =
    ap (λ (z : ℕ). z * 2 ^ low f / down e) (sym (mul-one (m * up e)) ∙ v.1)
    ∙ ap (λ (z : ℕ). z / down e) (mul_right_comm n (down e) (2 ^ low f))
    ∙ mul-div_cancel (n * 2 ^ low f) (down_pos e)

pub grid-whole : (f : Format) (n : ℕ) → n ≤ 2 ^ prec f → grid f n 1 ≡ n * 2 ^ low f
unfolding grid
grid-whole f n h = value-mag f (round f false n 1) false n (round_whole f false n h)

pub grid-zero : (f : Format) (c : ℕ) → 0 < c → grid f 0 c ≡ 0
grid-zero f c C = grid-same f 0 c 0 1 C (zero-lt-suc 0) (zero-mul 1 ∙ sym (zero-mul c)) ∙ grid-whole f 0 zero-le ∙ zero-mul (2 ^ low f)

-- a fraction up to a whole number that is held rounds to no more than it
pub grid-le : (f : Format) (a c n : ℕ) → 0 < c → n ≤ 2 ^ prec f → a ≤ n * c → grid f a c ≤ n * 2 ^ low f
grid-le f a c n C N h = le_trans (grid_mono f a c n 1 C (zero-lt-suc 0) (le_trans (le_of_eq (mul-one a)) h)) (le_of_eq (grid-whole f n N))

-- ---- a size that is not too large is a finite value's
pub finite-of-mag : (f : Format) (x : Float) → mag f x < overflow f → T (finite x)
unfolding mag
finite-of-mag f nan h = absurd (lt_irrefl (overflow f) h)
finite-of-mag f (inf s) h = absurd (lt_irrefl (overflow f) h)
finite-of-mag f (fin s m e) h = tt

pub whole-lt : (f : Format) (n : ℕ) → n ≤ 2 ^ prec f → n * 2 ^ low f < overflow f
whole-lt f n h = lt_of_le_of_lt (le_trans (mul-le-mul_right (2 ^ low f) h) (le_of_eq (sym (pow-add 2 (prec f) (low f))))) (pow-lt (room f))
  where
    room : (f : Format) → prec f + low f < low f + suc (emax f)
    room binary32 = lit< tt
    room binary64 = lit< tt

-- ---- what the format holds is not changed by rounding
-- a size is the digits, shifted
shifted : (f : Format) (s : Bool) (m : ℕ) (e : ℤ) → down e ≤ 2 ^ low f → (j : ℕ) × (mag f (fin s m e) ≡ m * 2 ^ j)
unfolding mag
shifted f s m (pos k) h = (k + low f, div-one (m * 2 ^ k * 2 ^ low f) ∙ mul_assoc m (2 ^ k) (2 ^ low f) ∙ ap (λ (z : ℕ). m * z) (sym (pow-add 2 k (low f))))
shifted f s m (negsuc k) h =
    let j = low f - suc k in (
      j,
      ap (λ (z : ℕ). z * 2 ^ low f / 2 ^ suc k) (mul-one m)
          ∙ ap (λ (z : ℕ). m * 2 ^ z / 2 ^ suc k) (sym (back (low f) (suc k) (low-enough (suc k) (low f) h)))
          ∙ ap (λ (z : ℕ). m * z / 2 ^ suc k) (pow-add 2 j (suc k))
          ∙ ap (λ (z : ℕ). z / 2 ^ suc k) (sym (mul_assoc m (2 ^ j) (2 ^ suc k)))
          ∙ mul-div_cancel (m * 2 ^ j) (pow_pos (suc k)),
    )

-- the size of a value that is a whole number of units
pub unit-mag : (f : Format) (x : Float) (s : Bool) (a : ℕ) → HasValue x s a (2 ^ low f) → mag f x ≡ a
unfolding mag
unit-mag f nan s a v = absurd v
unit-mag f (inf t) s a v = absurd v
unit-mag f (fin t m e) s a v = ap (λ (z : ℕ). z / down e) v.1 ∙ mul-div_cancel a (down_pos e)

pub grid-fix : (f : Format) (x : Float) → Real f x → grid f (mag f x) (2 ^ low f) ≡ mag f x
unfolding grid
grid-fix f nan p = absurd p.fini
grid-fix f (inf s) p = absurd p.fini
grid-fix f (fin s zero e) p = ap (λ (z : ℕ). grid f z (2 ^ low f)) (mag-zero f s e) ∙ grid-zero f (2 ^ low f) (pow_pos (low f)) ∙ sym (mag-zero f s e)
grid-fix f (fin s (suc m) e) p =
    let x = fin s (suc m) e in
    let U = 2 ^ low f in
    let h = shifted f s (suc m) e (fits-parts f s m e p.fit).1 in
    unit-mag f (round f false (mag f x) U) false (mag f x)
    (round_exact f false (mag f x) U (suc m) h.0 (pow_pos (low f)) (fits-parts f s m e p.fit).0
    (rw (← h.1) (mag-lt f s (suc m) e p.fit))
    (ap (λ (z : ℕ). z * U) h.1))
