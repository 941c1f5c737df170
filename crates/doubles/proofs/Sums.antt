-- The rounded sum, negative and difference by the two parts of each value: what they are, that they keep the order, and how large they get;
-- and sums taken in parts. Assumes nothing.
use mathlib.Core.Path.{◌≡◌, refl, sym, ap, ap₂, ◌∙◌}
use mathlib.Core.List.{List, [], ◌∷◌, ◌++◌}
use mathlib.Core.Bool.{Bool, true, false, not, cond}
use Prim.Native.Nat.{ℕ, ◌+◌, ◌-◌, ◌*◌, ◌^◌, ◌≤◌, ◌<◌, zero-le}
use native.Mathlib.Nat.{le_refl, le_trans, le_of_eq, lt_of_le_of_lt, zero-mul, add-mul, mul-sub, mul_comm, mul-pos, mul-le-mul_right}
use native.Mathlib.Omega.{arith}
use lib.Ieee.{Float, Format, binary64, add, sub, neg, nan, inf, fin, prec, low, up, down, round, sum, fits}
use lib.Dec.{T, ltb, ltb→lt, nltb→le}
use lib.Pow.{pow_pos}
use lib.Ieee.Fits.{down_pos, add-fits, sub-fits, neg-fits}
use lib.Ieee.Scale.{finite}
use Rattle.doubles.specs.Sum.{sum_from}
use Rattle.doubles.specs.Size.{mag, sgn, Real, Within}
use Rattle.doubles.specs.Order.{over_part, under_part, over, under, Le}
use Rattle.doubles.proofs.Size.{Signed, grid, grid_mono, grid-same, grid-zero, grid-le, round-signed, round-mag, finite-of-mag, whole-lt}
use Rattle.doubles.proofs.Order.{cross-l, cross-r}

-- ---- sums in parts

pub sum-append : (sum : Float) (xs ys : List Float) → sum_from sum (xs ++ ys) ≡ sum_from (sum_from sum xs) ys
unfolding sum_from
sum-append sum [] ys = refl
sum-append sum (x ∷ xs) ys = sum-append (add binary64 sum x) xs ys

-- subtracting is adding with the sign turned
pub sub_is : (f : Format) (x y : Float) → sub f x y ≡ add f x (neg y)
unfolding sub
sub_is f x y = refl

-- ---- z is the signed fraction (p - n) / c, rounded
abbrev pub Rounds : Format → Float → ℕ → ℕ → ℕ → Type 0
Rounds f z p n c = (over f z ≡ grid f (p - n) c) × (under f z ≡ grid f (n - p) c)

signed-sgn : (s : Bool) (x : Float) → Signed s x → sgn x ≡ s
unfolding sgn
signed-sgn s nan h = absurd h
signed-sgn s (inf t) h = h
signed-sgn s (fin t m e) h = h

pub round-over : (f : Format) (s : Bool) (a c : ℕ) → over f (round f s a c) ≡ over_part s (grid f a c)
unfolding over
round-over f s a c = ap₂ over_part (signed-sgn s (round f s a c) (round-signed f s a c)) (round-mag f s a c)

pub round_under : (f : Format) (s : Bool) (a c : ℕ) → under f (round f s a c) ≡ under_part s (grid f a c)
unfolding under
round_under f s a c = ap₂ under_part (signed-sgn s (round f s a c) (round-signed f s a c)) (round-mag f s a c)

pub plus : (f : Format) (w p n c : ℕ) → 0 < c → w ≡ p - n → n - p ≡ 0 → Rounds f (round f false w c) p n c
plus f w p n c C e z = (round-over f false w c ∙ ap (λ (k : ℕ). grid f k c) e, round_under f false w c ∙ sym (ap (λ (k : ℕ). grid f k c) z ∙ grid-zero f c C))

pub less : (f : Format) (w p n c : ℕ) → 0 < c → w ≡ n - p → p - n ≡ 0 → Rounds f (round f true w c) p n c
less f w p n c C e z = (round-over f true w c ∙ sym (ap (λ (k : ℕ). grid f k c) z ∙ grid-zero f c C), round_under f true w c ∙ ap (λ (k : ℕ). grid f k c) e)

sum-rounds : (f : Format) (s : Bool) (a : ℕ) (t : Bool) (b c : ℕ) → 0 < c → Rounds f (sum f s a t b c) (over_part s a + over_part t b) (under_part s a + under_part t b) c
unfolding sum
sum-rounds f false a false b c C = plus f (a + b) (a + b) (0 + 0) c C (omega arith) (omega arith)
sum-rounds f true a true b c C = less f (a + b) (0 + 0) (a + b) c C (omega arith) (omega arith)
sum-rounds f false a true b c C = go (ltb a b) (ltb→lt a b) (nltb→le a b)
  where
    go : (i : Bool) → (T i → a < b) → (T (not i) → b ≤ a) → Rounds f (cond i (round f true (b - a) c) (round f false (a - b) c)) (a + 0) (0 + b) c
    go true h k = let l = h tt in less f (b - a) (a + 0) (0 + b) c C (omega arith) (omega arith)
    go false h k = let l = k tt in plus f (a - b) (a + 0) (0 + b) c C (omega arith) (omega arith)
sum-rounds f true a false b c C = go (ltb a b) (ltb b a) (ltb→lt a b) (nltb→le a b) (ltb→lt b a) (nltb→le b a)
  where
    go : (i j : Bool) → (T i → a < b) → (T (not i) → b ≤ a) → (T j → b < a) → (T (not j) → a ≤ b) → Rounds f (cond i (round f false (b - a) c) (round f j (a - b) c)) (0 + b) (a + 0) c
    go true j h k u v = let l = h tt in plus f (b - a) (0 + b) (a + 0) c C (omega arith) (omega arith)
    go false true h k u v = let l = u tt in less f (a - b) (0 + b) (a + 0) c C (omega arith) (omega arith)
    go false false h k u v = let l = k tt in let r = v tt in plus f (a - b) (0 + b) (a + 0) c C (omega arith) (omega arith)

-- ---- in other units
over-scale : (s : Bool) (a u b c : ℕ) → a * u ≡ b * c → over_part s a * u ≡ over_part s b * c
over-scale false a u b c h = h
over-scale true a u b c h = zero-mul u ∙ sym (zero-mul c)

under-scale : (s : Bool) (a u b c : ℕ) → a * u ≡ b * c → under_part s a * u ≡ under_part s b * c
under-scale false a u b c h = zero-mul u ∙ sym (zero-mul c)
under-scale true a u b c h = h

pub add-scale : (a b u a' b' c : ℕ) → a * u ≡ a' * c → b * u ≡ b' * c → (a + b) * u ≡ (a' + b') * c
add-scale a b u a' b' c h k = add-mul a b u ∙ ap₂ ◌+◌ h k ∙ sym (add-mul a' b' c)

pub sub-scale : (a b u a' b' c : ℕ) → a * u ≡ a' * c → b * u ≡ b' * c → (a - b) * u ≡ (a' - b') * c
sub-scale a b u a' b' c h k =
    mul_comm (a - b) u ∙ mul-sub u a b ∙ ap₂ ◌-◌ (mul_comm u a ∙ h ∙ mul_comm a' c) (mul_comm u b ∙ k ∙ mul_comm b' c) ∙ sym (mul_comm (a' - b') c ∙ mul-sub c a' b')

pub rounds-same : (f : Format) (z : Float) (p n c p' n' c' : ℕ) → 0 < c → 0 < c' → p * c' ≡ p' * c → n * c' ≡ n' * c → Rounds f z p n c → Rounds f z p' n' c'
rounds-same f z p n c p' n' c' C C' h k r = (
  r.0 ∙ grid-same f (p - n) c (p' - n') c' C C' (sub-scale p n c' p' n' c h k),
  r.1 ∙ grid-same f (n - p) c (n' - p') c' C C' (sub-scale n p c' n' p' c k h),
)

-- ---- the sum
pub add_rounds : (f : Format) (x y : Float) → Real f x → Real f y → Rounds f (add f x y) (over f x + over f y) (under f x + under f y) (2 ^ low f)
unfolding add over under sgn
add_rounds f nan y p q = absurd p.fini
add_rounds f (inf s) y p q = absurd p.fini
add_rounds f (fin s m e) nan p q = absurd q.fini
add_rounds f (fin s m e) (inf t) p q = absurd q.fini
add_rounds f (fin s m e) (fin t n d) p q =
    let U = 2 ^ low f in
    let K = down e * down d in
    let a = m * up e * down d in
    let b = n * up d * down e in
    let x' = mag f (fin s m e) in
    let y' = mag f (fin t n d) in
    let h : a * U ≡ x' * K = cross-l f s m e d p.fit in
    let k : b * U ≡ y' * K = cross-r f t n d e q.fit in
    let C : 0 < K = mul-pos (down_pos e) (down_pos d) in
    rounds-same f (sum f s a t b K) (over_part s a + over_part t b) (under_part s a + under_part t b) K (over_part s x' + over_part t y') (under_part s x' + under_part t y') U C (pow_pos (low f))
    (add-scale (over_part s a) (over_part t b) U (over_part s x') (over_part t y') K (over-scale s a U x' K h) (over-scale t b U y' K k))
    (add-scale (under_part s a) (under_part t b) U (under_part s x') (under_part t y') K (under-scale s a U x' K h) (under-scale t b U y' K k))
    (sum-rounds f s a t b K C)

-- ---- order and bounds, from the exact result
pub rounds-mono : (f : Format) (z w : Float) (p n p' n' c : ℕ) → 0 < c → p - n ≤ p' - n' → n' - p' ≤ n - p → Rounds f z p n c → Rounds f w p' n' c → Le f z w
rounds-mono f z w p n p' n' c C h k r r' = record {
  rise = le_trans (le_of_eq r.0) (le_trans (grid_mono f (p - n) c (p' - n') c C C (mul-le-mul_right c h)) (le_of_eq (sym r'.0)));
  fall = le_trans (le_of_eq r'.1) (le_trans (grid_mono f (n' - p') c (n - p) c C C (mul-le-mul_right c k)) (le_of_eq (sym r.1)));
}

pub weaken : {f : Format} {A : ℕ} {x : Float} (B : ℕ) → A ≤ B → Within f A x → Within f B x
weaken {f} B h w = record { real = w.real; size = le_trans w.size (mul-le-mul_right (2 ^ low f) h) }

pub parts-mag : (f : Format) (x : Float) (k : ℕ) → over f x ≤ k → under f x ≤ k → mag f x ≤ k
unfolding over under
parts-mag f x k = go (sgn x)
  where
    go : (s : Bool) → over_part s (mag f x) ≤ k → under_part s (mag f x) ≤ k → mag f x ≤ k
    go false h g = h
    go true h g = g

pub over-le : (f : Format) (x : Float) → over f x ≤ mag f x
unfolding over
over-le f x = go (sgn x)
  where
    go : (s : Bool) → over_part s (mag f x) ≤ mag f x
    go false = le_refl (mag f x)
    go true = zero-le

pub under-le : (f : Format) (x : Float) → under f x ≤ mag f x
unfolding under
under-le f x = go (sgn x)
  where
    go : (s : Bool) → under_part s (mag f x) ≤ mag f x
    go false = zero-le
    go true = le_refl (mag f x)

pub rounds-within : (f : Format) (z : Float) (p n c A : ℕ) → 0 < c → A ≤ 2 ^ prec f → p ≤ A * c → n ≤ A * c → T (fits f z) → Rounds f z p n c → Within f A z
rounds-within f z p n c A C N h k t r =
    let m : mag f z ≤ A * 2 ^ low f = parts-mag f z (A * 2 ^ low f)
    (le_trans (le_of_eq r.0) (grid-le f (p - n) c A C N (omega arith)))
    (le_trans (le_of_eq r.1) (grid-le f (n - p) c A C N (omega arith))) in
    record { real = record { fit = t; fini = finite-of-mag f z (lt_of_le_of_lt m (whole-lt f A N)) }; size = m }

-- ---- the sum
pub add-mono : (f : Format) (x x' y y' : Float) → Real f x → Real f x' → Real f y → Real f y' → Le f x x' → Le f y y' → Le f (add f x y) (add f x' y')
add-mono f x x' y y' p p' q q' h k =
    rounds-mono f (add f x y) (add f x' y') _ _ _ _ (2 ^ low f) (pow_pos (low f)) (omega arith) (omega arith) (add_rounds f x y p q) (add_rounds f x' y' p' q')

pub add-within : (f : Format) (A B : ℕ) (x y : Float) → Within f A x → Within f B y → A + B ≤ 2 ^ prec f → Within f (A + B) (add f x y)
add-within f A B x y p q N =
    rounds-within f (add f x y) (over f x + over f y) (under f x + under f y) (2 ^ low f) (A + B) (pow_pos (low f)) N
    (omega (arith, over-le f x, over-le f y))
    (omega (arith, under-le f x, under-le f y))
    (add-fits f x y) (add_rounds f x y p.real q.real)

-- ---- the negative, and the difference
not-over : (s : Bool) (a : ℕ) → over_part (not s) a ≡ under_part s a
not-over true a = refl
not-over false a = refl

not-under : (s : Bool) (a : ℕ) → under_part (not s) a ≡ over_part s a
not-under true a = refl
not-under false a = refl

pub neg-real : (f : Format) (x : Float) → Real f x → Real f (neg x)
unfolding neg
neg-real f x p = record { fit = neg-fits f x p.fit; fini = go x p.fini }
  where
    go : (x : Float) → T (finite x) → T (finite (neg x))
    go nan t = t
    go (inf s) t = t
    go (fin s m e) t = t

pub neg-over : (f : Format) (x : Float) → Real f x → over f (neg x) ≡ under f x
unfolding neg over under sgn mag
neg-over f nan p = absurd p.fini
neg-over f (inf s) p = absurd p.fini
neg-over f (fin s m e) p = not-over s (mag f (fin s m e))

pub neg-under : (f : Format) (x : Float) → Real f x → under f (neg x) ≡ over f x
unfolding neg over under sgn mag
neg-under f nan p = absurd p.fini
neg-under f (inf s) p = absurd p.fini
neg-under f (fin s m e) p = not-under s (mag f (fin s m e))

pub sub-rounds : (f : Format) (x y : Float) → Real f x → Real f y → Rounds f (sub f x y) (over f x + under f y) (under f x + over f y) (2 ^ low f)
sub-rounds f x y p q = rw (sub_is, ← neg-over f y q, ← neg-under f y q) (add_rounds f x (neg y) p (neg-real f y q))

pub sub-mono : (f : Format) (x x' y y' : Float) → Real f x → Real f x' → Real f y → Real f y' → Le f x x' → Le f y' y → Le f (sub f x y) (sub f x' y')
sub-mono f x x' y y' p p' q q' h k =
    rounds-mono f (sub f x y) (sub f x' y') _ _ _ _ (2 ^ low f) (pow_pos (low f)) (omega arith) (omega arith) (sub-rounds f x y p q) (sub-rounds f x' y' p' q')

pub sub_within : (f : Format) (A B : ℕ) (x y : Float) → Within f A x → Within f B y → A + B ≤ 2 ^ prec f → Within f (A + B) (sub f x y)
sub_within f A B x y p q N =
    rounds-within f (sub f x y) (over f x + under f y) (under f x + over f y) (2 ^ low f) (A + B) (pow_pos (low f)) N
    (omega (arith, over-le f x, under-le f y))
    (omega (arith, under-le f x, over-le f y))
    (sub-fits f x y) (sub-rounds f x y p.real q.real)
