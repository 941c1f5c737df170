-- The rounding error of one operation, of a sum of several terms, and of near values times one number, in any format. Each operation is off by at most half
-- of 2 ^ (K - prec) units where its exact result is below 2 ^ K units. Assumes nothing.
use mathlib.Core.Path.{◌≡◌, refl, sym, ap, ap₂, ◌∙◌}
use mathlib.Core.Bool.{Bool, true, false}
use mathlib.Core.List.{List, [], ◌∷◌}
use Prim.Native.Nat.{ℕ, zero, suc, ◌+◌, ◌-◌, ◌*◌, ◌^◌, ◌≤◌, ◌<◌}
use native.Mathlib.Nat.{le_trans, le_of_eq, mul_comm, mul_assoc, add-mul, mul-add, mul-le-mul_right, mul-pos, lt_of_le_of_lt, le_of_mul-le-mul_right, add-zero, zero-add, add_assoc, suc-mul, mul-mul-mul_comm, mul-le-mul, mul-zero}
use native.Mathlib.Omega.{arith}
use lib.Pow.{pow_pos}
use lib.ListN.{length}
use lib.Ieee.{Float, Format, binary64, prec, low, round, add, sub, mul, div}
use Rattle.lists.specs.Each.{Each}
use Rattle.lists.specs.Fold.{foldl}
use Rattle.doubles.specs.Sum.{sum_from}
use Rattle.doubles.specs.Size.{mag, sgn, Real, Within}
use Rattle.doubles.specs.Order.{over, under, over_part, under_part}
use Rattle.doubles.specs.Near.{Near, NearUnits, NearFraction}
use Rattle.doubles.proofs.Sums.{plus, less, over-le, under-le, add_rounds, add-within, sub-rounds}
use Rattle.doubles.proofs.Products.{like-le, mul-rounds, mul-within, div-rounds}
use Rattle.doubles.proofs.Rounding.{rounds-near}

-- ---- one operation

-- a fraction that is at most A, rounded: what a decimal is written as
pub round-near : (f : Format) (A K a c : ℕ) → 0 < c → A ≤ 2 ^ prec f → prec f < K → A * 2 ^ low f < 2 ^ K → a ≤ A * c → (s : Bool)
    → NearFraction f (2 ^ (K - suc (prec f))) (round f s a c) (over_part s a) (under_part s a) c
round-near f A K a c C N P k h false = rounds-near f (round f false a c) a 0 c A K C N P k h (omega arith) (plus f a a 0 c C (omega arith) (omega arith))
round-near f A K a c C N P k h true = rounds-near f (round f true a c) 0 a c A K C N P k (omega arith) h (less f a 0 a c C (omega arith) (omega arith))

-- where the fraction is one of units
in-units : (f : Format) (z : Float) (p n d : ℕ) → NearFraction f d z p n (2 ^ low f) → NearUnits f d z p n
in-units f z p n d h = record { above = cancel (over f z) n (under f z) p h.above; below = cancel (under f z) p (over f z) n h.below }
  where
    U : ℕ
    U = 2 ^ low f

    cancel : (a n b p : ℕ) → a * U + n * U ≤ b * U + p * U + d * U → a + n ≤ b + p + d
    cancel a n b p k =
        let x : (a + n) * U ≡ a * U + n * U = add-mul a n U in
        let y : (b + p + d) * U ≡ b * U + p * U + d * U = add-mul (b + p) d U ∙ ap (λ (t : ℕ). t + d * U) (add-mul b p U) in
        le_of_mul-le-mul_right (le_trans (le_of_eq x) (le_trans k (le_of_eq (sym y)))) (pow_pos (low f))

module _ (f : Format) (A B K : ℕ) (x y : Float) (v : Within f A x) (w : Within f B y) (P : prec f < K) where
  -- |x| ≤ A and |y| ≤ B, in units
  sides : (over f x ≤ A * 2 ^ low f) × (under f x ≤ A * 2 ^ low f) × (over f y ≤ B * 2 ^ low f) × (under f y ≤ B * 2 ^ low f)
  sides = (le_trans (over-le f x) v.size, le_trans (under-le f x) v.size, le_trans (over-le f y) w.size, le_trans (under-le f y) w.size)

  module _ (N : A + B ≤ 2 ^ prec f) (k : (A + B) * 2 ^ low f < 2 ^ K) where
    both : (A + B) * 2 ^ low f ≡ A * 2 ^ low f + B * 2 ^ low f
    both = add-mul A B (2 ^ low f)

    -- the sum of two
    pub add-near : NearUnits f (2 ^ (K - suc (prec f))) (add f x y) (over f x + over f y) (under f x + under f y)
    add-near =
        in-units f (add f x y) _ _ _
        (rounds-near f (add f x y) (over f x + over f y) (under f x + under f y) (2 ^ low f) (A + B) K (pow_pos (low f)) N P k (omega (arith, sides, both)) (omega (arith, sides, both)) (add_rounds f x y v.real w.real))

    -- the difference of two
    pub sub-near : NearUnits f (2 ^ (K - suc (prec f))) (sub f x y) (over f x + under f y) (under f x + over f y)
    sub-near =
        in-units f (sub f x y) _ _ _
        (rounds-near f (sub f x y) (over f x + under f y) (under f x + over f y) (2 ^ low f) (A + B) K (pow_pos (low f)) N P k (omega (arith, sides, both)) (omega (arith, sides, both)) (sub-rounds f x y v.real w.real))

-- ---- a sum of terms, against the exact one

-- a part of each term, together
unfoldable pub total : (Float → ℕ) → List Float → ℕ
total part [] = 0
total part (x ∷ xs) = part x + total part xs

-- one term more, and one error more
step : (f : Format) (s x z : Float) (p n k d : ℕ) → NearUnits f (k * d) s p n → NearUnits f d z (over f s + over f x) (under f s + under f x) → NearUnits f ((k + 1) * d) z (p + over f x) (n + under f x)
step f s x z p n k d h a =
    let m : (k + 1) * d ≡ k * d + 1 * d = add-mul k 1 d in
    record { above = omega (arith, h.above, h.below, a.above, a.below); below = omega (arith, h.above, h.below, a.above, a.below) }

-- terms of at most E, while no sum exceeds `most`: k errors before, and one for each term
module _ (f : Format) (E K most : ℕ) (P : prec f < K) (room : most ≤ 2 ^ prec f) (small : most * 2 ^ low f < 2 ^ K) where
  pub terms-near : (A : ℕ) (s : Float) (terms : List Float) (p n k : ℕ) → Within f A s → Each (Within f E) terms → A + length terms * E ≤ most
      → NearUnits f (k * 2 ^ (K - suc (prec f))) s p n
      → NearUnits f ((k + length terms) * 2 ^ (K - suc (prec f))) (foldl (add f) s terms) (p + total (over f) terms) (n + total (under f) terms)
  unfolding foldl total
  terms-near A s [] p n k w e h o = rw (add-zero p, add-zero n, add-zero k) o
  terms-near A s (x ∷ terms) p n k w e h o =
      let m : suc (length terms) * E ≡ length terms * E + E = suc-mul (length terms) E in
      let l : A + E ≤ most = omega arith in
      let a = add-near f A E K s x w e.0 P (le_trans l room) (lt_of_le_of_lt (mul-le-mul_right (2 ^ low f) l) small) in
      let rest = terms-near (A + E) (add f s x) terms (p + over f x) (n + under f x) (k + 1)
      (add-within f A E s x w e.0 (le_trans l room)) e.1 (omega arith) (step f s x (add f s x) p n k (2 ^ (K - suc (prec f))) o a) in
      rw (← add_assoc p (over f x) (total (over f) terms), ← add_assoc n (under f x) (total (under f) terms), ← one_more k (length terms)) rest
    where
      one_more : (k n : ℕ) → k + 1 + n ≡ k + suc n
      one_more k n = omega arith

sum_is : (s : Float) (terms : List Float) → sum_from s terms ≡ foldl (add binary64) s terms
unfolding sum_from foldl
sum_is s [] = refl
sum_is s (x ∷ terms) = sum_is (add binary64 s x) terms

-- a sum of doubles that begins with s
pub sum_near : (E K most A : ℕ) (s : Float) (terms : List Float) → prec binary64 < K → most ≤ 2 ^ prec binary64 → most * 2 ^ low binary64 < 2 ^ K → Within binary64 A s → Each (Within binary64 E) terms
    → A + length terms * E ≤ most
    → NearUnits binary64 (length terms * 2 ^ (K - suc (prec binary64))) (sum_from s terms) (over binary64 s + total (over binary64) terms) (under binary64 s + total (under binary64) terms)
sum_near E K most A s terms P room small w e h =
    rw (sum_is s terms) (rw (zero-add (length terms)) at (terms-near binary64 E K most P room small A s terms (over binary64 s) (under binary64 s) 0 w e h (record { above = omega arith; below = omega arith })))

-- ---- a product, and two near values times one number

-- a product, against the exact one in units of a unit
pub record NearProduct (f : Format) (d : ℕ) (z x y : Float) : Type 0 where
  pub above : over f z * 2 ^ low f + (over f x * under f y + under f x * over f y) ≤ under f z * 2 ^ low f + (over f x * over f y + under f x * under f y) + d * 2 ^ low f
  pub below : under f z * 2 ^ low f + (over f x * over f y + under f x * under f y) ≤ over f z * 2 ^ low f + (over f x * under f y + under f x * over f y) + d * 2 ^ low f

-- two factors of U are one
one-factor : (a n b p d U : ℕ) → 0 < U → a * (U * U) + n * U ≤ b * (U * U) + p * U + d * (U * U) → a * U + n ≤ b * U + p + d * U
one-factor a n b p d U h k =
    let x : (a * U + n) * U ≡ a * (U * U) + n * U = add-mul (a * U) n U ∙ ap (λ (t : ℕ). t + n * U) (mul_assoc a U U) in
    let y : (b * U + p + d * U) * U ≡ b * (U * U) + p * U + d * (U * U) =
    add-mul (b * U + p) (d * U) U ∙ ap₂ ◌+◌ (add-mul (b * U) p U ∙ ap (λ (t : ℕ). t + p * U) (mul_assoc b U U)) (mul_assoc d U U) in
    le_of_mul-le-mul_right (le_trans (le_of_eq x) (le_trans k (le_of_eq (sym y)))) h

-- the product of two
pub mul-near : (f : Format) (A B K : ℕ) (x y : Float) → Within f A x → Within f B y → prec f < K → A * B ≤ 2 ^ prec f → A * B * 2 ^ low f < 2 ^ K → NearProduct f (2 ^ (K - suc (prec f))) (mul f x y) x y
unfolding over under
mul-near f A B K x y v w P N k =
    let U = 2 ^ low f in
    let z = mul f x y in
    let U0 : 0 < U = pow_pos (low f) in
    let size : mag f x * mag f y ≤ A * B * (U * U) = le_trans (mul-le-mul v.size w.size) (le_of_eq (mul-mul-mul_comm A U B U)) in
    let l = like-le (sgn x) (sgn y) (mag f x) (mag f y) in
    let r = rounds-near f z _ _ (U * U) (A * B) K (mul-pos U0 U0) N P k (le_trans l.0 size) (le_trans l.1 size) (mul-rounds f x y v.real w.real) in
    record { above = one-factor (over f z) _ (under f z) _ _ U U0 r.above; below = one-factor (under f z) _ (over f z) _ _ U U0 r.below }

-- the quotient by a value above zero, at least 1 / B
pub div-near : (f : Format) (A B K : ℕ) (x y : Float) → Within f A x → Real f y → 2 ^ low f ≤ B * over f y → prec f < K → A * B ≤ 2 ^ prec f → A * B * 2 ^ low f < 2 ^ K
    → NearFraction f (2 ^ (K - suc (prec f))) (div f x y) (over f x) (under f x) (over f y)
div-near f A B K x y v w b P N k =
    let U = 2 ^ low f in
    let room : A * U ≤ A * B * over f y = le_trans (le_of_eq (mul_comm A U)) (le_trans (mul-le-mul_right A b) (le_of_eq (mul_comm (B * over f y) A ∙ sym (mul_assoc A B (over f y))))) in
    let Y : 0 < over f y = positive B (over f y) U (pow_pos (low f)) b in
    rounds-near f (div f x y) (over f x) (under f x) (over f y) (A * B) K Y N P k
    (le_trans (over-le f x) (le_trans v.size room)) (le_trans (under-le f x) (le_trans v.size room)) (div-rounds f x y v.real w Y)
  where
    positive : (b c u : ℕ) → 0 < u → u ≤ b * c → 0 < c
    positive b zero u h k = absurd (omega (arith, mul-zero b))
    positive b (suc c) u h k = omega arith

parts-sum : (f : Format) (x : Float) → over f x + under f x ≡ mag f x
unfolding over under
parts-sum f x = go (sgn x)
  where
    go : (s : Bool) → over_part s (mag f x) + under_part s (mag f x) ≡ mag f x
    go false = omega arith
    go true = omega arith

-- one side of the next law: the exact products part by m times the number, and each is off by d
side : (oz uz ow uw ox ux oy uy or ur U d m B : ℕ) → 0 < U → or + ur ≤ B * U
    → oz * U + (ox * ur + ux * or) ≤ uz * U + (ox * or + ux * ur) + d * U
    → uw * U + (oy * or + uy * ur) ≤ ow * U + (oy * ur + uy * or) + d * U
    → ox + uy ≤ ux + oy + m
    → oy + ux ≤ uy + ox + m
    → oz + uw ≤ uz + ow + (d + d + m * B)
side oz uz ow uw ox ux oy uy or ur U d m B h t a b c e =
    let c1 : ox * or + uy * or ≤ ux * or + oy * or + m * or = simp add-mul at (mul-le-mul_right or c) in
    let e1 : oy * ur + ux * ur ≤ uy * ur + ox * ur + m * ur = simp add-mul at (mul-le-mul_right ur e) in
    let m1 : m * or + m * ur ≤ m * B * U = le_trans (le_of_eq (sym (mul-add m or ur))) (le_trans (le_of_eq (mul_comm m (or + ur))) (le_trans (mul-le-mul_right m t) (le_of_eq (mul_comm (B * U) m ∙ sym (mul_assoc m B U))))) in
    let x : (oz + uw) * U ≡ oz * U + uw * U = add-mul oz uw U in
    let y : (uz + ow + (d + d + m * B)) * U ≡ uz * U + ow * U + (d * U + d * U + m * B * U) =
    add-mul (uz + ow) (d + d + m * B) U ∙ ap₂ ◌+◌ (add-mul uz ow U) (add-mul (d + d) (m * B) U ∙ ap (λ (t : ℕ). t + m * B * U) (add-mul d d U)) in
    le_of_mul-le-mul_right (omega (arith, c1, e1, m1, x, y)) h

-- two near values times one number of at most B
pub times-near : (f : Format) (A B K m : ℕ) (x y r : Float) → Within f A x → Within f A y → Within f B r → prec f < K → A * B ≤ 2 ^ prec f → A * B * 2 ^ low f < 2 ^ K → Near f m x y
    → Near f (2 ^ (K - suc (prec f)) + 2 ^ (K - suc (prec f)) + m * B) (mul f x r) (mul f y r)
times-near f A B K m x y r v w q P N k h =
    let U0 : 0 < 2 ^ low f = pow_pos (low f) in
    let t : over f r + under f r ≤ B * 2 ^ low f = le_trans (le_of_eq (parts-sum f r)) q.size in
    let z = mul-near f A B K x r v q P N k in
    let u = mul-near f A B K y r w q P N k in
    record {
      left = (mul-within f A B x r v q N).real;
      right = (mul-within f A B y r w q N).real;
      above = side (over f (mul f x r)) (under f (mul f x r)) (over f (mul f y r)) (under f (mul f y r)) (over f x) (under f x) (over f y) (under f y) (over f r) (under f r) (2 ^ low f) (2 ^ (K - suc (prec f))) m B U0 t z.above u.below h.above h.below;
      below = side (over f (mul f y r)) (under f (mul f y r)) (over f (mul f x r)) (under f (mul f x r)) (over f y) (under f y) (over f x) (under f x) (over f r) (under f r) (2 ^ low f) (2 ^ (K - suc (prec f))) m B U0 t u.above z.below h.below h.above;
    }

-- ---- near values

-- two values that are near one exact number
pub both-near : (f : Format) (d e : ℕ) (x y : Float) (p n : ℕ) → Real f x → Real f y → NearUnits f d x p n → NearUnits f e y p n → Near f (d + e) x y
both-near f d e x y p n v w a b = record { left = v; right = w; above = omega (arith, a.above, b.below); below = omega (arith, a.below, b.above) }

-- near within less is near within more
pub further : {f : Format} {d : ℕ} {x y : Float} (e : ℕ) → d ≤ e → Near f d x y → Near f e x y
further e h a = record { left = a.left; right = a.right; above = omega (arith, a.above); below = omega (arith, a.below) }
