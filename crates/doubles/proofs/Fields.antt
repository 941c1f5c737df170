-- The size and the sign of a double by the fields of its bits. Assumes nothing.
use mathlib.Core.Path.{◌≡◌, refl, sym, ap, ◌∙◌}
use mathlib.Core.Logic.{◌⊎◌, inl, inr}
use mathlib.Core.Bool.{Bool, true, false, cond}
use Prim.Native.Nat.{ℕ, zero, suc, ◌+◌, ◌-◌, ◌*◌, ◌/◌, ◌%◌, ◌^◌, ◌≤◌, ◌<◌}
use native.Mathlib.Nat.{eq-or-lt_of_le, le_of_suc-le-suc, mul-one, mul-div_cancel, mod-lt, div-lt_iff_lt-mul, mul-pos, zero-lt-suc, lt_irrefl, lt_of_lt_of_le, le_of_eq, mul_comm}
use lib.Dec.{leb, eqb}
use lib.Pow.{pow_pos}
use borrow.Author.Tests.{eq-eqb, ne_eqb}
use lib.Ieee.{Float, nan, inf, fin, Format, prec, low, down, odd, hid, ones, top, of_fields, of_bits}
use lib.Ieee.Fits.{down_pos}
use lib.Ieee.Exact.{HasValue, odd_sign}
use lib.Ieee.Scale.{overflow}
use Rattle.doubles.specs.Size.{sgn, mag}

-- ---- a value by its size
value-size : (f : Format) (x : Float) (s : Bool) (a : ℕ) → HasValue x s a (2 ^ low f) → (sgn x ≡ s) × (mag f x ≡ a)
unfolding sgn mag
value-size f nan s a v = absurd v
value-size f (inf t) s a v = absurd v
value-size f (fin t m e) s a v = (v.0, ap (◌/ down e) v.1 ∙ mul-div_cancel a (down_pos e))

module _ (f : Format) (s : Bool) where
  -- below the smallest normal value
  pub low-size : (t : ℕ) → (sgn (of_fields f s 0 t) ≡ s) × (mag f (of_fields f s 0 t) ≡ t)
  unfolding of_fields
  low-size t = let v = value-size f (odd (prec f) s t 0 (low f)) s (t * 2 ^ 0) (odd_sign (prec f) s t 0 (low f)) in (v.0, v.1 ∙ mul-one t)

  -- a normal value
  pub normal-size : (x t : ℕ) → suc x < ones f → (sgn (of_fields f s (suc x) t) ≡ s) × (mag f (of_fields f s (suc x) t) ≡ (hid f + t) * 2 ^ x)
  unfolding of_fields
  normal-size x t h =
      rw (ne_eqb (suc x) (ones f) (λ (e : suc x ≡ ones f). lt_irrefl (ones f) (lt_of_lt_of_le (le_of_eq (ap suc (sym e))) h)))
      (value-size f (odd (prec f) s (hid f + t) x (low f)) s ((hid f + t) * 2 ^ x) (odd_sign (prec f) s (hid f + t) x (low f)))

  -- an infinity or a NaN
  pub top-size : (x t : ℕ) → suc x ≡ ones f → mag f (of_fields f s (suc x) t) ≡ overflow f
  unfolding of_fields mag
  top-size x t e = rw (eq-eqb (suc x) (ones f) e) (go (eqb t 0))
    where
      go : (b : Bool) → mag f (cond b (inf s) nan) ≡ overflow f
      go true = refl
      go false = refl

-- the size does not turn on the sign
pub same_size : (f : Format) (s r : Bool) (x t : ℕ) → x ≤ ones f → mag f (of_fields f s x t) ≡ mag f (of_fields f r x t)
same_size f s r zero t h = (low-size f s t).1 ∙ sym (low-size f r t).1
same_size f s r (suc x) t h = go (eq-or-lt_of_le h)
  where
    go : (suc x ≡ ones f) ⊎ (suc x < ones f) → mag f (of_fields f s (suc x) t) ≡ mag f (of_fields f r (suc x) t)
    go (inl e) = top-size f s x t e ∙ sym (top-size f r x t e)
    go (inr l) = (normal-size f s x t l).1 ∙ sym (normal-size f r x t l).1

-- ---- the fields of bits
pub bits-fields : (f : Format) (b : ℕ) → of_bits f b ≡ of_fields f (leb (top f) b) (b % top f / hid f) (b % hid f)
unfolding of_bits
bits-fields f b = refl

pub field-most : (f : Format) (b : ℕ) → b % top f / hid f ≤ ones f
field-most f b =
    let h : b % top f < top f = mod-lt b (mul-pos (pow_pos (prec f - 1)) (zero-lt-suc (ones f))) in
    le_of_suc-le-suc ((div-lt_iff_lt-mul (pow_pos (prec f - 1))).1 (lt_of_lt_of_le h (le_of_eq (mul_comm (hid f) (suc (ones f))))))
