-- The energy of a loop by its two cases, and what is tested of each length: how large it is, and how long the entry below. Assumes nothing.
use mathlib.Core.Path.{◌≡◌, refl, sym, ap, ◌∙◌}
use mathlib.Core.Bool.{Bool, true, false, cond, ◌&&◌, ◌||◌, true≢false}
use Prim.Native.Nat.{ℕ, zero, suc, ◌+◌, ◌-◌, ◌*◌, ◌^◌, ◌≤◌, ◌<◌}
use native.Mathlib.Nat.{add-zero, div-le_of_le-mul, le_of_mul-le-mul_right, le_of_suc-le-suc, mul-le-mul_right, not-suc-le-zero, lt_of_le_of_lt}
use native.Mathlib.Omega.{arith}
use borrow.Author.Tests.{eq-eqb, ne_eqb}
use lib.Dec.{T, eqb, leb, leb→le, eqb→eq, lit<}
use lib.IntN.{pos}
use lib.Ieee.{Float, nan, inf, fin, Format, binary64, low, up, down, of_int, fits}
use lib.Ieee.Exact.{HasValue}
use lib.Ieee.Fits.{div-fits}
use Rattle.lists.specs.Build.{keep}
use Rattle.doubles.specs.Decimal.{nearest}
use Rattle.doubles.specs.Size.{mag, Within}
use Rattle.logarithm.specs.Figure.{mul_units, terms_from, ln_series, ln_reduced, ln_ratio, ln_from, ln_whole, fixed}
use Rattle.logarithm.proofs.Double.{fixed-value}
use Rattle.logarithm.proofs.Near.{value-finite}
use Rattle.utils.specs.Paper.{Loop, table4, loop_figure}
use Rattle.utils.specs.Figures.{loop_rows, row_up_to, entry_up_to, between_units, energy_from, admitted_length, loop_energy}
use Rattle.utils.specs.declared.tables.LoopKind.{LoopKind}
use Rattle.utils.specs.declared.tables.LoopKind.TheVariants.{Internal}
use Rattle.utils.proofs.Small.{small, halves, nearest-within}

-- ---- the two cases
energy-is : (kind : LoopKind) (n : ℕ) → energy_from kind (entry_up_to n) n ≡ loop_energy kind n
unfolding loop_energy
energy-is kind n = refl

module _ (kind : LoopKind) (n : ℕ) (row : Loop) (e : row ≡ entry_up_to n) where
  chosen : (t : Bool) → eqb row.length n ≡ t → cond t (nearest (loop_figure kind row)) (fixed (between_units (loop_figure kind row).digits row.length n)) ≡ energy_from kind row n
  unfolding energy_from
  chosen t h = sym (ap (λ (t : Bool). cond t (nearest (loop_figure kind row)) (fixed (between_units (loop_figure kind row).digits row.length n))) h)

  of_entry : energy_from kind row n ≡ loop_energy kind n
  of_entry = ap (λ (r : Loop). energy_from kind r n) e ∙ energy-is kind n

  pub own-entry : row.length ≡ n → nearest (loop_figure kind row) ≡ loop_energy kind n
  own-entry l = chosen true (eq-eqb row.length n l) ∙ of_entry

  pub entry-below : (row.length ≡ n → ⊥) → fixed (between_units (loop_figure kind row).digits row.length n) ≡ loop_energy kind n
  entry-below l = chosen false (ne_eqb row.length n l) ∙ of_entry

-- ---- the lengths
pub admitted-ends : (n : ℕ) → admitted_length n ≡ true → (3 ≤ n) × (n ≤ 254)
admitted-ends n e = ends (leb 3 n) (leb n 254) (leb→le 3 n) (leb→le n 254) e
  where
    ends : (a b : Bool) → (T a → 3 ≤ n) → (T b → n ≤ 254) → (a && b) ≡ true → (3 ≤ n) × (n ≤ 254)
    ends true true p q e = (p tt, q tt)
    ends true false p q e = absurd (true≢false (sym e))
    ends false b p q e = absurd (true≢false (sym e))

-- a test of so many lengths from one on
unfoldable pub all_from : ℕ → ℕ → (ℕ → Bool) → Bool
all_from zero n p = true
all_from (suc k) n p = p n && all_from k (suc n) p

all-at : (k n : ℕ) (p : ℕ → Bool) → T (all_from k n p) → (i : ℕ) → i < k → T (p (n + i))
unfolding all_from
all-at zero n p t i h = absurd (not-suc-le-zero h)
all-at (suc k) n p t zero h = rw (add-zero n) (halves (p n) (all_from k (suc n) p) t).0
all-at (suc k) n p t (suc i) h = rw e (all-at k (suc n) p (halves (p n) (all_from k (suc n) p) t).1 i (le_of_suc-le-suc h))
  where
    e : n + suc i ≡ suc n + i
    e = omega arith

-- what is tested of every length from 3 to 254
pub each-length : (p : ℕ → Bool) → T (all_from 252 3 p) → (n : ℕ) → 3 ≤ n → n ≤ 254 → T (p n)
each-length p t n l h = let e : 3 + (n - 3) ≡ n = omega arith in rw e at (all-at 252 3 p t (n - 3) (omega arith))

-- an entry of its own, or one of 10 at least below it
below-test : ℕ → Bool
below-test n = eqb (entry_up_to n).length n || leb 10 (entry_up_to n).length

each_below : T (all_from 252 3 below-test)
unfolding all_from below-test entry_up_to row_up_to loop_rows keep table4
each_below = tt

either : (a b : Bool) → T (a || b) → (a ≡ true → ⊥) → T b
either true b t f = absurd (f refl)
either false b t f = t

pub base-least : (n : ℕ) → 3 ≤ n → n ≤ 254 → ((entry_up_to n).length ≡ n → ⊥) → 10 ≤ (entry_up_to n).length
unfolding below-test
base-least n l h f =
    leb→le 10 (entry_up_to n).length
    (either (eqb (entry_up_to n).length n) (leb 10 (entry_up_to n).length) (each-length below-test each_below n l h) (λ (e : eqb (entry_up_to n).length n ≡ true). f (eqb→eq (entry_up_to n).length n (rw e tt))))

-- ---- how large: an internal loop is at most 10, and at most 7 where it is no longer than 10
low-test : ℕ → Bool
low-test n = leb (between_units (entry_up_to n).internal (entry_up_to n).length n) (10 * 2 ^ 46) && small 320 (loop_figure Internal (entry_up_to n))

each-low : T (all_from 252 3 low-test)
unfolding all_from low-test entry_up_to row_up_to loop_rows keep table4 between_units mul_units ln_whole ln_from ln_ratio ln_reduced ln_series terms_from
each-low = tt

short-test : ℕ → Bool
short-test n = leb 11 n || (eqb (entry_up_to n).length n && small 224 (loop_figure Internal (entry_up_to n)))

each-short : T (all_from 252 3 short-test)
unfolding all_from short-test entry_up_to row_up_to loop_rows keep table4
each-short = tt

value-size : (f : Format) (r : Float) (v most : ℕ) → HasValue r false v (2 ^ 46) → v ≤ most * 2 ^ 46 → mag f r ≤ most * 2 ^ low f
unfolding mag
value-size f nan v most h l = absurd h
value-size f (inf s) v most h l = absurd h
value-size f (fin s m e) v most h l = div-le_of_le-mul (down e) (size-alg (m * up e) (down e) (2 ^ low f) v most h.1 l)
  where
    size-alg : (a d u v most : ℕ) → a * 2 ^ 46 ≡ v * d → v ≤ most * 2 ^ 46 → a * u ≤ d * (most * u)
    size-alg a d u v most e l =
        let g : a ≤ most * d = le_of_mul-le-mul_right {k = 2 ^ 46} (omega (arith, mul-le-mul_right d l)) (lit< tt) in
        omega (arith, mul-le-mul_right u g)

pub fixed-within : (v most : ℕ) → v < 2 ^ 53 → v ≤ most * 2 ^ 46 → Within binary64 most (fixed v)
fixed-within v most s l = record {
  real = record { fit = fit_of; fini = value-finite (fixed v) false v (2 ^ 46) (fixed-value v s) };
  size = value-size binary64 (fixed v) v most (fixed-value v s) l;
}
  where
    fit_of : T (fits binary64 (fixed v))
    fit_of = unfold fixed in (div-fits binary64 (of_int binary64 (pos v)) (fin false 1 (pos 46)))

module _ (n : ℕ) (l : 3 ≤ n) (h : n ≤ 254) where
  low_parts : T (leb (between_units (entry_up_to n).internal (entry_up_to n).length n) (10 * 2 ^ 46)) × T (small 320 (loop_figure Internal (entry_up_to n)))
  unfolding low-test
  low_parts = halves (leb (between_units (entry_up_to n).internal (entry_up_to n).length n) (10 * 2 ^ 46)) (small 320 (loop_figure Internal (entry_up_to n))) (each-length low-test each-low n l h)

  pub loop-low : Within binary64 10 (loop_energy Internal n)
  loop-low = go (eqb (entry_up_to n).length n) refl
    where
      go : (t : Bool) → eqb (entry_up_to n).length n ≡ t → Within binary64 10 (loop_energy Internal n)
      go true e = rw (own-entry Internal n (entry_up_to n) refl (eqb→eq (entry_up_to n).length n (rw e tt))) at (nearest-within 10 (lit< tt) (loop_figure Internal (entry_up_to n)) low_parts.1)
      go false e =
          let v : between_units (entry_up_to n).internal (entry_up_to n).length n ≤ 10 * 2 ^ 46 = leb→le _ _ low_parts.0 in
          rw (entry-below Internal n (entry_up_to n) refl (λ (k : (entry_up_to n).length ≡ n). true≢false (sym (eq-eqb (entry_up_to n).length n k) ∙ e))) at
          (fixed-within (between_units (entry_up_to n).internal (entry_up_to n).length n) 10 (lt_of_le_of_lt v (lit< tt)) v)

  pub loop-short : n ≤ 10 → Within binary64 7 (loop_energy Internal n)
  unfolding short-test
  loop-short k =
      let w = halves (eqb (entry_up_to n).length n) (small 224 (loop_figure Internal (entry_up_to n))) (either (leb 11 n) (eqb (entry_up_to n).length n && small 224 (loop_figure Internal (entry_up_to n))) (each-length short-test each-short n l h) (λ (e : leb 11 n ≡ true). let g : 11 ≤ n = leb→le 11 n (rw e tt) in omega arith)) in
      rw (own-entry Internal n (entry_up_to n) refl (eqb→eq (entry_up_to n).length n w.0)) at (nearest-within 7 (lit< tt) (loop_figure Internal (entry_up_to n)) w.1)
