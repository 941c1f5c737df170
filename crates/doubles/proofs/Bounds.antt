-- Bounds that a range test gives and takes, and that a left-to-right sum of bounded terms keeps. Assumes nothing.
use mathlib.Core.Path.{◌≡◌, refl, ◌∙◌}
use mathlib.Core.Bool.{Bool, true, false}
use mathlib.Core.List.{List, [], ◌∷◌}
use Prim.Native.Nat.{ℕ, suc, ◌+◌, ◌*◌, ◌^◌, ◌≤◌, zero-le}
use native.Mathlib.Nat.{le_trans, le_of_eq, lt_of_le_of_lt, suc-mul}
use native.Mathlib.Omega.{arith}
use lib.Dec.{T, lit≤}
use lib.ListN.{length}
use lib.Ieee.{Float, nan, inf, fin, Format, binary64, prec, low, round, neg, add, le, fits}
use lib.Ieee.Fits.{round-fits}
use lib.Ieee.Scale.{finite}
use Rattle.lists.specs.Each.{Each}
use Rattle.lists.proofs.Tests.{both, and_both}
use Rattle.doubles.specs.Decimal as Decimal
use Rattle.doubles.specs.Decimal.{plus, minus, nearest}
use Rattle.doubles.specs.Range.{within, in_range}
use Rattle.doubles.specs.Sum.{sum_from}
use Rattle.doubles.specs.Size.{sgn, mag, Real, Within, negative_zero}
use Rattle.doubles.specs.Order.{over, under, Le}
use Rattle.doubles.proofs.Size.{grid-whole, round-mag, finite-of-mag, whole-lt}
use Rattle.doubles.proofs.Order.{le-yes→Le, Le→le}
use Rattle.doubles.proofs.Sums.{weaken, parts-mag, over-le, under-le, round-over, round_under, neg-real, neg-over, neg-under, add-within}
use Rattle.doubles.proofs.Products.{within-between, at_least, not_negative}
use Rattle.doubles.proofs.NegativeZero.{add-not}

-- ---- from a range test

-- between two finite values lies neither a NaN nor an infinity
finite-between : (low x high : Float) → T (finite low) → T (finite high) → le low x ≡ true → le x high ≡ true → T (finite x)
unfolding le
finite-between nan x high p q e f = absurd p
finite-between (inf s) x high p q e f = absurd p
finite-between (fin s m d) x nan p q e f = absurd q
finite-between (fin s m d) x (inf t) p q e f = absurd q
finite-between (fin s m d) nan (fin t n k) p q e f = absurd (let z : ◌≡◌ {A = ℕ} 0 1 = cc in omega arith)
finite-between (fin s m d) (inf true) (fin t n k) p q e f = absurd (let z : ◌≡◌ {A = ℕ} 0 1 = cc in omega arith)
finite-between (fin s m d) (inf false) (fin t n k) p q e f = absurd (let z : ◌≡◌ {A = ℕ} 0 1 = cc in omega arith)
finite-between (fin s m d) (fin r l j) (fin t n k) p q e f = tt

-- x passes the test of a range whose ends are at most A in size
pub test-within : (A : ℕ) (low x high : Float) → Within binary64 A low → Within binary64 A high → T (fits binary64 x) → within low high x ≡ true
    → Within binary64 A x × Le binary64 low x
test-within A low x high p q t e =
    let w = both (le low x) (le x high) e in
    let r : Real binary64 x = record { fit = t; fini = finite-between low x high p.real.fini q.real.fini w.0 w.1 } in
    let a = le-yes→Le binary64 low x p.real r w.0 in
    (within-between binary64 A low x high p q r a (le-yes→Le binary64 x high r q.real w.1), a)

-- a whole number is at most itself in size
whole : (s : Bool) (A : ℕ) → A ≤ 2 ^ prec binary64 → Within binary64 A (round binary64 s A 1)
whole s A h =
    let m : mag binary64 (round binary64 s A 1) ≡ A * 2 ^ low binary64 = round-mag binary64 s A 1 ∙ grid-whole binary64 A h in
    record {
      real = record {
        fit = round-fits binary64 s A 1;
        fini = finite-of-mag binary64 (round binary64 s A 1) (lt_of_le_of_lt (le_of_eq m) (whole-lt binary64 A h));
      };
      size = le_of_eq m;
    }

-- x is in the range ± A
pub in-range-within : (A : ℕ) → A ≤ 2 ^ prec binary64 → (x : Float) → T (fits binary64 x) → in_range (minus A 0) (plus A 0) x ≡ true → Within binary64 A x
unfolding in_range nearest
in-range-within A h x t e = (test-within A (round binary64 true A 1) x (round binary64 false A 1) (whole true A h) (whole false A h) t e).0

-- and the other way round: what is at most A in size passes the test of that range
is_true : (b : Bool) → T b → b ≡ true
is_true true h = refl
is_true false h = absurd h

pub within-passes : (A : ℕ) → A ≤ 2 ^ prec binary64 → (x : Float) → Within binary64 A x → within (round binary64 true A 1) (round binary64 false A 1) x ≡ true
within-passes A h x w =
    and_both (is_true (le (round binary64 true A 1) x) (Le→le binary64 (round binary64 true A 1) x (whole true A h).real w.real above))
    (is_true (le x (round binary64 false A 1)) (Le→le binary64 x (round binary64 false A 1) w.real (whole false A h).real below))
  where
    above : Le binary64 (round binary64 true A 1) x
    above = record {
      rise = rw (round-over binary64 true A 1) zero-le;
      fall = rw (round_under binary64 true A 1 ∙ grid-whole binary64 A h) (le_trans (under-le binary64 x) w.size);
    }

    below : Le binary64 x (round binary64 false A 1)
    below = record {
      rise = rw (round-over binary64 false A 1 ∙ grid-whole binary64 A h) (le_trans (over-le binary64 x) w.size);
      fall = rw (round_under binary64 false A 1) zero-le;
    }

-- RT is at most 8, and at least 1 / 8
eighth : Within binary64 8 (nearest (plus 125 3))
unfolding nearest mag fits
eighth = record { real = record { fit = tt; fini = tt }; size = lit≤ tt }

eighth-over : 2 ^ low binary64 ≤ 8 * over binary64 (nearest (plus 125 3))
unfolding nearest over mag sgn
eighth-over = lit≤ tt

eighth-under : under binary64 (nearest (plus 125 3)) ≡ 0
unfolding nearest under sgn
eighth-under = refl

pub record Rt (x : Float) : Type 0 where
  pub size : Within binary64 8 x
  pub eighths : 2 ^ low binary64 ≤ 8 * over binary64 x
  pub sign : under binary64 x ≡ 0

pub rt-range : (x : Float) → T (fits binary64 x) → in_range (plus 125 3) (plus 8 0) x ≡ true → Rt x
unfolding in_range
rt-range x t e =
    let w = test-within 8 (nearest (plus 125 3)) x (nearest (plus 8 0)) eighth eight t e in
    record { size = w.0; eighths = at_least binary64 8 _ x eighth-over w.1; sign = not_negative binary64 _ x eighth-under w.1 }
  where
    eight : Within binary64 8 (nearest (plus 8 0))
    eight = unfold nearest in whole false 8 (lit≤ tt)

-- ---- sums

-- over any format, since the units of a double are too many for `omega`
neg-size : (f : Format) (k : ℕ) (x : Float) → Real f x → mag f x ≤ k → mag f (neg x) ≤ k
neg-size f k x r h = parts-mag f (neg x) k (omega (arith, neg-over f x r, under-le f x)) (omega (arith, neg-under f x r, over-le f x))

pub neg-within : {A : ℕ} {x : Float} → Within binary64 A x → Within binary64 A (neg x)
neg-within {A} {x} w = record { real = neg-real binary64 x w.real; size = neg-size binary64 (A * 2 ^ low binary64) x w.real w.size }

-- 0.0, from which a sum starts
pub zero-within : Within binary64 0 Decimal.zero
unfolding mag fits
zero-within = record { real = record { fit = tt; fini = tt }; size = lit≤ tt }

pub zero-not : negative_zero Decimal.zero ≡ false
unfolding negative_zero
zero-not = refl

-- terms of size at most E, added to a sum of size at most A
pub sum-within : (E A : ℕ) (sum : Float) (terms : List Float) → Within binary64 A sum → Each (Within binary64 E) terms → A + length terms * E ≤ 2 ^ prec binary64
    → Within binary64 (A + length terms * E) (sum_from sum terms)
unfolding sum_from
sum-within E A sum [] w h n = weaken (A + 0 * E) (omega arith) w
sum-within E A sum (x ∷ terms) w h n =
    let k : suc (length terms) * E ≡ length terms * E + E = suc-mul (length terms) E in
    weaken (A + suc (length terms) * E) (omega arith)
    (sum-within E (A + E) (add binary64 sum x) terms (add-within binary64 A E sum x w h.0 (omega arith)) h.1 (omega arith))

pub sum-not : (E A : ℕ) (sum : Float) (terms : List Float) → Within binary64 A sum → negative_zero sum ≡ false → Each (Within binary64 E) terms → A + length terms * E ≤ 2 ^ prec binary64
    → negative_zero (sum_from sum terms) ≡ false
unfolding sum_from
sum-not E A sum [] w z h n = z
sum-not E A sum (x ∷ terms) w z h n =
    let k : suc (length terms) * E ≡ length terms * E + E = suc-mul (length terms) E in
    sum-not E (A + E) (add binary64 sum x) terms (add-within binary64 A E sum x w h.0 (omega arith)) (add-not sum x w.real h.0.real z) h.1 (omega arith)
