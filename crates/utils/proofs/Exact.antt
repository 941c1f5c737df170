-- The answers of both modes lie near the exact sums of their decimals: each decimal is rounded once, and each addition once. Assumes nothing.
use mathlib.Core.Path.{◌≡◌, refl, ap, sym, ◌∙◌}
use mathlib.Core.Bool.{Bool, true, false, cond, ◌&&◌}
use mathlib.Core.List.{List, [], ◌∷◌, ◌++◌, map, map-map, map-append}
use Prim.Native.Nat.{ℕ, suc, ◌+◌, ◌-◌, ◌*◌, ◌^◌, ◌≤◌}
use native.Mathlib.Nat.{le_trans, add-mul, suc-mul, mul-le-mul_right, lt_of_lt_of_le, pow-le-pow_left, mul_left_comm}
use native.Mathlib.Omega.{arith}
use lib.Dec.{T, eqb, leb, eqb→eq, leb→le, le→leb, lit≤, lit<}
use lib.Pow.{pow_pos, pow-add}
use lib.ListN.{length, length-map, length-append}
use lib.Ieee.{Float, binary64, prec, low}
use Rattle.lists.specs.Each.{Each}
use Rattle.lists.proofs.Each.{each_append, each_all, each_map}
use Rattle.doubles.specs.Decimal as Decimal
use Rattle.doubles.specs.Decimal.{Decimal, plus, nearest}
use Rattle.doubles.specs.Size.{mag, sgn, Within}
use Rattle.doubles.specs.Order.{over, under}
use Rattle.doubles.specs.Near.{two_to_minus, NearUnits, NearFraction}
use Rattle.doubles.specs.Sum.{sum_from}
use Rattle.doubles.proofs.Bounds.{zero-within, sum-within}
use Rattle.doubles.proofs.Sums.{weaken}
use Rattle.doubles.proofs.Near.{total, round-near, sum_near}
use Rattle.doubles.proofs.Sums.{sum-append}
use Rattle.reply.specs.First.{first_of}
use Rattle.utils.specs.Bases.{Base, bases}
use Rattle.utils.specs.Paper.{stack_of, find, table1, initiation_dg, initiation_ds, terminal_dg, terminal_ds, symmetry_dg, symmetry_ds, kilo}
use Rattle.utils.specs.Figures.{stack_dg, stack_ds, entropy_of, start_dg, start_ds, printed_start_ds, end_dg, end_ds, symmetric_dg, symmetric_ds}
use Rattle.utils.specs.Single.{Neighbours, neighbours, stack_sum, sequence_checks, string_dna_dg_ds}
use Rattle.utils.specs.Terms.{is_a_or_t, first_base, last_base, self_complementary, terms_after, published_dg, published_ds, published_dna_dg_ds}
use Rattle.utils.specs.Exact.{above, below, together, dg_of, ds_of, old_dg, old_ds, paper_dg, paper_ds, NearSum, count, weak_ends, WholeDuplexes}
use Rattle.utils.proofs.Small.{nearest-within, halves, tested}
use Rattle.std.specs.Prelude.{Ok}
use Rattle.utils.proofs.Finite.{few-neighbours, sequence-short, one-energy, sums-finite, energy-of, entropy-of}

-- ---- arithmetic

-- one decimal more
one_more : (c U g o u a b O Q A B n : ℕ) → o * c + b * U ≤ u * c + a * U + g * c → O * c + B * U ≤ Q * c + A * U + n * g * c
    → (o + O) * c + (b + B) * U ≤ (u + Q) * c + (a + A) * U + suc n * g * c
one_more c U g o u a b O Q A B n h k =
    let last : suc n * g * c ≡ n * g * c + g * c = ap (λ t. t * c) (suc-mul n g) ∙ add-mul (n * g) g c in
    omega (arith, add-mul o O c, add-mul b B U, add-mul u Q c, add-mul a A U)

no-decimal : (c U g : ℕ) → 0 * c + 0 * U ≤ 0 * c + 0 * U + 0 * g * c
no-decimal c U g = omega arith

-- what the additions are off, and what the decimals are
both-errors : (c U x y O Q A B d e most : ℕ) → x + Q ≤ y + O + d → O * c + B * U ≤ Q * c + A * U + e * c → d + e ≤ most → x * c + B * U ≤ y * c + A * U + most * c
both-errors c U x y O Q A B d e most h k m =
    let first : (y + O + d) * c ≡ y * c + O * c + d * c = add-mul (y + O) d c ∙ ap (λ t. t + d * c) (add-mul y O c) in
    omega (arith, mul-le-mul_right c h, mul-le-mul_right c m, add-mul x Q c, add-mul d e c)

-- the sum begins with 0.0
from_zero : (z w x Q y O d : ℕ) → z ≡ 0 → w ≡ 0 → x + (z + Q) ≤ y + (w + O) + d → x + Q ≤ y + O + d
from_zero z w x Q y O d p q h = omega arith

zero-over : over binary64 Decimal.zero ≡ 0
unfolding over sgn mag
zero-over = refl

zero-under : under binary64 Decimal.zero ≡ 0
unfolding under sgn
zero-under = refl

-- 259 terms, 2⁻⁴⁴ for each addition and 2⁻⁵² for each decimal, are less than 2⁻³⁴
few-errors : (n g a most : ℕ) → n ≤ 259 → a ≡ 256 * g → most ≡ 262144 * g → n * a + n * g ≤ most
few-errors n g a most h p q =
    let each : n * a ≡ 256 * (n * g) = rw p (simp mul_left_comm) in
    omega (arith, mul-le-mul_right g h)

-- ---- decimals of one number of places, at most 3 in size

module _ (places : ℕ) where
  Fit : Decimal → Type 0
  Fit d = (d.places ≡ places) × (d.digits ≤ 3 * 10 ^ places)

  c : ℕ
  c = 10 ^ places

  grain : ℕ
  grain = 2 ^ (low binary64 + 2 - suc (prec binary64))

  decimal-near : (d : Decimal) → Fit d → NearFraction binary64 grain (nearest d) (above d) (below d) c
  unfolding Fit c grain nearest
  decimal-near d f =
      rw f.0
      (round-near binary64 3 (low binary64 + 2) d.digits (10 ^ places) (lt_of_lt_of_le (pow_pos places) (pow-le-pow_left (lit≤ tt) places)) (lit≤ tt) (lit< tt) (lit< tt) f.1 d.negative)

  -- the two sides of the exact sum, against the doubles' own
  Sides : List Decimal → Type 0
  Sides ds =
      (total (over binary64) (map nearest ds) * c + together below ds * 2 ^ low binary64 ≤ total (under binary64) (map nearest ds) * c + together above ds * 2 ^ low binary64 + length ds * grain * c)
      × (total (under binary64) (map nearest ds) * c + together above ds * 2 ^ low binary64 ≤ total (over binary64) (map nearest ds) * c + together below ds * 2 ^ low binary64 + length ds * grain * c)

  sides : (ds : List Decimal) → Each Fit ds → Sides ds
  unfolding Sides total together
  sides [] e = (no-decimal c (2 ^ low binary64) grain, no-decimal c (2 ^ low binary64) grain)
  sides (d ∷ ds) e =
      let here = decimal-near d e.0 in
      let rest = sides ds e.1 in
      let x = nearest d in
      let O = total (over binary64) (map nearest ds) in
      let Q = total (under binary64) (map nearest ds) in (
        one_more c (2 ^ low binary64) grain (over binary64 x) (under binary64 x) (above d) (below d) O Q (together above ds) (together below ds) (length ds) here.above rest.0,
        one_more c (2 ^ low binary64) grain (under binary64 x) (over binary64 x) (below d) (above d) Q O (together below ds) (together above ds) (length ds) here.below rest.1,
      )

  fit_small : (d : Decimal) → Fit d → Within binary64 3 (nearest d)
  unfolding Fit
  fit_small d f = nearest-within 3 (lit< tt) d (le→leb (d.digits * 32) (96 * 10 ^ d.places) (rw f.0 (omega (arith, f.1))))

  -- the sum of the doubles, each addition rounded
  sum-off : (ds : List Decimal) → Each Fit ds → length ds ≤ 259
      → NearUnits binary64 (length ds * 2 ^ (low binary64 + 10 - suc (prec binary64))) (sum_from Decimal.zero (map nearest ds))
      (over binary64 Decimal.zero + total (over binary64) (map nearest ds)) (under binary64 Decimal.zero + total (under binary64) (map nearest ds))
  sum-off ds e h =
      rw (length-map ds nearest) at
      (sum_near 3 (low binary64 + 10) 777 0 Decimal.zero (map nearest ds) (lit< tt) (lit≤ tt) (lit< tt) zero-within (each_map Fit (Within binary64 3) nearest fit_small ds e) (rw (length-map ds nearest) (omega arith)))

  near-sum : (ds : List Decimal) → Each Fit ds → length ds ≤ 259 → NearSum 34 places (sum_from Decimal.zero (map nearest ds)) ds
  unfolding c grain Sides
  near-sum ds e h =
      let x = sum_from Decimal.zero (map nearest ds) in
      let off = sum-off ds e h in
      let s = sides ds e in
      let n = length ds in
      let O = total (over binary64) (map nearest ds) in
      let Q = total (under binary64) (map nearest ds) in
      let errors = few-errors n grain (2 ^ (low binary64 + 10 - suc (prec binary64))) (two_to_minus binary64 34) h (pow-add 2 8 1022) (pow-add 2 18 1022) in
      record {
        above = both-errors c (2 ^ low binary64) (over binary64 x) (under binary64 x) O Q (together above ds) (together below ds) (n * 2 ^ (low binary64 + 10 - suc (prec binary64))) (n * grain) (two_to_minus binary64 34) (from_zero _ _ _ Q _ O _ zero-under zero-over off.above) s.0 errors;
        below = both-errors c (2 ^ low binary64) (under binary64 x) (over binary64 x) Q O (together below ds) (together above ds) (n * 2 ^ (low binary64 + 10 - suc (prec binary64))) (n * grain) (two_to_minus binary64 34) (from_zero _ _ _ O _ Q _ zero-over zero-under off.below) s.1 errors;
      }

-- ---- the decimals of a sequence

-- a test of a decimal that fits
fitting : ℕ → Decimal → Bool
fitting places d = eqb d.places places && leb d.digits (3 * 10 ^ places)

fits-so : (places : ℕ) (d : Decimal) → T (fitting places d) → Fit places d
unfolding fitting Fit
fits-so places d t = let both = halves (eqb d.places places) (leb d.digits (3 * 10 ^ places)) t in (eqb→eq d.places places both.0, leb→le d.digits (3 * 10 ^ places) both.1)

dg-fits : (n : Neighbours) → Fit 2 (dg_of n)
unfolding fitting stack_of find table1
dg-fits n = fits-so 2 (dg_of n) (tested (λ a b. fitting 2 (stack_of a b).dg) tt n.first n.second)

ds-fits : (n : Neighbours) → Fit 4 (ds_of n)
unfolding fitting entropy_of stack_of find table1
ds-fits n = fits-so 4 (ds_of n) (tested (λ a b. fitting 4 (kilo (entropy_of a b))) tt n.first n.second)

-- the sum goes on over the terms
sum-on : (xs ys : List Decimal) → sum_from (sum_from Decimal.zero (map nearest xs)) (map nearest ys) ≡ sum_from Decimal.zero (map nearest (xs ++ ys))
sum-on xs ys = sym (ap (sum_from Decimal.zero) (map-append nearest xs ys) ∙ sum-append Decimal.zero (map nearest xs) (map nearest ys))

module _ (i e y : Decimal) where
  -- the terms by the three tests that decide them
  unfoldable pub terms : Bool → Bool → Bool → List Decimal
  terms p q r = i ∷ (cond p (e ∷ []) [] ++ (cond q (e ∷ []) [] ++ cond r (y ∷ []) []))

  pub terms-mapped : (p q r : Bool) → map nearest (terms p q r) ≡ nearest i ∷ (cond p (nearest e ∷ []) [] ++ (cond q (nearest e ∷ []) [] ++ cond r (nearest y ∷ []) []))
  unfolding terms
  terms-mapped true true true = refl
  terms-mapped true true false = refl
  terms-mapped true false true = refl
  terms-mapped true false false = refl
  terms-mapped false true true = refl
  terms-mapped false true false = refl
  terms-mapped false false true = refl
  terms-mapped false false false = refl

  few-terms : (p q r : Bool) → length (terms p q r) ≤ 4
  unfolding terms
  few-terms true true true = lit≤ tt
  few-terms true true false = lit≤ tt
  few-terms true false true = lit≤ tt
  few-terms true false false = lit≤ tt
  few-terms false true true = lit≤ tt
  few-terms false true false = lit≤ tt
  few-terms false false true = lit≤ tt
  few-terms false false false = lit≤ tt

  terms-fit : (P : Decimal → Type 0) → P i → P e → P y → (p q r : Bool) → Each P (terms p q r)
  unfolding terms
  terms-fit P a b c true true true = (a, (b, (b, (c, tt))))
  terms-fit P a b c true true false = (a, (b, (b, tt)))
  terms-fit P a b c true false true = (a, (b, (c, tt)))
  terms-fit P a b c true false false = (a, (b, tt))
  terms-fit P a b c false true true = (a, (b, (c, tt)))
  terms-fit P a b c false true false = (a, (b, tt))
  terms-fit P a b c false false true = (a, (c, tt))
  terms-fit P a b c false false false = (a, tt)

  terms-together : (part : Decimal → ℕ) (p q r : Bool) → together part (terms p q r) ≡ part i + (part e * (count p + count q) + part y * count r)
  unfolding terms together
  terms-together part true true true = omega arith
  terms-together part true true false = omega arith
  terms-together part true false true = omega arith
  terms-together part true false false = omega arith
  terms-together part false true true = omega arith
  terms-together part false true false = omega arith
  terms-together part false false true = omega arith
  terms-together part false false false = omega arith

together-both : (part : Decimal → ℕ) (xs ys : List Decimal) → together part (xs ++ ys) ≡ together part xs + together part ys
unfolding together
together-both part [] ys = omega arith
together-both part (x ∷ xs) ys = omega (arith, together-both part xs ys)

-- the stacks' sum, then the terms'
module _ (places : ℕ) (f : Neighbours → Decimal) (fit : (n : Neighbours) → Fit places (f n)) (s : List Base) (short : length s ≤ 256) where
  whole : (ts : List Decimal) → Each (Fit places) ts → length ts ≤ 4 → (x : Float)
      → x ≡ sum_from (sum_from Decimal.zero (map (λ n. nearest (f n)) (neighbours s))) (map nearest ts) → NearSum 34 places x (map f (neighbours s) ++ ts)
  whole ts each few x e =
      let all : x ≡ sum_from Decimal.zero (map nearest (map f (neighbours s) ++ ts)) =
      e ∙ ap (λ xs. sum_from (sum_from Decimal.zero xs) (map nearest ts)) (sym (map-map nearest f (neighbours s))) ∙ sum-on (map f (neighbours s)) ts in
      let stacks = each_map (λ n. Unit) (Fit places) f (λ n u. fit n) (neighbours s) (each_all (λ n. Unit) (λ n. tt) (neighbours s)) in
      let size : length (map f (neighbours s) ++ ts) ≤ 259 = simp (length-append, length-map) (omega (arith, few-neighbours s)) in
      rw all (near-sum places (map f (neighbours s) ++ ts) (each_append (Fit places) (map f (neighbours s)) ts stacks each) size)

module _ (s : List ℕ) (admitted : first_of (sequence_checks s) ≡ Ok tt) where
  p : Bool
  p = is_a_or_t (first_base (bases s))

  q : Bool
  q = is_a_or_t (last_base (bases s))

  r : Bool
  r = self_complementary (bases s)

  short : length (bases s) ≤ 256
  short = sequence-short s admitted

  old-energy : NearSum 34 2 (string_dna_dg_ds s).dg (old_dg (bases s))
  unfolding string_dna_dg_ds stack_sum stack_dg start_dg initiation_dg sum_from fitting
  old-energy = rw admitted (whole 2 dg_of dg-fits (bases s) short (initiation_dg ∷ []) (fits-so 2 initiation_dg tt, tt) (lit≤ tt) _ refl)

  old-entropy : NearSum 34 4 (string_dna_dg_ds s).ds (old_ds (bases s))
  unfolding string_dna_dg_ds stack_sum stack_ds start_ds sum_from fitting
  old-entropy = rw admitted (whole 4 ds_of ds-fits (bases s) short (plus 57 4 ∷ []) (fits-so 4 (plus 57 4) tt, tt) (lit≤ tt) _ refl)

  paper-energy : NearSum 34 2 (published_dna_dg_ds s).dg (paper_dg (bases s))
  unfolding p q r published_dna_dg_ds published_dg stack_sum stack_dg terms_after terms start_dg end_dg symmetric_dg initiation_dg terminal_dg symmetry_dg fitting
  paper-energy =
      rw admitted
      (whole 2 dg_of dg-fits (bases s) short (terms initiation_dg terminal_dg symmetry_dg p q r)
      (terms-fit initiation_dg terminal_dg symmetry_dg (Fit 2) (fits-so 2 initiation_dg tt) (fits-so 2 terminal_dg tt) (fits-so 2 symmetry_dg tt) p q r)
      (few-terms initiation_dg terminal_dg symmetry_dg p q r) _
      (ap (sum_from (stack_sum stack_dg (bases s))) (sym (terms-mapped initiation_dg terminal_dg symmetry_dg p q r))))

  paper-entropy : NearSum 34 4 (published_dna_dg_ds s).ds (paper_ds (bases s))
  unfolding p q r published_dna_dg_ds published_ds stack_sum stack_ds terms_after terms printed_start_ds end_ds symmetric_ds initiation_ds terminal_ds symmetry_ds fitting
  paper-entropy =
      rw admitted
      (whole 4 ds_of ds-fits (bases s) short (terms (kilo initiation_ds) (kilo terminal_ds) (kilo symmetry_ds) p q r)
      (terms-fit (kilo initiation_ds) (kilo terminal_ds) (kilo symmetry_ds) (Fit 4) (fits-so 4 (kilo initiation_ds) tt) (fits-so 4 (kilo terminal_ds) tt) (fits-so 4 (kilo symmetry_ds) tt) p q r)
      (few-terms (kilo initiation_ds) (kilo terminal_ds) (kilo symmetry_ds) p q r) _
      (ap (sum_from (stack_sum stack_ds (bases s))) (sym (terms-mapped (kilo initiation_ds) (kilo terminal_ds) (kilo symmetry_ds) p q r))))

-- ---- how the exact sums of the two modes part

-- one side of the exact sum in each mode
module _ (part : Decimal → ℕ) (f : Neighbours → Decimal) (start i e y : Decimal) (s : List Base) where
  old-side : together part (map f (neighbours s) ++ (start ∷ [])) ≡ together part (map f (neighbours s)) + part start
  unfolding together
  old-side = together-both part (map f (neighbours s)) (start ∷ []) ∙ omega arith

  paper-side : together part (map f (neighbours s) ++ terms_after i e y s)
      ≡ together part (map f (neighbours s)) + (part i + (part e * weak_ends s + part y * count (self_complementary s)))
  unfolding terms_after terms
  paper-side =
      together-both part (map f (neighbours s)) (terms_after i e y s)
      ∙ ap (λ n. together part (map f (neighbours s)) + n) (terms-together i e y part (is_a_or_t (first_base s)) (is_a_or_t (last_base s)) (self_complementary s))

-- ---- finite

of_size : ℕ → Decimal → Type 0
of_size most d = Within binary64 most (nearest d)

-- the terms go on from a sum that is finite
finite-after : (A E : ℕ) (x : Float) (i e y : Decimal) → A + 4 * E ≤ 1024 → Within binary64 A x → of_size E i → of_size E e → of_size E y → (p q r : Bool)
    → Within binary64 (A + 4 * E) (sum_from x (map nearest (terms i e y p q r)))
unfolding of_size
finite-after A E x i e y room w a b c p q r =
    let ts = terms i e y p q r in
    let few : length (map nearest ts) ≤ 4 = rw (length-map ts nearest) (few-terms i e y p q r) in
    let most : A + length (map nearest ts) * E ≤ A + 4 * E = omega (arith, mul-le-mul_right E few) in
    weaken (A + 4 * E) most
    (sum-within E A x (map nearest ts) w (each_map (of_size E) (Within binary64 E) nearest (λ d w. w) ts (terms-fit i e y (of_size E) a b c p q r))
    (le_trans most (le_trans room (lit≤ tt))))

finite : (s : List ℕ) → Within binary64 773 (published_dna_dg_ds s).dg × Within binary64 12 (published_dna_dg_ds s).ds
unfolding published_dna_dg_ds published_dg published_ds terms_after terms start_dg printed_start_ds end_dg end_ds symmetric_dg symmetric_ds initiation_dg initiation_ds terminal_dg terminal_ds symmetry_dg symmetry_ds of_size
finite s =
    let b = bases s in
    let p = is_a_or_t (first_base b) in
    let q = is_a_or_t (last_base b) in
    let r = self_complementary b in (
      energy-of 773 (sequence_checks s) _
          (λ e.
          rw (← terms-mapped initiation_dg terminal_dg symmetry_dg p q r)
          (finite-after 765 2 (stack_sum stack_dg b) initiation_dg terminal_dg symmetry_dg (lit≤ tt) (one-energy b (sequence-short s e))
          (nearest-within 2 (lit< tt) initiation_dg tt) (nearest-within 2 (lit< tt) terminal_dg tt) (nearest-within 2 (lit< tt) symmetry_dg tt) p q r)),
      entropy-of 12 (sequence_checks s) _
          (λ e.
          rw (← terms-mapped (kilo initiation_ds) (kilo terminal_ds) (kilo symmetry_ds) p q r)
          (finite-after 8 1 (stack_sum stack_ds b) (kilo initiation_ds) (kilo terminal_ds) (kilo symmetry_ds) (lit≤ tt) (sums-finite.stack_entropy b (sequence-short s e))
          (nearest-within 1 (lit< tt) (kilo initiation_ds) tt) (nearest-within 1 (lit< tt) (kilo terminal_ds) tt) (nearest-within 1 (lit< tt) (kilo symmetry_ds) tt) p q r)),
    )

pub whole-duplexes : WholeDuplexes
unfolding initiation_dg terminal_dg symmetry_dg initiation_ds terminal_ds symmetry_ds
whole-duplexes =
    record {
      old_energy = old-energy;
      old_entropy = old-entropy;
      paper_energy = paper-energy;
      paper_entropy = paper-entropy;
      paper_finite = finite;
      dg_apart = λ s. omega (arith, old-side above dg_of initiation_dg initiation_dg terminal_dg symmetry_dg s, paper-side above dg_of initiation_dg initiation_dg terminal_dg symmetry_dg s);
      dg_alike = λ s. omega (arith, old-side below dg_of initiation_dg initiation_dg terminal_dg symmetry_dg s, paper-side below dg_of initiation_dg initiation_dg terminal_dg symmetry_dg s);
      ds_above = λ s. omega (arith, old-side above ds_of (plus 57 4) (kilo initiation_ds) (kilo terminal_ds) (kilo symmetry_ds) s, paper-side above ds_of (plus 57 4) (kilo initiation_ds) (kilo terminal_ds) (kilo symmetry_ds) s);
      ds_below = λ s. omega (arith, old-side below ds_of (plus 57 4) (kilo initiation_ds) (kilo terminal_ds) (kilo symmetry_ds) s, paper-side below ds_of (plus 57 4) (kilo initiation_ds) (kilo terminal_ds) (kilo symmetry_ds) s);
    }
