-- The loop energies lie within 2^-30 of the exact values: at an entry by a test of each, and elsewhere by the bounds of the logarithm. Assumes nothing.
use mathlib.Core.Path.{◌≡◌, refl, sym, ap, ◌∙◌, subst}
use mathlib.Core.Bool.{Bool, true, false, not, ◌&&◌, ◌||◌, true≢false}
use Prim.Native.Nat.{ℕ, ◌+◌, ◌-◌, ◌*◌, ◌/◌, ◌^◌, ◌≤◌, ◌<◌}
use native.Mathlib.Nat.{le_trans, le_of_lt, le_refl, mul-le-mul_right, mul-le-mul_left, le_of_mul-le-mul_right, mul-pos, zero-lt-suc}
use native.Mathlib.Omega.{arith}
use borrow.Author.Tests.{eq-eqb}
use lib.Dec.{T, eqb, leb, leb→le, eqb→eq, lit≤, lit<}
use lib.Pow.{pow_pos}
use lib.Ieee.{Float, nan, inf, fin}
use lib.Ieee.Exact.{HasValue}
use lib.Ieee.Fits.{down_pos}
use lib.Ieee.Scale.{finite}
use Rattle.lists.specs.Build.{keep}
use Rattle.fractions.specs.Frac.{frac, plus, times, LeFrac}
use Rattle.fractions.proofs.Frac.{le-frac-refl, le-frac-trans, plus-mono, times-mono, le-plus-right}
use Rattle.doubles.specs.Decimal.{plus as decimal, nearest}
use Rattle.logarithm.specs.Logarithm.{lower, upper, LnAtMost, LnAtLeast}
use Rattle.logarithm.specs.Figure.{mul_units, ln_whole, fixed}
use Rattle.logarithm.specs.Near.{over_zero}
use Rattle.logarithm.proofs.Sums.{upper_pos, ln-most}
use Rattle.logarithm.proofs.Near.{lower-none, upper-none, value-finite}
use Rattle.logarithm.proofs.Steps.{mul_right}
use Rattle.logarithm.proofs.Double.{fixed-value}
use Rattle.logarithm.proofs.Right.{LnUnits}
use Rattle.logarithm.proofs.Doubled.{whole-right}
use Rattle.utils.specs.Paper.{Loop, table4, loop_figure}
use Rattle.utils.specs.Figures.{loop_rows, row_up_to, entry_up_to, gain_units, between_units, loop_energy}
use Rattle.utils.specs.LoopsNear.{gain, slack, LoopNear, LoopsNear}
use Rattle.utils.specs.declared.tables.LoopKind.{LoopKind}
use Rattle.utils.specs.declared.tables.LoopKind.TheVariants.{Internal, Bulge, HairPin}
use Rattle.utils.proofs.Lengths.{entry-le}
use Rattle.utils.proofs.Small.{small, halves, nearest-within}
use Rattle.utils.proofs.LoopEnergy.{own-entry, entry-below, all_from, each-length, base-least, admitted-ends}

-- ---- between the entries
top : ℕ
top = gain.num

bot : ℕ
bot = gain.den

over-of : (r : Float) (v : ℕ) → HasValue r false v (2 ^ 46) → ((over_zero r).num * 2 ^ 46 ≡ v * (over_zero r).den) × (0 < (over_zero r).den)
over-of nan v h = absurd h
over-of (inf s) v h = absurd h
over-of (fin true m e) v h = absurd (true≢false h.0)
over-of (fin false m e) v h = (h.1, down_pos e)

up-alg : (g d c l s D : ℕ) → 0 < D → g * D ≤ (c + 1) * d → (c + 1) * (l + 2) ≤ (2 * s + 12) * D → g * (l + 2) ≤ (2 * s + 12) * d
up-alg g d c l s D P h k = le_of_mul-le-mul_right {k = D} (omega (arith, mul-le-mul_right (l + 2) h, mul-le-mul_right d k)) P

down-alg : (g d c l s D : ℕ) → 0 < D → c * d ≤ g * D → 2 * s * D ≤ c * l → 2 * s * d ≤ g * l
down-alg g d c l s D P h k = le_of_mul-le-mul_right {k = D} (omega (arith, mul-le-mul_right l h, mul-le-mul_right d k)) P

wide-alg : (g d x y m : ℕ) → g * x ≤ y * d → g * x * m ≤ y * (d * m)
wide-alg g d x y m h = omega (arith, mul-le-mul_right m h)

wide-alg' : (g d x y m : ℕ) → y * d ≤ g * x → y * (d * m) ≤ g * x * m
wide-alg' g d x y m h = omega (arith, mul-le-mul_right m h)

gain-over : top * 2 ^ 53 ≤ (gain_units + 1) * bot
unfolding top bot
gain-over = lit≤ tt

gain-under : gain_units * bot ≤ top * 2 ^ 53
unfolding top bot
gain-under = lit≤ tt

module _ (t n b l s : ℕ) (B : 0 < b) (L : l < 2 ^ 53) (o : LnAtLeast n b (frac l (2 ^ 46))) (u : LnAtMost n b (frac (l + 2) (2 ^ 46)))
    (s-under : s * 2 ^ 54 ≤ gain_units * l) (s-over : gain_units * l ≤ (s + 3) * 2 ^ 54) where
  log-up : (m : ℕ) → 0 < m → LeFrac (times gain (lower n b m)) (frac (2 * s + 12) (2 ^ 46))
  unfolding top bot
  log-up m M = le-frac-trans {y = times gain (frac (l + 2) (2 ^ 46))} (lit< tt) (times-mono (le-frac-refl gain) (u.bound m M))
      (record { cross = wide-alg top bot (l + 2) (2 * s + 12) (2 ^ 46) (up-alg top bot gain_units l s (2 ^ 53) (pow_pos 53) gain-over enough) })
    where
      enough : (gain_units + 1) * (l + 2) ≤ (2 * s + 12) * 2 ^ 53
      enough = omega arith

  log-down : (m : ℕ) → 0 < m → LeFrac (frac (2 * s) (2 ^ 46)) (times gain (upper n b m))
  unfolding top bot
  log-down m M = le-frac-trans {y = times gain (frac l (2 ^ 46))} (lit< tt)
      (record { cross = wide-alg' top bot l (2 * s) (2 ^ 46) (down-alg top bot gain_units l s (2 ^ 53) (pow_pos 53) gain-under enough) })
      (times-mono (le-frac-refl gain) (o.bound m M))
    where
      enough : 2 * s * 2 ^ 53 ≤ gain_units * l
      enough = omega arith

  between-near : t * 2 ^ 46 / 10 + 2 * s < 2 ^ 53 → LoopNear t n b (fixed (t * 2 ^ 46 / 10 + 2 * s))
  between-near small =
      let v0 = t * 2 ^ 46 / 10 in
      let v = v0 + 2 * s in
      let f = fixed-value v small in
      let z = over-of (fixed v) v f in
      let zn = (over_zero (fixed v)).num in
      let zd = (over_zero (fixed v)).den in
      let e : zn * 2 ^ 46 ≡ v * zd = z.0 in
      record {
        whole = value-finite (fixed v) false v (2 ^ 46) f;
        reached = λ m M. le-frac-trans {y = plus (frac (v0 + 1) (2 ^ 46)) (frac (2 * s + 12) (2 ^ 46))} (lit< tt) (plus-mono (record { cross = omega arith }) (log-up m M))
            (le-frac-trans {y = frac (v + 13) (2 ^ 46)} (pow_pos 46) (record { cross = omega arith }) (record { cross = top-alg v zn zd e }));
        kept = λ m M. le-frac-trans {y = plus (frac v0 (2 ^ 46)) (frac (2 * s) (2 ^ 46))} (lit< tt) (record { cross = bot-alg v0 (2 * s) zn zd e })
            (le-frac-trans {y = plus (frac t 10) (times gain (upper n b m))} (mul-pos (lit< tt) (mul-pos (lit< tt) (upper_pos n b m (mul-pos M B)))) (plus-mono (record { cross = omega arith }) (log-down m M)) (le-plus-right _ slack));
      }
    where
      top-alg : (v n d : ℕ) → n * 2 ^ 46 ≡ v * d → (v + 13) * (d * 2 ^ 30) ≤ (n * 2 ^ 30 + 1 * d) * 2 ^ 46
      top-alg v n d e = omega arith

      bot-alg : (x y n d : ℕ) → n * 2 ^ 46 ≡ (x + y) * d → n * (2 ^ 46 * 2 ^ 46) ≤ (x * 2 ^ 46 + y * 2 ^ 46) * d
      bot-alg x y n d e = omega arith

-- ---- the sum has room
log-small : (n b l : ℕ) → 10 ≤ b → n ≤ 254 → LnAtLeast n b (frac l (2 ^ 46)) → l ≤ 25 * 2 ^ 46
log-small n b l B N o =
    let P : 0 < b = omega arith in
    let e : LeFrac (frac l (2 ^ 46)) (frac (n - b) b) = le-frac-trans {y = upper n b 1} (upper_pos n b 1 (mul-pos (zero-lt-suc 0) P)) (o.bound 1 (zero-lt-suc 0)) (ln-most n b 1 (zero-lt-suc 0) P) in
    omega (arith, e.cross, mul-le-mul_left l B)

sum-small : (t l s : ℕ) → t ≤ 100 → l ≤ 25 * 2 ^ 46 → s * 2 ^ 54 ≤ gain_units * l → t * 2 ^ 46 / 10 + 2 * s < 2 ^ 53
sum-small t l s h g k = omega arith

module _ (t b n : ℕ) (h : t ≤ 100) (B : 10 ≤ b) (l : b ≤ n) (N : n ≤ 254) where
  whole : LnUnits n b (ln_whole n b)
  whole = whole-right n b (omega arith) (le_trans N (lit≤ tt)) l

  pub log-room : ln_whole n b ≤ 25 * 2 ^ 46
  log-room = log-small n b (ln_whole n b) B N whole.least

  part : (mul_units gain_units (ln_whole n b) * 2 ^ 54 ≤ gain_units * ln_whole n b) × (gain_units * ln_whole n b < (mul_units gain_units (ln_whole n b) + 3) * 2 ^ 54)
  part = mul_right gain_units (ln_whole n b) (lit≤ tt) (le_trans log-room (lit≤ tt))

  pub between-small : t * 2 ^ 46 / 10 + 2 * mul_units gain_units (ln_whole n b) < 2 ^ 53
  between-small = sum-small t (ln_whole n b) (mul_units gain_units (ln_whole n b)) h log-room part.0

  pub between-right : LoopNear t n b (fixed (between_units t b n))
  unfolding between_units
  between-right = between-near t n b (ln_whole n b) (mul_units gain_units (ln_whole n b)) (omega arith) whole.small whole.least whole.most part.0 (le_of_lt part.1) between-small

-- ---- at the entries
-- the double nearest to t / 10, against t / 10 alone
own-test : ℕ → Bool
own-test t =
    leb (t * ((over_zero (nearest (decimal t 1))).den * 2 ^ 30)) (((over_zero (nearest (decimal t 1))).num * 2 ^ 30 + (over_zero (nearest (decimal t 1))).den) * 10)
    && leb ((over_zero (nearest (decimal t 1))).num * (10 * 2 ^ 30)) ((t * 2 ^ 30 + 10) * (over_zero (nearest (decimal t 1))).den)

near-test : LoopKind → ℕ → Bool
near-test kind n = small 320 (loop_figure kind (entry_up_to n)) && (not (eqb (entry_up_to n).length n) || own-test (loop_figure kind (entry_up_to n)).digits)

each-near : (kind : LoopKind) → T (all_from 252 3 (near-test kind))
unfolding all_from near-test own-test nearest entry_up_to row_up_to loop_rows keep table4
each-near Internal = tt
each-near Bulge = tt
each-near HairPin = tt

module _ (g d t n z : ℕ) where
  own-up : t * (z * 2 ^ 30) ≤ (n * 2 ^ 30 + z) * 10 → (t * (d * 1) + g * 0 * 10) * (z * 2 ^ 30) ≤ (n * 2 ^ 30 + 1 * z) * (10 * (d * 1))
  own-up h = omega (arith, mul-le-mul_right d h)

  own-down : n * (10 * 2 ^ 30) ≤ (t * 2 ^ 30 + 10) * z → n * (10 * (d * 1) * 2 ^ 30) ≤ ((t * (d * 1) + g * 0 * 10) * 2 ^ 30 + 1 * (10 * (d * 1))) * z
  own-down h = omega (arith, mul-le-mul_right d h)

own-near : (t n : ℕ) → T (finite (nearest (decimal t 1))) → T (own-test t) → LoopNear t n n (nearest (decimal t 1))
unfolding own-test
own-near t n f w =
    let zn = (over_zero (nearest (decimal t 1))).num in
    let zd = (over_zero (nearest (decimal t 1))).den in
    let p = halves (leb (t * (zd * 2 ^ 30)) ((zn * 2 ^ 30 + zd) * 10)) (leb (zn * (10 * 2 ^ 30)) ((t * 2 ^ 30 + 10) * zd)) w in
    record {
      whole = f;
      reached = λ m M. rw (lower-none n n m (le_refl n)) (record { cross = own-up gain.num gain.den t zn zd (leb→le _ _ p.0) });
      kept = λ m M. rw (upper-none n n m (le_refl n)) (record { cross = own-down gain.num gain.den t zn zd (leb→le _ _ p.1) });
    }

figure-is : (kind : LoopKind) (row : Loop) → decimal (loop_figure kind row).digits 1 ≡ loop_figure kind row
figure-is Internal row = refl
figure-is Bulge row = refl
figure-is HairPin row = refl

small-tenths : (kind : LoopKind) (row : Loop) → T (small 320 (loop_figure kind row)) → (loop_figure kind row).digits ≤ 100
small-tenths Internal row t = let h = leb→le (row.internal * 32) (320 * 10 ^ 1) t in omega arith
small-tenths Bulge row t = let h = leb→le (row.bulge * 32) (320 * 10 ^ 1) t in omega arith
small-tenths HairPin row t = let h = leb→le (row.hairpin * 32) (320 * 10 ^ 1) t in omega arith

second : (a b : Bool) → T (not a || b) → a ≡ true → T b
second true b t e = t
second false b t e = absurd (true≢false (sym e))

pub loops-near : LoopsNear
unfolding near-test
loops-near kind n a = go (eqb len n) refl
  where
    len : ℕ
    len = (entry_up_to n).length

    tenths : ℕ
    tenths = (loop_figure kind (entry_up_to n)).digits

    within : (3 ≤ n) × (n ≤ 254)
    within = admitted-ends n a

    parts : T (small 320 (loop_figure kind (entry_up_to n))) × T (not (eqb len n) || own-test tenths)
    parts = halves (small 320 (loop_figure kind (entry_up_to n))) (not (eqb len n) || own-test tenths) (each-length (near-test kind) (each-near kind) n within.0 within.1)

    go : (t : Bool) → eqb len n ≡ t → LoopNear tenths n len (loop_energy kind n)
    go true e =
        let l : len ≡ n = eqb→eq len n (rw e tt) in
        let f = (nearest-within 10 (lit< tt) (loop_figure kind (entry_up_to n)) parts.0).real.fini in
        let w = own-near tenths n (rw (figure-is kind (entry_up_to n)) f) (second (eqb len n) (own-test tenths) parts.1 e) in
        subst (λ (z : ℕ). LoopNear tenths n z (loop_energy kind n)) (sym l)
        (subst (λ (r : Float). LoopNear tenths n n r) (ap nearest (figure-is kind (entry_up_to n)) ∙ own-entry kind n (entry_up_to n) refl l) w)
    go false e =
        let ne : len ≡ n → ⊥ = λ (k : len ≡ n). true≢false (sym (eq-eqb len n k) ∙ e) in
        subst (λ (r : Float). LoopNear tenths n len r) (entry-below kind n (entry_up_to n) refl ne)
        (between-right tenths len n (small-tenths kind (entry_up_to n) parts.0) (base-least n within.0 within.1 ne) (entry-le n) within.1)
