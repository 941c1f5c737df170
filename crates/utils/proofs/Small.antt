-- How large the figures of the tables are: each entry is tested. Assumes nothing.
use mathlib.Core.Bool.{Bool, true, false, cond, ◌&&◌}
use Prim.Native.Nat.{ℕ, ◌*◌, ◌^◌, ◌<◌}
use native.Mathlib.Nat.{le_refl, lt_of_lt_of_le, pow-le-pow_left}
use lib.Dec.{T, leb, leb→le, lit≤, lit<}
use lib.Pow.{pow_pos}
use lib.Ieee.{binary64, prec}
use Rattle.doubles.specs.Decimal.{Decimal, nearest, zero}
use Rattle.doubles.specs.Size.{Within}
use Rattle.doubles.proofs.Sums.{weaken}
use Rattle.doubles.proofs.Bounds.{zero-within}
use Rattle.utils.specs.Bases.{Base, complementary}
use Rattle.utils.specs.Paper.{find, stack_of, table1, initiation_dg, kilo, mismatch_of, table2}
use Rattle.utils.specs.Figures.{stack_dg, stack_ds, entropy_of, start_dg, start_ds, penalty, mismatch_dg}
use Rattle.utils.specs.declared.bases.DnaNucleotideBase.TheVariants as base
use Rattle.utils.proofs.ThirtySeconds.{Parts, round-parts, parts_within}

-- at most n / 32 in size
abbrev pub small : ℕ → Decimal → Bool
small n d = leb (d.digits * 32) (n * 10 ^ d.places)

nearest-parts : (n : ℕ) → n < 2 ^ prec binary64 → (d : Decimal) → T (small n d) → Parts binary64 n (nearest d)
unfolding nearest
nearest-parts n h d t =
    let c = 10 ^ d.places in
    let above : 0 < c = lt_of_lt_of_le (pow_pos d.places) (pow-le-pow_left (lit≤ tt) d.places) in
    round-parts binary64 d.negative d.digits c n above h (leb→le (d.digits * 32) (n * c) t)

pub nearest-within : (most : ℕ) → most * 32 < 2 ^ prec binary64 → (d : Decimal) → T (small (most * 32) d) → Within binary64 most (nearest d)
nearest-within most h d t = parts_within binary64 (most * 32) most (nearest d) (le_refl (most * 32)) (nearest-parts (most * 32) h d t)

-- ---- a test of every base, read at one

abbrev pub every : (Base → Bool) → Bool
every p = p base.A && (p base.T && (p base.G && p base.C))

pub halves : (p q : Bool) → T (p && q) → T p × T q
halves true q t = (tt, t)
halves false q t = absurd t

tested-once : (p : Base → Bool) → T (every p) → (b : Base) → T (p b)
tested-once p t base.A = (halves (p base.A) _ t).0
tested-once p t base.T = (halves (p base.T) _ (halves (p base.A) _ t).1).0
tested-once p t base.G = (halves (p base.G) _ (halves (p base.T) _ (halves (p base.A) _ t).1).1).0
tested-once p t base.C = (halves (p base.G) _ (halves (p base.T) _ (halves (p base.A) _ t).1).1).1

pub tested : (p : Base → Base → Bool) → T (every (λ a. every (p a))) → (a b : Base) → T (p a b)
tested p t a b = tested-once (p a) (tested-once (λ a. every (p a)) t a) b

-- ---- the figures

pub stack-energy : (a b : Base) → Within binary64 3 (stack_dg a b)
unfolding stack_dg stack_of find table1
stack-energy a b = nearest-within 3 (lit< tt) (stack_of a b).dg (tested (λ a b. small 96 (stack_of a b).dg) tt a b)

pub stack-entropy : (a b : Base) → Parts binary64 1 (stack_ds a b)
unfolding stack_ds entropy_of stack_of find table1
stack-entropy a b = nearest-parts 1 (lit< tt) (kilo (entropy_of a b)) (tested (λ a b. small 1 (kilo (entropy_of a b))) tt a b)

pub start-energy : Within binary64 2 start_dg
unfolding start_dg initiation_dg
start-energy = nearest-within 2 (lit< tt) initiation_dg tt

pub start-entropy : Parts binary64 1 start_ds
unfolding start_ds
start-entropy = nearest-parts 1 (lit< tt) _ tt

penalty-energy : (p x y : Base) → Within binary64 2 (penalty p x y)
unfolding penalty mismatch_of table2
penalty-energy p x y =
    nearest-within 2 (lit< tt) (mismatch_of p x y)
    (tested (λ x y. small 64 (mismatch_of p x y)) (tested-once (λ p. every (λ x. every (λ y. small 64 (mismatch_of p x y)))) tt p) x y)

pub mismatch-energy : (a1 a2 b1 b2 : Base) → Within binary64 2 (mismatch_dg a1 a2 b1 b2)
unfolding mismatch_dg
mismatch-energy a1 a2 b1 b2 = go (complementary a1 b1) (complementary a2 b2)
  where
    go : (first second : Bool) → Within binary64 2 (cond first (penalty a1 a2 b2) (cond second (penalty b2 b1 a1) zero))
    go true second = penalty-energy a1 a2 b2
    go false true = penalty-energy b2 b1 a1
    go false false = weaken 2 (lit≤ tt) zero-within
