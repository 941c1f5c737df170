-- No sum over sequences overflows: each term is small, and there are few. Assumes nothing.
use mathlib.Core.Path.{◌≡◌, refl}
use mathlib.Core.Bool.{Bool, true, false, cond, not, ◌&&◌, ◌||◌, true≢false}
use mathlib.Core.List.{List, [], ◌∷◌, ◌++◌, map}
use Prim.Native.Nat.{ℕ, suc, ◌+◌, ◌-◌, ◌*◌, ◌≤◌, ◌<◌}
use native.Mathlib.Nat.{le_trans, lt_of_le_of_lt, lt_of_not-le}
use native.Mathlib.Decide.{dec_le}
use native.Mathlib.Omega.{arith}
use lib.Dec.{T, eqb, lit≤, lit<}
use lib.ListN.{length, length-map}
use lib.Ieee.{Float, binary64, add, fits}
use borrow.Author.Tests.{ltb-true, ltb-false}
use Rattle.lists.specs.Find.{any}
use Rattle.lists.specs.Fold.{foldl}
use Rattle.lists.proofs.Tests.{neither}
use Rattle.lists.proofs.Each.{each_all, each_map}
use Rattle.doubles.specs.Decimal as Decimal
use Rattle.doubles.specs.Sum.{sum_from}
use Rattle.doubles.specs.Size.{Within}
use Rattle.doubles.proofs.Sums.{weaken, add-within, sub_within}
use Rattle.doubles.proofs.Products.{mul-within}
use Rattle.doubles.proofs.Bounds.{zero-within, sum-within, in-range-within}
use Rattle.reply.specs.First.{Check, ◌if◌, first_of, answer}
use Rattle.reply.specs.Number.{number_of, Reply}
use Rattle.reply.specs.declared.Refusal.TheVariants.{WrongSize, NotABase, TooShort, UnequalLengths, NoSuchLoop, OutOfRange}
use Rattle.reply.proofs.First.{passes}
use Rattle.utils.specs.Answers.{DgDsFigures, refused_dg_ds, DgFigures, refused_dg}
use Rattle.utils.specs.Bases.{Base, bases, not_a_base}
use Rattle.utils.specs.Figures.{stack_dg, stack_ds, start_dg, start_ds, admitted_length, loop_energy}
use Rattle.utils.specs.Single.{Neighbours, neighbours, at_neighbours, stack_sum, too_long, too_short, sequence_checks, string_dna_dg_ds}
use Rattle.utils.specs.Pair.{Window, windows, good, Sums, ends_loop, with_loop, after_good, after_bad, no_sums, step, pair_sums, lacks_loop, pair_checks, sequence_pair_dg_ds}
use Rattle.utils.specs.Strength.{strength_at, excess_in_range, excess_checks, sequence_strength, pair_strength}
use Rattle.utils.specs.Finite.{SumsFinite, AnswersFinite}
use Rattle.utils.specs.declared.tables.LoopKind.TheVariants.{Internal}
use Rattle.utils.proofs.Neighbours.{bases-length}
use Rattle.utils.proofs.ThirtySeconds.{Parts, add_parts, weaken-parts, parts_within, zero-parts}
use Rattle.utils.proofs.Small.{stack-energy, stack-entropy, start-energy, start-entropy, mismatch-energy}
use Rattle.std.specs.Prelude.{Ok, Err}
use Rattle.utils.proofs.LoopEnergy.{admitted-ends, loop-low, loop-short}

-- sums this small have room
energy-sum : (j k : ℕ) (x y : Float) → j + k ≤ 1030 → Within binary64 j x → Within binary64 k y → Within binary64 (j + k) (add binary64 x y)
energy-sum j k x y h p q = add-within binary64 j k x y p q (le_trans h (lit≤ tt))

entropy-sum : (n : ℕ) (x y : Float) → n < 256 → Parts binary64 n x → Parts binary64 1 y → Parts binary64 (suc n) (add binary64 x y)
entropy-sum n x y h p q =
    let few : n + 1 ≤ 256 = omega arith in
    weaken-parts (suc n) (omega arith) (add_parts binary64 n 1 x y (lt_of_le_of_lt few (lit< tt)) p q)

-- ---- one strand

pub few-neighbours : (s : List Base) → length (neighbours s) ≤ length s - 1
unfolding neighbours
few-neighbours [] = omega arith
few-neighbours (a ∷ []) = omega arith
few-neighbours (a ∷ b ∷ s) = omega (arith, few-neighbours (b ∷ s))

pub one-energy : (s : List Base) → length s ≤ 256 → Within binary64 765 (stack_sum stack_dg s)
unfolding stack_sum
one-energy s h =
    let terms = map (at_neighbours stack_dg) (neighbours s) in
    let few : length terms ≤ 255 = simp length-map (omega (arith, few-neighbours s)) in
    let most : 0 + length terms * 3 ≤ 765 = omega arith in
    weaken 765 most
    (sum-within 3 0 Decimal.zero terms zero-within
    (each_map (λ n. Unit) (Within binary64 3) (at_neighbours stack_dg) (λ n u. stack-energy n.first n.second) (neighbours s) (each_all (λ n. Unit) (λ n. tt) (neighbours s)))
    (le_trans most (lit≤ tt)))

entropies : (n : ℕ) (sum : Float) (rest : List Neighbours) → n + length rest ≤ 255 → Parts binary64 n sum → Parts binary64 255 (sum_from sum (map (at_neighbours stack_ds) rest))
unfolding sum_from
entropies n sum [] h p = weaken-parts 255 (omega arith) p
entropies n sum (x ∷ rest) h p =
    entropies (suc n) (add binary64 sum (at_neighbours stack_ds x)) rest (omega arith) (entropy-sum n sum (at_neighbours stack_ds x) (omega arith) p (stack-entropy x.first x.second))

one-entropy : (s : List Base) → length s ≤ 256 → Parts binary64 255 (stack_sum stack_ds s)
unfolding stack_sum
one-entropy s h = entropies 0 Decimal.zero (neighbours s) (omega (arith, few-neighbours s)) zero-parts

-- ---- two strands

few-windows : (a b : List Base) → length (windows a b) ≤ length a - 1
unfolding windows
few-windows [] b = omega arith
few-windows (a1 ∷ []) b = omega arith
few-windows (a1 ∷ a2 ∷ a) [] = omega arith
few-windows (a1 ∷ a2 ∷ a) (b1 ∷ []) = omega arith
few-windows (a1 ∷ a2 ∷ a) (b1 ∷ b2 ∷ b) = omega (arith, few-windows (a2 ∷ a) (b2 ∷ b))

-- after n windows, of 4 each in dG: a bad one adds at most 2, and so leaves 2 for the loop that may end later
record Kept (n : ℕ) (s : Sums) : Type 0 where
  most : ℕ
  left : most + 2 * s.bad ≤ 4 * n
  energy : Within binary64 most s.dg
  entropy : Parts binary64 n s.ds

module _ (n : ℕ) (s : Sums) (below : n < 255) (kept : Kept n s) where
  -- three bad windows or more have left 6 for a loop of up to 10, and twelve or more 24 for a longer one
  after-loop : (dg : Float) → Within binary64 (kept.most + 3) dg → Within binary64 (4 * suc n) (with_loop (loop_energy Internal) admitted_length s.bad dg)
  after-loop dg w = go (ends_loop s.bad) (admitted_length (s.bad - 1)) (ltb-true 2 s.bad) (admitted-ends (s.bad - 1))
    where
      short : 2 < s.bad → (3 ≤ s.bad - 1) × (s.bad - 1 ≤ 254) → s.bad - 1 ≤ 10 → Within binary64 (4 * suc n) (add binary64 dg (loop_energy Internal (s.bad - 1)))
      short h k few = weaken (4 * suc n) (omega (arith, kept.left)) (energy-sum (kept.most + 3) 7 dg (loop_energy Internal (s.bad - 1)) (omega (arith, kept.left)) w (loop-short (s.bad - 1) k.0 k.1 few))

      long : (3 ≤ s.bad - 1) × (s.bad - 1 ≤ 254) → 10 < s.bad - 1 → Within binary64 (4 * suc n) (add binary64 dg (loop_energy Internal (s.bad - 1)))
      long k many = weaken (4 * suc n) (omega (arith, kept.left)) (energy-sum (kept.most + 3) 10 dg (loop_energy Internal (s.bad - 1)) (omega (arith, kept.left)) w (loop-low (s.bad - 1) k.0 k.1))

      go : (ends has : Bool) → (ends ≡ true → 2 < s.bad) → (has ≡ true → (3 ≤ s.bad - 1) × (s.bad - 1 ≤ 254))
          → Within binary64 (4 * suc n) (cond (ends && has) (add binary64 dg (loop_energy Internal (s.bad - 1))) dg)
      go true true h k = elim (dec_le (s.bad - 1) 10) [ yes few ↦ short (h refl) (k refl) few | no many ↦ long (k refl) (lt_of_not-le many) ]
      go true false h k = weaken (4 * suc n) (omega (arith, kept.left)) w
      go false has h k = weaken (4 * suc n) (omega (arith, kept.left)) w

  good-kept : (a1 a2 : Base) → Kept (suc n) (after_good (loop_energy Internal) admitted_length s a1 a2)
  good-kept a1 a2 =
      record {
        most = 4 * suc n;
        left = omega arith;
        energy = after-loop (add binary64 s.dg (stack_dg a1 a2)) (energy-sum kept.most 3 s.dg (stack_dg a1 a2) (omega (arith, kept.left)) kept.energy (stack-energy a1 a2));
        entropy = entropy-sum n s.ds (stack_ds a1 a2) (omega arith) kept.entropy (stack-entropy a1 a2);
      }

  bad-kept : (w : Window) → Kept (suc n) (after_bad (loop_energy Internal) admitted_length s w)
  bad-kept w =
      record {
        most = kept.most + 2;
        left = omega (arith, kept.left);
        energy = energy-sum kept.most 2 s.dg _ (omega (arith, kept.left)) kept.energy (mismatch-energy w.a1 w.a2 w.b1 w.b2);
        entropy = weaken-parts (suc n) (omega arith) kept.entropy;
      }

  step_kept : (w : Window) → Kept (suc n) (step s w)
  unfolding step
  step_kept w = go (good w)
    where
      go : (t : Bool) → Kept (suc n) (cond t (after_good (loop_energy Internal) admitted_length s w.a1 w.a2) (after_bad (loop_energy Internal) admitted_length s w))
      go true = good-kept w.a1 w.a2
      go false = bad-kept w

all-kept : (n : ℕ) (s : Sums) (ws : List Window) → n + length ws ≤ 255 → Kept n s → Kept 255 (foldl step s ws)
unfolding foldl
all-kept n s [] h k = record { most = k.most; left = omega (arith, k.left); energy = k.energy; entropy = weaken-parts 255 (omega arith) k.entropy }
all-kept n s (w ∷ ws) h k = all-kept (suc n) (step s w) ws (omega arith) (step_kept n s (omega arith) k w)

none_kept : Kept 0 no_sums
none_kept = record { most = 0; left = omega arith; energy = zero-within; entropy = zero-parts }

pair-kept : (a b : List Base) → length a ≤ 256 → Kept 255 (pair_sums a b)
unfolding pair_sums
pair-kept a b h = all-kept 0 no_sums (windows a b) (omega (arith, few-windows a b)) none_kept

pair-energy : (a b : List Base) → length a ≤ 256 → Within binary64 1020 (pair_sums a b).dg
pair-energy a b h = let k = pair-kept a b h in weaken 1020 (omega (arith, k.left)) k.energy

pair-entropy : (a b : List Base) → length a ≤ 256 → Within binary64 8 (pair_sums a b).ds
pair-entropy a b h = parts_within binary64 255 8 _ (lit≤ tt) (pair-kept a b h).entropy

pub sums-finite : SumsFinite
sums-finite =
    record {
      stack_energy = one-energy;
      stack_entropy = λ s h. parts_within binary64 255 8 _ (lit≤ tt) (one-entropy s h);
      pair_energy = pair-energy;
      pair_entropy = pair-entropy;
    }

-- ---- answers

-- what holds of a refusal, and of what is given where all checks are passed, holds of the answer
of-answer : {X : Type 0} (P : X → Type 0) (reply : Reply) (refused : ℕ → X) (given : X) → ((number : ℕ) → P (refused number)) → (reply ≡ Ok tt → P given) → P (answer reply refused given)
of-answer P (Ok u) refused given none some = some refl
of-answer P (Err e) refused given none some = none (number_of e.refusal)

-- of checks one after the other all are passed
both-passed : (cs ds : List Check) → first_of (cs ++ ds) ≡ Ok tt → (first_of cs ≡ Ok tt) × (first_of ds ≡ Ok tt)
both-passed [] ds e = (refl, e)
both-passed (c ∷ cs) ds e =
    let p = passes c (cs ++ ds) e in
    let r = both-passed cs ds p.1 in
    (rw p.0 r.0, r.1)

pub sequence-short : (s : List ℕ) → first_of (sequence_checks s) ≡ Ok tt → length (bases s) ≤ 256
sequence-short s e = rw (bases-length s) (ltb-false 256 (length s) (passes (WrongSize if too_long s) (NotABase if any not_a_base s ∷ TooShort if too_short s ∷ []) e).0)

pair-short : (a b : List ℕ) → first_of (pair_checks a b) ≡ Ok tt → length (bases a) ≤ 256
pair-short a b e =
    let rest = NotABase if (any not_a_base a || any not_a_base b) ∷ UnequalLengths if not (eqb (length a) (length b)) ∷ NoSuchLoop if lacks_loop a b ∷ [] in
    let short = (passes (WrongSize if (too_long a || too_long b)) rest e).0 in
    rw (bases-length a) (ltb-false 256 (length a) (neither (too_long a) (too_long b) short).0)

excess-within : (x : Float) → T (fits binary64 x) → first_of (excess_checks x) ≡ Ok tt → Within binary64 1024 x
unfolding excess_in_range
excess-within x t e = in-range-within 1024 (lit≤ tt) x t (in-range (excess_in_range x) (passes (OutOfRange if not (excess_in_range x)) [] e).0)
  where
    in-range : (t : Bool) → not t ≡ false → t ≡ true
    in-range true h = refl
    in-range false h = absurd (true≢false h)

-- with the initiation
start-sum : {x : Float} → Parts binary64 255 x → Within binary64 8 (add binary64 x start_ds)
start-sum {x} p = parts_within binary64 256 8 _ (lit≤ tt) (entropy-sum 255 x start_ds (lit< tt) p start-entropy)

strength-within : (most : ℕ) → most ≤ 1020 → (excess dg ds : Float) → Within binary64 1024 excess → Within binary64 most dg → Parts binary64 255 ds → Within binary64 (most + 2 + 8192) (strength_at excess dg ds)
unfolding strength_at
strength-within most h excess dg ds e p q =
    let few : most + 2 + 8192 ≤ 9214 = omega arith in
    sub_within binary64 (most + 2) 8192 _ _ (energy-sum most 2 dg start_dg (omega arith) p start-energy) (mul-within binary64 1024 8 excess _ e (start-sum q) (lit≤ tt)) (le_trans few (lit≤ tt))

-- 0.0
none_within : (most : ℕ) → Within binary64 most Decimal.zero
none_within most = weaken most (omega arith) zero-within

sequence-strength-within : (s : List ℕ) (x : Float) → T (fits binary64 x) → first_of (sequence_checks s ++ excess_checks x) ≡ Ok tt
    → Within binary64 8959 (strength_at x (stack_sum stack_dg (bases s)) (stack_sum stack_ds (bases s)))
sequence-strength-within s x t e =
    let p = both-passed (sequence_checks s) (excess_checks x) e in
    let h = sequence-short s p.0 in
    strength-within 765 (lit≤ tt) x _ _ (excess-within x t p.1) (one-energy (bases s) h) (one-entropy (bases s) h)

pair-strength-within : (a b : List ℕ) (x : Float) → T (fits binary64 x) → first_of (pair_checks a b ++ excess_checks x) ≡ Ok tt
    → Within binary64 9214 (strength_at x (pair_sums (bases a) (bases b)).dg (pair_sums (bases a) (bases b)).ds)
pair-strength-within a b x t e =
    let p = both-passed (pair_checks a b) (excess_checks x) e in
    let h = pair-short a b p.0 in
    strength-within 1020 (lit≤ tt) x _ _ (excess-within x t p.1) (pair-energy (bases a) (bases b) h) (pair-kept (bases a) (bases b) h).entropy

-- a figure of an answer
pub energy-of : (most : ℕ) (checks : List Check) (given : DgDsFigures) → (first_of checks ≡ Ok tt → Within binary64 most given.dg) → Within binary64 most (answer (first_of checks) refused_dg_ds given).dg
energy-of most checks given = of-answer (λ (r : DgDsFigures). Within binary64 most r.dg) (first_of checks) refused_dg_ds given (λ n. none_within most)

pub entropy-of : (most : ℕ) (checks : List Check) (given : DgDsFigures) → (first_of checks ≡ Ok tt → Within binary64 most given.ds) → Within binary64 most (answer (first_of checks) refused_dg_ds given).ds
entropy-of most checks given = of-answer (λ (r : DgDsFigures). Within binary64 most r.ds) (first_of checks) refused_dg_ds given (λ n. none_within most)

strength-of : (most : ℕ) (checks : List Check) (given : DgFigures) → (first_of checks ≡ Ok tt → Within binary64 most given.dg) → Within binary64 most (answer (first_of checks) refused_dg given).dg
strength-of most checks given = of-answer (λ (r : DgFigures). Within binary64 most r.dg) (first_of checks) refused_dg given (λ n. none_within most)

pub answers-finite : AnswersFinite
unfolding string_dna_dg_ds sequence_pair_dg_ds sequence_strength pair_strength
answers-finite =
    record {
      sequence_dg = λ s. energy-of 767 (sequence_checks s) _ (λ e. energy-sum 765 2 _ start_dg (lit≤ tt) (one-energy (bases s) (sequence-short s e)) start-energy);
      sequence_ds = λ s. entropy-of 8 (sequence_checks s) _ (λ e. start-sum (one-entropy (bases s) (sequence-short s e)));
      pair_dg = λ a b. energy-of 1020 (pair_checks a b) _ (λ e. pair-energy (bases a) (bases b) (pair-short a b e));
      pair_ds = λ a b. entropy-of 8 (pair_checks a b) _ (λ e. pair-entropy (bases a) (bases b) (pair-short a b e));
      sequence_strength_dg = λ s x t. strength-of 8959 (sequence_checks s ++ excess_checks x) _ (sequence-strength-within s x t);
      pair_strength_dg = λ a b x t. strength-of 9214 (pair_checks a b ++ excess_checks x) _ (pair-strength-within a b x t);
    }
