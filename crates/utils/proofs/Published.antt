-- The energies are the paper's where Published.antt says so: each entry is worked out and compared. Assumes nothing.
use mathlib.Core.Path.{◌≡◌, refl, ap, sym}
use mathlib.Core.Bool.{Bool, true, false, cond, not, ◌&&◌, ◌||◌, true≢false}
use Prim.Native.Nat.{ℕ, zero, suc, ◌<◌}
use native.Mathlib.Nat.{le_of_suc-le-suc, not-suc-le-zero}
use lib.Ieee.{neg}
use lib.ListN.{get_or, length}
use Rattle.lists.specs.Build.{keep}
use Rattle.doubles.specs.Decimal.{Decimal, minus, nearest}
use Rattle.utils.specs.Bases.{Base, complement, same}
use Rattle.utils.specs.Paper.{table1, is_for, absent, find, stack_of, kilo, initiation_dg, initiation_ds, table4, no_loop}
use Rattle.utils.specs.Figures.{stack_dg, stack_ds, entropy_of, start_dg, start_ds, penalty, mismatch_dg, loop_rows, row_up_to, entry_up_to}
use Rattle.utils.specs.Published.{parts, AsPublished, agrees, Consistent}
use Rattle.utils.specs.declared.bases.DnaNucleotideBase.TheVariants.{A, T, G, C}
use Rattle.utils.proofs.LoopEnergy.{own-entry}

-- what holds for each base holds for every base
every-base : (P : Base → Type 0) → P A → P T → P G → P C → (b : Base) → P b
every-base P a t g c A = a
every-base P a t g c T = t
every-base P a t g c G = g
every-base P a t g c C = c

-- what holds at each number below n, given one proof for each
abbrev Each : ℕ → (ℕ → Type 0) → Type 0
Each zero P = Unit {0}
Each (suc n) P = P zero × Each n (λ k. P (suc k))

below : (n : ℕ) (P : ℕ → Type 0) → Each n P → (k : ℕ) → k < n → P k
below zero P e k h = absurd (not-suc-le-zero h)
below (suc n) P e zero h = e.0
below (suc n) P e (suc k) h = below n (λ j. P (suc j)) e.1 k (le_of_suc-le-suc h)

once-row : (a : Base) → ((b : Base) → length (keep (is_for a b) table1) ≡ 1)
unfolding keep table1
once-row A = every-base (λ b. length (keep (is_for A b) table1) ≡ 1) refl refl refl refl
once-row T = every-base (λ b. length (keep (is_for T b) table1) ≡ 1) refl refl refl refl
once-row G = every-base (λ b. length (keep (is_for G b) table1) ≡ 1) refl refl refl refl
once-row C = every-base (λ b. length (keep (is_for C b) table1) ≡ 1) refl refl refl refl

printed : (i : ℕ) → i < length table1 → stack_of (get_or table1 i absent).first (get_or table1 i absent).second ≡ get_or table1 i absent
unfolding stack_of find table1
printed = below 10 (λ i. stack_of (get_or table1 i absent).first (get_or table1 i absent).second ≡ get_or table1 i absent) (refl, (refl, (refl, (refl, (refl, (refl, (refl, (refl, (refl, (refl, tt))))))))))

turned-row : (a : Base) → ((b : Base) → stack_of (complement b) (complement a) ≡ stack_of a b)
unfolding stack_of find table1
turned-row A = every-base (λ b. stack_of (complement b) T ≡ stack_of A b) refl refl refl refl
turned-row T = every-base (λ b. stack_of (complement b) A ≡ stack_of T b) refl refl refl refl
turned-row G = every-base (λ b. stack_of (complement b) C ≡ stack_of G b) refl refl refl refl
turned-row C = every-base (λ b. stack_of (complement b) G ≡ stack_of C b) refl refl refl refl

-- where none of three tests passes, the last value is picked
last : {X : Type 0} (x y z : Bool) (d e f : X) → (x || y || z) ≡ false → cond x d (cond (y || z) e f) ≡ f
last true y z d e f h = absurd (true≢false h)
last false true z d e f h = absurd (true≢false h)
last false false true d e f h = absurd (true≢false h)
last false false false d e f h = refl

entropy : (a b : Base) → parts a b ≡ false → stack_ds a b ≡ nearest (kilo (stack_of a b).ds)
unfolding stack_ds entropy_of
entropy a b h =
    ap (λ (d : Decimal). nearest (kilo d))
    (last (same a T && same b A) (same a G && same b G) (same a C && same b C) (minus 213 1) (minus 199 1) (stack_of a b).ds h)

-- each entry of the loop table is the longest up to its own length
entry-of-length : (i : ℕ) → i < length loop_rows → get_or loop_rows i no_loop ≡ entry_up_to (get_or loop_rows i no_loop).length
unfolding loop_rows keep table4 entry_up_to row_up_to
entry-of-length =
    below 15 (λ i. get_or loop_rows i no_loop ≡ entry_up_to (get_or loop_rows i no_loop).length)
    (refl, (refl, (refl, (refl, (refl, (refl, (refl, (refl, (refl, (refl, (refl, (refl, (refl, (refl, (refl, tt)))))))))))))))

pub as-published : AsPublished
unfolding stack_dg stack_ds entropy_of stack_of find table1 loop_rows keep table4 start_dg start_ds initiation_dg initiation_ds nearest neg mismatch_dg penalty
as-published =
    record {
      once = λ a b. once-row a b;
      printed = printed;
      turned = λ a b. turned-row a b;
      stack_energy = λ a b. refl;
      stack_entropy = entropy;
      entropy_t_a = (refl, refl);
      entropy_g_g = (refl, refl);
      entropy_c_c = (refl, refl);
      pair_then_mismatch = λ a1 a2 b1 b2 h. simp h;
      mismatch_then_pair = λ a1 a2 b1 b2 h g. simp (h, g);
      initiation_energy = refl;
      initiation_entropy = refl;
      loops = λ kind i h. sym (own-entry kind (get_or loop_rows i no_loop).length (get_or loop_rows i no_loop) (entry-of-length i h) refl);
      shorter = refl;
    }

-- for each first base, the four second bases
taken-row : (a : Base) → ((b : Base) → agrees (stack_of a b) (entropy_of a b) ≡ true)
unfolding stack_of find table1 entropy_of
taken-row A = every-base (λ b. agrees (stack_of A b) (entropy_of A b) ≡ true) refl refl refl refl
taken-row T = every-base (λ b. agrees (stack_of T b) (entropy_of T b) ≡ true) refl refl refl refl
taken-row G = every-base (λ b. agrees (stack_of G b) (entropy_of G b) ≡ true) refl refl refl refl
taken-row C = every-base (λ b. agrees (stack_of C b) (entropy_of C b) ≡ true) refl refl refl refl

printed-row : (a : Base) → ((b : Base) → agrees (stack_of a b) (stack_of a b).ds ≡ not (parts a b))
unfolding stack_of find table1
printed-row A = every-base (λ b. agrees (stack_of A b) (stack_of A b).ds ≡ not (parts A b)) refl refl refl refl
printed-row T = every-base (λ b. agrees (stack_of T b) (stack_of T b).ds ≡ not (parts T b)) refl refl refl refl
printed-row G = every-base (λ b. agrees (stack_of G b) (stack_of G b).ds ≡ not (parts G b)) refl refl refl refl
printed-row C = every-base (λ b. agrees (stack_of C b) (stack_of C b).ds ≡ not (parts C b)) refl refl refl refl

pub consistent : Consistent
consistent = record { taken = λ a b. taken-row a b; as_printed = λ a b. printed-row a b }
