-- The code's windows, and its sums over two strands: private contracts use this, and no public one.
use Rattle.std.specs.Prelude.{◌≡◌, List, Bool, true, false, ◌&&◌, ℕ, ◌-◌, ◌≤◌, ◌<◌, Result, Ok, Err, slice_index}
use Rattle.lists.specs.Find.{any}
use Rattle.reply.specs.First.{bare, first_of}
use Rattle.reply.specs.declared.Refusal.{Refusal}
use Rattle.reply.specs.declared.Refusal.TheVariants.{NotABase, NoSuchLoop}
use Rattle.utils.specs.Bases.{not_a_base, base_of, bases}
use Rattle.utils.specs.Figures.{admitted_length, loop_energy}
use Rattle.utils.specs.Loops.{kind_of}
use Rattle.utils.specs.Single.{sequence_checks}
use Rattle.utils.specs.Pair.{Sums, Window, window, ends_loop, after_good, pair_sums, strand_checks, lacking, lacks_loop}
use Rattle.utils.specs.declared.DgDs.{DgDs}
use Rattle.utils.specs.declared.Sums as Code
use Rattle.utils.specs.declared.bases.Window as Code2
use Rattle.utils.specs.declared.dna.Dna.{Dna}
use Rattle.utils.specs.declared.dna.Strands.{Strands}
use Rattle.utils.specs.declared.tables.LoopKind.{LoopKind}
use Rattle.utils.specs.declared.tables.LoopKind.TheVariants.{Internal}

-- a number is that of a kind, or none
abbrev pub KindAt : ℕ → Result LoopKind Refusal → Type 0
KindAt number (Ok kind) = (number ≤ 2) × (kind ≡ kind_of number)
KindAt number (Err refusal) = (2 < number) × (refusal ≡ NoSuchLoop)

-- a sequence as it was read, or the refusal of a letter
abbrev pub ReadAs : List ℕ → Result Dna Refusal → Type 0
ReadAs letters (Ok dna) = (any not_a_base letters ≡ false) × (dna.letters.now ≡ letters)
ReadAs letters (Err refusal) = (any not_a_base letters ≡ true) × (refusal ≡ NotABase)

-- a sequence that is admitted, or the refusal
abbrev pub AdmittedAs : List ℕ → Result Dna Refusal → Type 0
AdmittedAs letters (Ok dna) = (first_of (sequence_checks letters) ≡ Ok tt) × (dna.letters.now ≡ letters)
AdmittedAs letters (Err refusal) = bare (first_of (sequence_checks letters)) ≡ Err refusal

-- two strands that are admitted, or the refusal
abbrev pub BothAdmittedAs : List ℕ → List ℕ → Result Strands Refusal → Type 0
BothAdmittedAs a b (Ok s) = (first_of (strand_checks a b) ≡ Ok tt) × (s.upper.letters.now ≡ a) × (s.lower.letters.now ≡ b)
BothAdmittedAs a b (Err refusal) = bare (first_of (strand_checks a b)) ≡ Err refusal

-- the code's window
abbrev pub window_of : Code2.Window → Window
window_of w = window w.a1 w.a2 w.b1 w.b2

-- the window that stands at the front of two strands
abbrev pub window_at : List ℕ → List ℕ → Window
window_at a b = window (base_of (slice_index a 0)) (base_of (slice_index a 1)) (base_of (slice_index b 0)) (base_of (slice_index b 1))

-- the code's sums
abbrev pub sums_of : Code.Sums → Sums
sums_of s = record { dg = s.so_far.dg.0; ds = s.so_far.ds.0; bad = s.bad }

-- a good window that follows k bad ones ends a loop that has no energy
abbrev pub ends_lacking : ℕ → Bool
ends_lacking k = ends_loop k && lacking (k - 1)

-- after a good window: the sums, or the refusal of the loop that it ends
abbrev pub AfterGood : Code.Sums → Window → Result Code.Sums Refusal → Type 0
AfterGood s w (Ok t) = (ends_lacking s.bad ≡ false) × (sums_of t ≡ after_good (loop_energy Internal) admitted_length (sums_of s) w.a1 w.a2)
AfterGood s w (Err refusal) = (ends_lacking s.bad ≡ true) × (refusal ≡ NoSuchLoop)

-- the sums of two strands, or the refusal of a loop that they need
abbrev pub PairSummed : List ℕ → List ℕ → Result DgDs Refusal → Type 0
PairSummed a b (Ok t) = (lacks_loop a b ≡ false) × (t.dg.0 ≡ (pair_sums (bases a) (bases b)).dg) × (t.ds.0 ≡ (pair_sums (bases a) (bases b)).ds)
PairSummed a b (Err refusal) = (lacks_loop a b ≡ true) × (refusal ≡ NoSuchLoop)
