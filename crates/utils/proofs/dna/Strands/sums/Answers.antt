use mathlib.Core.Path.{◌≡◌, refl, sym, ap, ◌∙◌}
use mathlib.Core.Bool.{Bool, true, false, ◌||◌}
use mathlib.Core.List.{List}
use mathlib.Core.Logic.{inl, inr}
use Prim.Native.Nat.{ℕ, ◌+◌, ◌<◌}
use native.Mathlib.Omega.{arith}
use lib.Ieee.{Float, of_bits}
use lib.ListN.{length, drop, length-drop}
use Rattle.std.specs.Iterator.Adapters.{zip_first, zip_second}
use Rattle.std.specs.Slice.Iter.{windows_size, windows_rest}
use Rattle.doubles.specs.Decimal.{nearest}
use Rattle.reply.proofs.Bare.{same-error}
use Rattle.utils.specs.Paper.{stack_of, find, table1, mismatch_of, table2}
use Rattle.utils.specs.Figures.{stack_dg, stack_ds, entropy_of, admitted_length, loop_energy}
use Rattle.utils.specs.Pair.{Sums, Window, good, after_good, after_bad, pair_sums, lacks_loop}
use Rattle.utils.specs.inner.Code.{window_at, window_of, sums_of}
use Rattle.utils.specs.inner.Tables.{hundredths}
use Rattle.utils.specs.declared.tables.LoopKind.TheVariants.{Internal}
use Rattle.utils.proofs.Letters.{front-bases, later-bases}
use Rattle.utils.proofs.Windows.{sums_rest, lacks_rest, Turn, window-read, sums-good, sums-bad, lacks-good, lacks-bad, sums-done, lacks-done}
use Rattle.utils.proofs.dna.Strands.sums.Goals as goal
use Rattle.utils.proofs.dna.Strands.sums.Goals.{In-Some}

abbrev dg_of : Sums → Float
dg_of s = s.dg

abbrev ds_of : Sums → Float
ds_of s = s.ds

abbrev bad_of : Sums → ℕ
bad_of s = s.bad

-- what one turn of the loop reads
turn : (c : In-Some)
    → Turn (windows_rest (zip_first c.loop-upper.upper-iterator)) (windows_rest (zip_second c.loop-upper.upper-iterator)) c.in-Some.upper.now c.in-Some.lower.now
    (windows_rest (zip_first c.next.new.self)) (windows_rest (zip_second c.next.new.self))
turn c =
    let step = rw c.in-Some.is at c.next.ensures.steps in
    let two = c.loop-upper.invariant.two in
    record {
      two = (rw two.0 at step.0.1.0, rw two.1 at step.1.1.0);
      front = (rw two.0 at step.0.1.1, rw two.1 at step.1.1.1);
      rest = (step.0.1.2, step.1.1.2);
    }

-- what the invariant keeps whatever the window is
module _ {a b upper lower next-a next-b : List ℕ} (t : Turn a b upper lower next-a next-b) where
  shorter : length next-a + 1 ≡ length a
  shorter = rw (t.rest.0, length-drop 1 a) (omega (arith, t.two.0))

  shorter-too : length next-b + 1 ≡ length b
  shorter-too = rw (t.rest.1, length-drop 1 b) (omega (arith, t.two.1))

pub loop-upper-init : goal.loop-upper-init
unfolding pair_sums lacks_loop sums_rest lacks_rest of_bits
loop-upper-init c =
    let begun = c.into_iter-upper-iterator.ensures.into_iter_gives in
    let first = ap zip_first begun ∙ c.zip-upper-items.ensures.first in
    let second = ap zip_second begun ∙ c.zip-upper-items.ensures.second in
    let a : windows_rest (zip_first c.into_iter-upper-iterator.result) ≡ c.args.self.now.upper.letters.now = ap windows_rest first ∙ c.windows.ensures.rest in
    let b : windows_rest (zip_second c.into_iter-upper-iterator.result) ≡ c.args.self.now.lower.letters.now = ap windows_rest second ∙ c.windows-2.ensures.rest in
    record {
      two = (ap windows_size first ∙ c.windows.ensures.size, ap windows_size second ∙ c.windows-2.ensures.size);
      one_length = rw (a, b) c.args.self.now.one_length;
      letters = rw (a, b) (c.args.self.now.upper.bases, c.args.self.now.lower.bases);
      room = rw a (omega (arith, c.args.self.now.short));
      figures = rw (a, b, c.default.ensures.0, c.default.ensures.1) refl;
      loops = rw (a, b) refl;
    }

pub invariant_of-at : goal.invariant_of-at
invariant_of-at c =
    let t = turn (goal.at.invariant_of-at c).In-Some in
    record { bases = rw t.front.0 (front-bases 2 _ c.loop-upper.invariant.letters.0) }

pub invariant_of-at-in-loop-upper : goal.invariant_of-at-in-loop-upper
invariant_of-at-in-loop-upper c =
    let t = turn (goal.at.invariant_of-at-in-loop-upper c).In-Some in
    record { bases = rw t.front.1 (front-bases 2 _ c.loop-upper.invariant.letters.1) }

pub invariant_of-stacks : goal.invariant_of-stacks
unfolding stack_dg stack_ds entropy_of stack_of find table1 nearest of_bits
invariant_of-stacks c = record { figures = (refl, refl) }

pub after_bad-sums-requires : goal.after_bad-sums-requires
unfolding hundredths mismatch_of table2
after_bad-sums-requires c = (omega (arith, c.loop-upper.invariant.room), refl)

pub returns-in_err-sums : goal.returns-in_err-sums
returns-in_err-sums c =
    let t = turn (goal.at.returns-in_err-sums c).In-Some in
    let a = windows_rest (zip_first c.loop-upper.upper-iterator) in
    let b = windows_rest (zip_second c.loop-upper.upper-iterator) in
    let seen : window_of c.at-window.result ≡ window_at a b = c.at-window.ensures ∙ window-read t in
    let pairs : good (window_at a b) ≡ true = sym (ap good seen) ∙ sym c.good.ensures ∙ c.if-good.true in
    let lacks = rw c.in_err-sums.was at c.after_good.ensures in
    rw (same-error _ c.from_residual.ensures)
    (c.loop-upper.invariant.loops ∙ lacks-good (sums_of c.loop-upper.sums) c.loop-upper.sums.bad a b t.two.0 t.two.1 pairs ∙ ap (λ (x : Bool). x || lacks_rest 0 (drop 1 a) (drop 1 b)) lacks.0, lacks.1)

pub loop-upper-preserved-in_ok-sums : goal.loop-upper-preserved-in_ok-sums
loop-upper-preserved-in_ok-sums c =
    let t = turn (goal.at.loop-upper-preserved-in_ok-sums c).In-Some in
    let a = windows_rest (zip_first c.loop-upper.upper-iterator) in
    let b = windows_rest (zip_second c.loop-upper.upper-iterator) in
    let s = sums_of c.loop-upper.sums in
    let was = c.loop-upper.invariant in
    let step = rw c.in-Some.is at c.next.ensures.steps in
    let seen : window_of c.at-window.result ≡ window_at a b = c.at-window.ensures ∙ window-read t in
    let pairs : good (window_at a b) ≡ true = sym (ap good seen) ∙ sym c.good.ensures ∙ c.if-good.true in
    let sums = rw c.in_ok-sums.was at c.after_good.ensures in
    let none : c.in_ok-sums.sums.bad ≡ 0 = ap bad_of sums.1 in
    let more : after_good (loop_energy Internal) admitted_length s (window_at a b).a1 (window_at a b).a2 ≡ sums_of c.in_ok-sums.sums =
    sym (sums.1 ∙ ap (λ (w : Window). after_good (loop_energy Internal) admitted_length s w.a1 w.a2) seen) in
    record {
      two = (step.0.0 ∙ was.two.0, step.1.0 ∙ was.two.1);
      one_length = omega (arith, shorter t, shorter-too t, was.one_length);
      letters = (rw t.rest.0 (later-bases a was.letters.0), rw t.rest.1 (later-bases b was.letters.1));
      room = omega (arith, shorter t, was.room, none);
      figures = rw (t.rest.0, t.rest.1) (was.figures ∙ sums-good s s.bad a b t.two.0 t.two.1 pairs ∙ ap (λ (x : Sums). sums_rest x (drop 1 a) (drop 1 b)) more);
      loops = rw (t.rest.0, t.rest.1, none) (was.loops ∙ lacks-good s s.bad a b t.two.0 t.two.1 pairs ∙ ap (λ (x : Bool). x || lacks_rest 0 (drop 1 a) (drop 1 b)) sums.0);
    }

pub loop-upper-preserved : goal.loop-upper-preserved
loop-upper-preserved c =
    let t = turn (goal.at.loop-upper-preserved c).In-Some in
    let a = windows_rest (zip_first c.loop-upper.upper-iterator) in
    let b = windows_rest (zip_second c.loop-upper.upper-iterator) in
    let s = sums_of c.loop-upper.sums in
    let was = c.loop-upper.invariant in
    let step = rw c.in-Some.is at c.next.ensures.steps in
    let seen : window_of c.at-window.result ≡ window_at a b = c.at-window.ensures ∙ window-read t in
    let apart : good (window_at a b) ≡ false = sym (ap good seen) ∙ sym c.good.ensures ∙ c.if-good.false in
    let sums = c.after_bad-sums.ensures in
    let one-more : c.after_bad-sums.result.bad ≡ s.bad + 1 = ap bad_of sums in
    let more : after_bad (loop_energy Internal) admitted_length s (window_at a b) ≡ sums_of c.after_bad-sums.result =
    sym (sums ∙ ap (after_bad (loop_energy Internal) admitted_length s) seen) in
    record {
      two = (step.0.0 ∙ was.two.0, step.1.0 ∙ was.two.1);
      one_length = omega (arith, shorter t, shorter-too t, was.one_length);
      letters = (rw t.rest.0 (later-bases a was.letters.0), rw t.rest.1 (later-bases b was.letters.1));
      room = omega (arith, shorter t, was.room, one-more);
      figures = rw (t.rest.0, t.rest.1) (was.figures ∙ sums-bad s s.bad a b t.two.0 t.two.1 apart ∙ ap (λ (x : Sums). sums_rest x (drop 1 a) (drop 1 b)) more);
      loops = rw (t.rest.0, t.rest.1, one-more) (was.loops ∙ lacks-bad s s.bad a b t.two.0 t.two.1 apart);
    }

pub returns : goal.returns
returns c =
    let a = windows_rest (zip_first c.loop-upper.upper-iterator) in
    let b = windows_rest (zip_second c.loop-upper.upper-iterator) in
    let s = sums_of c.loop-upper.sums in
    let was = c.loop-upper.invariant in
    let short : length a < 2 =
    elim (rw c.in-None.is at c.next.ensures.steps) [
      | inl u ↦ omega (arith, u.1.1.0, was.two.0)
      | inr u ↦ omega (arith, u.1.1.0, was.two.1, was.one_length)
    ] in
    let figures = was.figures ∙ sums-done s a b short in
    (was.loops ∙ lacks-done s.bad a b short, sym (ap dg_of figures), sym (ap ds_of figures))
