use mathlib.Core.Path.{◌≡◌, ap, ◌∙◌}
use Prim.Native.Nat.{ℕ, ◌≤◌, ◌<◌, ◌*◌, ◌^◌}
use native.Mathlib.Nat.{pow-suc}
use native.Mathlib.Numerals.{add-one}
use native.Mathlib.Omega.{arith}
use lib.ListN.{length, replicate, length-replicate}
use Rattle.reply.specs.declared.Refusal.TheVariants.{WrongSize, RankTooHigh}
use Rattle.short_sequences.specs.Sequences.{letters, sequence_at}
use Rattle.short_sequences.specs.Answers.{wrong_size, rank_too_high, sequence_answer, sequence_bytes}
use Rattle.short_sequences.proofs.Order.{length-choice_at}
use Rattle.short_sequences.proofs.Lengths.{at-shortest, at-longer, longer-inside, not-longest}
use Rattle.reply.proofs.Asked.{admits, exits}
use Rattle.short_sequences.proofs.short_sequence.Goals as goal

pub returns-in_err-refused_if : goal.returns-in_err-refused_if
unfolding sequence_answer sequence_bytes
returns-in_err-refused_if c =
    let q = exits c.from_residual.result WrongSize (wrong_size c.args.bytes.now) _ c.from_residual.ensures.1 c.in_err-refused_if.ensures in
    record {
      result_value = rw (q.1, q.0);
      bytes_after = rw q.0;
    }

pub returns-in_err-refused_if-2 : goal.returns-in_err-refused_if-2
unfolding sequence_answer sequence_bytes
returns-in_err-refused_if-2 c =
    let size = admits WrongSize (wrong_size c.args.bytes.now) c.in_ok-refused_if.ensures in
    let from = c.from_residual-in_err-refused_if-2 in
    let q = exits from.result RankTooHigh (rank_too_high c.args.rank) _ from.ensures.1 c.in_err-refused_if-2.ensures in
    record {
      result_value = rw (q.1, size, q.0);
      bytes_after = rw (size, q.0);
    }

pub loop-count-preserved : goal.loop-count-preserved
loop-count-preserved c =
    let l = c.loop-count in
    let past : 4 ^ l.bases ≤ l.left = rw l.invariant.1 at c.loop-count-test.true in (
      rw add-one (not-longest l.bases l.left l.invariant.0 l.invariant.2 past),
      ap (λ (k : ℕ). k * 4) l.invariant.1 ∙ (rw (add-one, pow-suc)),
      rw l.invariant.1 (longer-inside l.bases l.left l.invariant.0 l.invariant.2 past),
      omega arith,
      l.invariant.4 ∙ rw l.invariant.1 (at-longer l.bases l.left l.invariant.0 l.invariant.2 past),
    )

pub returns : goal.returns
unfolding sequence_answer sequence_bytes
returns c =
    let l = c.loop-count in
    let a = c.args in
    let size = admits WrongSize (wrong_size a.bytes.now) c.in_ok-refused_if.ensures in
    let high = admits RankTooHigh (rank_too_high a.rank) c.in_ok-refused_if-2.ensures in
    let inside : l.left < 4 ^ l.bases = rw l.invariant.1 at c.loop-count-test.false in
    let is = l.invariant.4 ∙ at-shortest l.bases l.left l.invariant.0 l.invariant.2 inside in
    let long : length (sequence_at a.rank) ≡ l.bases = ap length is ∙ length-choice_at (replicate l.bases letters) l.left ∙ length-replicate l.bases letters in
    record {
      result_value = rw (size, high, long);
      bytes_after = rw (size, high, is) c.write_bases.ensures;
    }
