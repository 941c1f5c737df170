-- `deck::writing::lay` meets its contract, stretch by stretch. Assumes nothing.
use Rattle.std.proofs.Common.{rules, arith, ◌∙◌, length, refl, sym, ap}
use Rattle.deck.specs.Forms.{form_of}
use Rattle.deck.specs.Deck.{positions}
use lib.Seq.{sets}
use native.Mathlib.Numerals.{add-one}
use Rattle.deck.proofs.Stretches.{some-stretches, sum-stretches, fewer-stretches}
use Rattle.deck.proofs.writing.lay.Invariants.{words_for}
use Rattle.deck.proofs.writing.lay.Goals as goal

pub loop-stretch-init : goal.loop-stretch-init
loop-stretch-init c =
    let form = form_of c.args.form in
    let all = c.args.configuration.now in
    let begun = c.into_iter-stretch-iterator.ensures.into_iter_gives in
    record {
      some = rw begun (some-stretches form all);
      sum = rw (begun, sum-stretches form all) (c.requires.0);
      size = search rules;
      count = rw begun refl;
      stored = rw begun refl;
    }

pub bits-requires : goal.bits-requires
unfolding positions
bits-requires c =
    let w = c.loop-stretch.invariant in
    let step = c.in-Some.ensures.steps in
    let some = rw step at w.some in
    let sum = rw step at w.sum in
    (some.0, omega (arith, sum))

pub bounds-words-count : goal.bounds-words-count
bounds-words-count c =
    let w = c.loop-stretch.invariant in
    let more = ap length c.in-Some.ensures.steps in
    let fewer = fewer-stretches (form_of c.args.form) c.args.configuration.now in
    omega (arith, w.size, w.count, more, fewer, c.requires.0)

pub offset_bounds-words-count : goal.offset_bounds-words-count
offset_bounds-words-count c =
    let w = c.loop-stretch.invariant in
    let room = bounds-words-count c in
    search (rules, room, w.size)

pub overflow_add-count : goal.overflow_add-count
overflow_add-count c =
    let w = c.loop-stretch.invariant in
    let room = bounds-words-count c in
    search (rules, room, w.size)

pub loop-stretch-preserved : goal.loop-stretch-preserved
unfolding positions
loop-stretch-preserved c =
    let l = c.loop-stretch in
    let w = l.invariant in
    let step = c.in-Some.ensures.steps in
    let some = rw step at w.some in
    let sum = rw step at w.sum in
    let words = ap (words_for c.args.form) step in
    let more = ap length step in
    record {
      some = some.1;
      sum = omega (arith, sum);
      size = search (rules, w.size);
      count = omega (arith, more, w.count);
      stored = rw (c.bits.ensures, add-one) (ap (sets l.words l.count) (sym words) ∙ w.stored);
    }

pub returns : goal.returns
returns c =
    let l = c.loop-stretch in
    let w = l.invariant in
    let past = c.in-None.ensures.steps.0 in
    (omega (arith, ap length past, w.count), ap (λ ss. sets l.words l.count (words_for c.args.form ss)) (sym past) ∙ w.stored)
