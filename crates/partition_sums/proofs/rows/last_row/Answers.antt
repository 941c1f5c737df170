-- The filling of the last position's row meets its contract. Assumes nothing.
use mathlib.Core.Path.{ap, ◌∙◌}
use mathlib.Core.List.{List}
use Prim.Native.Nat.{ℕ, ◌-◌}
use native.Mathlib.Omega.{arith}
use lib.ListN.{length, get_or}
use Rattle.partition_sums.proofs.Positions.{here, passed_at, searchable, item-in, known_of, place-weighs, last-passed}
use Rattle.partition_sums.proofs.Rowed.{written-more, written-all}
use Rattle.partition_sums.proofs.rows.last_row.Goals as goal

pub place_factor-requires-clause-weighs : goal.place_factor-requires-clause-weighs
place_factor-requires-clause-weighs c =
    let f = c.args.formed.now in
    let some = f.some in
    place-weighs f (length f.lent.options.counts.now - 1) (get_or c.of-x-items.result.now c.loop-x.x-index 0) (omega arith) (item-in c.loop-x.x-index c.of-x-items.ensures.row c.loop-x-test.true)

pub loop-x-preserved : goal.loop-x-preserved
loop-x-preserved c =
    let f = c.args.formed.now in
    let l = f.lent in
    let some = f.some in
    let n = length l.options.counts.now - 1 in
    let k = c.loop-x.x-index in
    let x = get_or c.of-x-items.result.now k 0 in
    let known = known_of (searchable l) n x (omega arith) (item-in k c.of-x-items.ensures.row c.loop-x-test.true) in
    let few = (searchable l).few in
    rw c.from.ensures (written-more (passed_at l n) (here l n) c.loop-x.row k x c.place_factor.result (omega arith)
    (ap (λ (xs : List ℕ). get_or xs k 0) c.of-x-items.ensures.row)
    (c.place_factor.ensures ∙ last-passed f n x (omega arith)) c.loop-x.invariant)

pub returns : goal.returns
returns c = record { terms = written-all c.loop-x.invariant (let e = ap length c.of-x-items.ensures.row in let past = c.loop-x-test.false in omega arith) }
