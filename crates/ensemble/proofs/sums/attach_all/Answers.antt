use mathlib.Core.Path.{sym, ap, ◌∙◌}
use mathlib.Core.List.{List}
use Prim.Native.Nat.{ℕ, ◌<◌}
use native.Mathlib.Omega.{arith}
use lib.ListN.{length}
use lib.Seq.{take-length}
use Rattle.doubles.specs.Least.{last_least}
use Rattle.ensemble.specs.inner.Entries.{table_bond}
use Rattle.ensemble.proofs.Choosing.{some_key}
use Rattle.ensemble.proofs.Attachments.{attach-choice}
use Rattle.ensemble.proofs.sums.attach_all.Goals as goal

pub loop-friend-preserved : goal.loop-friend-preserved
loop-friend-preserved c =
    let left = c.args.left.now in
    let l = c.loop-friend in
    let x = c.from-right.result in
    let low : x < left.bonds.strands = rw c.from-right.ensures (c.requires.known l.friend-index c.loop-friend-test.true) in
    let r = c.last_least in
    let below = r.ensures.known in
    let in-choice : x < length l.choice = omega arith in
    attach-choice (table_bond left.bonds.strands left.bonds.cells.now) left.options.now left.energies.now c.args.friends.now _ l.choice x r.result in-choice
    (λ key keys.
    let least = c.least_sums.ensures x low key keys ∙ ap (λ (xs : List ℕ). key (last_least key xs)) (take-length left.options.now) in
    record { strand = r.ensures.choice key keys least; energy = least ∙ sym (some_key key left.options.now (last_least key left.options.now) c.requires.left_nonzero) })
    l.friend-index c.from-right.ensures (omega arith) l.invariant
