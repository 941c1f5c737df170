use mathlib.Core.Path.{◌≡◌, refl, sym, ◌∙◌}
use mathlib.Core.Bool.{true, false}
use Prim.Native.Nat.{◌<◌}
use native.Mathlib.Omega.{arith}
use Rattle.lists.specs.Find.{any}
use Rattle.lists.specs.Build.{tabulate}
use Rattle.lists.proofs.Counted.{any-more, any-fails}
use Rattle.sdc_common.proofs.Positions.{position_at, position_past}
use Rattle.sdc1d_params.specs.Entries.{entry_at, entry_rows}
use Rattle.sdc1d_params.proofs.entries.first_entry.Goals as goal

pub loop-i-init : goal.loop-i-init
unfolding any tabulate
loop-i-init g c p h = refl

pub returns-then-test : goal.returns-then-test
returns-then-test g c p h =
    let f = entry_at c.args.lent.now.entries.now c.args.lent.now.energies.now in
    let i = c.loop-i.i in
    let in-rows : i < entry_rows c.args.lent.now.entries.now = omega arith in
    let here : p (f i) ≡ true = sym (h i _ in-rows (rw c.entry_at.ensures at c.test.ensures)) ∙ c.if-test.true in
    sym (position_at p (entry_rows c.args.lent.now.entries.now) f i (any-fails p i f (c.loop-i.invariant p h)) in-rows here)

pub loop-i-preserved : goal.loop-i-preserved
loop-i-preserved g c p h =
    let f = entry_at c.args.lent.now.entries.now c.args.lent.now.energies.now in
    let i = c.loop-i.i in
    let in-rows : i < entry_rows c.args.lent.now.entries.now = omega arith in
    let other : p (f i) ≡ false = sym (h i _ in-rows (rw c.entry_at.ensures at c.test.ensures)) ∙ c.if-test.false in
    any-more p f i (c.loop-i.invariant p h) other

pub returns : goal.returns
returns g c p h =
    let f = entry_at c.args.lent.now.entries.now c.args.lent.now.energies.now in
    let n = entry_rows c.args.lent.now.entries.now in
    let end : c.loop-i.i ≡ n = omega arith in
    sym (position_past p n f (any-fails p n f (rw end at (c.loop-i.invariant p h))))
