use mathlib.Core.Path.{refl, sym, ◌∙◌}
use Prim.Native.Nat.{ℕ}
use native.Mathlib.Omega.{arith}
use lib.ListN.{length, get_or}
use Rattle.lists.proofs.Places.{tabulate-get_or}
use Rattle.lists.proofs.Counted.{stored-none, stored_more, stored-whole}
use Rattle.sdc1d_params.proofs.scaffold.write_scaffold.Goals as goal

pub loop-i-init : goal.loop-i-init
loop-i-init c = stored-none (λ k. get_or c.args.numbers.now k 0) c.args.glues.now

pub loop-i-preserved : goal.loop-i-preserved
loop-i-preserved c =
    let l = c.loop-i in
    let n = c.requires.glues_len in
    rw l.invariant (stored_more (λ (k : ℕ). get_or c.args.numbers.now k 0) l.i c.args.glues.now _ (omega arith) refl)

pub returns : goal.returns
returns c =
    let a = c.args in
    let n = c.requires.glues_len in
    let f : ℕ → ℕ = λ (k : ℕ). get_or a.numbers.now k 0 in
    c.loop-i.invariant ∙ stored-whole f c.loop-i.i a.glues.now (omega arith) ∙ tabulate-get_or 0 (length a.glues.now) a.numbers.now (sym n)
