use Rattle.lists.proofs.Places.{tabulate-places}
use Rattle.lists.proofs.Counted.{stored-none, stored_more, stored-whole}
use Rattle.lists.specs.Build.{tabulate}
use lib.ListN.{length, get_or, set}
use native.Mathlib.Omega.{arith}
use Prim.Native.Nat.{ℕ, ◌<◌}
use mathlib.Core.List.{List}
use mathlib.Core.Path.{◌≡◌, refl, ap, ◌∙◌}
use Rattle.jobs.proofs.fill.fill.Goals as goal

pub loop-k-init : goal.loop-k-init
loop-k-init g c f h = stored-none (λ i. f (get_or c.args.jobs.now i 0)) c.args.cells.now

pub loop-k-preserved : goal.loop-k-preserved
loop-k-preserved g c f h =
    let l = c.loop-k in
    let lent = c.requires.cells_len in
    let here : l.k < length c.args.cells.now = omega arith in
    ap (λ (t : List g.row.T.Denot). set t l.k c.rule.result) (l.invariant f h)
    ∙ stored_more (λ i. f (get_or c.args.jobs.now i 0)) l.k c.args.cells.now c.rule.result here (h (get_or c.args.jobs.now l.k 0) c.rule.result c.rule.ensures)

pub returns : goal.returns
returns g c f h =
    let lent = c.requires.cells_len in
    let all : c.loop-k.k ≡ length c.args.cells.now = omega arith in
    c.loop-k.invariant f h ∙ stored-whole (λ i. f (get_or c.args.jobs.now i 0)) c.loop-k.k c.args.cells.now all ∙ ap (λ (n : ℕ). tabulate n (λ i. f (get_or c.args.jobs.now i 0))) lent ∙ tabulate-places f 0 c.args.jobs.now (λ i. f (get_or c.args.jobs.now i 0)) (λ i e. refl)
