use mathlib.Core.Path.{refl, sym, ap, ap₂, ◌∙◌}
use mathlib.Core.List.{List}
use lib.Ieee.{Float}
use lib.ListN.{get_or}
use Rattle.lists.specs.Fold.{foldl}
use Rattle.lists.specs.Build.{tabulate}
use Rattle.lists.proofs.Counted.{fold_more}
use Rattle.sdc1d_params.specs.Entries.{cell, energy_of}
use Rattle.sdc1d_params.specs.Tables.{Write, write_dg, write_ds}
use Rattle.sdc1d_params.specs.inner.Cells.{write_at}
use Rattle.sdc1d_params.proofs.Writes.{same_write}
use Rattle.sdc1d_params.proofs.tables.fill_tables.Goals as goal

pub loop-i-init : goal.loop-i-init
unfolding foldl tabulate
loop-i-init c = (refl, refl)

pub loop-i-preserved : goal.loop-i-preserved
loop-i-preserved c =
    let a = c.args in
    let l = c.loop-i in
    let f = write_at a.set.now.lent.text.now a.set.now.lent.entries.now a.set.now.lent.energies.now a.set.now.lent.penalty.dg.0 a.set.now.lent.penalty.ds.0 a.cells.now in
    let made = same_write a.set.now.lent.text.now a.set.now.lent.penalty.dg.0 a.set.now.lent.penalty.ds.0 (get_or a.cells.now l.i (cell 0 0)) (ap energy_of c.entry.ensures.1) (rw c.entry.ensures.0 at c.with_penalty-sum.ensures.0) (rw c.entry.ensures.0 at c.with_penalty-sum.ensures.1) in
    let one = c.set_both.ensures ∙ ap₂ (λ (t : List Float) (w : Write). write_dg t w) l.invariant.0 made ∙ sym (fold_more write_dg a.dg.now f l.i) in
    let two = c.set_both-in-loop-i.ensures ∙ ap₂ (λ (t : List Float) (w : Write). write_ds t w) l.invariant.1 made ∙ sym (fold_more write_ds a.ds.now f l.i) in
    (one, two)
