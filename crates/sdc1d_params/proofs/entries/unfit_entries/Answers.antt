use mathlib.Core.Path.{◌≡◌, ◌∙◌}
use borrow.Author.Tests.{eq-eqb, ne_eqb, lt-ltb, le-ltb}
use Rattle.lists.specs.Find.{any}
use Rattle.lists.specs.Build.{tabulate}
use Rattle.lists.proofs.Build.{length-tabulate}
use borrow.Author.Rules.{rules}
use Rattle.sdc1d_params.specs.Entries.{entry_at, entry_rows, unfit_entry, unfit_entries}
use Rattle.sdc1d_params.proofs.Lengths.{some-place}
use Rattle.sdc1d_params.proofs.entries.unfit_entries.Goals as goal
use Rattle.sdc1d_params.proofs.entries.unfit_entries.Goals.{then-entries-ne0-via-then-entries-ne0, then-entries-ne0-via-else-entries-ne0+then-energies-n, then-entries-ne0-via-else-entries-ne0+else-energies-n+then-n-gt-MOST_ENTRIES}

pub returns-then-entries-ne0 : goal.returns-then-entries-ne0
unfolding unfit_entries
returns-then-entries-ne0 c =
    let a = c.args in
    elim c.then-entries-ne0.branch [
      | then-entries-ne0-via-then-entries-ne0 w ↦ simp (ne_eqb _ _ w.if-entries-ne0.true)
      | then-entries-ne0-via-else-entries-ne0+then-energies-n w ↦ simp (eq-eqb _ _ w.if-entries-ne0.false, ne_eqb _ _ w.if-energies-n.true)
      | then-entries-ne0-via-else-entries-ne0+else-energies-n+then-n-gt-MOST_ENTRIES w ↦
          simp (eq-eqb _ _ w.if-entries-ne0.false, eq-eqb _ _ w.if-energies-n.false, length-tabulate (entry_rows a.lent.now.entries.now) (entry_at a.lent.now.entries.now a.lent.now.energies.now), lt-ltb _ _ w.if-n-gt-MOST_ENTRIES.true)
    ]

pub returns : goal.returns
unfolding unfit_entries
returns c =
    let a = c.args in
    let f = entry_at a.lent.now.entries.now a.lent.now.energies.now in
    let found : c.is_some.result ≡ any (unfit_entry a.lent.now.text.now) (tabulate (entry_rows a.lent.now.entries.now) f) = c.is_some.ensures ∙ some-place _ _ _ (c.first_entry.ensures (unfit_entry a.lent.now.text.now) (λ i b h k. search rules)) in
    simp (eq-eqb _ _ c.if-entries-ne0.false, eq-eqb _ _ c.if-energies-n.false, length-tabulate (entry_rows a.lent.now.entries.now) f, le-ltb _ _ c.if-n-gt-MOST_ENTRIES.false) found
