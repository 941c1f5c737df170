use mathlib.Core.Path.{◌≡◌, refl, ◌∙◌}
use Prim.Native.Nat.{◌<◌}
use native.Mathlib.Omega.{arith}
use lib.ListN.{length, length-set}
use Rattle.std.proofs.Common.{rules}
use Rattle.model.specs.Model.{positions}
use Rattle.ensemble.proofs.LentParts.{bounds}
use Rattle.ensemble.proofs.OptionRows.{options-are, friends-are}
use Rattle.ensemble.proofs.Passing.{left-more, table_more}
use Rattle.ensemble.proofs.lent.LentModel.pass.Goals as goal

pub loop-position-preserved : goal.loop-position-preserved
loop-position-preserved c =
    let l = c.loop-position in
    let i = l.position in
    let here = c.loop-position-test.true in
    let place = (bounds c.args.self.now.options.searchable i here).place in
    let row = c.of-options in
    let friends = c.friends-friends.result.now in
    let none = c.least_for_empty-empty in
    let same = c.args.self.now.same_strands in
    let attached = rw (same) at c.best_energies.ensures in
    let sites = rw (same) at c.scaffold_bonds_at.ensures.cells in
    let next = c.mfe_next_vector.new.energies in
    let sized : length next ≡ 64 = omega arith in
    let in-next : length friends < length next = omega (arith, c.friends-friends.ensures.sized, row.ensures.sized, row.ensures.few) in
    let in-choice : i < length l.choices.friends = omega arith in
    let in-empty : i < length l.choices.empty = omega arith in
    record {
      few = search rules;
      known = search rules;
      wide = length-set next (length friends) none.result.energy ∙ sized;
      passed = λ m options w they whole start.
          let o = w.options in
          let b = w.bonds in
          let old = l.invariant.passed m options w they whole start in
          let in-model : i < positions m = rw (← o.positions) here in
          let row-is = row.ensures.row ∙ options-are o i in-model in
          let are = c.friends-friends.ensures.row ∙ friends-are o i in-model in
          let known = c.friends-friends.ensures.known in
          record {
            entries = left-more they b i in-model friends are (whole i c.loop-position.auto.position) known l.left.now l.energies old.entries c.best_energies.new.best c.best_energies.new.choice attached none.result none.ensures.chosen
                c.scaffold_bonds_at.result.now sites next in-next c.mfe_next_vector.ensures row.result.now (length friends) row-is refl;
            choices = table_more they b i in-model friends are (whole i c.loop-position.auto.position) known l.left.now l.energies old.entries c.best_energies.new.best c.best_energies.new.choice attached none.result none.ensures.chosen
                l.choices.friends l.choices.empty in-choice in-empty old.choices;
          };
    }
