use Rattle.jobs.proofs.Stretches.{stretches-same}
use Rattle.jobs.proofs.Figures.{energies-admitted, counts-admitted, stretch-admitted}
use Rattle.jobs.specs.inner.Settled.{energy_of_word, stretches_in}
use Rattle.design.specs.Design.{Design, positions, model_of}
use Rattle.design.specs.Checks.{Admitted}
use Rattle.ensemble.proofs.OptionRows.{product_is}
use Rattle.mfe.proofs.Shown.{placed}
use Rattle.model.specs.Search as Search
use Rattle.prepared.specs.Layout.{StateBonds}
use lib.Ieee.{Float}
use lib.ListN.{length, replicate, length-take}
use native.Mathlib.Omega.{arith}
use Prim.Native.Nat.{ℕ, min}
use mathlib.Core.List.{List, map}
use mathlib.Core.Path.{◌≡◌, refl, sym, ap, ◌∙◌}
use Rattle.jobs.proofs.answer_jobs.Goals as goal

pub invariant_of-settled : goal.invariant_of-settled
invariant_of-settled c =
    let bonds = c.new-bonds.ensures in
    let p = c.requires in
    let own = rw (sym c.admitted.view_is) at c.potentials.ensures in
    record {
      same_strands = p.same_strands;
      option_rows = p.option_rows;
      state_cells = rw (bonds.strand_bonds, bonds.scaffold_bonds, bonds.potentials, bonds.strands, c.potentials.ensures.many, sym c.admitted.view_is) (c.fill_bonds.ensures c.admitted.inside.design.now.marks c.potentials.result.now own c.admitted.invariant.0.admitted (rw c.admitted.view_is p.option_rows));
      counted = c.args.counted.now.counted;
    }

pub fill_stretches-requires-clause-stretches_len : goal.fill_stretches-requires-clause-stretches_len
fill_stretches-requires-clause-stretches_len c =
    let d : Design = c.args.admitted.now in
    let options = c.requires.option_rows in
    let n = length c.args.counted.now.options.counts.now in
    let short = c.args.counted.now.options.searchable.short in
    let number : length c.lowest-least.new.configuration ≡ n = c.lowest-least.auto.configuration ∙ (omega (arith, length-take n (replicate {A = ℕ} 128 0))) in
    rw (number, placed d options) c.requires.stretches_len

pub returns : goal.returns
unfolding model_of
returns c =
    let a = c.args in
    let p = c.requires in
    let d : Design = a.admitted.now in
    let admitted : Admitted d = rw (sym c.admitted.view_is) c.admitted.invariant.0.admitted in
    let short = a.counted.now.options.searchable.short in
    let n = length a.counted.now.options.counts.now in
    let shown = c.lowest-least.new.configuration in
    let number : length shown ≡ n = c.lowest-least.auto.configuration ∙ (omega (arith, length-take n (replicate {A = ℕ} 128 0))) in
    let bonds = c.new-bonds.ensures in
    let own = rw (sym c.admitted.view_is) at c.potentials.ensures in
    let cells : StateBonds (model_of d) c.new-bonds.result = rw (bonds.strand_bonds, bonds.scaffold_bonds, bonds.potentials, bonds.strands, c.potentials.ensures.many, sym c.admitted.view_is) (c.fill_bonds.ensures c.admitted.inside.design.now.marks c.potentials.result.now own c.admitted.invariant.0.admitted (rw c.admitted.view_is p.option_rows)) in
    let same : c.new-bonds.result.strand_bonds.strands ≡ a.counted.now.options.strands = bonds.strands ∙ c.potentials.ensures.many ∙ sym p.same_strands in
    let found = c.lowest-least.ensures (model_of d) (record { options = p.option_rows; bonds = rw (sym same) cells.searched }) (rw (sym c.admitted.view_is, c.rt.ensures) refl) in
    let held = a.counted.now.counted ∙ ap (λ (n : ℕ). min n 1048577) (product_is p.option_rows) in
    let size : length (Search.search (model_of d)).configuration ≡ positions d = ap length (sym found.shown) ∙ number ∙ placed d p.option_rows in
    record {
      energies_after = c.fill_energies.ensures ∙ ap (λ (x : Float). map (energy_of_word (model_of d) x) a.jobs.now) found.least ∙ energies-admitted d admitted a.jobs.now;
      counts_after = c.fill_counts.ensures ∙ counts-admitted d admitted a.jobs.now held;
      stretches_after = c.fill_stretches.ensures ∙ ap (λ (s : List ℕ). stretches_in s a.jobs.now a.stretches.now) found.shown ∙ stretches-same d (Search.search (model_of d)).configuration size (stretch-admitted d admitted) a.jobs.now a.stretches.now p.stretches_len;
    }
