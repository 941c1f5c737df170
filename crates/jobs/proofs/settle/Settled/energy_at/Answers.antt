use Rattle.jobs.proofs.States.{ranked-state, known-occupants}
use Rattle.ensemble.proofs.OptionRows.{product_is}
use Rattle.design.specs.Design.{strands, model_of}
use Rattle.model.specs.Energy.{state_energy}
use Rattle.model.specs.States.{count}
use lib.ListN.{length, replicate, length-take}
use native.Mathlib.Omega.{arith}
use Prim.Native.Nat.{ℕ, ◌<◌}
use mathlib.Core.Path.{◌≡◌, refl, sym, ap, ◌∙◌}
use Rattle.jobs.proofs.settle.Settled.energy_at.Goals as goal

pub write_state-requires : goal.write_state-requires
write_state-requires c =
    let s = c.args.self.now in
    let searchable = s.lent.options.searchable in
    let short = searchable.short in
    let held = s.counted in
    let few = c.requires.counted in
    record {
      readable = searchable.readable;
      states_value = omega arith;
      rank_lt_states = c.requires.rank_lt_states;
      entries_len = omega (arith, length-take (length s.lent.options.counts.now) (replicate {A = ℕ} 128 0));
    }

pub state_energy-requires-clause-by_index : goal.state_energy-requires-clause-by_index
state_energy-requires-clause-by_index c =
    let s = c.args.self.now in
    let m = model_of s.admitted.now in
    let below : c.args.rank < count m = omega (arith, s.counted, c.requires.counted, c.requires.rank_lt_states, product_is s.option_rows) in
    let strand : 0 < strands s.admitted.now = rw (sym c.admitted.view_is) c.admitted.invariant.0.some in
    let some : 0 < s.lent.options.strands = rw s.same_strands strand in
    rw (c.write_state.ensures m s.option_rows, s.lent.same_strands) (known-occupants s.option_rows s.lent.options.searchable some (ranked-state m c.args.rank below))

pub returns : goal.returns
unfolding model_of
returns c =
    let s = c.args.self.now in
    let m = model_of s.admitted.now in
    let below : c.args.rank < count m = omega (arith, s.counted, c.requires.counted, c.requires.rank_lt_states, product_is s.option_rows) in
    let is = c.write_state.ensures m s.option_rows in
    let rt : c.rt.result.0 ≡ m.rt = rw (sym c.admitted.view_is, c.rt.ensures) refl in
    c.state_energy.ensures m s.state_cells (rw is (ranked-state m c.args.rank below)) rt ∙ ap (state_energy m) is
