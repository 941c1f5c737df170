-- The pass with one first occupant meets its contract. Assumes nothing.
use mathlib.Core.Path.{refl, sym, subst}
use Prim.Native.Nat.{ℕ, ◌<◌, ◌+◌}
use native.Mathlib.Omega.{arith}
use lib.ListN.{length, get_or}
use Rattle.model.specs.Model.{positions}
use Rattle.model.specs.Ring.{with_first}
use Rattle.ensemble.specs.inner.Entries.{choice_in, traced_back}
use Rattle.ensemble.specs.inner.Ring.{FoundFrom}
use Rattle.ensemble.proofs.LentParts.{part}
use Rattle.ensemble.proofs.Ringed.{ring-options, later-options, part-one, first-known, known-one, first-option, first_member, left-first, table-first, found_first}
use Rattle.ensemble.proofs.lent.LentModel.ring_from.Goals as goal

pub first_entry-requires-clause-known : goal.first_entry-requires-clause-known
first_entry-requires-clause-known c = first-known c.args.self.now.options.searchable c.requires.some c.requires.option_known

pub pass-options-requires-clause-known : goal.pass-options-requires-clause-known
pass-options-requires-clause-known c =
    let s = c.args.self.now.options.searchable in
    let few = s.readable.few 0 c.requires.some in
    let sized = s.readable.sized in
    let some = c.requires.some in
    let h = c.requires.option_known in
    let inside : c.args.option < length c.args.self.now.options.rows.now = omega arith in
    rw (part-one c.args.self.now.options.rows.now c.args.option inside) (known-one (first-known s some h))

pub lowest_closed-requires : goal.lowest_closed-requires
lowest_closed-requires c = rw c.args.self.now.same_strands (first-known c.args.self.now.options.searchable c.requires.some c.requires.option_known)

pub returns-clause-found : goal.returns-clause-found
returns-clause-found c = λ m w closing e.
    let o = w.options in
    let b = w.bonds in
    let lent = c.args.self.now in
    let s = lent.options.searchable in
    let few = s.readable.few 0 c.requires.some in
    let sized = s.readable.sized in
    let some = c.requires.some in
    let h = c.requires.option_known in
    let inside : c.args.option < length lent.options.rows.now = omega arith in
    let in-model : 0 < positions m = rw (sym o.positions) some in
    let f = get_or lent.options.rows.now c.args.option 0 in
    let option = first_member o in-model h in
    let p = c.pass-options in
    let passed = p.ensures.passed m (with_first m f) w (ring-options m f option) (later-options m f) (record {
      entries = left-first m f option b in-model (part lent.options.rows.now c.args.option (c.args.option + 1)) _ (part-one lent.options.rows.now c.args.option inside) c.first_entry.ensures;
      choices = table-first m f option _ _;
    }) in
    let low = c.lowest_closed in
    let chosen = rw lent.same_strands at low.ensures.chosen in
    let choices = p.new.choices in
    let written = traced_back (choice_in choices.friends choices.empty) (length lent.options.counts.now) low.result.strand in
    subst (λ (x : ℕ). FoundFrom m x written low.result.energy) (first-option o in-model h)
    (found_first m f option lent.options.strands lent.bonds.strand_bonds.cells.now closing c.args.rt.0 e
    choices.friends choices.empty p.result.now p.new.energies low.result written chosen
    (length lent.options.counts.now) some o.positions passed.entries passed.choices refl)
