use mathlib.Core.Path.{◌≡◌, refl, sym, ap, ap₂, ◌∙◌}
use mathlib.Core.Logic.{inl, inr}
use Prim.Native.Nat.{ℕ, ◌+◌, ◌<◌}
use native.Mathlib.Omega.{arith}
use lib.ListN.{get_or, length-set}
use Rattle.doubles.specs.Decimal.{zero}
use Rattle.ensemble.specs.declared.energies.Terms.{Terms}
use Rattle.model.specs.Model as Model
use Rattle.model.specs.Model.{Friend}
use Rattle.design.proofs.Parts.{places_more}
use Rattle.design.specs.Design.{strands, model_of}
use Rattle.bond_tables.specs.Tables.{bond_cell, model_over}
use Rattle.bond_tables.proofs.terms.terms_over.Invariants.{place}
use Rattle.bond_tables.proofs.terms.terms_over.Goals as goal

pub loop-position-preserved : goal.loop-position-preserved
loop-position-preserved c =
    let n = c.strands-strands.result in
    let t = c.args.tables.now.strand_bonds.now in
    let u = c.args.tables.now.scaffold_bonds.now in
    let p = c.potentials-potentials.result.now in
    let s = c.args.configuration.now in
    let l = c.loop-position in
    let i = l.position in
    let pair : c.bond_cell-in-loop-position.result ≡ bond_cell n t (get_or s i 0) (get_or s (i + 1) 0) =
    c.bond_cell-in-loop-position.ensures ∙ ap₂ (bond_cell n t) c.from.ensures c.byte_at-right.ensures in
    let potential : c.number_at.result ≡ get_or p (get_or s i 0) zero = c.number_at.ensures ∙ ap (λ (k : ℕ). get_or p k zero) c.from-in-loop-position.ensures in
    record {
      wide = length-set l.terms i _ ∙ l.invariant.wide;
      placed = places_more (place n t u p s) l.terms _ i (omega (arith, c.requires, l.invariant.wide)) (rw (c.bond_cell.ensures, pair, potential) refl) l.invariant.placed;
    }

pub returns : goal.returns
unfolding model_over model_of
returns c = λ state.
    let inv = c.loop-position.invariant.placed in
    let d = c.args.admitted.now in
    let t = c.args.tables.now.strand_bonds.now in
    let u = c.args.tables.now.scaffold_bonds.now in
    let s = c.args.configuration.now in
    let is : c.strands-strands.result ≡ strands d = c.strands-strands.ensures ∙ ap strands c.admitted.view_is in
    let own = c.potentials-potentials.ensures in
    record {
      site = λ i h _. ap (λ (t : Terms). t.site) (inv i (omega arith)) ∙ ap (λ (n : ℕ). bond_cell n u i (get_or s i 0)) is;
      pair = λ i h. ap (λ (t : Terms). t.pair) (inv i (omega arith)) ∙ ap (λ (n : ℕ). bond_cell n t (get_or s i 0) (get_or s (i + 1) 0)) is;
      potential = λ i h occupied.
          let inside : i < Model.positions (model_of d) = rw (← state.places) h in
          let friend : Friend (model_of d) i (get_or s i 0) = elim (state.occupants i inside) [ inl e ↦ absurd (occupied e) | inr f ↦ f ] in
          ap (λ (t : Terms). t.potential) (inv i (omega arith)) ∙ sym (own.friends i (get_or s i 0) friend);
    }
