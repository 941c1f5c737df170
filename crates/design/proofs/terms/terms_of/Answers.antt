use mathlib.Core.Path.{◌≡◌, refl, sym, ap, ◌∙◌}
use mathlib.Core.Logic.{inl, inr}
use Prim.Native.Nat.{ℕ, ◌+◌, ◌<◌}
use native.Mathlib.Omega.{arith}
use lib.ListN.{get_or, length-set}
use Rattle.doubles.specs.Decimal.{zero}
use Rattle.ensemble.specs.declared.energies.Terms.{Terms}
use Rattle.model.specs.Model as Model
use Rattle.model.specs.Model.{Friend}
use Rattle.design.proofs.Parts.{places_more}
use Rattle.design.specs.Design.{Design, scaffold_bond, strand_bond_in, scaffold_bond_in, model_of}
use Rattle.design.proofs.terms.terms_of.Invariants.{place}
use Rattle.design.proofs.terms.terms_of.Goals as goal

pub loop-position-preserved : goal.loop-position-preserved
loop-position-preserved c =
    let d = c.admitted.inside.design.now in
    let p = c.potentials-potentials.result.now in
    let s = c.args.configuration.now in
    let l = c.loop-position in
    let i = l.position in
    let site : c.scaffold_bond.result ≡ scaffold_bond_in d i (get_or s i 0) = c.scaffold_bond.ensures ∙ ap (λ (glue : ℕ). scaffold_bond glue d.glues d.dg d.ds d.ambient (get_or s i 0)) c.scaffold_glue.ensures in
    let pair : c.strand_bond.result ≡ strand_bond_in d (get_or s i 0) (get_or s (i + 1) 0) = c.strand_bond.ensures ∙ ap (strand_bond_in d (get_or s i 0)) c.byte_at-right.ensures in
    let potential : c.number_at.result ≡ get_or p (get_or s i 0) zero = c.number_at.ensures ∙ ap (λ (k : ℕ). get_or p k zero) c.from.ensures in
    record {
      wide = length-set l.terms i _ ∙ l.invariant.wide;
      placed = places_more (place d p s) l.terms _ i (omega (arith, c.requires, l.invariant.wide)) (rw (site, pair, potential) refl) l.invariant.placed;
    }

pub returns : goal.returns
unfolding model_of
returns c = λ state.
    let d = c.args.admitted.now in
    let inv = c.loop-position.invariant.placed in
    let is : c.admitted.inside.design.now ≡ d = c.admitted.view_is in
    let s = c.args.configuration.now in
    let own = c.potentials-potentials.ensures in
    record {
      site = λ i h _. ap (λ (t : Terms). t.site) (inv i (omega arith)) ∙ ap (λ (d : Design). scaffold_bond_in d i (get_or s i 0)) is;
      pair = λ i h. ap (λ (t : Terms). t.pair) (inv i (omega arith)) ∙ ap (λ (d : Design). strand_bond_in d (get_or s i 0) (get_or s (i + 1) 0)) is;
      potential = λ i h occupied.
          let inside : i < Model.positions (model_of d) = rw (← state.places) h in
          let friend : Friend (model_of d) i (get_or s i 0) = elim (state.occupants i inside) [ inl e ↦ absurd (occupied e) | inr f ↦ f ] in
          ap (λ (t : Terms). t.potential) (inv i (omega arith)) ∙ sym (own.friends i (get_or s i 0) friend);
    }
