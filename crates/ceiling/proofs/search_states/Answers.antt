-- The filling of bonds and the search over them meet their contract. Assumes nothing.
use mathlib.Core.Logic.{inl}
use mathlib.Core.Path.{refl, sym, ap}
use Rattle.doubles.specs.Decimal.{zero}
use Rattle.design.specs.Design.{Design, model_of}
use Rattle.prepared.specs.declared.sums.Begun.{Begun}
use Rattle.ceiling.specs.inner.Passing.{UnderFrom}
use Rattle.ceiling.proofs.Whole.{found-under}
use Rattle.ceiling.proofs.search_states.Goals as goal

pub returns : goal.returns
unfolding model_of
returns c =
    let d : Design = c.admitted.inside.design.now in
    let bonds = c.new-bonds.ensures in
    let own = rw (sym c.admitted.view_is) at c.potentials.ensures in
    rw (sym c.admitted.view_is) (λ options.
    let a = c.args in
    let found = c.under_from.ensures (model_of d) options (rw (bonds.strand_bonds, bonds.scaffold_bonds, bonds.potentials, bonds.strands, own.many) (c.fill_bonds.ensures d.marks c.potentials.result.now own c.admitted.invariant.0.admitted options)) (rw c.rt.ensures refl) (inl (ap (λ (b : Begun). b.strand) c.nobody.ensures)) in
    let first : UnderFrom (model_of d) a.ceiling.0 0 0 zero a.entries.now c.under_from.new.entries c.under_from.result = rw c.nobody.ensures at found in
    found-under (model_of d) a.ceiling.0 first)
