-- Each place that is read is there, by the sizes of a design whose tables pass. Assumes nothing.
use mathlib.Core.Path.{sym, ◌∙◌}
use native.Mathlib.Omega.{arith}
use Prim.Native.Nat.{◌+◌, ◌*◌}
use lib.Ieee.{of_bits, nan}
use Rattle.doubles.specs.Decimal.{zero}
use Rattle.lists.proofs.Places.{get_or-default}
use Rattle.design.specs.Design.{bottom, befriends}
use Rattle.design.proofs.Sizes.{cell-inside, read-sized}
use Rattle.design.proofs.passed.TabledDesign.is_friend.Goals as goal

pub bounds-design-inside-from : goal.bounds-design-inside-from
bounds-design-inside-from c =
    let s = read-sized c.design.view_is c.self.view_is c.self.invariant c.requires.strand_in_bounds in
    omega (arith, s.0.three, s.1, c.from.ensures)

pub bounds-design-inside-cell : goal.bounds-design-inside-cell
bounds-design-inside-cell c =
    let s = read-sized c.design.view_is c.self.view_is c.self.invariant c.requires.strand_in_bounds in
    rw (s.0.dg-cells, c.from-3.ensures, c.from-2.ensures, c.from.ensures) (cell-inside s.0 c.args.scaffold_glue c.args.strand c.requires.glue_bound s.1)

pub bounds-design-inside-cell-2 : goal.bounds-design-inside-cell-2
bounds-design-inside-cell-2 c =
    let s = read-sized c.design.view_is c.self.view_is c.self.invariant c.requires.strand_in_bounds in
    rw (s.0.ds-cells, c.from-3.ensures, c.from-2.ensures, c.from.ensures) (cell-inside s.0 c.args.scaffold_glue c.args.strand c.requires.glue_bound s.1)

pub returns : goal.returns
unfolding befriends of_bits
returns c =
    let s = read-sized c.design.view_is c.self.view_is c.self.invariant c.requires.strand_in_bounds in
    let cell = c.args.scaffold_glue * 64 + bottom c.design.inside.glues.now c.args.strand in
    let inside = cell-inside s.0 c.args.scaffold_glue c.args.strand c.requires.glue_bound s.1 in
    let dg = get_or-default c.design.inside.dg.now cell nan zero (rw s.0.dg-cells inside) in
    let ds = get_or-default c.design.inside.ds.now cell nan zero (rw s.0.ds-cells inside) in
    rw (sym (c.design.view_is ∙ c.self.view_is), c.from-3.ensures, c.from-2.ensures, c.from.ensures, dg, ds)
