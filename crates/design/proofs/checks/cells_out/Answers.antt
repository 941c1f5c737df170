use mathlib.Core.Path.{◌≡◌, refl, sym, ap, ◌∙◌}
use lib.Ieee.{neg, of_bits}
use Rattle.doubles.specs.Decimal.{nearest}
use Rattle.lists.specs.Find.{any}
use Rattle.design.specs.Design.{Design}
use Rattle.design.specs.Checks.{beyond, cells_out}
use Rattle.design.proofs.checks.cells_out.Goals as goal

pub returns-then-some_beyond : goal.returns-then-some_beyond
unfolding cells_out nearest neg of_bits
returns-then-some_beyond c =
    let dg : any (beyond 1024) c.args.design.now.dg ≡ c.some_beyond.result = ap (λ (d : Design). any (beyond 1024) d.dg) (sym c.design.view_is) ∙ sym c.some_beyond.ensures in
    rw (dg, c.if-some_beyond.true) refl

pub returns-else-some_beyond : goal.returns-else-some_beyond
unfolding cells_out nearest neg of_bits
returns-else-some_beyond c =
    let dg : any (beyond 1024) c.args.design.now.dg ≡ c.some_beyond.result = ap (λ (d : Design). any (beyond 1024) d.dg) (sym c.design.view_is) ∙ sym c.some_beyond.ensures in
    let ds : any (beyond 8) c.args.design.now.ds ≡ c.some_beyond-else-some_beyond.result = ap (λ (d : Design). any (beyond 8) d.ds) (sym c.design.view_is) ∙ sym c.some_beyond-else-some_beyond.ensures in
    rw (dg, ds, c.if-some_beyond.false) refl
