-- `sdc1d_params::is_out` meets its contract: each range is that of its unit. Assumes nothing.
use mathlib.Core.Path.{◌≡◌, refl, sym, ap, ◌∙◌}
use mathlib.Core.Bool.{true, false, not}
use lib.Ieee.{Float, binary64, of_bits, neg}
use Rattle.doubles.specs.Decimal.{nearest}
use Rattle.doubles.specs.Range.{in_range}
use borrow.Author.Tests.{not-true, not-false}
use Rattle.sdc1d_params.specs.Entries.{is_written}
use Rattle.sdc1d_params.specs.Tables.{dg_in_range, ds_in_range, out_of_range}
use Rattle.doubles.specs.Range.{within}
use Rattle.sdc1d_params.proofs.tables.is_out.Goals as goal

dg-range : (x : Float) → dg_in_range x ≡ within (neg (of_bits binary64 4652218415073722368)) (of_bits binary64 4652218415073722368) x
unfolding dg_in_range in_range nearest of_bits neg
dg-range x = refl

ds-range : (x : Float) → ds_in_range x ≡ within (neg (of_bits binary64 4620693217682128896)) (of_bits binary64 4620693217682128896) x
unfolding ds_in_range in_range nearest of_bits neg
ds-range x = refl

pub returns-else-is_written : goal.returns-else-is_written
unfolding out_of_range
returns-else-is_written c =
    let unwritten : is_written c.args.cell ≡ false = sym c.is_written.ensures ∙ c.if-is_written.false in
    rw unwritten c.if-is_written.false

pub returns-then-not-in_range : goal.returns-then-not-in_range
unfolding out_of_range
returns-then-not-in_range c =
    let a = c.args in
    let written : is_written a.cell ≡ true = sym c.is_written.ensures ∙ c.if-is_written.true in
    let out : dg_in_range a.sum.dg.0 ≡ false = dg-range _ ∙ sym c.in_range.ensures ∙ not-true _ c.if-not-in_range.true-raw in
    rw (written, out) c.if-not-in_range.true-raw

pub returns-else-not-in_range : goal.returns-else-not-in_range
unfolding out_of_range
returns-else-not-in_range c =
    let a = c.args in
    let written : is_written a.cell ≡ true = sym c.is_written.ensures ∙ c.if-is_written.true in
    let in-dg : dg_in_range a.sum.dg.0 ≡ true = dg-range _ ∙ sym c.in_range.ensures ∙ not-false _ c.if-not-in_range.false-raw in
    let said : c.in_range-else-not-in_range.result ≡ ds_in_range a.sum.ds.0 = c.in_range-else-not-in_range.ensures ∙ sym (ds-range _) in
    rw (written, in-dg) (ap not said)
