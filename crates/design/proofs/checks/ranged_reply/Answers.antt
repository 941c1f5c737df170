-- Cells are looked at only where their tables are sized. Assumes nothing.
use mathlib.Core.Path.{◌≡◌}
use mathlib.Core.Bool.{false}
use Rattle.reply.specs.declared.Refusal.TheVariants.{WrongSize}
use Rattle.design.specs.Checks.{sizes_out}
use Rattle.design.proofs.Sizes.{sized}
use Rattle.design.proofs.Replies.{bare-false}
use Rattle.design.proofs.checks.ranged_reply.Goals as goal
use Rattle.design.proofs.checks.ranged_reply.Goals.{then-own_size, else-own_size}

pub cells_reply-requires-clause-dg_len : goal.cells_reply-requires-clause-dg_len
cells_reply-requires-clause-dg_len c =
    let none = bare-false c.if-own_size.refused_if WrongSize c.in_ok-refused_if.ensures in
    let right : sizes_out c.args.design.now ≡ false = elim c.if-own_size.branch [ then-own_size w ↦ cc | else-own_size w ↦ cc ] in
    (sized c.args.design.now right).dg-cells

pub cells_reply-requires-clause-ds_len : goal.cells_reply-requires-clause-ds_len
cells_reply-requires-clause-ds_len c =
    let none = bare-false c.if-own_size.refused_if WrongSize c.in_ok-refused_if.ensures in
    let right : sizes_out c.args.design.now ≡ false = elim c.if-own_size.branch [ then-own_size w ↦ cc | else-own_size w ↦ cc ] in
    (sized c.args.design.now right).ds-cells

pub returns-clause-short : goal.returns-clause-short
returns-clause-short c =
    let none = bare-false c.if-own_size.refused_if WrongSize c.in_ok-refused_if.ensures in
    let right : sizes_out c.args.design.now ≡ false = elim c.if-own_size.branch [ then-own_size w ↦ cc | else-own_size w ↦ cc ] in
    (sized c.args.design.now right).short

pub returns-clause-some : goal.returns-clause-some
returns-clause-some c =
    let none = bare-false c.if-own_size.refused_if WrongSize c.in_ok-refused_if.ensures in
    let right : sizes_out c.args.design.now ≡ false = elim c.if-own_size.branch [ then-own_size w ↦ cc | else-own_size w ↦ cc ] in
    (sized c.args.design.now right).null

pub returns-clause-few : goal.returns-clause-few
returns-clause-few c =
    let none = bare-false c.if-own_size.refused_if WrongSize c.in_ok-refused_if.ensures in
    let right : sizes_out c.args.design.now ≡ false = elim c.if-own_size.branch [ then-own_size w ↦ cc | else-own_size w ↦ cc ] in
    (sized c.args.design.now right).few
