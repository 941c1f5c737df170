-- `decimals::write_fixed` meets its contract. Assumes nothing.
use mathlib.Core.Path.{sym, ◌∙◌}
use Prim.Native.Nat.{◌^◌}
use lib.Dec.{T, leb}
use lib.Ieee.{binary64, fits}
use borrow.Author.Rules.{rules}
use Rattle.decimals.proofs.Fixed.{unprinted, printed-fixed}
use Rattle.decimals.proofs.Sizes.{too_large, not-too-large, sign-is, millionths-are}
use Rattle.decimals.proofs.write_fixed.Goals as goal

pub returns-then-size-ge-UNPRINTABLE : goal.returns-then-size-ge-UNPRINTABLE
returns-then-size-ge-UNPRINTABLE c =
    let a = c.args in
    let fit : T (fits binary64 a.x) = search rules in
    unprinted a.x a.out.now (too_large a.x fit c.bits-bits.result c.bits-bits.ensures c.if-size-ge-UNPRINTABLE.true)

pub returns : goal.returns
returns c =
    let a = c.args in
    let fit : T (fits binary64 a.x) = search rules in
    let bits = c.bits-bits in
    let small = c.if-size-ge-UNPRINTABLE.false in
    let n = c.in_millionths in
    let is =
    printed-fixed a.x a.out.now (not-too-large a.x fit bits.result bits.ensures small) (leb (2 ^ 63) bits.result) n.result
    (sym (sign-is a.x fit bits.result bits.ensures small)) (n.ensures ∙ millionths-are a.x fit bits.result bits.ensures small) in
    let written = c.write_millionths.ensures in
    (written.0 ∙ is.0, written.1 ∙ is.1)
