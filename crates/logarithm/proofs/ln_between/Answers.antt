-- Assumes nothing.
use native.Mathlib.Omega.{arith}
use lib.Dec.{T}
use lib.Ieee.{binary64, fits}
use borrow.Author.Rules.{rules}
use Rattle.logarithm.proofs.Between.{read, digits, below-held, below-figure, above-held, above-figure}
use Rattle.logarithm.proofs.ln_between.Goals as goal

pub below_one-requires : goal.below_one-requires
below_one-requires c =
    let fit : T (fits binary64 c.args.x) = search rules in
    let bits = c.bits-bits in
    let r = read c.args.x bits.result fit c.requires bits.ensures in
    let d = digits c.args.x bits.result fit c.requires bits.ensures in
    (omega arith, omega (arith, d), omega (arith, r.from))

pub int_to_float-result : goal.int_to_float-result
int_to_float-result c =
    let fit : T (fits binary64 c.args.x) = search rules in
    below-held c.args.x c.bits-bits.result fit c.requires c.bits-bits.ensures (omega arith) c.below_one.result c.below_one.ensures

pub returns-then-field-lt-FIELD_OF_ONE : goal.returns-then-field-lt-FIELD_OF_ONE
returns-then-field-lt-FIELD_OF_ONE c =
    let fit : T (fits binary64 c.args.x) = search rules in
    below-figure c.args.x c.bits-bits.result fit c.requires c.bits-bits.ensures (omega arith) c.below_one.result c.below_one.ensures

pub from_one-requires : goal.from_one-requires
from_one-requires c =
    let fit : T (fits binary64 c.args.x) = search rules in
    let bits = c.bits-bits in
    let r = read c.args.x bits.result fit c.requires bits.ensures in
    let d = digits c.args.x bits.result fit c.requires bits.ensures in
    (omega arith, omega (arith, d), omega (arith, r.upto))

pub int_to_float-result-2 : goal.int_to_float-result-2
int_to_float-result-2 c =
    let fit : T (fits binary64 c.args.x) = search rules in
    above-held c.args.x c.bits-bits.result fit c.requires c.bits-bits.ensures (omega arith) c.from_one.result c.from_one.ensures

pub returns : goal.returns
returns c =
    let fit : T (fits binary64 c.args.x) = search rules in
    above-figure c.args.x c.bits-bits.result fit c.requires c.bits-bits.ensures (omega arith) c.from_one.result c.from_one.ensures
