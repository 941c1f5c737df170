-- `decimals::printing::shifted_millionths` meets its contract. Assumes nothing.
use Rattle.std.proofs.Common.{sym, arith}
use Rattle.decimals.proofs.Sizes.{none-left, quotient-room}
use Rattle.decimals.proofs.printing.shifted_millionths.Goals as goal

pub returns-then-shift-ge-BEYOND : goal.returns-then-shift-ge-BEYOND
returns-then-shift-ge-BEYOND c = sym (none-left c.args.significand c.args.shift c.requires.0 c.if-shift-ge-BEYOND.true)

pub overflow_cast-quotient-2 : goal.overflow_cast-quotient-2
overflow_cast-quotient-2 c =
    let room = quotient-room c.args.significand c.args.shift c.requires.0 c.requires.1 in
    rw (c.from.ensures, c.from-2.ensures) (omega arith)

pub rounded-requires : goal.rounded-requires
rounded-requires c = rw (c.from.ensures, c.from-2.ensures) (quotient-room c.args.significand c.args.shift c.requires.0 c.requires.1)
