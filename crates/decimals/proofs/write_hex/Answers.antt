-- `decimals::write_hex` meets its contract. Assumes nothing.
use Rattle.std.proofs.Common.{◌≡◌, length, take, arith}
use Rattle.std.proofs.lemmas.List.{length-take-le}
use Rattle.decimals.specs.Digits.{digits_in}
use Rattle.decimals.proofs.Written.{digits-length}
use Rattle.decimals.proofs.Room.{no_room, room, front}
use Rattle.decimals.proofs.write_hex.Goals as goal

pub returns-then-out-digits : goal.returns-then-out-digits
returns-then-out-digits c =
    let a = c.args in
    record { answer = no_room (digits_in 16 a.digits a.n) a.out.now a.digits (digits-length 16 a.digits a.n) c.if-out-digits.true; front = tt }

pub returns : goal.returns
returns c =
    let a = c.args in
    let text = digits_in 16 a.digits a.n in
    let size = digits-length 16 a.digits a.n in
    let fits = room text a.out.now a.digits size (omega arith) in
    let part : length (take a.digits a.out.now) ≡ a.digits = length-take-le a.digits a.out.now (omega arith) in
    record {
      answer = (fits.0, rw (c.put_digits.ensures, part) fits.1);
      front = (omega arith, rw (c.put_digits.ensures, part) (front text a.out.now a.digits size));
    }
