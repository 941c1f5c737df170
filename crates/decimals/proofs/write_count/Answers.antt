-- `decimals::write_count` meets its contract. Assumes nothing.
use Rattle.std.proofs.Common.{◌≡◌, length, take, arith}
use Rattle.std.proofs.lemmas.List.{length-take-le}
use Rattle.decimals.specs.Digits.{decimal_digits}
use Rattle.decimals.proofs.Written.{decimal-is, decimal-length}
use Rattle.decimals.proofs.Room.{no_room, room, front}
use Rattle.decimals.proofs.write_count.Goals as goal

pub returns-then-out-count : goal.returns-then-out-count
returns-then-out-count c =
    let n = c.args.n in
    record { answer = no_room (decimal_digits n) c.args.out.now c.count_places-count.result (decimal-length n _ c.count_places-count.ensures.0) c.if-out-count.true; front = tt }

pub returns : goal.returns
returns c =
    let a = c.args in
    let count = c.count_places-count in
    let text = decimal_digits a.n in
    let size = decimal-length a.n _ count.ensures.0 in
    let fits = room text a.out.now count.result size (omega arith) in
    let part : length (take count.result a.out.now) ≡ count.result = length-take-le count.result a.out.now (omega arith) in
    record {
      answer = (fits.0, rw (c.put_digits.ensures, part, ← decimal-is a.n _ count.ensures.0) fits.1);
      front = (omega arith, rw (c.put_digits.ensures, part, ← decimal-is a.n _ count.ensures.0) (front text a.out.now count.result size));
    }
