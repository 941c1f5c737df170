-- `replay::numbers::is_decimal` meets its contract: the word is what `write_count` writes. Assumes nothing.
use Rattle.std.proofs.Common.{refl, ◌∙◌, arith}
use Rattle.decimals.specs.Digits.{places}
use Rattle.decimals.proofs.Written.{decimal-is}
use Rattle.replay.proofs.Words.{as-word}
use Rattle.replay.proofs.Fewest.{places-fewest}
use Rattle.replay.proofs.numbers.is_decimal.Goals as goal

pub returns-in-Ok : goal.returns-in-Ok
returns-in-Ok c = λ e.
    let x = c.args.x in
    record {
      places = places 10 19 x;
      fewest = places-fewest 19 x (omega (arith, c.ranges.x.fits));
      written = as-word c.eq.ensures e ∙ c.in-Ok.ensures.front.1 ∙ decimal-is x (places 10 19 x) refl;
    }
