-- `decimals::read_number` meets its contract. Assumes nothing.
use Rattle.std.proofs.Common.{◌≡◌, ◌∙◌, refl, sym, ap, true, false, ◌+◌, ◌-◌, length, take, drop, arith}
use Rattle.std.specs.Prelude.{Result, Ok, Err}
use Rattle.std.proofs.lemmas.Slice.{between_to_end}
use native.Mathlib.Nat.{min-eq_right}
use native.Mathlib.Omega.{arith}
use Rattle.decimals.specs.Number.{is_pattern, in_units, parts_of, exponent_of, decimal_of, number_of}
use Rattle.decimals.specs.declared.NumberFault.{NumberFault}
use Rattle.decimals.specs.declared.reading.Exponent.{Exponent}
use Rattle.decimals.proofs.Patterns.{pattern_below}
use Rattle.decimals.proofs.read_number.Goals as goal

pub returns-then-is_pattern : goal.returns-then-is_pattern
unfolding number_of
returns-then-is_pattern c =
    let word = c.args.word.now in
    let is : is_pattern word ≡ true = sym c.is_pattern.ensures ∙ c.if-is_pattern.true in
    let rest : take (length word - 2) (drop 2 word) ≡ drop 2 word = between_to_end word 2 (length word) (omega arith) in
    rw (is, c.double.ensures, c.read_digits-bits.ensures, rest, min-eq_right (pattern_below word is))

-- the unit 1 leaves an exponent as it is
in_ones : (exponent : Result Exponent NumberFault) → in_units 0 exponent ≡ exponent
in_ones (Ok exponent) = let none : exponent.down + 0 ≡ exponent.down = omega arith in rw none refl
in_ones (Err fault) = refl

pub returns : goal.returns
unfolding number_of
returns c =
    let word = c.args.word.now in
    let not : is_pattern word ≡ false = sym c.is_pattern.ensures ∙ c.if-is_pattern.false in
    rw not (c.decimal.ensures ∙ ap (decimal_of (parts_of word)) (in_ones (exponent_of (parts_of word).rest)))
