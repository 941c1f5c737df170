-- `utils::Dna::after_symmetry` meets its contract: the terms are added where the sequence is its own reverse complement. Assumes nothing.
use mathlib.Core.Path.{◌≡◌, sym, ◌∙◌}
use mathlib.Core.Bool.{true, false}
use lib.Ieee.{of_bits}
use Rattle.doubles.specs.Decimal.{nearest}
use Rattle.doubles.specs.Sum.{sum_from}
use Rattle.utils.specs.Bases.{bases}
use Rattle.utils.specs.Paper.{symmetry_dg, symmetry_ds}
use Rattle.utils.specs.Figures.{symmetric_dg, symmetric_ds}
use Rattle.utils.specs.Terms.{self_complementary}
use Rattle.utils.proofs.dna.Dna.after_symmetry.Goals as goal

pub returns-then-self_complementary : goal.returns-then-self_complementary
unfolding sum_from symmetric_dg symmetric_ds nearest symmetry_dg symmetry_ds of_bits
returns-then-self_complementary c =
    let so : self_complementary (bases c.args.self.now.letters.now) ≡ true = sym c.self_complementary.ensures ∙ c.if-self_complementary.true in
    (simp so c.add.ensures.0, simp so c.add.ensures.1)

pub returns : goal.returns
unfolding sum_from
returns c =
    let not_so : self_complementary (bases c.args.self.now.letters.now) ≡ false = sym c.self_complementary.ensures ∙ c.if-self_complementary.false in
    (simp not_so, simp not_so)
