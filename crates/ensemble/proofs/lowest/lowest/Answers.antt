-- The search meets its contract. Assumes nothing.
use mathlib.Core.Path.{refl, ap, ◌∙◌}
use Prim.Native.Nat.{ℕ}
use native.Mathlib.Nat.{not-suc-le-zero}
use lib.ListN.{length}
use borrow.Author.Count.{below_none}
use Rattle.model.specs.Search.{options_at}
use Rattle.ensemble.specs.inner.Entries.{choice_in, traced_back}
use Rattle.ensemble.proofs.Passing.{own-options, found}
use Rattle.ensemble.proofs.lowest.lowest.Goals as goal

pub returns : goal.returns
returns c = λ m w e.
    let o = w.options in
    let p = c.pass-options in
    let passed = p.ensures.passed m (options_at m) w (own-options m) (λ i h. refl) (record { entries = record { are = refl; entries = below_none _ }; choices = λ i h. absurd (not-suc-le-zero h) }) in
    let low = c.lowest_product-lowest in
    let choices = p.new.choices in
    found choices.friends choices.empty p.result.now p.new.energies c.args.rt.0 low.result c.trace.new.configuration e low.ensures.chosen
    (length c.args.lent.now.options.counts.now) o.positions passed.entries passed.choices
    (c.trace.ensures ∙ ap (λ (n : ℕ). traced_back (choice_in choices.friends choices.empty) n low.result.strand) c.requires.configuration_len)
