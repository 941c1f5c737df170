-- `answers::print::Printer::print_settled` meets its contract. Assumes nothing.
use lib.ListN.{length}
use Rattle.std.proofs.KnownBytes.{Appends-trans}
use Rattle.answers.specs.Shown.{shown_bytes}
use Rattle.answers.specs.Text.{counts_text, ring_text, energy_text, deck_text}
use Rattle.answers.specs.Told.{settled_text}
use Rattle.answers.specs.declared.print.Style.TheVariants.{People}
use Rattle.answers.proofs.Written.{on_ok_closed, six}
use Rattle.answers.proofs.print.Printer.print_settled.Goals as goal

pub returns : goal.returns
unfolding settled_text
returns g c =
    let d = c.args.design.now in
    let path = rw c.in_ok-print_bytes.was at c.print_bytes.ensures in
    let counts = rw c.in_ok-print_counts.was at c.print_counts.ensures in
    let drawn = rw c.in_ok-draw.was at c.draw.ensures in
    let ring = rw c.in_ok-print_ring.was at c.print_ring.ensures in
    let energy = rw c.in_ok-print_energy.was at c.print_energy.ensures in
    let three = Appends-trans _ _ _ _ _ (Appends-trans _ _ _ _ _ path counts) drawn.1 in
    let four = Appends-trans _ _ _ _ _ three ring in
    let five = Appends-trans _ _ _ _ _ four energy in
    let last = length d.configuration.now in
    let parts = six (shown_bytes People c.args.path.now) (counts_text last (length d.strand_names.now) d.entries d.states) drawn.0 (ring_text d.ring last) (energy_text d.energy) (deck_text d.deck.now) in
    on_ok_closed _ _ _ _ _ drawn.0 (settled_text c.args.path.now d) _ parts five c.print_deck.ensures
