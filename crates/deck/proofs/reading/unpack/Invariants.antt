-- `deck::reading::unpack` meets its contract. The loop's invariant: the stretches still to come, laid out from here on, give the whole.
-- Assumes nothing.
use mathlib.Core.Path.{◌≡◌}
use mathlib.Core.List.{map}
use Prim.Native.Nat.{◌+◌}
use lib.ListN.{length, drop}
use lib.Seq.{sets}
use Rattle.deck.specs.Forms.{form_of}
use Rattle.deck.specs.Deck.{configuration_of, laid_out}
use Rattle.deck.proofs.reading.unpack.Given as goal

abbrev pub invariant-loop-word : goal.invariant-loop-word
invariant-loop-word l =
    let left = laid_out (map (form_of l.form).stretch_of (drop l.word-index l.rest)) in
    (l.at + length left ≡ length (configuration_of (form_of l.form) l.words))
    × (sets l.entries l.at left ≡ sets l.initial.entries 0 (configuration_of (form_of l.form) l.words))
