-- `deck::reading::fault` meets its contract. The loop's invariant: the fault is where going on from here finds it, after the stretch before or
-- nothing. Assumes nothing.
use mathlib.Core.Path.{◌≡◌}
use mathlib.Core.List.{map}
use Prim.Native.Nat.{◌+◌}
use lib.ListN.{drop}
use Rattle.deck.specs.Forms.{form_of}
use Rattle.deck.specs.inner.Fault.{fault_of}
use Rattle.deck.specs.inner.Found.{found}
use Rattle.deck.specs.declared.form.Stretch.{Stretch}
use Rattle.deck.proofs.Walk.{walk}
use Rattle.deck.proofs.reading.fault.Given as goal

abbrev pub invariant-loop-i : goal.invariant-loop-i
invariant-loop-i l =
    (before : Stretch) × (l.before ≡ found before)
    × (fault_of (form_of l.form) l.words ≡ walk (form_of l.form) (l.i + 1) before l.left (map (form_of l.form).stretch_of (drop l.i l.rest)))
