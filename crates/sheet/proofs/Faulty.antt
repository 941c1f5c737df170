-- The first row at fault, row by row. Assumes nothing.
use mathlib.Core.Path.{◌≡◌, refl, sym, ap, ◌∙◌}
use mathlib.Core.List.{List}
use Prim.Native.Nat.{ℕ, ◌+◌, ◌<◌, ◌≤◌}
use native.Mathlib.Numerals.{add-one}
use lib.ListN.{length, get_or, take, drop, drop_of_length-le}
use lib.Seq.{drop-cons, take-suc}
use Rattle.std.specs.Prelude.{Result, Ok, Err}
use Rattle.statements.specs.declared.statement.Row.{Row}
use Rattle.sheet.specs.Faults.{fault_of, and_then, fault_from}
use Rattle.sheet.specs.declared.faults.SheetFault.{SheetFault}

both : (r after : Result Unit SheetFault) → and_then r after ≡ Ok (tt {0}) → (r ≡ Ok (tt {0})) × (after ≡ Ok (tt {0}))
both (Ok done) after e = (refl, e)
both (Err fault) after e = absurd (cc)

module _ (text : List ℕ) (rows : List Row) (i : ℕ) (d : Row) (h : i < length rows) where
  fault-step : fault_from text (take i rows) (drop i rows)
      ≡ and_then (fault_of text (take i rows) (get_or rows i d)) (fault_from text (take (i + 1) rows) (drop (i + 1) rows))
  unfolding fault_from
  fault-step = rw (drop-cons rows i d h) (simp (add-one, take-suc rows i d h))

  -- a row at fault
  pub fault-here : (fault : SheetFault) → fault_of text (take i rows) (get_or rows i d) ≡ Err fault → fault_from text (take i rows) (drop i rows) ≡ Err fault
  fault-here fault e = fault-step ∙ ap (λ (r : Result Unit SheetFault). and_then r (fault_from text (take (i + 1) rows) (drop (i + 1) rows))) e

  -- any other row
  pub fault-later : fault_of text (take i rows) (get_or rows i d) ≡ Ok tt
      → fault_from text (take i rows) (drop i rows) ≡ fault_from text (take (i + 1) rows) (drop (i + 1) rows)
  fault-later e = fault-step ∙ ap (λ (r : Result Unit SheetFault). and_then r (fault_from text (take (i + 1) rows) (drop (i + 1) rows))) e

  -- where no row is at fault, neither this one is nor one after it
  pub fault-none : fault_from text (take i rows) (drop i rows) ≡ Ok (tt {0})
      → (fault_of text (take i rows) (get_or rows i d) ≡ Ok (tt {0})) × (fault_from text (take (i + 1) rows) (drop (i + 1) rows) ≡ Ok (tt {0}))
  fault-none e = both (fault_of text (take i rows) (get_or rows i d)) (fault_from text (take (i + 1) rows) (drop (i + 1) rows)) (sym fault-step ∙ e)

-- past the last row none is at fault
pub fault-past : (text : List ℕ) (rows : List Row) (i : ℕ) → length rows ≤ i → fault_from text (take i rows) (drop i rows) ≡ Ok tt
unfolding fault_from
fault-past text rows i h = rw (drop_of_length-le rows h)
