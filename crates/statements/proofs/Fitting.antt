-- The words of a statement, one by one. Assumes nothing.
use mathlib.Core.Path.{◌≡◌, ap, ◌∙◌}
use mathlib.Core.List.{List, [], ◌∷◌}
use Prim.Native.Nat.{ℕ, ◌+◌}
use Rattle.std.specs.Prelude.{Option, Result, Ok, Err}
use Rattle.statements.specs.Words.{spelled}
use Rattle.statements.specs.Grammar.{item_of}
use Rattle.statements.specs.Statement.{accepted, closed, and_then, fit}
use Rattle.statements.specs.declared.words.Word.{Word}
use Rattle.statements.specs.declared.grammar.Item.{Item}
use Rattle.statements.specs.declared.statement.Fault.{Fault}
use Rattle.statements.specs.declared.statement.Row.{Row}

module _ (line : List ℕ) (key : Word) (place : ℕ) (row : Row) (item : Option Item) (i : item ≡ item_of row.kind place) (words : List Word) where
  -- no word left
  pub fit-done : words ≡ [] → closed item key row ≡ fit line key place row words
  unfolding fit
  fit-done e = rw (e, i)

  -- a word, of these bytes, and what it makes of the row
  module _ (word : Word) (rest : List Word) (e : words ≡ word ∷ rest) (bytes : List ℕ) (b : bytes ≡ spelled line word) (after : Result Row Fault)
      (a : after ≡ accepted bytes item word row) where
    fit-step : fit line key place row words ≡ and_then after (λ next. fit line key (place + 1) next rest)
    unfolding fit
    fit-step = rw (e, a, b, i)

    -- it is at fault
    pub fit-fault : (fault : Fault) → after ≡ Err fault → fit line key place row words ≡ Err fault
    fit-fault fault f = fit-step ∙ ap (λ (r : Result Row Fault). and_then r (λ next. fit line key (place + 1) next rest)) f

    -- or the words after it count
    pub fit-more : (next : Row) → after ≡ Ok next → fit line key place row words ≡ fit line key (place + 1) next rest
    fit-more next n = fit-step ∙ ap (λ (r : Result Row Fault). and_then r (λ next'. fit line key (place + 1) next' rest)) n
