-- The bench table's lines on decks. Assumes nothing.
use mathlib.Core.List.{List, ◌++◌}
use mathlib.Core.Path.{◌≡◌}
use Prim.Native.Nat.{ℕ}
use lib.ListN.{length, drop}
use borrow.Author.Tests.{eq-eqb}
use Rattle.lists.specs.Find.{any, first_index}
use Rattle.lists.specs.Front.{over, beginnings}
use Rattle.deck.specs.Form.{singles}
use Rattle.deck.specs.Deck.{follow, positions, is_deck, begins, misfit_of, stretches_of, deck_of}
use Rattle.deck.specs.Reading.{read_figures, read_entries}
use Rattle.deck.specs.Writing.{write_figures, write_words}
use Rattle.std.specs.Prelude.{Some}
use Rattle.bench_table.specs.Table.{configuration, words, faulty}

pub written : (lent : List ℕ) → length lent ≡ 129 → (write_figures singles configuration lent ≡ record { number = 0; count = 4 }) × (write_words singles configuration lent ≡ words ++ drop 4 lent)
unfolding write_figures write_words any deck_of stretches_of over
written lent l = (rw (eq-eqb (length lent) 129 l), rw (eq-eqb (length lent) 129 l))

pub fault : (lent : List ℕ) → length lent ≡ 128 → (read_figures singles faulty lent ≡ record { number = 14; count = 0; place = Some 2 }) × (read_entries singles faulty lent ≡ lent)
unfolding read_figures read_entries is_deck begins follow positions misfit_of first_index beginnings
fault lent l = (rw (eq-eqb (length lent) 128 l), rw (eq-eqb (length lent) 128 l))
