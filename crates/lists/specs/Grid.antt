-- A table in one list, row after row, that is filled in that order.
use Rattle.std.specs.Prelude.{◌≡◌, List, ℕ, ◌+◌, ◌*◌, ◌<◌, length, get_or}

-- Of rows of a given width the first `rows` are filled, and of the next one the first `cells`: the cell [row][column] holds `f row column`.
pub record Grid {A : Type 0} (f : ℕ → ℕ → A) (d : A) (width size rows cells : ℕ) (t : List A) : Type 0 where
  pub sized : length t ≡ size
  pub above : (row column : ℕ) → row < rows → column < width → get_or t (row * width + column) d ≡ f row column
  pub here : (column : ℕ) → column < cells → get_or t (rows * width + column) d ≡ f rows column
