-- Lists of numbers that rise, and lists in which nothing stands twice.
use Rattle.std.specs.Prelude.{◌≡◌, List, ℕ, ◌<◌, length, get_or}

-- each number is above those before it
abbrev pub Rising : List ℕ → Type 0
Rising xs = (i j : ℕ) → i < j → j < length xs → get_or xs i 0 < get_or xs j 0

-- two places that hold the same are one place; d is what get_or gives past the end
abbrev pub Distinct : {A : Type 0} → A → List A → Type 0
Distinct d xs = (i j : ℕ) → i < length xs → j < length xs → get_or xs i d ≡ get_or xs j d → i ≡ j
