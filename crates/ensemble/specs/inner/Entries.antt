-- The entries of a position as the search keeps them: its options, the energies beside these, and the left choices.
use Rattle.std.specs.Prelude.{◌≡◌, Bool, cond, List, [], ◌∷◌, ℕ, zero, suc, ◌+◌, ◌*◌, ◌<◌, eqb, length, get_or, take, Float}
use Rattle.std.specs.Float.{binary64, nan}
use Rattle.std.specs.Float.Ieee.{add, sub, lt}
use Rattle.doubles.specs.Decimal as Decimal
use Rattle.doubles.specs.Least.{last_least}
use Rattle.model.specs.Search.{traced}
use Rattle.ensemble.specs.declared.attach.Attached.{Attached}

-- ---- one of several, with what it was compared as

-- 0.0 where there is none
unfoldable pub key_of : (ℕ → Float) → List ℕ → ℕ → Float
key_of key [] x = Decimal.zero
key_of key (_ ∷ _) x = key x

-- the code's pair of a strand and an energy is x, and what x was compared as
pub record Chosen (key : ℕ → Float) (strands : List ℕ) (x : ℕ) (r : Attached) : Type 0 where
  pub strand : r.strand ≡ x
  pub energy : r.energy ≡ key_of key strands x

-- what a key gives of each entry is the value of its option
abbrev pub KeyedBy : (ℕ → Float → Float → Type 0) → List ℕ → List Float → (ℕ → Float) → Type 0
KeyedBy gives options energies value = (k : ℕ) (r : Float) → k < length options → gives (get_or options k 0) (get_or energies k nan) r → r ≡ value (get_or options k 0)

-- what a test says of two values, whether the first stays, decides between their options
abbrev pub DecidedBy : (Float → Float → Bool → Type 0) → (ℕ → Float) → (ℕ → ℕ → ℕ) → Type 0
DecidedBy says value better = (kept next : ℕ) (r : Bool) → says (value kept) (value next) r → better kept next ≡ cond r kept next

-- each of a row is one of so many strands
abbrev pub Known : ℕ → List ℕ → Type 0
Known total row = (k : ℕ) → k < length row → get_or row k 0 < total

-- ---- what each friend of a position attaches to

-- the bond of a left and a right strand, in a table of so many strands
abbrev pub table_bond : ℕ → List Float → ℕ → ℕ → Float
table_bond strands bonds left right = get_or bonds (left * strands + right) nan

-- what a right strand compares of each left entry
abbrev pub Keys : (ℕ → ℕ → Float) → List ℕ → List Float → ℕ → (ℕ → Float) → Type 0
Keys bond left energies right key = (j : ℕ) → j < length left → add binary64 (get_or energies j nan) (bond (get_or left j 0) right) ≡ key (get_or left j 0)

-- two rows have at a right strand its left choice, and what that was compared as
abbrev pub AttachedAt : (ℕ → ℕ → Float) → List ℕ → List Float → List Float → List ℕ → ℕ → Type 0
AttachedAt bond left energies best choice right = (key : ℕ → Float) → Keys bond left energies right key
    → Chosen key left (last_least key left) (record { strand = get_or choice right 0; energy = get_or best right nan })

-- the lesser of two, the second of equals
abbrev pub lesser : Float → Float → Float
lesser x y = cond (lt x y) x y

-- what the least of the first k left entries is compared as, for a right strand
abbrev pub LeastSum : (ℕ → ℕ → Float) → List ℕ → List Float → ℕ → ℕ → Float → Type 0
LeastSum bond left energies k right sum = (key : ℕ → Float) → Keys bond left energies right key → sum ≡ key (last_least key (take k left))

-- a row has it for each right strand
abbrev pub LeastSums : (ℕ → ℕ → Float) → List ℕ → List Float → ℕ → ℕ → List Float → Type 0
LeastSums bond left energies strands k best = (right : ℕ) → right < strands → LeastSum bond left energies k right (get_or best right nan)

-- each left choice of a row is a strand number
abbrev pub Low : List ℕ → Type 0
Low row = (k : ℕ) → get_or row k 0 < 64

-- two rows have so the left choices of the first k friends, and every choice in them is a strand number
pub record Attachments (bond : ℕ → ℕ → Float) (left : List ℕ) (energies : List Float) (friends : List ℕ) (k : ℕ) (best : List Float) (choice : List ℕ) : Type 0 where
  pub low : Low choice
  pub chosen : (j : ℕ) → j < k → AttachedAt bond left energies best choice (get_or friends j 0)

-- ---- the entries of a position

-- the energy of a friend's entry, from what it compared
abbrev pub settled_of : List Float → List Float → List Float → ℕ → Float
settled_of scaffold_bonds potentials best x = sub binary64 (add binary64 (get_or best x nan) (get_or scaffold_bonds x nan)) (get_or potentials x nan)

-- the first k energies of a row are those of its strands
abbrev pub Energies : (ℕ → Float) → List ℕ → ℕ → List Float → Type 0
Energies f strands k energies = (j : ℕ) → j < k → get_or energies j nan ≡ f (get_or strands j 0)

-- ---- the left choices of all positions: a friend's by its strand, and the empty entry's beside them

-- the left choice of a strand at position i
abbrev pub choice_in : List (List ℕ) → List ℕ → ℕ → ℕ → ℕ
choice_in choice empty i strand = cond (eqb strand 0) (get_or empty i 0) (get_or (get_or choice i []) strand 0)

-- each left choice is a strand number
pub record LowTable (choice : List (List ℕ)) (empty : List ℕ) : Type 0 where
  pub friends : (i : ℕ) → Low (get_or choice i [])
  pub empties : Low empty

-- the configuration of so many positions that is traced back from its last occupant
unfoldable pub traced_back : (ℕ → ℕ → ℕ) → ℕ → ℕ → List ℕ
unfolding traced
traced_back left zero last = []
traced_back left (suc p) last = traced left p last []
