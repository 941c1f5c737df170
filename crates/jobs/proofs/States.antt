-- The state at a rank is one, and its occupants are strands. Assumes nothing.
use mathlib.Core.Path.{◌≡◌}
use mathlib.Core.Logic.{◌⊎◌, inl, inr}
use mathlib.Core.List.Memᴰ
use mathlib.Core.List.{List, [], ◌∷◌}
use Prim.Native.Nat.{ℕ, ◌<◌}
use lib.ListN.{length, get_or}
use Rattle.lists.proofs.Places.{mem-get_or}
use Rattle.model.specs.Model as Model
use Rattle.model.specs.Model.{Model, State, Friend, friends_at}
use Rattle.model.specs.States.{states, count, state_at}
use Rattle.model.proofs.Listing.{listed}
use Rattle.ensemble.specs.Layout.{Searchable, OptionRows}
use Rattle.design.proofs.Cells.{option-place}

pub ranked-state : (m : Model) (rank : ℕ) → rank < count m → State m (state_at m rank)
ranked-state m rank h =
    (listed m).only (state_at m rank) (rw ((listed m).ranked rank h) at (mem-get_or [] (states m) rank (rw (listed m).size h)))

module _ {m : Model} {strands : ℕ} {rows counts : List ℕ} (o : OptionRows m rows counts) (w : Searchable strands rows counts) (null : 0 < strands) where
  pub known-occupants : {s : List ℕ} → State m s → (i : ℕ) → i < length s → get_or s i 0 < strands
  known-occupants {s} v i h = go (v.occupants i inside)
    where
      inside : i < Model.positions m
      inside = rw (← v.places) h

      go : (get_or s i 0 ≡ 0) ⊎ Friend m i (get_or s i 0) → get_or s i 0 < strands
      go (inl e) = rw e null
      go (inr f) =
          let p = option-place o i inside (Memᴰ.append_left (0 ∷ []) f) in
          rw p.2 at (w.known i p.0 (rw o.positions inside) p.1)
