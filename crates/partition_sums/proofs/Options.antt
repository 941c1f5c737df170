-- Options that are lent of a model are the model's. Assumes nothing.
use mathlib.Core.Path.{◌≡◌, refl, sym, ap, ◌∙◌}
use mathlib.Core.List.{List, [], map}
use Prim.Native.Nat.{ℕ}
use Rattle.lists.specs.Build.{tabulate}
use Rattle.lists.proofs.Counted.{tabulate-same, map-tabulate}
use Rattle.lists.proofs.Places.{tabulate-get_or}
use Rattle.model.specs.Model as Model
use Rattle.model.specs.Model.{Model, options, options_of}
use Rattle.ensemble.specs.Layout.{OptionRows}
use Rattle.ensemble.proofs.OptionRows.{options-are, friends-are}
use Rattle.partition_sums.specs.Layout.{options_at, options_in, friends_at, friends_in}

module _ {m : Model} {rows counts : List ℕ} (w : OptionRows m rows counts) where
  pub friends-in : friends_in rows counts ≡ m.friends
  unfolding friends_in
  friends-in =
      ap (λ (n : ℕ). tabulate n (friends_at rows counts)) w.positions
      ∙ tabulate-same (Model.positions m) (friends_at rows counts) (Model.friends_at m) (friends-are w)
      ∙ tabulate-get_or [] (Model.positions m) m.friends refl

  pub options-in : options_in rows counts ≡ options m
  unfolding options_in
  options-in =
      ap (λ (n : ℕ). tabulate n (options_at rows counts)) w.positions
      ∙ tabulate-same (Model.positions m) (options_at rows counts) (λ i. options_of (Model.friends_at m i)) (options-are w)
      ∙ sym (map-tabulate options_of (Model.positions m) (Model.friends_at m))
      ∙ ap (map options_of) (tabulate-get_or [] (Model.positions m) m.friends refl)
