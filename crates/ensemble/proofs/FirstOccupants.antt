-- The first occupants of a ring in turn: the first smallest is kept, with the configuration of its search. Assumes nothing.
use mathlib.Core.Path.{◌≡◌, ap, ◌∙◌}
use mathlib.Core.Bool.{true, false}
use mathlib.Core.List.{List}
use Prim.Native.Nat.{ℕ, ◌+◌, ◌<◌, ◌≤◌}
use lib.ListN.{length, get_or}
use lib.Ieee.{Float, lt}
use Rattle.doubles.specs.Least.{or_earlier}
use Rattle.model.specs.Model.{Model}
use Rattle.model.specs.Search.{options_at}
use Rattle.model.specs.Ring.{ring_from, ring_least, ring_first, ring_search}
use Rattle.model.proofs.Search.{some-option}
use Rattle.ensemble.specs.Ring.{FoundRing}
use Rattle.ensemble.specs.inner.Entries.{traced_back}
use Rattle.ensemble.specs.inner.Ring.{FoundFrom}
use Rattle.ensemble.proofs.Choosing.{Kept, kept-first, kept_more, kept-chosen, earlier-moves, earlier-stays}

-- of the first k options of position 0 one is kept, with the energy of its search, and what is written is what its search found
pub record KeptRing (m : Model) (k : ℕ) (written : List ℕ) (least : Float) : Type 0 where
  first : ℕ
  kept : Kept (or_earlier (ring_least m)) (ring_least m) (options_at m 0) k first least
  found : FoundFrom m first written least

-- what is traced back is written
pub ring-written : {m : Model} {first n size : ℕ} {written : List ℕ} {energy : Float} (choice : ℕ → ℕ → ℕ) (last : ℕ) → FoundFrom m first (traced_back choice n last) energy → written ≡ traced_back choice size last → size ≡ n → FoundFrom m first written energy
ring-written choice last w is e = record { shown = is ∙ ap (λ (k : ℕ). traced_back choice k last) e ∙ w.shown; least = w.least }

module _ (m : Model) where
  pub ring-first : {written : List ℕ} {energy : Float} → FoundFrom m (get_or (options_at m 0) 0 0) written energy → KeptRing m 1 written energy
  ring-first w = record { first = get_or (options_at m 0) 0 0; kept = kept-first (or_earlier (ring_least m)) (ring_least m) (options_at m 0) (some-option m 0) w.least; found = w }

  module _ (k : ℕ) {before : List ℕ} {least : Float} (old : KeptRing m k before least) (inside : k < length (options_at m 0))
      {written : List ℕ} {energy : Float} (new : FoundFrom m (get_or (options_at m 0) k 0) written energy) where
    pub ring-less : lt energy least ≡ true → KeptRing m (k + 1) written energy
    ring-less h = record { first = get_or (options_at m 0) k 0; kept = kept_more old.kept inside (earlier-moves (ring_least m) old.kept.energy-is new.least h) new.least; found = new }

    pub ring-stays : lt energy least ≡ false → KeptRing m (k + 1) before least
    ring-stays h = record { first = old.first; kept = kept_more old.kept inside (earlier-stays (ring_least m) old.kept.energy-is new.least h) old.kept.energy-is; found = old.found }

  -- all were tried
  pub ring-found : (k : ℕ) {written : List ℕ} {least : Float} → KeptRing m k written least → length (options_at m 0) ≤ k → FoundRing m written least
  unfolding ring_search
  ring-found k w all =
      let is : w.first ≡ ring_first m = (kept-chosen w.kept all (some-option m 0)).strand in
      record { shown = w.found.shown ∙ ap (λ (f : ℕ). (ring_from m f).configuration) is; least = w.found.least ∙ ap (ring_least m) is }
