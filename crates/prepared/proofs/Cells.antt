-- What the fillers leave is what states and the search of an admitted design read. Assumes nothing.
use mathlib.Core.Path.{◌≡◌, subst, ◌∙◌}
use mathlib.Core.List.{List}
use Prim.Native.Nat.{ℕ, ◌+◌, ◌*◌, ◌-◌, ◌<◌, ◌≤◌}
use lib.ListN.{length, set}
use lib.Seq.{get_or-set_same}
use borrow.Author.Count.{below_more}
use Rattle.lists.proofs.Grid.{row-end}
use lib.Ieee.{Float, nan}
use Rattle.ensemble.specs.Layout.{Searchable, OptionRows, option_in}
use native.Mathlib.Omega.{arith}
use Rattle.design.specs.Design.{Design, strands, strand_bond_in, scaffold_bond_in, model_of}
use Rattle.design.specs.Checks.{Admitted}
use Rattle.design.specs.Unread.{PotentialsOf}
use Rattle.design.specs.Filling.{Holds, Kept, PairsHeld, SitesHeld}
use Rattle.design.proofs.Cells.{bond-cells}
use Rattle.design.proofs.Held.{kept_then, stored-kept}
use Rattle.prepared.specs.Layout.{StateCells}

-- what was held is held still
pub pairs-kept : (bond : ℕ → ℕ → Float) {strands : ℕ} {rows counts : List ℕ} {before after : List Float} → Searchable strands rows counts → Kept bond strands before after → PairsHeld bond strands before rows counts (length counts - 1) → PairsHeld bond strands after rows counts (length counts - 1)
pairs-kept bond {strands} {rows} {counts} w kept held i j k h l q =
    let next : i + 1 < length counts = omega arith in
    kept.still (option_in rows i j) (option_in rows (i + 1) k) (w.known (i + 1) k next (omega arith)) (held i j k h l q)

module _ (d : Design) (a : Admitted d) where
  pub state-cells : {rows counts : List ℕ} {strand_bonds scaffold_bonds : List Float} → OptionRows (model_of d) rows counts → PairsHeld (strand_bond_in d) (strands d) strand_bonds rows counts (length counts - 1)
      → ((x : ℕ) → x < strands d → Holds (strand_bond_in d) (strands d) strand_bonds x 0)
      → SitesHeld (scaffold_bond_in d) (strands d) scaffold_bonds rows counts (length counts)
      → (potentials : List Float) → PotentialsOf d potentials → StateCells (model_of d) (strands d) strand_bonds scaffold_bonds potentials
  unfolding model_of
  state-cells o p e s potentials own = record { searched = bond-cells d a o p s potentials own; empties = e }

-- one strand more whose bond with an empty place is stored
pub empties-more : (bond : ℕ → ℕ → Float) (strands x : ℕ) {before t : List Float} {v : Float} → x < strands → strands * strands ≤ length before → v ≡ bond x 0 → Kept bond strands before t → ((y : ℕ) → y < x → Holds bond strands t y 0)
    → Kept bond strands before (set t (x * strands) v) × ((y : ℕ) → y < x + 1 → Holds bond strands (set t (x * strands) v) y 0)
empties-more bond strands x {before} {t} {v} here area is kept held =
    let sized = kept.sized in
    let null : 0 < strands = omega arith in
    let inside : x * strands + 0 < length t = omega (arith, row-end strands here) in
    let stored : Kept bond strands t (set t (x * strands + 0) v) = stored-kept bond strands t x 0 null inside is in
    let same : Holds bond strands (set t (x * strands + 0) v) x 0 = get_or-set_same t (x * strands + 0) v nan inside ∙ is in
    let at : x * strands + 0 ≡ x * strands = omega arith in
    let both : Kept bond strands before (set t (x * strands + 0) v) × ((y : ℕ) → y < x + 1 → Holds bond strands (set t (x * strands + 0) v) y 0) = (
      kept_then bond strands kept stored,
      below_more (λ (y : ℕ). Holds bond strands (set t (x * strands + 0) v) y 0) x (λ y l. stored.still y 0 null (held y l)) same,
    ) in
    subst (λ (n : ℕ). Kept bond strands before (set t n v) × ((y : ℕ) → y < x + 1 → Holds bond strands (set t n v) y 0)) at both
