-- What the fillers leave is what a search over the model of an admitted design reads. Assumes nothing.
use mathlib.Core.Path.{◌≡◌, sym, subst, ◌∙◌}
use mathlib.Core.Logic.{◌⊎◌, inl, inr}
use mathlib.Core.List.Memᴰ
use mathlib.Core.List.{List, [], ◌∷◌, Memᴰ}
use Prim.Native.Nat.{ℕ, suc, ◌+◌, ◌-◌, ◌<◌}
use native.Mathlib.Omega.{arith}
use lib.ListN.{length, get_or, length-append, get_or-append}
use lib.Ieee.{Float, nan}
use Rattle.doubles.specs.Decimal.{zero}
use Rattle.lists.proofs.Places.{get_or-default}
use Rattle.model.specs.Model as Model
use Rattle.model.specs.Model.{Model, Friend, friends_at}
use Rattle.model.specs.Search.{options_at}
use Rattle.ensemble.specs.Layout.{OptionRows, BondCells, option_in}
use Rattle.ensemble.specs.Ring.{ClosingCells}
use Rattle.ensemble.proofs.OptionRows.{count-is, option_is}
use Rattle.design.specs.Design.{Design, strands, potential, strand_bond_in, scaffold_bond_in, model_of}
use Rattle.design.specs.Checks.{Admitted}
use Rattle.design.specs.Unread.{PotentialsOf}
use Rattle.design.specs.Filling.{Holds, PairsHeld, ClosingHeld, SitesHeld}
use Rattle.design.proofs.FriendLaws.{friends-right, friend-tested}

-- where a member stands
place_of : {x : ℕ} {xs : List ℕ} → Memᴰ x xs → (k : ℕ) × (k < length xs) × (get_or xs k 0 ≡ x)
place_of {x} {xs = []} m = absurd (Memᴰ.not-nil m)
place_of {x} {xs = y ∷ ys} m = go (Memᴰ.cases_cons m) (λ l. place_of l)
  where
    go : (x ≡ y) ⊎ Memᴰ x ys → (Memᴰ x ys → (k : ℕ) × (k < length ys) × (get_or ys k 0 ≡ x)) → (k : ℕ) × (k < suc (length ys)) × (get_or (y ∷ ys) k 0 ≡ x)
    go (inl e) rest = (0, omega arith, sym e)
    go (inr l) rest = let w = rest l in (suc w.0, omega (arith, w.1), w.2)

module _ {m : Model} {rows counts : List ℕ} (o : OptionRows m rows counts) (i : ℕ) (h : i < Model.positions m) where
  pub option-place : {x : ℕ} → Memᴰ x (options_at m i) → (j : ℕ) × (j < get_or counts i 0) × (option_in rows i j ≡ x)
  option-place member =
      let w = place_of member in
      let inside : w.0 < get_or counts i 0 = rw (count-is o i h) w.1 in
      (w.0, inside, option_is o i w.0 h inside ∙ w.2)

  friend-place : {y : ℕ} → Friend m i y → (k : ℕ) × (k + 1 < get_or counts i 0) × (option_in rows i k ≡ y)
  friend-place friend =
      let w = place_of friend in
      let number : get_or counts i 0 ≡ length (friends_at m i) + 1 = count-is o i h ∙ length-append (friends_at m i) (0 ∷ []) in
      let inside : w.0 + 1 < get_or counts i 0 = omega (arith, w.1) in
      let earlier : w.0 < get_or counts i 0 = omega arith in
      (w.0, inside, option_is o i w.0 h earlier ∙ get_or-append (friends_at m i) (0 ∷ []) 0 w.0 w.1 ∙ w.2)

-- the lent potential of a friend is the model's
pub potential-lent : (d : Design) (potentials : List Float) → PotentialsOf d potentials → (i y : ℕ) → Friend (model_of d) i y → get_or potentials y nan ≡ potential d y
potential-lent d potentials own i y friend =
    let inside : y < length potentials = rw own.many (friend-tested d i y friend).1 in
    get_or-default potentials y nan zero inside ∙ sym (own.friends i y friend)

module _ (d : Design) (a : Admitted d) where
  pub bond-cells : {rows counts : List ℕ} {strand_bonds scaffold_bonds : List Float} → OptionRows (model_of d) rows counts → PairsHeld (strand_bond_in d) (strands d) strand_bonds rows counts (length counts - 1)
      → SitesHeld (scaffold_bond_in d) (strands d) scaffold_bonds rows counts (length counts) → (potentials : List Float) → PotentialsOf d potentials → BondCells (model_of d) (strands d) strand_bonds scaffold_bonds potentials
  unfolding model_of
  bond-cells {rows} {counts} {strand_bonds} {scaffold_bonds} o p s potentials own =
      let number = o.positions in
      record {
        not_null = (friends-right d).not_null a;
        pairs = λ i x y h option friend.
            let left = option-place o i (omega arith) option in
            let right = friend-place o (i + 1) h friend in
            rw (left.2, right.2) at (p i left.0 right.0 (omega arith) left.1 right.1);
        sites = λ i y h friend.
            let here = friend-place o i h friend in
            rw here.2 at (s i here.0 (omega arith) here.1);
        logs = λ i y h friend. potential-lent d potentials own i y friend;
      }

-- what closes a ring is the model's
pub closing-cells : (d : Design) {rows counts : List ℕ} (strand_bonds : List Float) → OptionRows (model_of d) rows counts → ClosingHeld (strand_bond_in d) (strands d) strand_bonds rows counts → ClosingCells (model_of d) (strands d) strand_bonds
unfolding model_of
closing-cells d {rows} {counts} strand_bonds o held last x y e from to =
    let number = o.positions in
    let end : length counts - 1 ≡ last = omega arith in
    let at-end : (j k : ℕ) → j < get_or counts last 0 → k + 1 < get_or counts 0 0 → Holds (strand_bond_in d) (strands d) strand_bonds (option_in rows last j) (option_in rows 0 k) =
    subst (λ (i : ℕ). (j k : ℕ) → j < get_or counts i 0 → k + 1 < get_or counts 0 0 → Holds (strand_bond_in d) (strands d) strand_bonds (option_in rows i j) (option_in rows 0 k)) end held in
    let left = friend-place o last (omega arith) from in
    let right = friend-place o 0 (omega arith) to in
    let low : left.0 < get_or counts last 0 = omega (arith, left.1) in
    rw (left.2, right.2) at (at-end left.0 right.0 low right.1)
