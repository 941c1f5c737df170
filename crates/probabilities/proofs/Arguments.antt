-- The arguments of a design's weights are at most 80,000 in size: a bond is at most 73,728, and a potential 1,024. Assumes nothing.
use mathlib.Core.Path.{◌≡◌}
use mathlib.Core.Bool.{true}
use Prim.Native.Nat.{ℕ, ◌<◌}
use lib.Dec.{lit≤}
use lib.Ieee.{Float, binary64, neg, sub}
use Rattle.doubles.specs.Size.{Within}
use Rattle.doubles.proofs.Sums.{weaken, sub_within}
use Rattle.doubles.proofs.Bounds.{within-passes, neg-within}
use Rattle.model.specs.Model.{Friend}
use Rattle.design.specs.Design.{Design, strands, potential, strand_bond_in, scaffold_bond_in, model_of}
use Rattle.design.specs.Checks.{Admitted}
use Rattle.design.specs.Laws.{Doubles}
use Rattle.design.proofs.FriendLaws.{friend-tested}
use Rattle.design.proofs.BoundLaws.{strand-bond-tight, scaffold-bond-tight, bounds-right}
use Rattle.exponential.specs.Near.{least_argument, most_argument, has_exponential}
use Rattle.probabilities.specs.Numbers.{place_argument, pair_argument}

-- what is at most 80,000 in size has an exponential
in-reach : (x : Float) → Within binary64 80000 x → has_exponential x ≡ true
unfolding least_argument most_argument
in-reach x w = within-passes 80000 (lit≤ tt) x w

module _ (d : Design) (doubles : Doubles d) (a : Admitted d) where
  pub pair-in-reach : (x y : ℕ) → x < strands d → y < strands d → has_exponential (pair_argument (model_of d) x y) ≡ true
  unfolding model_of
  pair-in-reach x y h k = in-reach (neg (strand_bond_in d x y)) (neg-within (weaken 80000 (lit≤ tt) (strand-bond-tight d doubles a x y h k)))

  pub place-in-reach : (i x : ℕ) → Friend (model_of d) i x → has_exponential (place_argument (model_of d) i x) ≡ true
  unfolding model_of
  place-in-reach i x f =
      let w = friend-tested d i x f in
      let p : Within binary64 1024 (potential d x) = (bounds-right d doubles a).potentials i x f in
      let s = sub_within binary64 73728 1024 (scaffold_bond_in d i x) (potential d x) (scaffold-bond-tight d doubles a i x w.0 w.1) p (lit≤ tt) in
      in-reach (neg (sub binary64 (scaffold_bond_in d i x) (potential d x))) (neg-within (weaken 80000 (lit≤ tt) s))
