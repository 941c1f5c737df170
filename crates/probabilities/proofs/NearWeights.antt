-- The weight of a friend at its position and that of two strands are near the exponentials of the model's arguments. Assumes nothing.
use mathlib.Core.Path.{◌≡◌, sym, ap, ap₂, subst, ◌∙◌}
use mathlib.Core.Bool.{true, false, true≢false}
use Prim.Native.Nat.{ℕ, ◌<◌}
use lib.Ieee.{Float, binary64, neg, sub}
use Rattle.fractions.specs.declared.Weight.{Weight}
use Rattle.model.specs.Model.{Friend}
use Rattle.design.specs.Design.{Design, positions, strands, is_friend, strand_bond_in, scaffold_bond_in, potential, model_of}
use Rattle.design.specs.Checks.{Admitted}
use Rattle.design.specs.Laws.{Doubles}
use Rattle.design.proofs.FriendLaws.{friend-tested, tested-friend}
use Rattle.exponential.specs.Near.{has_exponential, ExpOf}
use Rattle.probabilities.specs.Numbers.{place_argument, pair_argument}
use Rattle.probabilities.specs.Weighed.{NearExp}
use Rattle.probabilities.proofs.Arguments.{place-in-reach, pair-in-reach}

module _ (d : Design) where
  -- the arguments of the code are the model's
  pub place-is : (i x : ℕ) {bond log : Float} → bond ≡ scaffold_bond_in d i x → log ≡ potential d x → neg (sub binary64 bond log) ≡ place_argument (model_of d) i x
  unfolding model_of
  place-is i x p q = ap₂ (λ (y z : Float). neg (sub binary64 y z)) p q

  pub pair-is : (x y : ℕ) {bond : Float} → bond ≡ strand_bond_in d x y → neg bond ≡ pair_argument (model_of d) x y
  unfolding model_of
  pair-is x y e = ap neg e

  -- what is tested as no friend is none
  pub no-friend : (i x : ℕ) → is_friend d i x ≡ false → Friend (model_of d) i x → ⊥
  no-friend i x e f = true≢false (sym (friend-tested d i x f).2 ∙ e)

  module _ (doubles : Doubles d) (a : Admitted d) where
    pub place-taken : (i x : ℕ) {argument : Float} → i < positions d → x < strands d → is_friend d i x ≡ true → argument ≡ place_argument (model_of d) i x → has_exponential argument ≡ true
    place-taken i x h k f e = ap has_exponential e ∙ place-in-reach d doubles a i x (tested-friend d i x h k f)

    pub place-near : (i x : ℕ) {argument : Float} {w : Weight} → argument ≡ place_argument (model_of d) i x → ExpOf argument w → Friend (model_of d) i x → NearExp (place_argument (model_of d) i x) w
    place-near i x {w = w} e n f = (place-in-reach d doubles a i x f, subst (λ (z : Float). ExpOf z w) e n)

    pub pair-taken : (x y : ℕ) {argument : Float} → x < strands d → y < strands d → argument ≡ pair_argument (model_of d) x y → has_exponential argument ≡ true
    pair-taken x y h k e = ap has_exponential e ∙ pair-in-reach d doubles a x y h k

    pub pair-near : (x y : ℕ) {argument : Float} {w : Weight} → x < strands d → y < strands d → argument ≡ pair_argument (model_of d) x y → ExpOf argument w → NearExp (pair_argument (model_of d) x y) w
    pair-near x y {w = w} h k e n = (pair-in-reach d doubles a x y h k, subst (λ (z : Float). ExpOf z w) e n)
