-- One error rule for weights, their sums, products, quotients and roundings: sums keep the factors between which a fraction lies of its number, and the
-- others multiply them. Assumes nothing.
use Prim.Native.Nat.{ℕ, ◌<◌}
use native.Mathlib.Nat.{mul-pos}
use Rattle.fractions.specs.Frac.{Frac, plus, times, inverse, LeFrac}
use Rattle.fractions.specs.Number.{Number, Sound, sum_of, product_of, quotient_of, Within}
use Rattle.fractions.proofs.Frac.{le-frac-refl, le-frac-trans, plus-mono, times-mono, times-assoc, times-swap, share, gather, inverse-le}

-- ---- sums
module _ {from : ℕ} {less over : Frac} {x y : Number} {v w : Frac} (L : 0 < less.den) (O : 0 < over.den) (X : Sound from x) (Y : Sound from y) where
  pub within-sum : Within from less over x v → Within from less over y w → Within from less over (sum_of x y) (plus v w)
  unfolding sum_of
  within-sum p q = record {
    positive = mul-pos p.positive q.positive;
    reached = λ n N. le-frac-trans (mul-pos (mul-pos L (X.below n N)) (mul-pos L (Y.below n N))) (share less (x.lower n) (y.lower n)) (plus-mono (p.reached n N) (q.reached n N));
    kept = λ n N. le-frac-trans (mul-pos (mul-pos O (X.above n N)) (mul-pos O (Y.above n N))) (plus-mono (p.kept n N) (q.kept n N)) (gather over (x.upper n) (y.upper n));
  }

pub sum-sound : {from : ℕ} {x y : Number} → Sound from x → Sound from y → Sound from (sum_of x y)
unfolding sum_of
sum-sound X Y = record { below = λ n N. mul-pos (X.below n N) (Y.below n N); above = λ n N. mul-pos (X.above n N) (Y.above n N) }

-- ---- products
pub within-product : {from : ℕ} {less over less' over' : Frac} {x y : Number} {v w : Frac}
    → Within from less over x v → Within from less' over' y w → Within from (times less less') (times over over') (product_of x y) (times v w)
unfolding product_of
within-product {from} {less} {over} {less'} {over'} {x} {y} p q = record {
  positive = mul-pos p.positive q.positive;
  reached = λ n N. rw (times-swap less less' (x.lower n) (y.lower n)) (times-mono (p.reached n N) (q.reached n N));
  kept = λ n N. rw (times-swap over over' (x.upper n) (y.upper n)) (times-mono (p.kept n N) (q.kept n N));
}

pub product-sound : {from : ℕ} {x y : Number} → Sound from x → Sound from y → Sound from (product_of x y)
unfolding product_of
product-sound X Y = record { below = λ n N. mul-pos (X.below n N) (Y.below n N); above = λ n N. mul-pos (X.above n N) (Y.above n N) }

-- ---- quotients
pub within-quotient : {from : ℕ} {less over less' over' : Frac} {x y : Number} {v w : Frac} → 0 < w.num
    → Within from less over x v → Within from less' over' y w → Within from (times less (inverse over')) (times over (inverse less')) (quotient_of x y) (times v (inverse w))
unfolding quotient_of
within-quotient {from} {less} {over} {less'} {over'} {x} {y} W p q = record {
  positive = mul-pos p.positive W;
  reached = λ n N. rw (times-swap less (inverse over') (x.lower n) (inverse (y.upper n))) (times-mono (p.reached n N) (inverse-le (q.kept n N)));
  kept = λ n N. rw (times-swap over (inverse less') (x.upper n) (inverse (y.lower n))) (times-mono (p.kept n N) (inverse-le (q.reached n N)));
}

-- ---- a rounding of w
pub within-rounded : (f g : Frac) {from : ℕ} {less over : Frac} {x : Number} {w w' : Frac} → 0 < f.den → 0 < g.den → 0 < w'.den
    → LeFrac (times f w) w' → LeFrac w' (times g w) → Within from less over x w → Within from (times f less) (times g over) x w'
within-rounded f g {from} {less} {over} {x} F G W h k p = record {
  positive = W;
  reached = λ n N. le-frac-trans (mul-pos F p.positive) (rw (times-assoc f less (x.lower n)) (times-mono (le-frac-refl f) (p.reached n N))) h;
  kept = λ n N. le-frac-trans (mul-pos G p.positive) k (rw (times-assoc g over (x.upper n)) (times-mono (le-frac-refl g) (p.kept n N)));
}
