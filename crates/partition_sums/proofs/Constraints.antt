-- The lists of a constraint, as they are lent. Assumes nothing.
use mathlib.Core.Path.{◌≡◌, refl, sym, ap, ap₂}
use mathlib.Core.Bool.{Bool, true, false, ◌||◌}
use mathlib.Core.List.{List, [], ◌∷◌}
use Prim.Native.Nat.{ℕ, ◌+◌, ◌-◌, ◌<◌}
use native.Mathlib.Nat.{add-sub_cancel_left}
use native.Mathlib.Omega.{arith}
use borrow.Author.Tests.{eqb-true, eqb-false, eq-eqb, ne_eqb}
use lib.Dec.{eqb}
use Rattle.std.specs.List.{list_any}
use Rattle.std.specs.Prelude.{nat_eq}
use lib.ListN.{length, get_or, take, drop}
use Rattle.lists.specs.Find.{any}
use Rattle.lists.proofs.Build.{length-tabulate, get_or-tabulate}
use Rattle.partition.specs.Constraint.{list_at, lists_of}

module _ (numbers starts lengths : List ℕ) where
  pub length-lists : length (lists_of numbers starts lengths) ≡ length starts
  unfolding lists_of
  length-lists = length-tabulate (length starts) (list_at numbers starts lengths)

  -- a position has a start where it has a list
  pub has_start : {lists : List (List ℕ)} (i : ℕ) → lists_of numbers starts lengths ≡ lists → i < length lists → i < length starts
  has_start i e h = let n = ap length e in omega (arith, length-lists)

  -- a list, lent as a part
  pub list-part : (i : ℕ) → i < length starts → take (get_or starts i 0 + get_or lengths i 0 - get_or starts i 0) (drop (get_or starts i 0) numbers) ≡ get_or (lists_of numbers starts lengths) i []
  unfolding lists_of list_at
  list-part i h = rw add-sub_cancel_left (sym (get_or-tabulate (length starts) (list_at numbers starts lengths) [] i h))

eqb_comm : (a b : ℕ) → eqb a b ≡ eqb b a
eqb_comm a b = go (eqb a b) refl
  where
    go : (t : Bool) → eqb a b ≡ t → t ≡ eqb b a
    go true e = sym (eq-eqb b a (sym (eqb-true a b e)))
    go false e = sym (ne_eqb b a (λ f. eqb-false a b e (sym f)))

-- what a slice's `contains` answers
pub any-contains : (xs : List ℕ) (x : ℕ) → list_any (λ y. nat_eq y x) xs ≡ any (eqb x) xs
unfolding any
any-contains [] x = refl
any-contains (y ∷ ys) x = ap₂ ◌||◌ (eqb_comm y x) (any-contains ys x)
