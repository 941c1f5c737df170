-- What is lent beside a design and has its sizes is what the pass relies on. Assumes nothing.
use mathlib.Core.Path.{◌≡◌}
use mathlib.Core.Bool.{Bool, false, not, ◌||◌}
use mathlib.Core.List.{List}
use Prim.Native.Nat.{ℕ, ◌+◌, ◌-◌, ◌≤◌}
use native.Mathlib.Omega.{arith}
use lib.Dec.{ltb, eqb}
use lib.IntN.{ℤ}
use lib.ListN.{length, get_or}
use borrow.Author.Tests.{ltb-false, eq-eqb, eqb-true, not-false}
use Rattle.lists.specs.Build.{up_to}
use Rattle.lists.specs.Find.{any}
use Rattle.lists.proofs.Tests.{neither}
use Rattle.lists.proofs.Any.{none_below}
use Rattle.partition.specs.Weights.{Weights}
use Rattle.partition_sums.specs.Layout.{Listed}
use Rattle.state_sums.specs.Sizes.{Lists, list_out, wrong_lists}

-- the weights of so many strands
abbrev pub weights : ℕ → List ℕ → List ℤ → List ℕ → List ℤ → Weights
weights strands place_digits place_powers pair_digits pair_powers =
    record { strands = strands; place_digits = place_digits; place_powers = place_powers; pair_digits = pair_digits; pair_powers = pair_powers }

list_inside : (many start size : ℕ) → (ltb many start || ltb (many - start) size) ≡ false → start + size ≤ many
list_inside many start size e =
    let p = neither (ltb many start) (ltb (many - start) size) e in
    let a : start ≤ many = ltb-false many start p.0 in
    let b : size ≤ many - start = ltb-false (many - start) size p.1 in
    omega arith

pub lists-listed : (n : ℕ) (l : Lists) → wrong_lists n l ≡ false → Listed n l.numbers l.starts l.lengths
unfolding wrong_lists
lists-listed n l e =
    let a = neither (not (eqb (length l.starts) n)) (not (eqb (length l.lengths) n) || any (list_out l) (up_to n)) e in
    let b = neither (not (eqb (length l.lengths) n)) (any (list_out l) (up_to n)) a.1 in
    record {
      starting = eqb-true _ _ (not-false _ a.0);
      long = eqb-true _ _ (not-false _ b.0);
      within = λ i h. list_inside (length l.numbers) (get_or l.starts i 0) (get_or l.lengths i 0) (none_below (list_out l) n b.1 i h);
    }

-- what the search over the lists says, where there is one for each position
pub lists-told : (n : ℕ) (l : Lists) {b : Bool} → length l.starts ≡ n → length l.lengths ≡ n → b ≡ any (list_out l) (up_to n) → b ≡ wrong_lists n l
unfolding wrong_lists
lists-told n l s t e = rw (eq-eqb (length l.starts) n s, eq-eqb (length l.lengths) n t) e
