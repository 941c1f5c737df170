-- The sum built from the left is the state sum, and the code's cells are the model's. Assumes nothing.
use mathlib.Core.Path.{◌≡◌, refl, sym, ap, ◌∙◌}
use mathlib.Core.Logic.{◌⊎◌, inl, inr}
use mathlib.Core.List.Memᴰ
use mathlib.Core.List.{List, [], ◌∷◌, Memᴰ}
use Prim.Native.Nat.{ℕ, suc, ◌+◌, ◌*◌, ◌<◌, ◌≤◌}
use native.Mathlib.Omega.{arith}
use native.Mathlib.Decide.{ℕ_discrete}
use native.Mathlib.Numerals.{add-one}
use lib.ListN.{length, get_or, drop, drop_of_length-le}
use lib.Seq.{drop-cons}
use lib.Ieee.{Float, binary64, mul, nan}
use borrow.Author.Tests.{eq-eqb, ne_eqb}
use Rattle.doubles.specs.Decimal as Decimal
use Rattle.doubles.specs.Sum.{sum_from}
use Rattle.doubles.proofs.Sums.{sum-append}
use Rattle.lists.proofs.Grid.{row-end}
use Rattle.model.specs.Model as Model
use Rattle.model.specs.Model.{Model, Friend, State, occupant}
use Rattle.model.specs.Search.{options_at}
use Rattle.model.specs.Energy.{state_place, state_terms, state_energy}
use Rattle.model.proofs.Sums.{place-empty, place-joined, place-last}
use Rattle.prepared.specs.Layout.{StateCells}
use Rattle.prepared.specs.inner.Sums.{cell_of, joined_in, begun_in, ended_in, begun_at, sum_on, energy_on, Beside}

-- ---- the sum built from the left is the state sum

-- what follows the left occupant's scaffold bond, by what stands to its right
abbrev after_right : Model → ℕ → List ℕ → Float → Float
after_right m left [] sum = ended_in m.potential left sum
after_right m left (x ∷ s) sum = joined_in m.pair m.potential left x sum

-- an occupant's scaffold bond and what follows it are the terms of its place
place_is : (m : Model) (i x : ℕ) (sum : Float) (right : List ℕ) → after_right m x right (begun_in (m.site i) x sum) ≡ sum_from sum (state_place m i x right)
place_is m i x sum right = go (ℕ_discrete x 0) right
  where
    go : Dec (x ≡ 0) → (right : List ℕ) → after_right m x right (begun_in (m.site i) x sum) ≡ sum_from sum (state_place m i x right)
    go (yes e) [] = rw (eq-eqb x 0 e) (rw (eq-eqb x 0 e) at (place-empty m i sum {x = x} [] e))
    go (yes e) (y ∷ s) = rw (eq-eqb x 0 e) (rw (eq-eqb x 0 e) at (place-empty m i sum {x = x} (y ∷ s) e))
    go (no n) [] = rw (ne_eqb x 0 n) (rw (ne_eqb x 0 n) at (place-last m i sum {x = x} n refl refl refl))
    go (no n) (y ∷ s) = rw (ne_eqb x 0 n) (rw (ne_eqb x 0 n) at (place-joined m i sum {x = x} n refl refl {y = y} {rest = s} refl refl))

sum-on : (m : Model) (i left : ℕ) (sum : Float) (s : List ℕ) → sum_on m i left sum s ≡ sum_from (after_right m left s sum) (state_terms m i s)
unfolding sum_on state_terms sum_from
sum-on m i left sum [] = refl
sum-on m i left sum (x ∷ s) =
    let start = joined_in m.pair m.potential left x sum in
    sum-on m (suc i) x (begun_in (m.site i) x start) s
    ∙ ap (λ (y : Float). sum_from y (state_terms m (suc i) s)) (place_is m i x start s)
    ∙ sym (sum-append start (state_place m i x s) (state_terms m (suc i) s))

pub whole-energy : (m : Model) (s : List ℕ) → energy_on m 0 0 Decimal.zero s ≡ state_energy m s
unfolding energy_on state_energy
whole-energy m s = ap (λ (y : Float). mul binary64 y m.rt) (sum-on m 0 0 Decimal.zero s ∙ ap (λ (y : Float). sum_from y (state_terms m 0 s)) (nobody s))
  where
    nobody : (s : List ℕ) → after_right m 0 s Decimal.zero ≡ Decimal.zero
    nobody [] = refl
    nobody (x ∷ s) = refl

-- ---- place by place

module _ (m : Model) (s : List ℕ) (i left : ℕ) (sum : Float) where
  pub sum_more : i < length s → sum_on m i left sum (drop i s) ≡ sum_on m (i + 1) (occupant s i) (begun_at m i left sum (occupant s i)) (drop (i + 1) s)
  unfolding sum_on
  sum_more h = rw (add-one, drop-cons s i 0 h) refl

  pub sum_done : length s ≤ i → sum_on m i left sum (drop i s) ≡ ended_in m.potential left sum
  unfolding sum_on
  sum_done h = rw (drop_of_length-le s h) refl

-- ---- the code's sums are the model's

module _ {m : Model} {strands : ℕ} {strand_bonds scaffold_bonds potentials : List Float} (b : StateCells m strands strand_bonds scaffold_bonds potentials) (i : ℕ) where
  -- the strand bond of a friend with an option to its right
  pair_is : (p x y : ℕ) → p + 1 < Model.positions m → Friend m p x → x < strands → (y ≡ 0) ⊎ Friend m (p + 1) y → Memᴰ x (options_at m p) → get_or strand_bonds (x * strands + y) nan ≡ m.pair x y
  pair_is p x y h f low (inl e) o = rw e (b.empties x low)
  pair_is p x y h f low (inr g) o = b.searched.pairs p x y h o g

  pub begun-is : (left x : ℕ) (sum : Float) → i < Model.positions m → left < strands → Beside m i left → (x ≡ 0) ⊎ Friend m i x
      → begun_in (cell_of strands scaffold_bonds i) x (joined_in (cell_of strands strand_bonds) (λ y. get_or potentials y nan) left x sum) ≡ begun_at m i left sum x
  begun-is left x sum inside low beside o = ap (begun_in (cell_of strands scaffold_bonds i) x) (join beside (ℕ_discrete left 0)) ∙ place o (ℕ_discrete x 0)
    where
      start : Float
      start = joined_in m.pair m.potential left x sum

      join : Beside m i left → Dec (left ≡ 0) → joined_in (cell_of strands strand_bonds) (λ y. get_or potentials y nan) left x sum ≡ start
      join w (yes e) = rw (eq-eqb left 0 e) refl
      join (inl e) (no n) = absurd (n e)
      join (inr w) (no n) =
          let p = w.0 in
          let here : p + 1 < Model.positions m = rw (← w.1) inside in
          let next : (x ≡ 0) ⊎ Friend m (p + 1) x = rw (← w.1) o in
          rw (ne_eqb left 0 n, pair_is p left x here w.2 low next (Memᴰ.append_left (0 ∷ []) w.2), b.searched.logs p left (omega arith) w.2) refl

      place : (x ≡ 0) ⊎ Friend m i x → Dec (x ≡ 0) → begun_in (cell_of strands scaffold_bonds i) x start ≡ begun_in (m.site i) x start
      place w (yes e) = rw (eq-eqb x 0 e) refl
      place (inl e) (no n) = absurd (n e)
      place (inr f) (no n) = rw (ne_eqb x 0 n, b.searched.sites i x inside f) refl

  pub ended_is : (left : ℕ) (sum : Float) → i ≤ Model.positions m → Beside m i left → ended_in (λ y. get_or potentials y nan) left sum ≡ ended_in m.potential left sum
  ended_is left sum all w = go w (ℕ_discrete left 0)
    where
      go : Beside m i left → Dec (left ≡ 0) → ended_in (λ y. get_or potentials y nan) left sum ≡ ended_in m.potential left sum
      go w (yes e) = rw (eq-eqb left 0 e) refl
      go (inl e) (no n) = absurd (n e)
      go (inr w) (no n) = let here : w.0 < Model.positions m = omega (arith, w.1) in rw (ne_eqb left 0 n, b.searched.logs w.0 left here w.2) refl

-- an option stands beside the next position
pub beside-next : (m : Model) (i x : ℕ) → (x ≡ 0) ⊎ Friend m i x → Beside m (i + 1) x
beside-next m i x (inl e) = inl e
beside-next m i x (inr f) = inr (i, refl, f)

-- a cell lies inside the table of all strands
pub cell-inside : (strands row column size : ℕ) → row < strands → column < strands → strands * strands ≤ size → row * strands + column < size
cell-inside strands row column size h l z = omega (arith, row-end strands h)
