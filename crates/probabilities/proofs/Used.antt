-- Filled tables hold, near its exponential and in form, each weight that a state uses. Assumes nothing.
use mathlib.Core.Path.{◌≡◌, sym, ap, subst, ◌∙◌}
use mathlib.Core.Bool.{true}
use mathlib.Core.List.{List, [], ◌∷◌, map, Memᴰ}
use Prim.Native.Nat.{ℕ, suc, ◌+◌, ◌*◌, ◌/◌, ◌%◌, ◌<◌, ◌≤◌}
use native.Mathlib.Nat.{add-mul-div_right, div-eq_of_lt, mul-add-mod_self_right, mod-eq_of_lt, add_comm, zero-add, add-zero, zero-lt-suc}
use native.Mathlib.Numerals.{add-one}
use native.Mathlib.Omega.{arith}
use lib.IntN.{ℤ, pos, negsuc}
use lib.Signed.{le_z}
use lib.Ieee.{Float}
use lib.ListN.{length, get_or}
use borrow.Author.Tests.{leb-true}
use Rattle.fractions.specs.declared.Weight.{Weight}
use Rattle.lists.proofs.Grid.{cell_in}
use Rattle.model.specs.Model.{Friend, options, options_of, friends_at}
use Rattle.design.specs.Design.{Design, strands, model_of}
use Rattle.design.proofs.FriendLaws.{friend-tested}
use Rattle.partition.specs.Weights.{Weights, place_weight, pair_weight, weight_at}
use Rattle.partition.specs.Summed.{lifted}
use Rattle.partition.specs.inner.Used.{Reaches, Weighs, PlaceFit, PairFit, Used, InUse}
use Rattle.partition.proofs.Sums.{occupied}
use Rattle.probabilities.specs.Numbers.{place_argument, pair_argument}
use Rattle.probabilities.specs.Weighed.{NearExp, PlaceNear, PairNear, WeightsNear}
use Rattle.probabilities.specs.inner.Filled.{PlacesFilled, PairsFilled}

-- ---- of each option, and of each two of neighbouring positions

module _ (Place Pair : ℕ → ℕ → Type 0) where
  used_all : (friends : List (List ℕ)) (i : ℕ) → ((k x : ℕ) → k < length friends → Memᴰ x (options_of (get_or friends k [])) → Place (i + k) x)
      → ((k x y : ℕ) → k + 1 < length friends → Memᴰ x (options_of (get_or friends k [])) → Memᴰ y (options_of (get_or friends (k + 1) [])) → Pair x y)
      → Used Place Pair i (map options_of friends)
  used_all [] i p q = tt
  used_all (here ∷ []) i p q = λ x m. rw (add-zero i) at (p 0 x (zero-lt-suc 0) m)
  used_all (here ∷ next ∷ later) i p q =
      let n = length later in (
        λ x m. rw (add-zero i) at (p 0 x (omega arith) m),
        λ x y m k. q 0 x y (omega arith) m k,
        used_all (next ∷ later) (suc i) (λ k x h m. subst (λ (z : ℕ). Place z x) (shift i k) (p (suc k) x (omega arith) m)) (λ k x y h m l. q (suc k) x y (omega arith) m (rw (add-one (suc k)) (rw (add-one k) at l))),
      )
    where
      shift : (i k : ℕ) → i + suc k ≡ suc i + k
      shift i k = omega arith

-- ---- cells of a table

row-is : (row column width : ℕ) → column < width → (row * width + column) / width ≡ row
row-is row column width h = ap (λ (z : ℕ). z / width) (add_comm (row * width) column) ∙ add-mul-div_right column row (omega arith) ∙ ap (λ (z : ℕ). z + row) (div-eq_of_lt h) ∙ zero-add row

column-is : (row column width : ℕ) → column < width → (row * width + column) % width ≡ column
column-is row column width h = mul-add-mod_self_right row width column ∙ mod-eq_of_lt h

-- ---- the weights of filled tables

module _ (d : Design) (w : Weights) (wide : w.strands ≡ strands d) (places : PlacesFilled d w.place_digits w.place_powers) (pairs : PairsFilled d w.pair_digits w.pair_powers) where
  friend-near : (i x : ℕ) → Friend (model_of d) i x → NearExp (place_argument (model_of d) i x) (place_weight w i x)
  friend-near i x f =
      let t = friend-tested d i x f in
      let r = row-is i x (strands d) t.1 in
      let k = column-is i x (strands d) t.1 in
      rw wide (subst (λ (z : ℕ). NearExp (place_argument (model_of d) z x) (weight_at w.place_digits w.place_powers (i * strands d + x))) r
      (subst (λ (z : ℕ). NearExp (place_argument (model_of d) ((i * strands d + x) / strands d) z) (weight_at w.place_digits w.place_powers (i * strands d + x))) k
      (places (i * strands d + x) (cell_in (strands d) t.0 t.1) (subst (λ (z : ℕ). Friend (model_of d) ((i * strands d + x) / strands d) z) (sym k) (subst (λ (z : ℕ). Friend (model_of d) z x) (sym r) f)))))

  strands-near : (x y : ℕ) → x < strands d → y < strands d → NearExp (pair_argument (model_of d) x y) (pair_weight w x y)
  strands-near x y h g =
      rw wide (subst (λ (z : ℕ). NearExp (pair_argument (model_of d) z y) (weight_at w.pair_digits w.pair_powers (x * strands d + y))) (row-is x y (strands d) g)
      (subst (λ (z : ℕ). NearExp (pair_argument (model_of d) ((x * strands d + y) / strands d) z) (weight_at w.pair_digits w.pair_powers (x * strands d + y))) (column-is x y (strands d) g)
      (pairs (x * strands d + y) (cell_in (strands d) h g))))

  place-near : (i x : ℕ) → Memᴰ x (options_of (friends_at (model_of d) i)) → PlaceNear (model_of d) w i x
  place-near i x m some = friend-near i x (occupied (friends_at (model_of d) i) some m)

  pair-near : (i x y : ℕ) → Memᴰ x (options_of (friends_at (model_of d) i)) → Memᴰ y (options_of (friends_at (model_of d) (i + 1))) → PairNear (model_of d) w x y
  pair-near i x y m k some other =
      strands-near x y (friend-tested d i x (occupied (friends_at (model_of d) i) some m)).1 (friend-tested d (i + 1) y (occupied (friends_at (model_of d) (i + 1)) other k)).1

  pub weights-near : WeightsNear (model_of d) w
  weights-near =
      used_all (PlaceNear (model_of d) w) (PairNear (model_of d) w) (model_of d).friends 0 (λ k x h m. subst (λ (z : ℕ). PlaceNear (model_of d) w z x) (sym (zero-add k)) (place-near k x m)) (λ k x y h m l. pair-near k x y m l)

  -- ---- they are in form

  reached : (z : ℤ) → le_z (negsuc 399999) z ≡ true → le_z z (pos 400000) ≡ true → Reaches 400000 z × (lifted 400000 z ≤ 2 * 400000)
  reached (pos k) l h = let m : k ≤ 400000 = leb-true k 400000 h in (tt, omega arith)
  reached (negsuc k) l h = let m : k ≤ 399999 = leb-true k 399999 l in (omega arith, omega arith)

  weighs : {x : Float} (v : Weight) → NearExp x v → Weighs 400000 v
  weighs v e = let r = reached v.power e.1.exponent.0 e.1.exponent.1 in record { form = e.1.in_form; reaches = r.0; low = r.1 }

  pub in-use : InUse w 0 (options (model_of d))
  in-use =
      used_all (PlaceFit 400000 (place_weight w)) (PairFit 400000 (pair_weight w)) (model_of d).friends 0 (λ k x h m. subst (λ (z : ℕ). (x ≡ 0 → ⊥) → Weighs 400000 (place_weight w z x)) (sym (zero-add k)) (λ some. weighs (place_weight w k x) (place-near k x m some)))
      (λ k x y h m l some other. weighs (pair_weight w x y) (pair-near k x y m l some other))
