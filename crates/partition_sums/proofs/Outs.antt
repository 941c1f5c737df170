-- Which weights are outside their form, as the code looks for them: row by row of the lent tables. Assumes nothing.
use mathlib.Core.Path.{◌≡◌, refl, sym, ap, ap₂, ◌∙◌}
use mathlib.Core.Bool.{Bool, true, false, ◌||◌}
use mathlib.Core.List.{List, [], ◌∷◌}
use Prim.Native.Nat.{ℕ, zero, suc, ◌+◌, ◌*◌, ◌-◌, ◌≤◌, ◌<◌}
use native.Mathlib.Nat.{zero-lt-suc, lt_of_not-le, add-zero}
use native.Mathlib.Decide.{dec_le}
use native.Mathlib.Omega.{arith}
use lib.ListN.{length, get_or, drop, length-drop, get_or-eq_default}
use lib.Seq.{get_or-take, get_or-drop, length-take-le}
use Rattle.std.proofs.lemmas.List.{get_or_read}
use Rattle.std.specs.List.{list_any, range_with_len}
use Rattle.lists.specs.Build.{up_to, tabulate}
use Rattle.lists.specs.Find.{any}
use Rattle.lists.proofs.Build.{length-tabulate, get_or-tabulate, drop-tabulate, any-later, any-past}
use Rattle.ensemble.specs.Layout.{Searchable}
use Rattle.partition.specs.Weights.{Weights, place_out, pairs_out, places_out_at, pairs_out_at, weights_out}
use Rattle.partition_sums.specs.Layout.{friends_at, friends_in}

-- two tests that agree below a bound, over numbers below it
pub any-below : (p q : ℕ → Bool) (n : ℕ) (xs : List ℕ) → ((k : ℕ) → k < length xs → get_or xs k 0 < n) → ((x : ℕ) → x < n → p x ≡ q x) → any p xs ≡ any q xs
unfolding any
any-below p q n [] low same = refl
any-below p q n (x ∷ xs) low same = ap₂ ◌||◌ (same x (low 0 (zero-lt-suc (length xs)))) (any-below p q n xs (λ k h. low (suc k) (omega (arith, h))) same)

any-here-or : (p : ℕ → Bool) (n a : ℕ) → a < n → any p (drop a (up_to n)) ≡ (p a || any p (drop (a + 1) (up_to n)))
unfolding any
any-here-or p n a h = rw (drop-tabulate n (λ k. k) a h) refl

-- over numbers from a on, where none of those after them passes
pub any-range : (p : ℕ → Bool) (n m a : ℕ) → a + m ≤ n → any p (drop (a + m) (up_to n)) ≡ false → list_any p (range_with_len a m) ≡ any p (drop a (up_to n))
any-range p n zero a h e = sym (rw (add-zero a) at e)
any-range p n (suc m) a h e =
    let here : a < n = omega arith in
    let on : a + suc m ≡ a + 1 + m = omega arith in
    ap (λ (b : Bool). p a || b) (any-range p n m (a + 1) (omega arith) (rw on at e)) ∙ sym (any-here-or p n a here)

-- a test of the number before
pub range-before : (q : ℕ → Bool) (m a : ℕ) → list_any (λ k. q (k - 1)) (range_with_len (a + 1) m) ≡ list_any q (range_with_len a m)
range-before q zero a = refl
range-before q (suc m) a = ap₂ (λ (k : ℕ) (b : Bool). q k || b) (before a) (range-before q m (a + 1))
  where
    before : (a : ℕ) → a + 1 - 1 ≡ a
    before a = omega arith

module _ (w : Weights) (rows counts : List ℕ) (s : Searchable w.strands rows counts) where
  friends-at : (i : ℕ) → i < length counts → get_or (friends_in rows counts) i [] ≡ friends_at rows counts i
  unfolding friends_in
  friends-at i h = get_or-tabulate (length counts) (friends_at rows counts) [] i h

  friends-past : (i : ℕ) → length counts ≤ i → get_or (friends_in rows counts) i [] ≡ []
  unfolding friends_in
  friends-past i h = get_or-eq_default (tabulate (length counts) (friends_at rows counts)) [] (rw (length-tabulate (length counts) (friends_at rows counts)) h)

  pub friends-below : (i : ℕ) → i < length counts → (k : ℕ) → k < length (friends_at rows counts i) → get_or (friends_at rows counts i) k 0 < w.strands
  friends-below i h k l =
      let few = s.readable.few i h in
      let sized = s.readable.sized in
      let n : length (friends_at rows counts i) ≡ get_or counts i 0 - 1 = length-take-le (get_or counts i 0 - 1) (drop (64 * i) rows) (rw (length-drop (64 * i) rows) (omega arith)) in
      let k' : k < get_or counts i 0 - 1 = omega arith in
      rw (get_or-take (get_or counts i 0 - 1) (drop (64 * i) rows) k 0 k', get_or-drop (64 * i) rows k 0) (s.known i k h (omega arith))

  -- of a friend lent as a part
  pub friend-below : (i : ℕ) {items : List ℕ} (k x : ℕ) → i < length counts → items ≡ friends_at rows counts i → k < length items → x ≡ get_or items k x → x < w.strands
  friend-below i {items} k x h e l r = rw (get_or_read items k x l r 0, e) (friends-below i h k (rw e at l))

  -- what is looked at
  pub places-at : (i : ℕ) → i < length counts → any (place_out w i) (friends_at rows counts i) ≡ places_out_at (friends_in rows counts) w i
  places-at i h = ap (any (place_out w i)) (sym (friends-at i h))

  pub pairs-at : (i : ℕ) → i + 1 < length counts → any (pairs_out w (friends_at rows counts (i + 1))) (friends_at rows counts i) ≡ pairs_out_at (friends_in rows counts) w i
  pairs-at i h = ap₂ (λ (right left : List ℕ). any (pairs_out w right) left) (sym (friends-at (i + 1) h)) (sym (friends-at i (omega arith)))

  none_right : (left : List ℕ) → any (pairs_out w []) left ≡ false
  unfolding any
  none_right [] = refl
  none_right (x ∷ left) = none_right left

  -- the last position has no next
  pub pairs_end : (i : ℕ) → length counts ≤ i + 1 → any (pairs_out_at (friends_in rows counts) w) (drop i (up_to (length counts))) ≡ false
  pairs_end i h = go (dec_le (suc i) (length counts))
    where
      go : Dec (suc i ≤ length counts) → any (pairs_out_at (friends_in rows counts) w) (drop i (up_to (length counts))) ≡ false
      go (yes l) =
          any-later (pairs_out_at (friends_in rows counts) w) (length counts) i l (ap (λ (right : List ℕ). any (pairs_out w right) (get_or (friends_in rows counts) i [])) (friends-past (i + 1) h) ∙ none_right (get_or (friends_in rows counts) i []))
          ∙ any-past (pairs_out_at (friends_in rows counts) w) (length counts) (i + 1) h
      go (no f) = any-past (pairs_out_at (friends_in rows counts) w) (length counts) i (not-below f)
        where
          not-below : (suc i ≤ length counts → ⊥) → length counts ≤ i
          not-below g = let z = lt_of_not-le g in omega arith

-- the places and the pairs together
module _ (w : Weights) (rows counts : List ℕ) where
  friends-many : length (friends_in rows counts) ≡ length counts
  unfolding friends_in
  friends-many = length-tabulate (length counts) (friends_at rows counts)

  weights-are : weights_out (friends_in rows counts) w ≡ (any (places_out_at (friends_in rows counts) w) (up_to (length counts)) || any (pairs_out_at (friends_in rows counts) w) (up_to (length counts)))
  unfolding weights_out
  weights-are = ap (λ (n : ℕ). any (places_out_at (friends_in rows counts) w) (up_to n) || any (pairs_out_at (friends_in rows counts) w) (up_to n)) friends-many

  pub place-decides : any (places_out_at (friends_in rows counts) w) (up_to (length counts)) ≡ true → true ≡ weights_out (friends_in rows counts) w
  place-decides e = sym (weights-are ∙ ap (λ (b : Bool). b || any (pairs_out_at (friends_in rows counts) w) (up_to (length counts))) e)

  pub pairs_decide : {b : Bool} → any (places_out_at (friends_in rows counts) w) (up_to (length counts)) ≡ false → b ≡ any (pairs_out_at (friends_in rows counts) w) (up_to (length counts)) → b ≡ weights_out (friends_in rows counts) w
  pairs_decide e f = f ∙ sym (weights-are ∙ ap (λ (b : Bool). b || any (pairs_out_at (friends_in rows counts) w) (up_to (length counts))) e)
