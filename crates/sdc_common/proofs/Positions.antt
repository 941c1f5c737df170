-- Where the first stands that passes a test, in lists made by a rule. Assumes nothing.
use mathlib.Core.Path.{◌≡◌, refl, sym, ap, ap₂, ◌∙◌}
use mathlib.Core.Bool.{Bool, true, false, cond, ◌||◌}
use mathlib.Core.List.{List}
use Prim.Native.Nat.{ℕ, zero, suc, ◌<◌}
use native.Mathlib.Omega.{arith}
use lib.ListN.{length, get_or}
use Rattle.std.specs.Prelude.{Some, None, position}
use Rattle.lists.specs.Find.{any, first_index}
use Rattle.lists.specs.Build.{tabulate}
use Rattle.lists.proofs.Counted.{any_found, first_found}
use Rattle.lists.proofs.Places.{tabulate-get_or}
use Rattle.lists.proofs.Searches.{position_is}

-- a loop over the numbers below n
module _ {A : Type 0} (p : A → Bool) (n : ℕ) (f : ℕ → A) where
  pub position_at : (i : ℕ) → ((k : ℕ) → k < i → p (f k) ≡ false) → i < n → p (f i) ≡ true → position p (tabulate n f) ≡ Some i
  position_at i below h e = position_is p (tabulate n f) ∙ rw (any_found p n f i h e, first_found p n f i below h e) refl

-- two tests that agree at each place
pub any_same : {A B : Type 0} (p : A → Bool) (q : B → Bool) (n : ℕ) (f : ℕ → A) (g : ℕ → B) → ((k : ℕ) → k < n → p (f k) ≡ q (g k)) → any p (tabulate n f) ≡ any q (tabulate n g)
unfolding any tabulate
any_same p q zero f g h = refl
any_same p q (suc n) f g h = ap₂ (λ (x y : Bool). x || y) (h 0 (omega arith)) (any_same p q n (λ k. f (suc k)) (λ k. g (suc k)) (λ k l. h (suc k) (omega arith)))

first_same : {A B : Type 0} (p : A → Bool) (q : B → Bool) (n : ℕ) (f : ℕ → A) (g : ℕ → B) → ((k : ℕ) → k < n → p (f k) ≡ q (g k)) → first_index p (tabulate n f) ≡ first_index q (tabulate n g)
unfolding first_index tabulate
first_same p q zero f g h = refl
first_same p q (suc n) f g h = ap₂ (λ (x : Bool) (y : ℕ). cond x 0 (suc y)) (h 0 (omega arith)) (first_same p q n (λ k. f (suc k)) (λ k. g (suc k)) (λ k l. h (suc k) (omega arith)))

module _ {A B : Type 0} (p : A → Bool) (q : B → Bool) (n : ℕ) where
  pub position_same : (f : ℕ → A) (g : ℕ → B) → ((k : ℕ) → k < n → p (f k) ≡ q (g k)) → position p (tabulate n f) ≡ position q (tabulate n g)
  position_same f g h =
      position_is p (tabulate n f)
      ∙ ap₂ (λ (x : Bool) (y : ℕ). cond x (Some y) None) (any_same p q n f g h) (first_same p q n f g h)
      ∙ sym (position_is q (tabulate n g))

  -- the same of a list's elements
  pub position-rows : (d : A) (xs : List A) (g : ℕ → B) → length xs ≡ n → ((k : ℕ) → k < n → p (get_or xs k d) ≡ q (g k)) → position p xs ≡ position q (tabulate n g)
  position-rows d xs g e h = ap (position p) (sym (tabulate-get_or d n xs e)) ∙ position_same (λ k. get_or xs k d) g h

-- where none passes there is no place
none-passes : {A : Type 0} (p : A → Bool) (n : ℕ) (f : ℕ → A) → ((k : ℕ) → k < n → p (f k) ≡ false) → any p (tabulate n f) ≡ false
unfolding any tabulate
none-passes p zero f h = refl
none-passes p (suc n) f h = simp (h 0 (omega arith), none-passes p n (λ k. f (suc k)) (λ k l. h (suc k) (omega arith)))

pub position_past : {A : Type 0} (p : A → Bool) (n : ℕ) (f : ℕ → A) → ((k : ℕ) → k < n → p (f k) ≡ false) → position p (tabulate n f) ≡ None
position_past p n f h = position_is p (tabulate n f) ∙ rw (none-passes p n f h) refl
