-- The sums over two strands' windows, taken up over what is left of the strands. Assumes nothing.
use mathlib.Core.Path.{◌≡◌, refl, ap}
use mathlib.Core.Bool.{Bool, true, false, cond, ◌&&◌, ◌||◌}
use mathlib.Core.List.{List, [], ◌∷◌}
use Prim.Native.Nat.{ℕ, ◌+◌, ◌-◌, ◌<◌, ◌≤◌}
use native.Mathlib.Nat.{le_of_suc-le-suc, not-suc-le-zero}
use native.Mathlib.Omega.{arith}
use lib.ListN.{length, drop, take}
use Rattle.lists.specs.Find.{any}
use Rattle.lists.specs.Fold.{foldl}
use Rattle.utils.specs.Bases.{Base, bases}
use Rattle.utils.specs.Figures.{admitted_length, loop_energy}
use Rattle.utils.specs.Pair.{Window, Sums, windows, good, ends_loop, after_good, after_bad, step, needed_after, lacking}
use Rattle.utils.specs.inner.Code.{window_at, ends_lacking}
use Rattle.utils.specs.declared.tables.LoopKind.TheVariants.{Internal}

-- the sums over all windows, out of those so far
unfoldable pub sums_rest : Sums → List ℕ → List ℕ → Sums
sums_rest s a b = foldl step s (windows (bases a) (bases b))

-- whether a loop will be missing, after k bad windows
unfoldable pub lacks_rest : ℕ → List ℕ → List ℕ → Bool
lacks_rest k a b = any lacking (needed_after k (windows (bases a) (bases b)))

-- one turn: the first two places of each strand are read, and the first is passed
pub record Turn (a b upper lower next-a next-b : List ℕ) : Type 0 where
  pub two : (2 ≤ length a) × (2 ≤ length b)
  pub front : (upper ≡ take 2 a) × (lower ≡ take 2 b)
  pub rest : (next-a ≡ drop 1 a) × (next-b ≡ drop 1 b)

front-window : (a b : List ℕ) → 2 ≤ length a → 2 ≤ length b → window_at (take 2 a) (take 2 b) ≡ window_at a b
front-window [] b h g = absurd (not-suc-le-zero h)
front-window (x ∷ []) b h g = absurd (not-suc-le-zero (le_of_suc-le-suc h))
front-window (x ∷ y ∷ a) [] h g = absurd (not-suc-le-zero g)
front-window (x ∷ y ∷ a) (z ∷ []) h g = absurd (not-suc-le-zero (le_of_suc-le-suc g))
front-window (x ∷ y ∷ a) (z ∷ w ∷ b) h g = refl

pub window-read : {a b upper lower next-a next-b : List ℕ} → Turn a b upper lower next-a next-b → window_at upper lower ≡ window_at a b
window-read {a} {b} t = rw (t.front.0, t.front.1) (front-window a b t.two.0 t.two.1)

windows-more : (a b : List ℕ) → 2 ≤ length a → 2 ≤ length b → windows (bases a) (bases b) ≡ window_at a b ∷ windows (bases (drop 1 a)) (bases (drop 1 b))
unfolding windows bases
windows-more [] b h g = absurd (not-suc-le-zero h)
windows-more (x ∷ []) b h g = absurd (not-suc-le-zero (le_of_suc-le-suc h))
windows-more (x ∷ y ∷ a) [] h g = absurd (not-suc-le-zero g)
windows-more (x ∷ y ∷ a) (z ∷ []) h g = absurd (not-suc-le-zero (le_of_suc-le-suc g))
windows-more (x ∷ y ∷ a) (z ∷ w ∷ b) h g = refl

windows-done : (a : List ℕ) (b : List Base) → length a < 2 → windows (bases a) b ≡ []
unfolding windows bases
windows-done [] b h = refl
windows-done (x ∷ []) b h = refl
windows-done (x ∷ y ∷ a) b h = absurd (omega arith)

pub sums-done : (s : Sums) (a b : List ℕ) → length a < 2 → sums_rest s a b ≡ s
unfolding sums_rest foldl
sums-done s a b h = rw (windows-done a (bases b) h)

pub lacks-done : (k : ℕ) (a b : List ℕ) → length a < 2 → lacks_rest k a b ≡ false
unfolding lacks_rest needed_after any
lacks-done k a b h = rw (windows-done a (bases b) h)

-- a good window, which ends a loop or not
at-good : (ends : Bool) (n : ℕ) (rest : List ℕ) → any lacking (cond ends (n ∷ rest) rest) ≡ ((ends && lacking n) || any lacking rest)
unfolding any
at-good true n rest = refl
at-good false n rest = refl

-- a good window and a bad one are the two cases of a step, and of the loops that are needed
module _ (s : Sums) (k : ℕ) (w : Window) (ws : List Window) where
  step-good : good w ≡ true → step s w ≡ after_good (loop_energy Internal) admitted_length s w.a1 w.a2
  unfolding step
  step-good e = simp e

  step-bad : good w ≡ false → step s w ≡ after_bad (loop_energy Internal) admitted_length s w
  unfolding step
  step-bad e = simp e

  needed-good : good w ≡ true → any lacking (needed_after k (w ∷ ws)) ≡ (ends_lacking k || any lacking (needed_after 0 ws))
  unfolding needed_after
  needed-good e = simp e (at-good (ends_loop k) (k - 1) (needed_after 0 ws))

  needed-bad : good w ≡ false → any lacking (needed_after k (w ∷ ws)) ≡ any lacking (needed_after (k + 1) ws)
  unfolding needed_after
  needed-bad e = simp e

module _ (s : Sums) (k : ℕ) (a b : List ℕ) (h : 2 ≤ length a) (g : 2 ≤ length b) where
  later : List Window
  later = windows (bases (drop 1 a)) (bases (drop 1 b))

  pub sums-good : good (window_at a b) ≡ true → sums_rest s a b ≡ sums_rest (after_good (loop_energy Internal) admitted_length s (window_at a b).a1 (window_at a b).a2) (drop 1 a) (drop 1 b)
  unfolding sums_rest foldl later
  sums-good e = rw (windows-more a b h g) (ap (λ (x : Sums). foldl step x later) (step-good s k (window_at a b) later e))

  pub sums-bad : good (window_at a b) ≡ false → sums_rest s a b ≡ sums_rest (after_bad (loop_energy Internal) admitted_length s (window_at a b)) (drop 1 a) (drop 1 b)
  unfolding sums_rest foldl later
  sums-bad e = rw (windows-more a b h g) (ap (λ (x : Sums). foldl step x later) (step-bad s k (window_at a b) later e))

  pub lacks-good : good (window_at a b) ≡ true → lacks_rest k a b ≡ (ends_lacking k || lacks_rest 0 (drop 1 a) (drop 1 b))
  unfolding lacks_rest later
  lacks-good e = rw (windows-more a b h g) (needed-good s k (window_at a b) later e)

  pub lacks-bad : good (window_at a b) ≡ false → lacks_rest k a b ≡ lacks_rest (k + 1) (drop 1 a) (drop 1 b)
  unfolding lacks_rest later
  lacks-bad e = rw (windows-more a b h g) (needed-bad s k (window_at a b) later e)
