-- The last of the least, found from the end: no later one's double is as low, and its own is not above itself. No law on doubles is needed but
-- that none is below itself. Assumes nothing.
use mathlib.Core.Path.{◌≡◌, refl, sym, ap, ap₂, ◌∙◌}
use mathlib.Core.Bool.{Bool, true, false, cond}
use mathlib.Core.List.{List, [], ◌∷◌, ◌++◌}
use Prim.Native.Nat.{ℕ, zero, suc, ◌*◌, ◌<◌}
use native.Mathlib.Nat.{not-suc-le-zero, lt_irrefl}
use native.Mathlib.Omega.{arith}
use lib.Dec.{ltb, ltb→lt}
use lib.ListN.{length, get_or, take}
use lib.Seq.{take-suc}
use lib.Ieee.{Float, nan, inf, fin, lt, below, up, down}
use Rattle.lists.specs.Fold.{foldl}
use Rattle.lists.proofs.Tests.{clash}
use Rattle.doubles.specs.Least.{or_later, pick, last_least}
use Rattle.ensemble.specs.inner.Entries.{lesser}

-- ---- no double is below itself

ltb-itself : (a : ℕ) → ltb a a ≡ false
ltb-itself a = go (ltb a a) refl
  where
    go : (b : Bool) → ltb a a ≡ b → ltb a a ≡ false
    go true e = absurd (lt_irrefl a (ltb→lt a a (rw e tt)))
    go false e = e

below-itself : (s : Bool) (a : ℕ) → below s a s a ≡ false
below-itself false a = ltb-itself a
below-itself true a = ltb-itself a

pub lt-itself : (x : Float) → lt x x ≡ false
unfolding lt
lt-itself nan = refl
lt-itself (inf true) = refl
lt-itself (inf false) = refl
lt-itself (fin s m e) = below-itself s (m * up e * down e)

-- ---- one more

foldl-more : (better : ℕ → ℕ → ℕ) (x : ℕ) (xs : List ℕ) (y : ℕ) → foldl better x (xs ++ y ∷ []) ≡ better (foldl better x xs) y
unfolding foldl
foldl-more better x [] y = refl
foldl-more better x (z ∷ xs) y = foldl-more better (better x z) xs y

pub pick_more : (better : ℕ → ℕ → ℕ) (row : List ℕ) (k : ℕ) → 0 < k → k < length row → pick better (take (suc k) row) ≡ better (pick better (take k row)) (get_or row k 0)
unfolding pick
pick_more better [] k h l = absurd (not-suc-le-zero l)
pick_more better (x ∷ row) zero h l = absurd (not-suc-le-zero h)
pick_more better (x ∷ row) (suc k) h l = ap (foldl better x) (take-suc row k 0 (omega arith)) ∙ foldl-more better x (take k row) (get_or row k 0)

-- of one there is one
pub pick-one : (better : ℕ → ℕ → ℕ) (row : List ℕ) → 0 < length row → pick better (take 1 row) ≡ get_or row 0 0
unfolding pick foldl
pick-one better [] h = absurd (not-suc-le-zero h)
pick-one better (x ∷ row) h = refl

-- ---- what is kept is compared as the lesser

lesser-key : (key : ℕ → Float) (kept x : ℕ) → lesser (key kept) (key x) ≡ key (or_later key kept x)
lesser-key key kept x = go (lt (key kept) (key x))
  where
    go : (b : Bool) → cond b (key kept) (key x) ≡ key (cond b kept x)
    go true = refl
    go false = refl

pub least_more : (key : ℕ → Float) (row : List ℕ) (k : ℕ) {least sum : Float} → 0 < k → k < length row → least ≡ key (last_least key (take k row)) → sum ≡ key (get_or row k 0)
    → lesser least sum ≡ key (last_least key (take (suc k) row))
least_more key row k h l e f = ap₂ lesser e f ∙ lesser-key key (last_least key (take k row)) (get_or row k 0) ∙ ap key (sym (pick_more (or_later key) row k h l))

-- ---- from the end

module _ (key : ℕ → Float) (row : List ℕ) (k : ℕ) {least sum : Float} (h : 0 < k) (l : k < length row)
    (e : least ≡ key (last_least key (take (suc k) row))) (f : sum ≡ key (get_or row k 0)) where
  abbrev kept : ℕ
  kept = last_least key (take k row)

  abbrev x : ℕ
  x = get_or row k 0

  split : (b : Bool) → lt (key kept) (key x) ≡ b → last_least key (take (suc k) row) ≡ cond b kept x
  split b t = pick_more (or_later key) row k h l ∙ ap (λ (c : Bool). cond c kept x) t

  -- above the least: it is not the one
  later-above : lt least sum ≡ true → last_least key (take (suc k) row) ≡ last_least key (take k row)
  later-above t = go (lt (key kept) (key x)) refl
    where
      go : (b : Bool) → lt (key kept) (key x) ≡ b → last_least key (take (suc k) row) ≡ last_least key (take k row)
      go true u = split true u
      go false u = absurd (clash (lt-itself (key x)) (sym (ap₂ lt (e ∙ ap key (split false u)) f) ∙ t))

  -- not above the least: it is the one
  later-least : lt least sum ≡ false → last_least key (take (suc k) row) ≡ get_or row k 0
  later-least t = go (lt (key kept) (key x)) refl
    where
      go : (b : Bool) → lt (key kept) (key x) ≡ b → last_least key (take (suc k) row) ≡ get_or row k 0
      go true u = absurd (clash (sym (ap₂ lt (e ∙ ap key (split true u)) f) ∙ t) u)
      go false u = split false u

-- of the first entry too: it is the least of one, and not above itself
pub not-above : (key : ℕ → Float) (row : List ℕ) (k : ℕ) {least sum : Float} → k < length row → least ≡ key (last_least key (take (suc k) row)) → sum ≡ key (get_or row k 0) → lt least sum ≡ true
    → last_least key (take (suc k) row) ≡ last_least key (take k row)
not-above key row zero l e f t = absurd (clash (lt-itself (key (get_or row 0 0))) (sym (ap₂ lt (e ∙ ap key (pick-one (or_later key) row l)) f) ∙ t))
not-above key row (suc k) l e f t = later-above key row (suc k) (omega arith) l e f t

pub least-here : (key : ℕ → Float) (row : List ℕ) (k : ℕ) {least sum : Float} → k < length row → least ≡ key (last_least key (take (suc k) row)) → sum ≡ key (get_or row k 0) → lt least sum ≡ false
    → last_least key (take (suc k) row) ≡ get_or row k 0
least-here key row zero l e f t = pick-one (or_later key) row l
least-here key row (suc k) l e f t = later-least key row (suc k) (omega arith) l e f t
