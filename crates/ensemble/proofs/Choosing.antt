-- A loop over a row of strands that keeps one of them, with what it is compared as. Assumes nothing.
use mathlib.Core.Path.{◌≡◌, refl, sym, ap, ◌∙◌}
use mathlib.Core.Bool.{true, false}
use mathlib.Core.List.{List, [], ◌∷◌}
use Prim.Native.Nat.{ℕ, ◌+◌, ◌<◌, ◌≤◌}
use native.Mathlib.Nat.{not-suc-le-zero}
use native.Mathlib.Numerals.{add-one}
use native.Mathlib.Omega.{arith}
use lib.ListN.{length, get_or, drop, drop_of_length-le}
use lib.Seq.{drop-cons}
use lib.Ieee.{Float, lt}
use Rattle.lists.specs.Fold.{foldl}
use Rattle.doubles.specs.Decimal as Decimal
use Rattle.doubles.specs.Least.{or_earlier, pick}
use Rattle.ensemble.specs.inner.Entries.{key_of, Chosen}

-- of the strands before k, the one kept
pub record Kept (better : ℕ → ℕ → ℕ) (key : ℕ → Float) (row : List ℕ) (k strand : ℕ) (energy : Float) : Type 0 where
  pub picks : pick better row ≡ foldl better strand (drop k row)
  pub energy-is : energy ≡ key strand

pub kept-first : (better : ℕ → ℕ → ℕ) (key : ℕ → Float) (row : List ℕ) {energy : Float} → 0 < length row → energy ≡ key (get_or row 0 0) → Kept better key row 1 (get_or row 0 0) energy
unfolding pick
kept-first better key [] h e = absurd (not-suc-le-zero h)
kept-first better key (x ∷ row) h e = record { picks = refl; energy-is = e }

-- one strand more, and the one kept of the two
pub kept_more : {better : ℕ → ℕ → ℕ} {key : ℕ → Float} {row : List ℕ} {k strand next : ℕ} {energy least : Float} → Kept better key row k strand energy → k < length row
    → next ≡ better strand (get_or row k 0) → least ≡ key next → Kept better key row (k + 1) next least
unfolding foldl
kept_more {better} {key} {row} {k} w h e f = record { picks = w.picks ∙ rw (drop-cons row k 0 h, e, add-one) refl; energy-is = f }

module _ (key : ℕ → Float) {kept x : ℕ} {energy new : Float} (e : energy ≡ key kept) (f : new ≡ key x) where
  -- among equals the earlier
  pub earlier-moves : lt new energy ≡ true → x ≡ or_earlier key kept x
  earlier-moves t = let s : lt (key x) (key kept) ≡ true = rw (e, f) at t in rw s

  pub earlier-stays : lt new energy ≡ false → kept ≡ or_earlier key kept x
  earlier-stays t = let s : lt (key x) (key kept) ≡ false = rw (e, f) at t in rw s

pub some_key : (key : ℕ → Float) (row : List ℕ) (x : ℕ) → 0 < length row → key_of key row x ≡ key x
unfolding key_of
some_key key [] x h = absurd (not-suc-le-zero h)
some_key key (y ∷ row) x h = refl

-- all were seen
pub kept-chosen : {better : ℕ → ℕ → ℕ} {key : ℕ → Float} {row : List ℕ} {k strand : ℕ} {energy : Float} → Kept better key row k strand energy → length row ≤ k → 0 < length row
    → Chosen key row (pick better row) (record { strand = strand; energy = energy })
unfolding foldl
kept-chosen {better} {key} {row} {k} {strand} w h some =
    let same : pick better row ≡ strand = w.picks ∙ rw (drop_of_length-le row h) refl in
    record { strand = sym same; energy = w.energy-is ∙ ap key (sym same) ∙ sym (some_key key row (pick better row) some) }

-- there was none
pub none-chosen : (better : ℕ → ℕ → ℕ) (key : ℕ → Float) (row : List ℕ) → length row ≡ 0 → Chosen key row (pick better row) (record { strand = 0; energy = Decimal.zero })
unfolding pick key_of
none-chosen better key [] e = record { strand = refl; energy = refl }
none-chosen better key (x ∷ row) e = absurd (omega arith)
