-- The pieces of a list, one by one. Assumes nothing.
use mathlib.Core.Path.{◌≡◌, subst, sym, ap, ◌∙◌}
use mathlib.Core.List.{List, ◌++◌, append_assoc, append-nil}
use Prim.Native.Nat.{ℕ, ◌+◌, ◌<◌, ◌≤◌}
use native.Mathlib.Numerals.{add-one}
use lib.ListN.{length, get_or, drop, drop_of_length-le}
use lib.Seq.{drop-cons}
use Rattle.std.specs.Prelude.{Option, Result, Ok, Err, OnOk}
use Rattle.std.specs.Io.KnownBytes.{Appends}
use Rattle.std.proofs.KnownBytes.{Appends-trans}
use Rattle.answers.specs.Text.{pieces}

module _ {A : Type 0} (text : ℕ → A → List ℕ) (items : List A) (i : ℕ) where
  piece_step : (d : A) → i < length items → pieces text i (drop i items) ≡ text i (get_or items i d) ++ pieces text (i + 1) (drop (i + 1) items)
  unfolding pieces
  piece_step d h = rw (drop-cons items i d h) (simp add-one)

  -- what is written, and the pieces that are left, are the whole after one more
  pub piece_more : (d : A) → i < length items → (xs whole : List ℕ) → xs ++ pieces text i (drop i items) ≡ whole
      → (xs ++ text i (get_or items i d)) ++ pieces text (i + 1) (drop (i + 1) items) ≡ whole
  piece_more d h xs whole e = append_assoc xs (text i (get_or items i d)) (pieces text (i + 1) (drop (i + 1) items)) ∙ ap (xs ++◌) (sym (piece_step d h)) ∙ e

  -- and all where none is left
  pub piece_past : length items ≤ i → (xs whole : List ℕ) → xs ++ pieces text i (drop i items) ≡ whole → xs ≡ whole
  unfolding pieces
  piece_past h xs whole e = sym (append-nil xs) ∙ rw (drop_of_length-le items h) at e

-- a write after what was written, where it succeeds; the text as it is called then
pub on_ok_after : {T E : Type 0} (a b c : Option (List ℕ)) (xs ys text : List ℕ) (r : Result T E) → xs ++ ys ≡ text → Appends a b xs → OnOk r (Appends b c ys) → OnOk r (Appends a c text)
on_ok_after a b c xs ys text (Ok x) e p q = subst (Appends a c) e (Appends-trans a b c xs ys p q)
on_ok_after a b c xs ys text (Err x) e p q = tt

-- five texts, one after the other
pub nested : (a b c d e : List ℕ) → (((a ++ b) ++ c) ++ d) ++ e ≡ a ++ (b ++ (c ++ (d ++ e)))
nested a b c d e = simp append_assoc

-- seven texts and one more
pub joined : (a b c d e f g h : List ℕ) → (a ++ (b ++ (c ++ (d ++ (e ++ (f ++ g)))))) ++ h ≡ a ++ (b ++ (c ++ (d ++ (e ++ (f ++ (g ++ h))))))
joined a b c d e f g h = simp append_assoc

-- a list between its head, which holds a name, and its end
pub wrapped : (a name b end : List ℕ) {xs ys : List ℕ} → xs ≡ ys → ((a ++ (name ++ b)) ++ xs) ++ end ≡ a ++ (name ++ (b ++ (ys ++ end)))
wrapped a name b end {xs = xs} {ys = ys} e = rw e (simp append_assoc)

-- more behind a head
pub appends_more : (a b c : Option (List ℕ)) (head xs ys : List ℕ) → Appends a b (head ++ xs) → Appends b c ys → Appends a c (head ++ (xs ++ ys))
appends_more a b c head xs ys p q = subst (Appends a c) (append_assoc head xs ys) (Appends-trans a b c (head ++ xs) ys p q)
