-- Laying out the stretches that words stand for, one after the other. Assumes nothing.
use mathlib.Core.Path.{◌≡◌, refl, ◌∙◌}
use mathlib.Core.List.{List, [], ◌++◌, map}
use Prim.Native.Nat.{ℕ, ◌+◌, ◌≤◌, ◌<◌}
use native.Mathlib.Numerals.{add-one}
use native.Mathlib.Omega.{arith}
use lib.ListN.{length, get_or, drop, replicate, length-append, length-replicate, drop_of_length-le}
use lib.Seq.{drop-cons, sets}
use borrow.Author.Tests.{leb-false}
use Rattle.std.specs.Prelude.{None}
use Rattle.lists.proofs.Front.{sets-append}
use Rattle.deck.specs.Form.{Form}
use Rattle.deck.specs.Deck.{laid_out}
use Rattle.deck.specs.inner.Found.{found}
use Rattle.deck.specs.declared.form.Stretch.{Stretch}
use Rattle.deck.proofs.Found.{none-found}

module _ (form : Form) (words : List ℕ) (i : ℕ) where
  -- what is laid out by the words from place i on
  abbrev pub laid_from : List ℕ
  laid_from = laid_out (map form.stretch_of (drop i words))

  pub laid-past : length words ≤ i → laid_from ≡ []
  unfolding laid_out
  laid-past h = rw (drop_of_length-le words h)

  module _ (h : i < length words) (s : Stretch) (e : s ≡ form.stretch_of (get_or words i 0)) where
    laid_word : laid_from ≡ replicate s.run s.occupant ++ laid_out (map form.stretch_of (drop (i + 1) words))
    unfolding laid_out
    laid_word = rw (add-one, drop-cons words i 0 h, e)

    pub laid-length : length laid_from ≡ s.run + length (laid_out (map form.stretch_of (drop (i + 1) words)))
    laid-length = rw (laid_word, length-append, length-replicate)

    pub laid_more : (entries : List ℕ) (at : ℕ) → sets (sets entries at (replicate s.run s.occupant)) (at + s.run) (laid_out (map form.stretch_of (drop (i + 1) words))) ≡ sets entries at laid_from
    laid_more entries at = rw (laid_word, sets-append, length-replicate)

  -- a word that stands for nothing lays nothing out
  pub laid-none : i < length words → found (form.stretch_of (get_or words i 0)) ≡ None → laid_from ≡ laid_out (map form.stretch_of (drop (i + 1) words))
  laid-none h e =
      let s = form.stretch_of (get_or words i 0) in
      let none : s.run ≡ 0 = omega (arith, leb-false 1 s.run (none-found s e)) in
      laid_word h s refl ∙ rw none refl
