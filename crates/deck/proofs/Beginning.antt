-- The test for a beginning of a valid deck says what it should, and so does the place, for every form that keeps the rules. Assumes nothing.
use mathlib.Core.Path.{◌≡◌, refl, sym, ap, ◌∙◌}
use mathlib.Core.Logic.{◌↔◌}
use mathlib.Core.Bool.{Bool, true, false, cond, ◌&&◌, true≢false}
use mathlib.Core.List.{List, [], ◌∷◌, ◌++◌, map, map-append}
use Prim.Native.Nat.{ℕ, zero, suc, ◌+◌, ◌-◌, ◌≤◌}
use native.Mathlib.Numerals.{add-one}
use native.Mathlib.Omega.{arith}
use lib.Dec.{leb, eqb}
use lib.ListN.{length, take, get_or, replicate, length-replicate}
use borrow.Author.Tests.{leb-true, eqb-true, eq-eqb, le-leb, not-true, not-false}
use Rattle.lists.specs.Find.{any}
use Rattle.lists.specs.Front.{beginnings}
use Rattle.lists.proofs.Tests.{both, and_both}
use Rattle.lists.proofs.Find.{any-replicate, first-le, fails-before, passes-first}
use Rattle.lists.proofs.Front.{length-beginnings, get_or-beginnings}
use Rattle.deck.specs.Word.{payload_of}
use Rattle.deck.specs.Form.{Form, Rules, nothing, same_run}
use Rattle.deck.specs.Deck.{follow, positions, is_deck, CanBegin, begins, does_not_begin, misfit_of, FirstMisfit, stretches_of, deck_of, too_high}
use Rattle.deck.specs.declared.form.Stretch.{Stretch}
use Rattle.deck.proofs.Stretches.{last_of, positions-append, laid-length, laid-stretches, follow-append, follow-first, stretches-have-words}
use Rattle.deck.proofs.Decks.{Parts, fit_parts, parts-fit, deck-parts, stretches-back, deck-valid}

module _ (form : Form) where
  -- a valid deck's beginnings pass
  begins-if : (words : List ℕ) → CanBegin form words → begins form words ≡ true
  unfolding begins
  begins-if [] c = refl
  begins-if (first ∷ ws) (rest, d) =
      let p = deck-parts form first (ws ++ rest) d in
      let ss = map form.stretch_of ws in
      let ts = map form.stretch_of rest in
      let m : map form.stretch_of (ws ++ rest) ≡ ss ++ ts = map-append form.stretch_of ws rest in
      let f : (follow form nothing ss && follow form (last_of nothing ss) ts) ≡ true = sym (follow-append form nothing ss ts) ∙ ap (follow form nothing) (sym m) ∙ p.0.follows in
      let s : positions ss + positions ts ≡ payload_of first = sym (positions-append ss ts) ∙ ap positions (sym m) ∙ p.1 in
      parts-fit form leb first ws
      (record {
        kind = p.0.kind;
        few = p.0.few;
        follows = (both (follow form nothing ss) (follow form (last_of nothing ss) ts) f).0;
        sum = le-leb (positions ss) (payload_of first) (omega arith);
      })

  -- a strand other than this occupant
  other : ℕ → ℕ
  other o = cond (eqb o 1) 2 1

  other-apart : (o : ℕ) → same_run form o (other o) ≡ false
  unfolding other
  other-apart o = go (eqb o 1) refl
    where
      go : (t : Bool) → eqb o 1 ≡ t → same_run form o (cond t 2 1) ≡ false
      go true e = rw (eqb-true o 1 e)
      go false e = rw e

  other-low : (o : ℕ) → too_high (other o) ≡ false
  unfolding other
  other-low o = go (eqb o 1)
    where
      go : (t : Bool) → too_high (cond t 2 1) ≡ false
      go true = refl
      go false = refl

  -- positions that all hold a strand other than the last occupant may follow
  follow-other : (last : Stretch) (n : ℕ) → follow form last (stretches_of form (replicate n (other last.occupant))) ≡ true
  unfolding follow stretches_of
  follow-other last zero = refl
  follow-other last (suc n) = follow-first form last (other last.occupant) (replicate n (other last.occupant)) (other-apart last.occupant)

  module _ (rules : Rules form) where
    -- the missing positions, all with one strand, make a beginning a valid deck
    completed : (first : ℕ) (ws : List ℕ) → Parts form leb first (map form.stretch_of ws) → CanBegin form (first ∷ ws)
    unfolding is_deck
    completed first ws p =
        let ss = map form.stretch_of ws in
        let left = payload_of first - positions ss in
        let last = last_of nothing ss in
        let strand = other last.occupant in
        let c = replicate left strand in
        let ts = stretches_of form c in
        let few = p.few in
        let enough = leb-true (positions ss) (payload_of first) p.sum in
        let n : positions ts ≡ left = sym (laid-length ts) ∙ ap length (laid-stretches form c) ∙ length-replicate left strand in
        let back : map form.stretch_of (map form.word_for ts) ≡ ts =
        stretches-back form rules ts (stretches-have-words form c (any-replicate too_high left strand (other-low last.occupant))) (omega arith) in
        let m : map form.stretch_of (ws ++ map form.word_for ts) ≡ ss ++ ts = map-append form.stretch_of ws (map form.word_for ts) ∙ ap (ss ++◌) back in
        let sum : positions (ss ++ ts) ≡ payload_of first = positions-append ss ts ∙ omega arith in (
          map form.word_for ts,
          parts-fit form eqb first (ws ++ map form.word_for ts)
              (record {
                kind = p.kind;
                few = p.few;
                follows = ap (follow form nothing) m ∙ follow-append form nothing ss ts ∙ and_both p.follows (follow-other last left);
                sum = eq-eqb (positions (map form.stretch_of (ws ++ map form.word_for ts))) (payload_of first) (ap positions m ∙ sum);
              }),
        )

    -- what passes is the beginning of a valid deck
    begins-only-if : (words : List ℕ) → begins form words ≡ true → CanBegin form words
    unfolding begins any
    begins-only-if [] b = (deck_of form [], deck-valid form rules [] (omega arith) refl)
    begins-only-if (first ∷ ws) b = completed first ws (fit_parts form leb first ws b)

    pub begins-right : (words : List ℕ) → (begins form words ≡ true) ↔ CanBegin form words
    begins-right words = (begins-only-if words, begins-if words)

    -- the place is the first word with which no valid deck can begin so, and the word count if every word fits
    pub misfit-right : (words : List ℕ) → FirstMisfit form words (misfit_of form words)
    unfolding misfit_of
    misfit-right words =
        let i = misfit_of form words in
        let bs = beginnings words in
        let l = length-beginnings words in
        let u : i ≤ length words = rw l at (first-le (does_not_begin form) bs) in
        record {
          within = u;
          fits = λ k h.
              let here : begins form (get_or bs k []) ≡ true = not-false (begins form (get_or bs k [])) (fails-before (does_not_begin form) [] bs k h) in
              begins-only-if (take (k + 1) words) (rw (add-one, ← get_or-beginnings words k (omega arith)) here);
          misfit = λ h c.
              let here : begins form (get_or bs i []) ≡ false = not-true (begins form (get_or bs i [])) (passes-first (does_not_begin form) [] bs (rw l h)) in
              true≢false (sym (begins-if (take (i + 1) words) c) ∙ rw (add-one, ← get_or-beginnings words i h) here);
        }
