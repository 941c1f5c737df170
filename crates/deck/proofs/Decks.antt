-- Decks and configurations go over into each other, for every form that keeps the rules. Assumes nothing.
use mathlib.Core.Path.{◌≡◌, refl, sym, ap, ◌∙◌}
use mathlib.Core.Bool.{Bool, true, false, ◌&&◌, false≢true}
use mathlib.Core.List.{List, [], ◌∷◌, map}
use Prim.Native.Nat.{ℕ, ◌+◌, ◌≤◌, ◌<◌, ◌^◌}
use native.Mathlib.Omega.{arith}
use lib.Dec.{leb, eqb}
use lib.ListN.{length, length-map}
use borrow.Author.Tests.{leb-true, eqb-true, eq-eqb, le-leb}
use Rattle.lists.specs.Find.{any}
use Rattle.lists.proofs.Tests.{both, and_both}
use Rattle.deck.specs.Word.{kind_of, payload_of, word_of}
use Rattle.deck.specs.Form.{Form, Rules, HasWord, nothing, may_follow}
use Rattle.deck.specs.Deck.{is_first, follow, positions, words_fit, is_deck, configuration_of, stretches_of, deck_of, too_high}
use Rattle.deck.specs.declared.form.Stretch.{Stretch}
use Rattle.deck.proofs.Split.{kind-word, payload-word, word_split}
use Rattle.deck.proofs.Stretches.{Each, may-apart, laid-length, laid-stretches, follow-stretches, stretches-have-words, fewer-stretches, stretches-laid, strands-laid, sum-stretches}

-- what it is for words to fit, test by test
pub record Parts (form : Form) (test : ℕ → ℕ → Bool) (first : ℕ) (ss : List Stretch) : Type 0 where
  pub kind : kind_of first ≡ 1
  pub few : payload_of first ≤ 128
  pub follows : follow form nothing ss ≡ true
  pub sum : test (positions ss) (payload_of first) ≡ true

module _ (form : Form) where
  module _ (test : ℕ → ℕ → Bool) (first : ℕ) (rest : List ℕ) where
    pub fit_parts : words_fit form test first rest ≡ true → Parts form test first (map form.stretch_of rest)
    fit_parts f =
        let ss = map form.stretch_of rest in
        let p = both (is_first first) (follow form nothing ss && test (positions ss) (payload_of first)) f in
        let q = both (eqb (kind_of first) 1) (leb (payload_of first) 128) p.0 in
        let r = both (follow form nothing ss) (test (positions ss) (payload_of first)) p.1 in
        record { kind = eqb-true (kind_of first) 1 q.0; few = leb-true (payload_of first) 128 q.1; follows = r.0; sum = r.1 }

    pub parts-fit : Parts form test first (map form.stretch_of rest) → words_fit form test first rest ≡ true
    parts-fit p = and_both (and_both (eq-eqb (kind_of first) 1 p.kind) (le-leb (payload_of first) 128 p.few)) (and_both p.follows p.sum)

  -- a valid deck's parts, and its positions
  pub deck-parts : (first : ℕ) (rest : List ℕ) → is_deck form (first ∷ rest) ≡ true → Parts form eqb first (map form.stretch_of rest) × (positions (map form.stretch_of rest) ≡ payload_of first)
  unfolding is_deck
  deck-parts first rest d = let p = fit_parts eqb first rest d in (p, eqb-true (positions (map form.stretch_of rest)) (payload_of first) p.sum)

  pub configuration-few : (words : List ℕ) → is_deck form words ≡ true → length (configuration_of form words) ≤ 128
  unfolding is_deck configuration_of
  configuration-few [] d = absurd (false≢true d)
  configuration-few (first ∷ rest) d = let p = deck-parts first rest d in rw (laid-length (map form.stretch_of rest), p.1) p.0.few

  -- a first word, and a word for each position at most
  pub deck-length : (c : List ℕ) → length (deck_of form c) ≤ length c + 1
  unfolding deck_of
  deck-length c = rw (length-map (stretches_of form c) form.word_for) (omega (arith, fewer-stretches form c))

  module _ (rules : Rules form) where
    pub stretches-back : (ss : List Stretch) → Each (HasWord form) ss → positions ss ≤ 128 → map form.stretch_of (map form.word_for ss) ≡ ss
    unfolding positions
    stretches-back [] t h = refl
    stretches-back (s ∷ ss) t h = rw (rules.stretch-back s t.0 (omega arith), stretches-back ss t.1 (omega arith))

    pub words_back : (before : Stretch) (ws : List ℕ) → follow form before (map form.stretch_of ws) ≡ true
        → (map form.word_for (map form.stretch_of ws) ≡ ws) × Each (HasWord form) (map form.stretch_of ws)
    unfolding follow
    words_back before [] f = (refl, tt)
    words_back before (w ∷ ws) f =
        let p = both (may_follow form before (form.stretch_of w)) (follow form (form.stretch_of w) (map form.stretch_of ws)) f in
        let some : 1 ≤ (form.stretch_of w).run = leb-true 1 (form.stretch_of w).run (may-apart form before (form.stretch_of w) p.0).0 in
        let rest = words_back (form.stretch_of w) ws p.1 in
        (rw (rules.word_back w some, rest.0), (rules.has_word w some, rest.1))

    -- ---- a configuration's deck

    module _ (c : List ℕ) (few : length c ≤ 128) (strands : any too_high c ≡ false) where
      deck-stretches : map form.stretch_of (map form.word_for (stretches_of form c)) ≡ stretches_of form c
      deck-stretches = stretches-back (stretches_of form c) (stretches-have-words form c strands) (omega (arith, sum-stretches form c))

      small : length c < 2 ^ 28
      small = omega arith

      pub deck-valid : is_deck form (deck_of form c) ≡ true
      unfolding deck_of is_deck
      deck-valid =
          let split = payload-word 1 (length c) small in
          parts-fit eqb (word_of 1 (length c)) (map form.word_for (stretches_of form c))
          (record {
            kind = kind-word 1 (length c) small;
            few = omega arith;
            follows = rw deck-stretches (follow-stretches form c);
            sum = rw deck-stretches (eq-eqb (positions (stretches_of form c)) (payload_of (word_of 1 (length c))) (sum-stretches form c ∙ sym split));
          })

      pub deck-configuration : configuration_of form (deck_of form c) ≡ c
      unfolding deck_of configuration_of
      deck-configuration = rw deck-stretches (laid-stretches form c)

    -- ---- a valid deck's configuration

    module _ (first : ℕ) (rest : List ℕ) (valid : is_deck form (first ∷ rest) ≡ true) where
      pub configuration-strands : any too_high (configuration_of form (first ∷ rest)) ≡ false
      unfolding configuration_of
      configuration-strands = strands-laid form (map form.stretch_of rest) (words_back nothing rest (deck-parts first rest valid).0.follows).1

      pub configuration-deck : deck_of form (configuration_of form (first ∷ rest)) ≡ first ∷ rest
      unfolding configuration_of deck_of
      configuration-deck =
          let p = deck-parts first rest valid in
          let w = words_back nothing rest p.0.follows in
          let front : word_of 1 (payload_of first) ≡ first = ap (λ (k : ℕ). word_of k (payload_of first)) (sym p.0.kind) ∙ word_split first in
          rw (stretches-laid form nothing (map form.stretch_of rest) p.0.follows w.1, w.0, laid-length (map form.stretch_of rest), p.1, front)
