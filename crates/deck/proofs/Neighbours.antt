-- What it is for words to follow one another, word by word and neighbour by neighbour, in any form. Assumes nothing.
use mathlib.Core.Path.{◌≡◌, refl, sym, ap, ◌∙◌}
use mathlib.Core.Bool.{true, false, ◌&&◌, and-false, false≢true}
use mathlib.Core.List.{List, [], ◌∷◌, ◌++◌, map, append_assoc}
use Prim.Native.Nat.{ℕ, ◌≤◌}
use lib.Dec.{eqb}
use borrow.Author.Tests.{leb-true, le-leb, eq-eqb}
use Rattle.lists.proofs.Tests.{both, and_both}
use Rattle.deck.specs.Form.{Form, nothing, something, same_run, may_follow}
use Rattle.deck.specs.Word.{kind_of, payload_of}
use Rattle.deck.specs.Deck.{follow, positions, is_deck}
use Rattle.deck.specs.declared.form.Stretch.{Stretch}
use Rattle.deck.proofs.Stretches.{may, may-apart}
use Rattle.deck.proofs.Decks.{deck-parts, parts-fit}

-- the right one of two neighbours is a word too
pub right-one : {words : List ℕ} (front back : List ℕ) (left right : ℕ) → words ≡ front ++ left ∷ right ∷ back → words ≡ (front ++ left ∷ []) ++ right ∷ back
right-one front back left right e = e ∙ sym (append_assoc front (left ∷ []) (right ∷ back))

module _ (form : Form) where
  -- each word is one of the form, and no two neighbours are of one run
  pub record Neighbours (words : List ℕ) : Type 0 where
    pub each : (front back : List ℕ) (word : ℕ) → words ≡ front ++ word ∷ back → 1 ≤ (form.stretch_of word).run
    pub apart : (front back : List ℕ) (left right : ℕ) → words ≡ front ++ left ∷ right ∷ back → same_run form (form.stretch_of left).occupant (form.stretch_of right).occupant ≡ false

  -- a word and what follows it
  record Head (before : Stretch) (word : ℕ) (rest : List ℕ) : Type 0 where
    some : something (form.stretch_of word) ≡ true
    apart : (something before && same_run form before.occupant (form.stretch_of word).occupant) ≡ false
    follows : follow form (form.stretch_of word) (map form.stretch_of rest) ≡ true

  head : (before : Stretch) (word : ℕ) (rest : List ℕ) → follow form before (map form.stretch_of (word ∷ rest)) ≡ true → Head before word rest
  unfolding follow
  head before word rest f =
      let s = form.stretch_of word in
      let p = both (may_follow form before s) (follow form s (map form.stretch_of rest)) f in
      let q = may-apart form before s p.0 in
      record { some = q.0; apart = q.1; follows = p.1 }

  each_word : (before : Stretch) (front back : List ℕ) (word : ℕ) → follow form before (map form.stretch_of (front ++ word ∷ back)) ≡ true → 1 ≤ (form.stretch_of word).run
  each_word before [] back word f = leb-true 1 (form.stretch_of word).run (head before word back f).some
  each_word before (w ∷ front) back word f = each_word (form.stretch_of w) front back word (head before w (front ++ word ∷ back) f).follows

  each_two : (before : Stretch) (front back : List ℕ) (left right : ℕ) → follow form before (map form.stretch_of (front ++ left ∷ right ∷ back)) ≡ true
      → same_run form (form.stretch_of left).occupant (form.stretch_of right).occupant ≡ false
  each_two before [] back left right f =
      let l = head before left (right ∷ back) f in
      rw l.some at (head (form.stretch_of left) right back l.follows).apart
  each_two before (w ∷ front) back left right f = each_two (form.stretch_of w) front back left right (head before w (front ++ left ∷ right ∷ back) f).follows

  pub follow-neighbours : (words : List ℕ) → follow form nothing (map form.stretch_of words) ≡ true → Neighbours words
  follow-neighbours words f =
      record {
        each = λ front back word e. each_word nothing front back word (rw e at f);
        apart = λ front back left right e. each_two nothing front back left right (rw e at f);
      }

  from-neighbours : (before : Stretch) (words : List ℕ) → Neighbours words
      → ((word : ℕ) (rest : List ℕ) → words ≡ word ∷ rest → (something before && same_run form before.occupant (form.stretch_of word).occupant) ≡ false)
      → follow form before (map form.stretch_of words) ≡ true
  unfolding follow
  from-neighbours before [] n first = refl
  from-neighbours before (w ∷ ws) n first =
      let s = form.stretch_of w in
      and_both (may form before s (le-leb 1 s.run (n.each [] ws w refl)) (first w ws refl))
      (from-neighbours s ws
      (record {
        each = λ front back word e. n.each (w ∷ front) back word (ap (w ∷◌) e);
        apart = λ front back left right e. n.apart (w ∷ front) back left right (ap (w ∷◌) e);
      })
      (λ v rest e. rw (n.apart [] rest w v (ap (w ∷◌) e)) (and-false (something s))))

  pub neighbours-follow : (words : List ℕ) → Neighbours words → follow form nothing (map form.stretch_of words) ≡ true
  neighbours-follow words n = from-neighbours nothing words n (λ word rest e. refl)

  -- a valid deck: its first word, and the words after it
  pub record Divided (words : List ℕ) : Type 0 where
    pub first : ℕ
    pub rest : List ℕ
    pub split : words ≡ first ∷ rest
    pub kind : kind_of first ≡ 1
    pub most : payload_of first ≤ 128
    pub neighbours : Neighbours rest
    pub sum : positions (map form.stretch_of rest) ≡ payload_of first

  pub divided : (words : List ℕ) → is_deck form words ≡ true → Divided words
  unfolding is_deck
  divided [] d = absurd (false≢true d)
  divided (first ∷ rest) d =
      let p = deck-parts form first rest d in
      record { first = first; rest = rest; split = refl; kind = p.0.kind; most = p.0.few; neighbours = follow-neighbours rest p.0.follows; sum = p.1 }

  pub deck-of-divided : (words : List ℕ) → Divided words → is_deck form words ≡ true
  unfolding is_deck
  deck-of-divided words w =
      rw w.split
      (parts-fit form eqb w.first w.rest
      (record { kind = w.kind; few = w.most; follows = neighbours-follow w.rest w.neighbours; sum = eq-eqb (positions (map form.stretch_of w.rest)) (payload_of w.first) w.sum }))
