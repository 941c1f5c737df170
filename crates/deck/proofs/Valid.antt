-- `is_deck` of document 01's form is the test for the document's rules, taken one by one. Assumes nothing.
use mathlib.Core.Path.{◌≡◌, refl, sym, ap, ◌∙◌}
use mathlib.Core.Bool.{Bool, true, false, ◌&&◌, true≢false}
use mathlib.Core.List.{List, [], ◌∷◌, ◌++◌, map}
use mathlib.Core.Logic.{◌↔◌}
use Prim.Native.Nat.{ℕ, ◌≤◌, ◌<◌, ◌^◌}
use native.Mathlib.Omega.{arith}
use lib.Dec.{eqb}
use borrow.Author.Tests.{le-leb, eqb-true, eq-eqb, ne_eqb}
use Rattle.lists.proofs.Tests.{and_both}
use Rattle.deck.specs.Word.{kind_of, payload_of}
use Rattle.deck.specs.Form.{singles, same_run}
use Rattle.deck.specs.Deck.{positions, is_deck}
use Rattle.deck.specs.Valid.{StrandOrEmpties, strand, empties, positions_of, total, ValidDeck}
use Rattle.deck.specs.declared.form.Stretch.{Stretch}
use Rattle.deck.proofs.Split.{kind-word, payload-word}
use Rattle.deck.proofs.Singles.{word-cases, same-run-empties}
use Rattle.deck.proofs.Neighbours.{Neighbours, right-one, divided, deck-of-divided}

-- what the rules say of a word, and what the form does
record Same (word : ℕ) (s : Stretch) : Type 0 where
  rule : StrandOrEmpties word
  run : positions_of word ≡ s.run
  empty : eqb s.occupant 0 ≡ eqb (kind_of word) 3

same : (word : ℕ) → 1 ≤ (singles.stretch_of word).run → Same word (singles.stretch_of word)
same word =
    word-cases Same word
    (λ n h k.
    let f : n < 2 ^ 28 = omega arith in
    let p = payload-word 2 n f in
    let e = kind-word 2 n f in
    record { rule = strand e (omega arith) (omega arith); run = rw e; empty = rw e (ne_eqb n 0 (λ z. omega arith)) })
    (λ n h k.
    let p = payload-word 3 n k in
    let e = kind-word 3 n k in
    record { rule = empties e (omega arith); run = rw (e, p); empty = rw e })

rule-word : (word : ℕ) → StrandOrEmpties word → 1 ≤ (singles.stretch_of word).run
rule-word word (strand k l h) = rw (k, le-leb 1 (payload_of word) l, le-leb (payload_of word) 63 h) (omega arith)
rule-word word (empties k l) = rw k l

-- words of kind 3 stand for positions of one run, and no others do
module _ {left right : ℕ} (l : Same left (singles.stretch_of left)) (r : Same right (singles.stretch_of right)) where
  same-run-words : same_run singles (singles.stretch_of left).occupant (singles.stretch_of right).occupant ≡ (eqb (kind_of left) 3 && eqb (kind_of right) 3)
  same-run-words = same-run-empties (singles.stretch_of left).occupant (singles.stretch_of right).occupant ∙ rw (l.empty, r.empty)

total-positions : (words : List ℕ) → ((front back : List ℕ) (word : ℕ) → words ≡ front ++ word ∷ back → 1 ≤ (singles.stretch_of word).run) → total words ≡ positions (map singles.stretch_of words)
unfolding total positions
total-positions [] each = refl
total-positions (w ∷ ws) each =
    rw ((same w (each [] ws w refl)).run, total-positions ws (λ front back word e. each (w ∷ front) back word (ap (w ∷◌) e)))

-- ---- from the test to the rules

to-rules : (words : List ℕ) → is_deck singles words ≡ true → ValidDeck words
to-rules words d =
    let w = divided singles words d in
    let n = w.neighbours in
    record {
      first = w.first;
      rest = w.rest;
      split = w.split;
      kind = w.kind;
      most = w.most;
      each = λ front back word e. (same word (n.each front back word e)).rule;
      apart = λ front back left right e k l.
          let t = same-run-words (same left (n.each front (right ∷ back) left e)) (same right (n.each (front ++ left ∷ []) back right (right-one front back left right e))) in
          true≢false (sym (and_both (eq-eqb (kind_of left) 3 k) (eq-eqb (kind_of right) 3 l)) ∙ sym t ∙ n.apart front back left right e);
      sum = total-positions w.rest n.each ∙ w.sum;
    }

-- ---- from the rules to the test

not-both : {k l : ℕ} (a : Bool) → eqb k 3 ≡ a → (b : Bool) → eqb l 3 ≡ b → (k ≡ 3 → l ≡ 3 → ⊥) → (a && b) ≡ false
not-both {k} {l} true p true q n = absurd (n (eqb-true k 3 p) (eqb-true l 3 q))
not-both true p false q n = refl
not-both false p b q n = refl

rules-neighbours : (words : List ℕ) (v : ValidDeck words) → Neighbours singles v.rest
rules-neighbours words v =
    let each : (front back : List ℕ) (word : ℕ) → v.rest ≡ front ++ word ∷ back → 1 ≤ (singles.stretch_of word).run = λ front back word e. rule-word word (v.each front back word e) in
    record {
      each = each;
      apart = λ front back left right e.
          rw (same-run-words (same left (each front (right ∷ back) left e)) (same right (each (front ++ left ∷ []) back right (right-one front back left right e))))
          (not-both (eqb (kind_of left) 3) refl (eqb (kind_of right) 3) refl (v.apart front back left right e));
    }

to-test : (words : List ℕ) → ValidDeck words → is_deck singles words ≡ true
to-test words v =
    let n = rules-neighbours words v in
    deck-of-divided singles words (record { first = v.first; rest = v.rest; split = v.split; kind = v.kind; most = v.most; neighbours = n; sum = sym (total-positions v.rest n.each) ∙ v.sum })

pub valid-right : (words : List ℕ) → (is_deck singles words ≡ true) ↔ ValidDeck words
valid-right words = (to-rules words, to-test words)
