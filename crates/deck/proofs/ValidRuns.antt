-- `is_deck` of the form with runs is the test for document 02's rules, taken one by one. Assumes nothing.
use mathlib.Core.Path.{◌≡◌, refl, sym, ap, subst, ◌∙◌}
use mathlib.Core.Bool.{true, false, true≢false}
use mathlib.Core.List.{List, [], ◌∷◌, ◌++◌, map}
use mathlib.Core.Logic.{◌↔◌}
use Prim.Native.Nat.{ℕ, ◌+◌, ◌-◌, ◌*◌, ◌/◌, ◌%◌, ◌≤◌}
use native.Mathlib.Omega.{arith}
use borrow.Author.Tests.{eq-eqb, ne_eqb}
use Rattle.deck.specs.Word.{kind_of, payload_of}
use Rattle.deck.specs.Form.{runs, stretch, same_run}
use Rattle.deck.specs.Deck.{positions, is_deck}
use Rattle.deck.specs.ValidRuns.{StrandRun, EmptyRun, Total, none, strands, empties, ValidRuns}
use Rattle.deck.specs.declared.form.Stretch.{Stretch}
use Rattle.deck.proofs.Split.{kind-word, payload-word}
use Rattle.deck.proofs.Runs.{word-cases}
use Rattle.deck.proofs.Neighbours.{Neighbours, right-one, divided, deck-of-divided}

-- ---- a word by the rules, and in the form

-- what the rules say of a word that stands for a stretch
data Rule (word : ℕ) (s : Stretch) : Type 0 where
  of-strand : StrandRun word s.occupant s.run → Rule word s
  of-empties : EmptyRun word s.run → s.occupant ≡ 0 → Rule word s

rule : (word : ℕ) → 1 ≤ (runs.stretch_of word).run → Rule word (runs.stretch_of word)
rule word =
    word-cases Rule word
    (λ strand run h k l f. of-strand (record { kind = kind-word 4 (strand + 64 * (run - 1)) f; least = h; most = k; some = l; payload = payload-word 4 (strand + 64 * (run - 1)) f }))
    (λ run h f. of-empties (record { kind = kind-word 3 run f; some = h; payload = payload-word 3 run f }) refl)

strand-stretch : {word strand run : ℕ} → StrandRun word strand run → runs.stretch_of word ≡ stretch strand run
strand-stretch {word} {strand} {run} r =
    let l = r.least in
    let h = r.most in
    let k = r.some in
    let p = r.payload in
    let a : payload_of word % 64 ≡ strand = omega arith in
    let b : payload_of word / 64 + 1 ≡ run = omega arith in
    rw (r.kind, a, b, ne_eqb strand 0 (λ e. omega arith))

empty-stretch : {word run : ℕ} → EmptyRun word run → runs.stretch_of word ≡ stretch 0 run
empty-stretch r = rw (r.kind, r.payload)

empty-occupant : (word : ℕ) → kind_of word ≡ 3 → (runs.stretch_of word).occupant ≡ 0
empty-occupant word k = rw k

-- ---- from the test to the rules

-- words of the form have as many positions as their stretches
to-total : (words : List ℕ) → ((front back : List ℕ) (word : ℕ) → words ≡ front ++ word ∷ back → 1 ≤ (runs.stretch_of word).run) → Total words (positions (map runs.stretch_of words))
unfolding positions
to-total [] each = none
to-total (w ∷ ws) each = go (rule w (each [] ws w refl)) (to-total ws (λ front back word e. each (w ∷ front) back word (ap (w ∷◌) e)))
  where
    go : Rule w (runs.stretch_of w) → Total ws (positions (map runs.stretch_of ws)) → Total (w ∷ ws) ((runs.stretch_of w).run + positions (map runs.stretch_of ws))
    go (of-strand r) t = strands r t
    go (of-empties r e) t = empties r t

-- words of one occupant are of one run
same-occupant : (left right : ℕ) → (runs.stretch_of left).occupant ≡ (runs.stretch_of right).occupant → same_run runs (runs.stretch_of left).occupant (runs.stretch_of right).occupant ≡ false → ⊥
same-occupant left right e f = true≢false (sym (rw (eq-eqb (runs.stretch_of left).occupant (runs.stretch_of right).occupant e)) ∙ f)

to-rules : (words : List ℕ) → is_deck runs words ≡ true → ValidRuns words
to-rules words d =
    let w = divided runs words d in
    let n = w.neighbours in
    record {
      first = w.first;
      rest = w.rest;
      split = w.split;
      kind = w.kind;
      most = w.most;
      sum = subst (Total w.rest) w.sum (to-total w.rest n.each);
      differ = λ front back left right strand r s e l m.
          same-occupant left right (ap (λ (t : Stretch). t.occupant) (strand-stretch l) ∙ sym (ap (λ (t : Stretch). t.occupant) (strand-stretch m))) (n.apart front back left right e);
      apart = λ front back left right e k l. same-occupant left right (empty-occupant left k ∙ sym (empty-occupant right l)) (n.apart front back left right e);
    }

-- ---- from the rules to the test

-- the rules of a word among others
from-total : {total : ℕ} (front back : List ℕ) (word : ℕ) → Total (front ++ word ∷ back) total → Rule word (runs.stretch_of word)
from-total [] back word (strands r t) = of-strand (rw (strand-stretch r) r)
from-total [] back word (empties r t) = of-empties (rw (empty-stretch r) r) (rw (empty-stretch r))
from-total (w ∷ front) back word (strands {run = run} {rest-total = rest-total} r t) = from-total {total = rest-total} front back word t
from-total (w ∷ front) back word (empties {run = run} {rest-total = rest-total} r t) = from-total {total = rest-total} front back word t

total-positions : {words : List ℕ} {total : ℕ} → Total words total → positions (map runs.stretch_of words) ≡ total
unfolding positions
total-positions none = refl
total-positions (strands r t) = rw (strand-stretch r, total-positions t)
total-positions (empties r t) = rw (empty-stretch r, total-positions t)

some-position : {word : ℕ} → Rule word (runs.stretch_of word) → 1 ≤ (runs.stretch_of word).run
some-position (of-strand r) = r.some
some-position (of-empties r e) = r.some

-- neighbours by the rules are not of one run
not_same : (left right : ℕ) → Rule left (runs.stretch_of left) → Rule right (runs.stretch_of right)
    → ((strand left_run right_run : ℕ) → StrandRun left strand left_run → StrandRun right strand right_run → ⊥)
    → (kind_of left ≡ 3 → kind_of right ≡ 3 → ⊥)
    → same_run runs (runs.stretch_of left).occupant (runs.stretch_of right).occupant ≡ false
not_same left right l r differ apart = rw (ne_eqb (runs.stretch_of left).occupant (runs.stretch_of right).occupant (same l r))
  where
    same : Rule left (runs.stretch_of left) → Rule right (runs.stretch_of right) → (runs.stretch_of left).occupant ≡ (runs.stretch_of right).occupant → ⊥
    same (of-strand l) (of-strand r) e = differ (runs.stretch_of left).occupant (runs.stretch_of left).run (runs.stretch_of right).run l (rw e r)
    same (of-strand l) (of-empties r z) e = let h = l.least in omega arith
    same (of-empties l z) (of-strand r) e = let h = r.least in omega arith
    same (of-empties l y) (of-empties r z) e = apart l.kind r.kind

to-test : (words : List ℕ) → ValidRuns words → is_deck runs words ≡ true
to-test words v =
    let each : (front back : List ℕ) (word : ℕ) → v.rest ≡ front ++ word ∷ back → Rule word (runs.stretch_of word) =
    λ front back word e. from-total front back word (rw e at v.sum) in
    let n : Neighbours runs v.rest =
    record {
      each = λ front back word e. some-position (each front back word e);
      apart = λ front back left right e.
          not_same left right (each front (right ∷ back) left e) (each (front ++ left ∷ []) back right (right-one front back left right e))
          (λ strand l r. v.differ front back left right strand l r e)
          (v.apart front back left right e);
    } in
    deck-of-divided runs words (record { first = v.first; rest = v.rest; split = v.split; kind = v.kind; most = v.most; neighbours = n; sum = total-positions v.sum })

pub valid-runs-right : (words : List ℕ) → (is_deck runs words ≡ true) ↔ ValidRuns words
valid-runs-right words = (to-rules words, to-test words)
