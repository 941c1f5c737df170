-- Document 01's form keeps the rules of a form. Assumes nothing.
use mathlib.Core.Path.{◌≡◌, refl, sym, ap, ◌∙◌, subst}
use mathlib.Core.Bool.{Bool, true, false, cond, ◌&&◌, and-false}
use Prim.Native.Nat.{ℕ, ◌≤◌, ◌<◌, ◌^◌}
use native.Mathlib.Omega.{arith}
use lib.Dec.{leb, eqb}
use borrow.Author.Tests.{leb-true, eqb-true, eqb-false, ne_eqb, le-leb}
use Rattle.lists.proofs.Tests.{both}
use Rattle.deck.specs.Word.{kind_of, payload_of, word_of}
use Rattle.deck.specs.Form.{HasWord, Rules, singles, stretch, nothing, same_run, one_strand, empties}
use Rattle.deck.specs.declared.form.Stretch.{Stretch}
use Rattle.deck.proofs.Split.{kind-word, payload-word, word_split}

-- only empties stand in runs
pub same-run-empties : (left right : ℕ) → same_run singles left right ≡ (eqb left 0 && eqb right 0)
same-run-empties left right = go (eqb right 0) refl
  where
    go : (t : Bool) → eqb right 0 ≡ t → (eqb left right && t) ≡ (eqb left 0 && t)
    go true e = rw (eqb-true right 0 e)
    go false e = and-false (eqb left right) ∙ sym (and-false (eqb left 0))

-- a word of the form is of kind 2 with a strand, or of kind 3 with a run
pub word-cases : (C : ℕ → Stretch → Type 0) (word : ℕ)
    → ((strand : ℕ) → 1 ≤ strand → strand ≤ 63 → C (word_of 2 strand) (stretch strand 1))
    → ((run : ℕ) → 1 ≤ run → run < 2 ^ 28 → C (word_of 3 run) (stretch 0 run))
    → 1 ≤ (singles.stretch_of word).run → C word (singles.stretch_of word)
word-cases C word strand run h = kinds (eqb (kind_of word) 2) refl (eqb (kind_of word) 3) refl h
  where
    of-kind : (k : ℕ) {s : Stretch} → eqb (kind_of word) k ≡ true → C (word_of k (payload_of word)) s → C word s
    of-kind k {s} e c = subst (λ (w : ℕ). C w s) (ap (λ (n : ℕ). word_of n (payload_of word)) (sym (eqb-true (kind_of word) k e)) ∙ word_split word) c

    strands : (t : Bool) → (leb 1 (payload_of word) && leb (payload_of word) 63) ≡ t → eqb (kind_of word) 2 ≡ true
        → 1 ≤ (cond t (stretch (payload_of word) 1) nothing).run → C word (cond t (stretch (payload_of word) 1) nothing)
    strands true e k h =
        let p = both (leb 1 (payload_of word)) (leb (payload_of word) 63) e in
        of-kind 2 k (strand (payload_of word) (leb-true 1 (payload_of word) p.0) (leb-true (payload_of word) 63 p.1))
    strands false e k h = absurd (omega arith)

    kinds : (t : Bool) → eqb (kind_of word) 2 ≡ t → (u : Bool) → eqb (kind_of word) 3 ≡ u
        → 1 ≤ (cond t (one_strand (payload_of word)) (cond u (empties (payload_of word)) nothing)).run
        → C word (cond t (one_strand (payload_of word)) (cond u (empties (payload_of word)) nothing))
    kinds true k u e h = strands (leb 1 (payload_of word) && leb (payload_of word) 63) refl k h
    kinds false k true e h = of-kind 3 e (run (payload_of word) h (omega arith))
    kinds false k false e h = absurd (omega arith)

word-stretch : (o r : ℕ) (empty : Bool) → eqb o 0 ≡ empty → o ≤ 63 → r ≤ 128 → (eqb o 0 ≡ false → r ≡ 1) → singles.stretch_of (cond empty (word_of 3 r) (word_of 2 o)) ≡ stretch o r
word-stretch o r true e h k n =
    let f : r < 2 ^ 28 = omega arith in
    rw (kind-word 3 r f, payload-word 3 r f, eqb-true o 0 e)
word-stretch o r false e h k n =
    let f : o < 2 ^ 28 = omega arith in
    let p : 1 ≤ o = pos o (eqb-false o 0 e) in
    rw (kind-word 2 o f, payload-word 2 o f, le-leb 1 o p, le-leb o 63 h, n e)
  where
    pos : (o : ℕ) → (o ≡ 0 → ⊥) → 1 ≤ o
    pos o z = omega (arith, z)

pub singles-rules : Rules singles
singles-rules =
    record {
      has_word = λ word.
          word-cases (λ w s. HasWord singles s) word
          (λ strand h k. record { some = omega arith; strand = k; single = λ e. refl })
          (λ run h k. record { some = h; strand = omega arith; single = λ e. absurd (let z = eqb-false 0 0 e in z refl) });
      word_back = λ word.
          word-cases (λ w s. singles.word_for s ≡ w) word
          (λ strand h k. rw (ne_eqb strand 0 (λ e. omega arith)))
          (λ run h k. refl);
      stretch-back = λ s t few. word-stretch s.occupant s.run (eqb s.occupant 0) refl t.strand few t.single;
    }
