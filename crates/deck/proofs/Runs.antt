-- The form with runs keeps the rules of a form. Assumes nothing.
use mathlib.Core.Path.{◌≡◌, refl, sym, ap₂, ◌∙◌, subst}
use mathlib.Core.Bool.{Bool, true, false, cond, true≢false}
use Prim.Native.Nat.{ℕ, ◌+◌, ◌-◌, ◌*◌, ◌/◌, ◌%◌, ◌≤◌, ◌<◌, ◌^◌}
use native.Mathlib.Omega.{arith}
use lib.Dec.{eqb}
use borrow.Author.Tests.{eqb-true, eqb-false, ne_eqb}
use Rattle.deck.specs.Word.{kind_of, payload_of, word_of}
use Rattle.deck.specs.Form.{HasWord, Rules, runs, stretch, nothing, strand_run, empties}
use Rattle.deck.specs.declared.form.Stretch.{Stretch}
use Rattle.deck.proofs.Split.{kind-word, payload-word, word_split}

-- a word of the form is of kind 4 with a strand and its run, or of kind 3 with a run
pub word-cases : (C : ℕ → Stretch → Type 0) (word : ℕ)
    → ((strand run : ℕ) → 1 ≤ strand → strand ≤ 63 → 1 ≤ run → strand + 64 * (run - 1) < 2 ^ 28 → C (word_of 4 (strand + 64 * (run - 1))) (stretch strand run))
    → ((run : ℕ) → 1 ≤ run → run < 2 ^ 28 → C (word_of 3 run) (stretch 0 run))
    → 1 ≤ (runs.stretch_of word).run → C word (runs.stretch_of word)
word-cases C word strand run h = kinds (eqb (kind_of word) 4) refl (eqb (kind_of word) 3) refl h
  where
    of-kind : (k payload : ℕ) {s : Stretch} → eqb (kind_of word) k ≡ true → payload ≡ payload_of word → C (word_of k payload) s → C word s
    of-kind k payload {s} e q c = subst (λ (w : ℕ). C w s) (ap₂ word_of (sym (eqb-true (kind_of word) k e)) q ∙ word_split word) c

    strands : (t : Bool) → eqb (payload_of word % 64) 0 ≡ t → eqb (kind_of word) 4 ≡ true
        → 1 ≤ (cond t nothing (stretch (payload_of word % 64) (payload_of word / 64 + 1))).run → C word (cond t nothing (stretch (payload_of word % 64) (payload_of word / 64 + 1)))
    strands true e k h = absurd (omega arith)
    strands false e k h =
        let z = eqb-false (payload_of word % 64) 0 e in
        of-kind 4 (payload_of word % 64 + 64 * (payload_of word / 64 + 1 - 1)) k (omega arith)
        (strand (payload_of word % 64) (payload_of word / 64 + 1) (omega (arith, z)) (omega arith) (omega arith) (omega arith))

    kinds : (t : Bool) → eqb (kind_of word) 4 ≡ t → (u : Bool) → eqb (kind_of word) 3 ≡ u
        → 1 ≤ (cond t (strand_run (payload_of word)) (cond u (empties (payload_of word)) nothing)).run
        → C word (cond t (strand_run (payload_of word)) (cond u (empties (payload_of word)) nothing))
    kinds true k u e h = strands (eqb (payload_of word % 64) 0) refl k h
    kinds false k true e h = of-kind 3 (payload_of word) e refl (run (payload_of word) h (omega arith))
    kinds false k false e h = absurd (omega arith)

word-stretch : (o r : ℕ) (empty : Bool) → eqb o 0 ≡ empty → o ≤ 63 → 1 ≤ r → r ≤ 128 → runs.stretch_of (cond empty (word_of 3 r) (word_of 4 (o + 64 * (r - 1)))) ≡ stretch o r
word-stretch o r true e h l k =
    let f : r < 2 ^ 28 = omega arith in
    rw (kind-word 3 r f, payload-word 3 r f, eqb-true o 0 e)
word-stretch o r false e h l k =
    let z = eqb-false o 0 e in
    let f : o + 64 * (r - 1) < 2 ^ 28 = omega arith in
    let a : (o + 64 * (r - 1)) % 64 ≡ o = omega arith in
    let b : (o + 64 * (r - 1)) / 64 + 1 ≡ r = omega arith in
    rw (kind-word 4 (o + 64 * (r - 1)) f, payload-word 4 (o + 64 * (r - 1)) f, a, b, ne_eqb o 0 z)

pub runs-rules : Rules runs
runs-rules =
    record {
      has_word = λ word.
          word-cases (λ w s. HasWord runs s) word
          (λ strand run h k l f. record { some = l; strand = k; single = λ e. absurd (true≢false e) })
          (λ run h f. record { some = h; strand = omega arith; single = λ e. absurd (true≢false e) });
      word_back = λ word.
          word-cases (λ w s. runs.word_for s ≡ w) word
          (λ strand run h k l f. rw (ne_eqb strand 0 (λ e. omega arith)))
          (λ run h f. refl);
      stretch-back = λ s w few. word-stretch s.occupant s.run (eqb s.occupant 0) refl w.strand w.some few;
    }
