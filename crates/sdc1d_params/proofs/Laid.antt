-- Glues laid one strand after the other. Assumes nothing.
use mathlib.Core.Path.{◌≡◌, refl, ap, sym, ◌∙◌}
use mathlib.Core.Bool.{false}
use mathlib.Core.List.{List, [], ◌∷◌, ◌++◌, append_assoc, append-nil}
use Prim.Native.Nat.{ℕ, ◌+◌, ◌*◌, ◌-◌, ◌<◌, ◌≤◌}
use native.Mathlib.Omega.{arith}
use lib.ListN.{length, take, drop, length-append, length-drop, length-map, get_or-append, drop_of_length-le}
use lib.Seq.{length-take-le, take_at, drop_at}
use borrow.Author.Tests.{eq-eqb}
use Rattle.sdc_common.specs.Lent.{Names, glue_of, glues_of}
use Rattle.sdc_common.specs.Numbers.{bases_of, glue_number, numbers_among}
use Rattle.sdc_common.specs.Calls.{unfit_strands, too_many_bases, glues_after}
use Rattle.sdc_common.proofs.Fit.{strand-glues}
use Rattle.sdc1d_params.specs.Params.{unfit_copied, glue_of_strand, quencher_glues, reporter_glues, with_copies}
use Rattle.std.specs.Prelude.{Option, Some, None}
use Rattle.sdc1d_params.proofs.Lengths.{copied-fits}

-- a part that is lent behind what stands already
pub laid : (before part rest : List ℕ) (a k : ℕ) → length before ≡ a → take a (before ++ rest) ++ (part ++ drop k (drop a (before ++ rest))) ≡ (before ++ part) ++ drop k rest
laid before part rest a k h = rw (take_at before rest a h, drop_at before rest a h) (sym (append_assoc before part (drop k rest)))

-- what the strands' own call writes
module _ (users : ℕ) (text : List ℕ) (strands : Names) (fit : unfit_strands users text strands ≡ false) (few : too_many_bases (glues_of text strands) ≡ false) where
  pub glues-given : (lent : List ℕ) → length lent ≡ 3 * users → glues_after users text strands lent ≡ numbers_among (glues_of text strands) (glues_of text strands)
  unfolding glues_after
  glues-given lent l = rw (fit, eq-eqb _ _ l, few)

-- the copies see the user strands' numbers
module _ (users : ℕ) (numbers rest : List ℕ) (many : length numbers ≡ 3 * users) where
  seen : (k side : ℕ) → (1 ≤ k) × (k ≤ users) → side < 3 → glue_of_strand (numbers ++ rest) k side ≡ glue_of_strand numbers k side
  seen k side h l = get_or-append numbers rest 0 (3 * (k - 1) + side) (omega (arith, h.0, h.1))

  pub quencher-seen : (copied : Option ℕ) → unfit_copied users copied ≡ false → quencher_glues (numbers ++ rest) copied ≡ quencher_glues numbers copied
  quencher-seen None e = refl
  quencher-seen (Some k) e = let h = copied-fits users k e in rw (seen k 0 h (omega arith), seen k 1 h (omega arith))

  pub reporter-seen : (copied : Option ℕ) → unfit_copied users copied ≡ false → reporter_glues (numbers ++ rest) copied ≡ reporter_glues numbers copied
  reporter-seen None e = refl
  reporter-seen (Some k) e = let h = copied-fits users k e in rw (seen k 1 h (omega arith), seen k 2 h (omega arith))

-- ---- the four parts one behind the other

abbrev put : ℕ → ℕ → List ℕ → List ℕ → List ℕ
put a k xs ys = take a xs ++ (ys ++ drop k (drop a xs))

module _ (n : ℕ) (t zeros numbers : List ℕ) (z : length zeros ≡ 3) (m : length numbers ≡ n) where
  abbrev pub rest : List ℕ
  rest = drop (n + 3 - 3) (drop 3 (drop 0 t))

  pub users-laid : put 3 (n + 3 - 3) (zeros ++ drop 3 (drop 0 t)) numbers ≡ (zeros ++ numbers) ++ rest
  users-laid = laid zeros numbers (drop 3 (drop 0 t)) 3 (n + 3 - 3) z

  pub after-zeros : drop 3 (put 3 (n + 3 - 3) (zeros ++ drop 3 (drop 0 t)) numbers) ≡ numbers ++ rest
  after-zeros = ap (drop 3) (users-laid ∙ append_assoc zeros numbers rest) ∙ drop_at zeros (numbers ++ rest) 3 z

  module _ (q r : List ℕ) (lq : length q ≡ 3) (lr : length r ≡ 3) (lt : length t ≡ n + 9) where
    abbrev left : List ℕ
    left = drop (n + 3 + 3 - (n + 3)) rest

    quencher-laid : put (n + 3) (n + 3 + 3 - (n + 3)) ((zeros ++ numbers) ++ rest) q ≡ ((zeros ++ numbers) ++ q) ++ left
    quencher-laid = laid (zeros ++ numbers) q rest (n + 3) (n + 3 + 3 - (n + 3)) (length-append zeros numbers ∙ omega arith)

    none_left : drop (n + 3 + 6 - (n + 3 + 3)) left ≡ []
    none_left =
        let l0 : length (drop 0 t) ≡ n + 9 = length-drop 0 t ∙ omega arith in
        let l1 : length (drop 3 (drop 0 t)) ≡ n + 6 = length-drop 3 (drop 0 t) ∙ omega arith in
        let l2 : length rest ≡ 6 = length-drop (n + 3 - 3) (drop 3 (drop 0 t)) ∙ omega arith in
        let l3 : length left ≡ 3 = length-drop (n + 3 + 3 - (n + 3)) rest ∙ omega arith in
        drop_of_length-le left {i = n + 3 + 6 - (n + 3 + 3)} (omega arith)

    reporter-laid : put (n + 3 + 3) (n + 3 + 6 - (n + 3 + 3)) (((zeros ++ numbers) ++ q) ++ left) r ≡ zeros ++ numbers ++ q ++ r
    reporter-laid =
        laid ((zeros ++ numbers) ++ q) r left (n + 3 + 3) (n + 3 + 6 - (n + 3 + 3)) (length-append (zeros ++ numbers) q ∙ let l : length (zeros ++ numbers) ≡ n + 3 = length-append zeros numbers ∙ omega arith in omega arith)
        ∙ rw (none_left, append-nil)

    pub all_laid :
        put (n + 3 + 3) (n + 3 + 6 - (n + 3 + 3)) (put (n + 3) (n + 3 + 3 - (n + 3)) (put 3 (n + 3 - 3) (zeros ++ drop 3 (drop 0 t)) numbers) q) r
        ≡ zeros ++ numbers ++ q ++ r
    all_laid =
        ap (λ (xs : List ℕ). put (n + 3 + 3) (n + 3 + 6 - (n + 3 + 3)) (put (n + 3) (n + 3 + 3 - (n + 3)) xs q) r) users-laid
        ∙ ap (λ (xs : List ℕ). put (n + 3 + 3) (n + 3 + 6 - (n + 3 + 3)) xs r) quencher-laid
        ∙ reporter-laid

-- what the stores of all strands leave
module _ (users : ℕ) (t numbers : List ℕ) (quencher reporter : Option ℕ) (lt : length t ≡ 3 * (users + 3)) (m : length numbers ≡ 3 * users)
    (fitq : unfit_copied users quencher ≡ false) (fitr : unfit_copied users reporter ≡ false) where
  pub strands-laid :
      (w0 w1 w2 w3 : List ℕ)
      → w0 ≡ 0 ∷ 0 ∷ 0 ∷ []
      → w1 ≡ numbers
      → w2 ≡ quencher_glues (drop 3 (put 3 (3 * users + 3 - 3) (w0 ++ drop 3 (drop 0 t)) w1)) quencher
      → w3 ≡ reporter_glues (drop 3 (put 3 (3 * users + 3 - 3) (w0 ++ drop 3 (drop 0 t)) w1)) reporter
      → put (3 * users + 3 + 3) (3 * users + 3 + 6 - (3 * users + 3 + 3)) (put (3 * users + 3) (3 * users + 3 + 3 - (3 * users + 3)) (put 3 (3 * users + 3 - 3) (w0 ++ drop 3 (drop 0 t)) w1) w2) w3
      ≡ with_copies numbers quencher reporter
  strands-laid w0 w1 w2 w3 e0 e1 e2 e3 =
      let z : length w0 ≡ 3 = ap length e0 in
      let n : length w1 ≡ 3 * users = ap length e1 ∙ m in
      let seen : drop 3 (put 3 (3 * users + 3 - 3) (w0 ++ drop 3 (drop 0 t)) w1) ≡ numbers ++ rest (3 * users) t w0 w1 z n =
      after-zeros (3 * users) t w0 w1 z n ∙ ap (λ (xs : List ℕ). xs ++ rest (3 * users) t w0 w1 z n) e1 in
      let q : w2 ≡ quencher_glues numbers quencher = e2 ∙ ap (λ (xs : List ℕ). quencher_glues xs quencher) seen ∙ quencher-seen users numbers (rest (3 * users) t w0 w1 z n) m quencher fitq in
      let r : w3 ≡ reporter_glues numbers reporter = e3 ∙ ap (λ (xs : List ℕ). reporter_glues xs reporter) seen ∙ reporter-seen users numbers (rest (3 * users) t w0 w1 z n) m reporter fitr in
      all_laid (3 * users) t w0 w1 z n w2 w3 (ap length q ∙ three-quencher quencher) (ap length r ∙ three-reporter reporter) (lt ∙ omega arith)
      ∙ rw (e0, e1, q, r)
    where
      three-quencher : (copied : Option ℕ) → length (quencher_glues numbers copied) ≡ 3
      three-quencher None = refl
      three-quencher (Some k) = refl

      three-reporter : (copied : Option ℕ) → length (reporter_glues numbers copied) ≡ 3
      three-reporter None = refl
      three-reporter (Some k) = refl

-- the part that is lent for the user strands
pub part-many : (users : ℕ) (zeros t : List ℕ) → zeros ≡ 0 ∷ 0 ∷ 0 ∷ [] → length t ≡ 3 * (users + 3) → length (take (3 * users + 3 - 3) (drop 3 (zeros ++ drop 3 (drop 0 t)))) ≡ 3 * users
part-many users zeros t e lt =
    let l0 : length (drop 0 t) ≡ 3 * users + 9 = length-drop 0 t ∙ omega arith in
    let l1 : length (drop 3 (drop 0 t)) ≡ 3 * users + 6 = length-drop 3 (drop 0 t) ∙ omega arith in
    let behind : drop 3 (zeros ++ drop 3 (drop 0 t)) ≡ drop 3 (drop 0 t) = drop_at zeros (drop 3 (drop 0 t)) 3 (ap length e) in
    rw behind (length-take-le (3 * users + 3 - 3) (drop 3 (drop 0 t)) (omega arith) ∙ omega arith)

-- as many numbers as glues
pub numbers-many : (users : ℕ) (text : List ℕ) (strands : Names) → unfit_strands users text strands ≡ false → length (numbers_among (glues_of text strands) (glues_of text strands)) ≡ 3 * users
unfolding numbers_among glues_of
numbers-many users text strands fit =
    length-map (glues_of text strands) (glue_number (bases_of (glues_of text strands)))
    ∙ length-map strands.each (glue_of text)
    ∙ strand-glues users text strands fit
