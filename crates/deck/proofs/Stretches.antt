-- Stretches and their positions: laid out, the stretches of a configuration give it back, and stretches that may follow one
-- another are those of what they lay out. Assumes nothing.
use mathlib.Core.Path.{◌≡◌, refl, sym, ap, ◌∙◌}
use mathlib.Core.Bool.{Bool, true, false, cond, not, ◌&&◌, and_assoc, and-false, true≢false}
use mathlib.Core.List.{List, [], ◌∷◌, ◌++◌}
use Prim.Native.Nat.{ℕ, zero, suc, ◌+◌, ◌≤◌}
use native.Mathlib.Nat.{not-suc-le-zero}
use native.Mathlib.Omega.{arith}
use lib.Dec.{eqb}
use lib.ListN.{length, replicate, length-append, length-replicate}
use borrow.Author.Tests.{ltb-false, eqb-true, eq-eqb, le-leb, le-ltb, not-true}
use Rattle.lists.specs.Find.{any}
use Rattle.lists.proofs.Tests.{both, and_both, neither}
use Rattle.lists.proofs.Find.{any_append, any-replicate}
use Rattle.deck.specs.Form.{Form, HasWord, stretch, nothing, something, same_run, may_follow}
use Rattle.deck.specs.Deck.{follow, positions, laid_out, in_front, stretches_of, too_high}
use Rattle.deck.specs.declared.form.Stretch.{Stretch}

pub positions-append : (ss ts : List Stretch) → positions (ss ++ ts) ≡ positions ss + positions ts
unfolding positions
positions-append [] ts = omega arith
positions-append (s ∷ ss) ts = rw (positions-append ss ts) (omega arith)

pub laid-length : (ss : List Stretch) → length (laid_out ss) ≡ positions ss
unfolding laid_out positions
laid-length [] = refl
laid-length (s ∷ ss) = rw (length-append, length-replicate, laid-length ss)

-- the last stretch, and the one before where there is none
pub last_of : Stretch → List Stretch → Stretch
last_of before [] = before
last_of before (s ∷ ss) = last_of s ss

-- what holds of each stretch
abbrev pub Each : (Stretch → Type 0) → List Stretch → Type 0
Each P [] = Unit
Each P (s ∷ ss) = P s × Each P ss

-- a position at least
abbrev pub Some : Stretch → Type 0
Some s = 1 ≤ s.run

-- words stand for strands and empties alone, so no strand number is too high
pub strands-laid : (form : Form) (ss : List Stretch) → Each (HasWord form) ss → any too_high (laid_out ss) ≡ false
unfolding laid_out any
strands-laid form [] t = refl
strands-laid form (s ∷ ss) t =
    rw (any_append too_high (replicate s.run s.occupant) (laid_out ss), any-replicate too_high s.run s.occupant (le-ltb 63 s.occupant t.0.strand), strands-laid form ss t.1)

module _ (form : Form) where
  pub follow-append : (before : Stretch) (ss ts : List Stretch) → follow form before (ss ++ ts) ≡ (follow form before ss && follow form (last_of before ss) ts)
  unfolding follow last_of
  follow-append before [] ts = refl
  follow-append before (s ∷ ss) ts = rw (follow-append s ss ts) (sym (and_assoc (may_follow form before s) (follow form s ss) (follow form (last_of s ss) ts)))

  -- only the occupant before counts, and that there is one
  follow-same : (s t : Stretch) (ss : List Stretch) → s.occupant ≡ t.occupant → something s ≡ something t → follow form s ss ≡ follow form t ss
  unfolding follow
  follow-same s t [] e f = refl
  follow-same s t (r ∷ ss) e f = rw (e, f)

  -- a position with this occupant is not of one run with the stretch before
  abbrev Apart : Stretch → ℕ → Type 0
  Apart before o = (something before && same_run form before.occupant o) ≡ false

  pub may : (before s : Stretch) → something s ≡ true → Apart before s.occupant → may_follow form before s ≡ true
  may before s some apart = rw (some, apart)

  pub may-apart : (before s : Stretch) → may_follow form before s ≡ true → (something s ≡ true) × Apart before s.occupant
  may-apart before s m =
      let p = both (something s) (not (something before && same_run form before.occupant s.occupant)) m in
      (p.0, not-true (something before && same_run form before.occupant s.occupant) p.1)

  -- ---- a position in front

  -- by whether it joins the first stretch
  in-front-cases : (C : List Stretch → Type 0) (o : ℕ) (s : Stretch) (ss : List Stretch)
      → (o ≡ s.occupant → form.in_runs o ≡ true → C (stretch o (suc s.run) ∷ ss))
      → (same_run form o s.occupant ≡ false → C (stretch o 1 ∷ s ∷ ss))
      → C (in_front form o (s ∷ ss))
  in-front-cases C o s ss join alone = go (same_run form o s.occupant) refl
    where
      go : (t : Bool) → same_run form o s.occupant ≡ t → C (cond t (stretch o (suc s.run) ∷ ss) (stretch o 1 ∷ s ∷ ss))
      go true e =
          let p = both (eqb o s.occupant) (form.in_runs s.occupant) e in
          let q = eqb-true o s.occupant p.0 in
          join q (rw q p.1)
      go false e = alone e

  laid-in-front : (o : ℕ) (ss : List Stretch) → laid_out (in_front form o ss) ≡ o ∷ laid_out ss
  unfolding laid_out
  laid-in-front o [] = refl
  laid-in-front o (s ∷ ss) = in-front-cases (λ ts. laid_out ts ≡ o ∷ laid_out (s ∷ ss)) o s ss (λ e j. rw e) (λ e. refl)

  -- a configuration's stretches lay it out
  pub laid-stretches : (c : List ℕ) → laid_out (stretches_of form c) ≡ c
  unfolding laid_out stretches_of
  laid-stretches [] = refl
  laid-stretches (o ∷ c) = rw (laid-in-front o (stretches_of form c), laid-stretches c)

  follow-in-front : (before : Stretch) (o : ℕ) (ss : List Stretch) → Apart before o → follow form nothing ss ≡ true → follow form before (in_front form o ss) ≡ true
  unfolding follow
  follow-in-front before o [] a f = and_both (may before (stretch o 1) refl a) refl
  follow-in-front before o (s ∷ ss) a f =
      let p = both (may_follow form nothing s) (follow form s ss) f in
      let some = (may-apart nothing s p.0).0 in
      let longer = le-leb 1 (suc s.run) (omega arith) in
      in-front-cases (λ ts. follow form before ts ≡ true) o s ss
      (λ e j. and_both (may before (stretch o (suc s.run)) longer a) (follow-same (stretch o (suc s.run)) s ss e (longer ∙ sym some) ∙ p.1))
      (λ e. and_both (may before (stretch o 1) refl a) (and_both (may (stretch o 1) s some e) p.1))

  -- a configuration's stretches may follow one another
  pub follow-stretches : (c : List ℕ) → follow form nothing (stretches_of form c) ≡ true
  unfolding follow stretches_of
  follow-stretches [] = refl
  follow-stretches (o ∷ c) = follow-in-front nothing o (stretches_of form c) refl (follow-stretches c)

  -- and its first may follow what its first position may
  pub follow-first : (before : Stretch) (o : ℕ) (c : List ℕ) → same_run form before.occupant o ≡ false → follow form before (stretches_of form (o ∷ c)) ≡ true
  unfolding stretches_of
  follow-first before o c e = follow-in-front before o (stretches_of form c) (rw e (and-false (something before))) (follow-stretches c)

  in-front-has-word : (o : ℕ) (ss : List Stretch) → o ≤ 63 → Each (HasWord form) ss → Each (HasWord form) (in_front form o ss)
  in-front-has-word o [] h t = (record { some = omega arith; strand = h; single = λ e. refl }, tt)
  in-front-has-word o (s ∷ ss) h t =
      in-front-cases (Each (HasWord form)) o s ss
      (λ e j. (record { some = omega arith; strand = h; single = λ n. absurd (true≢false (sym j ∙ n)) }, t.1))
      (λ e. (record { some = omega arith; strand = h; single = λ n. refl }, t))

  -- a configuration's stretches have words
  pub stretches-have-words : (c : List ℕ) → any too_high c ≡ false → Each (HasWord form) (stretches_of form c)
  unfolding stretches_of any
  stretches-have-words [] h = tt
  stretches-have-words (o ∷ c) h = let p = neither (too_high o) (any too_high c) h in in-front-has-word o (stretches_of form c) (ltb-false 63 o p.0) (stretches-have-words c p.1)

  some-in-front : (o : ℕ) (ss : List Stretch) → Each Some ss → Each Some (in_front form o ss)
  some-in-front o [] t = (omega arith, tt)
  some-in-front o (s ∷ ss) t = in-front-cases (Each Some) o s ss (λ e j. (omega arith, t.1)) (λ e. (omega arith, t))

  -- each stretch of a configuration has a position at least
  pub some-stretches : (c : List ℕ) → Each Some (stretches_of form c)
  unfolding stretches_of
  some-stretches [] = tt
  some-stretches (o ∷ c) = some-in-front o (stretches_of form c) (some-stretches c)

  -- and all have its positions
  pub sum-stretches : (c : List ℕ) → positions (stretches_of form c) ≡ length c
  sum-stretches c = sym (laid-length (stretches_of form c)) ∙ ap length (laid-stretches c)

  fewer-in-front : (o : ℕ) (ss : List Stretch) → length (in_front form o ss) ≤ suc (length ss)
  fewer-in-front o [] = omega arith
  fewer-in-front o (s ∷ ss) = in-front-cases (λ ts. length ts ≤ suc (suc (length ss))) o s ss (λ e j. omega arith) (λ e. omega arith)

  -- a stretch has a position at least
  pub fewer-stretches : (c : List ℕ) → length (stretches_of form c) ≤ length c
  unfolding stretches_of
  fewer-stretches [] = omega arith
  fewer-stretches (o ∷ c) = omega (arith, fewer-in-front o (stretches_of form c), fewer-stretches c)

  -- ---- a run in front

  pub in-front-apart : (o : ℕ) (ss : List Stretch) → follow form (stretch o 1) ss ≡ true → in_front form o ss ≡ stretch o 1 ∷ ss
  unfolding follow
  in-front-apart o [] f = refl
  in-front-apart o (s ∷ ss) f = rw (may-apart (stretch o 1) s (both (may_follow form (stretch o 1) s) (follow form s ss) f).0).1

  -- a run, and stretches that it does not go on into
  pub run-in-front : (r o : ℕ) (c : List ℕ) → (form.in_runs o ≡ false → r ≡ 0) → follow form (stretch o 1) (stretches_of form c) ≡ true
      → stretches_of form (replicate (suc r) o ++ c) ≡ stretch o (suc r) ∷ stretches_of form c
  unfolding stretches_of
  run-in-front zero o c n f = in-front-apart o (stretches_of form c) f
  run-in-front (suc r) o c n f = go (form.in_runs o) refl (λ m. run-in-front r o c m f)
    where
      go : (j : Bool) → form.in_runs o ≡ j → ((form.in_runs o ≡ false → r ≡ 0) → stretches_of form (replicate (suc r) o ++ c) ≡ stretch o (suc r) ∷ stretches_of form c)
          → stretches_of form (replicate (suc (suc r)) o ++ c) ≡ stretch o (suc (suc r)) ∷ stretches_of form c
      go true j shorter = rw (shorter (λ e. absurd (true≢false (sym j ∙ e))), eq-eqb o o refl, j)
      go false j shorter = absurd (let z = n j in omega arith)

  -- stretches that may follow one another are the stretches of what they lay out
  pub stretches-laid : (before : Stretch) (ss : List Stretch) → follow form before ss ≡ true → Each (HasWord form) ss → stretches_of form (laid_out ss) ≡ ss
  unfolding laid_out follow stretches_of
  stretches-laid before [] f t = refl
  stretches-laid before (s ∷ ss) f t =
      let g = (both (may_follow form before s) (follow form s ss) f).1 in
      step s.occupant s.run t.0 g (stretches-laid s ss g t.1)
    where
      step : (o r : ℕ) → HasWord form (stretch o r) → follow form (stretch o r) ss ≡ true → stretches_of form (laid_out ss) ≡ ss → stretches_of form (replicate r o ++ laid_out ss) ≡ stretch o r ∷ ss
      step o zero t g e = absurd (not-suc-le-zero t.some)
      step o (suc r) t g e =
          run-in-front r o (laid_out ss) (λ j. let z = t.single j in omega arith)
          (rw e (follow-same (stretch o 1) (stretch o (suc r)) ss refl (sym (le-leb 1 (suc r) (omega arith))) ∙ g))
          ∙ ap (stretch o (suc r) ∷◌) e
