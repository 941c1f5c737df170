-- The first stretch of a configuration: a position of no run by itself, or a run as far as its occupant goes. Assumes nothing.
use mathlib.Core.Path.{◌≡◌, refl, sym, ◌∙◌}
use mathlib.Core.Bool.{Bool, true, false, cond, true≢false}
use mathlib.Core.List.{List, [], ◌∷◌}
use Prim.Native.Nat.{ℕ, suc, ◌+◌}
use native.Mathlib.Omega.{arith}
use lib.Dec.{eqb}
use lib.ListN.{drop}
use borrow.Author.Tests.{eqb-true, eq-eqb, ne_eqb}
use Rattle.std.specs.List.{prefix_len}
use Rattle.deck.specs.Form.{Form, stretch, same_run}
use Rattle.deck.specs.Deck.{stretches_of}
use Rattle.deck.proofs.Stretches.{in-front-apart, follow-first}

-- whether a position has this occupant
abbrev pub is : ℕ → ℕ → Bool
is o x = eqb x o

module _ (form : Form) where
  -- a position that is not of one run with the next
  apart-first : (o x : ℕ) (c : List ℕ) → same_run form o x ≡ false → stretches_of form (o ∷ x ∷ c) ≡ stretch o 1 ∷ stretches_of form (x ∷ c)
  unfolding stretches_of
  apart-first o x c e = in-front-apart form o (stretches_of form (x ∷ c)) (follow-first form (stretch o 1) x c e)

  alone-first : (o : ℕ) (c : List ℕ) → form.in_runs o ≡ false → stretches_of form (o ∷ c) ≡ stretch o 1 ∷ stretches_of form c
  unfolding stretches_of
  alone-first o [] n = refl
  alone-first o (x ∷ c) n = apart-first o x c (go (eqb o x) refl)
    where
      go : (t : Bool) → eqb o x ≡ t → same_run form o x ≡ false
      go true e = rw (e, ← eqb-true o x e, n)
      go false e = rw e

  run-first : (o : ℕ) (c : List ℕ) → form.in_runs o ≡ true
      → stretches_of form (o ∷ c) ≡ stretch o (1 + prefix_len (is o) c) ∷ stretches_of form (drop (prefix_len (is o) c) c)
  unfolding stretches_of
  run-first o [] r = refl
  run-first o (x ∷ c) r = go (eqb x o) refl (run-first o c r)
    where
      go : (t : Bool) → eqb x o ≡ t → stretches_of form (o ∷ c) ≡ stretch o (1 + prefix_len (is o) c) ∷ stretches_of form (drop (prefix_len (is o) c) c)
          → stretches_of form (o ∷ x ∷ c) ≡ stretch o (1 + cond t (1 + prefix_len (is o) c) 0) ∷ stretches_of form (drop (cond t (1 + prefix_len (is o) c) 0) (x ∷ c))
      go true e later =
          let n = prefix_len (is o) c in
          let one : 1 + n ≡ suc n = omega arith in
          let two : 1 + suc n ≡ suc (suc n) = omega arith in
          rw (eqb-true x o e, later, eq-eqb o o refl, r, one, two) refl
      go false e later = apart-first o x c (rw (ne_eqb o x (λ s. true≢false (sym (eq-eqb x o (sym s)) ∙ e))))

  -- of a list that begins so
  module _ (o : ℕ) (c left : List ℕ) (e : left ≡ o ∷ c) where
    pub alone : form.in_runs o ≡ false → stretches_of form left ≡ stretch o 1 ∷ stretches_of form (drop 1 left)
    alone n = rw e (alone-first o c n)

    pub run : form.in_runs o ≡ true → stretches_of form left ≡ stretch o (prefix_len (is o) left) ∷ stretches_of form (drop (prefix_len (is o) left) left)
    run r =
        let n = prefix_len (is o) c in
        let one : 1 + n ≡ suc n = omega arith in
        let first = run-first o c r in
        rw (e, eq-eqb o o refl, one) (rw one at first)
