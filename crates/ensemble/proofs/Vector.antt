-- The entries of a position, as a program works them out from those to its left, over any options. Assumes nothing.
use mathlib.Core.Path.{◌≡◌, refl, ap₂, ◌∙◌}
use mathlib.Core.List.{List, []}
use Prim.Native.Nat.{ℕ, zero, suc, ◌+◌, ◌<◌}
use native.Mathlib.Omega.{arith}
use native.Mathlib.Nat.{not-suc-le-zero}
use lib.ListN.{length, get_or, set}
use lib.Seq.{get_or-set_same, get_or-set_other}
use lib.Ieee.{Float, nan, binary64, add, sub}
use borrow.Author.Count.{below_more}
use borrow.Author.Tests.{ne_eqb}
use Rattle.doubles.specs.Decimal as Decimal
use Rattle.doubles.specs.Least.{pick, last_least}
use Rattle.model.specs.Model.{Model}
use Rattle.model.specs.Search.{least_left, entry, compared, left_choice}
use Rattle.ensemble.specs.declared.attach.Attached.{Attached}
use Rattle.ensemble.specs.inner.Entries.{key_of, Chosen, Keys, Energies}
use Rattle.ensemble.specs.inner.Passed.{Left}
use Rattle.ensemble.proofs.Choosing.{some_key}

-- ---- what an entry attaches to

-- the left choice of a strand at a position, and the least that it compares
pub record Attaches (m : Model) (options : ℕ → List ℕ) (i x : ℕ) (r : Attached) : Type 0 where
  pub strand : r.strand ≡ left_choice m options i x
  pub energy : r.energy ≡ least_left m options i x

module _ (m : Model) (options : ℕ → List ℕ) where
  -- at position 0 there is nothing to choose from
  attaches-first : (x : ℕ) (key : ℕ → Float) (lefts : List ℕ) (r : Attached) → lefts ≡ [] → Chosen key lefts (last_least key lefts) r → Attaches m options 0 x r
  unfolding left_choice least_left pick key_of
  attaches-first x key lefts r e w = let v = rw e at w in record { strand = v.strand; energy = v.energy }

  module _ (some : (i : ℕ) → 0 < length (options i)) where
    -- later on the left entries are the options
    attaches-next : (i x : ℕ) (lefts : List ℕ) (r : Attached) → lefts ≡ options i → Chosen (compared m options i x) lefts (last_least (compared m options i x) lefts) r → Attaches m options (suc i) x r
    unfolding left_choice least_left
    attaches-next i x lefts r e w =
        let v = rw e at w in
        record { strand = v.strand; energy = v.energy ∙ some_key (compared m options i x) (options i) (last_least (compared m options i x) (options i)) (some i) }

    module _ (left : List ℕ) (energies : List Float) (r : Attached) where
      none : left ≡ [] → (k : ℕ) → k < length left → ⊥
      none e k h = not-suc-le-zero (rw e at h)

      -- a friend
      pub friend-attaches : (i x : ℕ) (bond : ℕ → ℕ → Float) → (x ≡ 0 → ⊥) → Left m options i left energies → ((k : ℕ) → k < length left → bond (get_or left k 0) x ≡ m.pair (get_or left k 0) x)
          → ((key : ℕ → Float) → Keys bond left energies x key → Chosen key left (last_least key left) r) → Attaches m options i x r
      friend-attaches zero x bond occupied w pairs chosen = attaches-first x (λ _. Decimal.zero) left r w.are (chosen (λ _. Decimal.zero) (λ k h. absurd (none w.are k h)))
      friend-attaches (suc i) x bond occupied w pairs chosen =
          attaches-next i x left r w.are (chosen (compared m options i x) (λ k h. ap₂ (add binary64) (w.entries k h) (pairs k h) ∙ joins (get_or left k 0)))
        where
          joins : (y : ℕ) → add binary64 (entry m options i y) (m.pair y x) ≡ compared m options i x y
          joins y = rw (ne_eqb x 0 occupied) refl

      -- empty
      pub empty-attaches : (i : ℕ) → Left m options i left energies
          → ((key : ℕ → Float) → ((k : ℕ) → k < length left → get_or energies k nan ≡ key (get_or left k 0)) → Chosen key left (last_least key left) r) → Attaches m options i 0 r
      empty-attaches zero w chosen = attaches-first 0 (λ _. Decimal.zero) left r w.are (chosen (λ _. Decimal.zero) (λ k h. absurd (none w.are k h)))
      empty-attaches (suc i) w chosen = attaches-next i 0 left r w.are (chosen (compared m options i 0) w.entries)

-- the energy of a friend's entry
pub friend-entry : (m : Model) (options : ℕ → List ℕ) (i x : ℕ) {energy site potential : Float} → (x ≡ 0 → ⊥) → energy ≡ least_left m options i x → site ≡ m.site i x → potential ≡ m.potential x
    → sub binary64 (add binary64 energy site) potential ≡ entry m options i x
friend-entry m options i x some e s p = rw (e, s, p, ne_eqb x 0 some) refl

-- ---- a row that a loop fills

pub energies-more : (f : ℕ → Float) (strands : List ℕ) (k : ℕ) (row : List Float) (v : Float) → k < length row → Energies f strands k row → v ≡ f (get_or strands k 0) → Energies f strands (k + 1) (set row k v)
energies-more f strands k row v h w e =
    below_more (λ j. get_or (set row k v) j nan ≡ f (get_or strands j 0)) k
    (λ j l. get_or-set_other row k j v nan (λ same. omega arith) ∙ w j l) (get_or-set_same row k v nan h ∙ e)
