-- Rows that a loop fills with the left choice of each friend and what that was compared as, by its strand. Assumes nothing.
use mathlib.Core.Path.{◌≡◌, sym, ◌∙◌}
use mathlib.Core.List.{List}
use Prim.Native.Nat.{ℕ, ◌+◌, ◌<◌}
use native.Mathlib.Decide.{ℕ_discrete}
use lib.ListN.{length, get_or, set}
use lib.Seq.{get_or-set_same, get_or-set_other}
use lib.Ieee.{Float, nan}
use borrow.Author.Count.{below_more}
use Rattle.doubles.specs.Least.{last_least}
use Rattle.ensemble.specs.declared.attach.Attached.{Attached}
use Rattle.ensemble.specs.inner.Entries.{Chosen, Keys, AttachedAt, Low, Attachments}

-- every element stays low
pub low-set : (row : List ℕ) (x v : ℕ) → Low row → v < 64 → x < length row → Low (set row x v)
low-set row x v w l h k = go (ℕ_discrete k x)
  where
    go : Dec (k ≡ x) → get_or (set row x v) k 0 < 64
    go (yes e) = rw (e, get_or-set_same row x v 0 h) l
    go (no e) = rw (get_or-set_other row x k v 0 e) (w k)

module _ (bond : ℕ → ℕ → Float) (left : List ℕ) (energies : List Float) (friends : List ℕ) where
  module _ (best : List Float) (choice : List ℕ) (x : ℕ) (r : Attached) (in-best : x < length best) (in-choice : x < length choice)
      (new : (key : ℕ → Float) → Keys bond left energies x key → Chosen key left (last_least key left) r) where
    set_here : AttachedAt bond left energies (set best x r.energy) (set choice x r.strand) x
    set_here key keys =
        let w = new key keys in
        record { strand = get_or-set_same choice x r.strand 0 in-choice ∙ w.strand; energy = get_or-set_same best x r.energy nan in-best ∙ w.energy }

    set_other : (y : ℕ) → Dec (y ≡ x) → AttachedAt bond left energies best choice y → AttachedAt bond left energies (set best x r.energy) (set choice x r.strand) y
    set_other y (yes e) old = rw e set_here
    set_other y (no e) old = λ key keys.
        let w = old key keys in
        record { strand = get_or-set_other choice x y r.strand 0 e ∙ w.strand; energy = get_or-set_other best x y r.energy nan e ∙ w.energy }

    pub attach-more : (k : ℕ) → x ≡ get_or friends k 0 → r.strand < 64 → Attachments bond left energies friends k best choice → Attachments bond left energies friends (k + 1) (set best x r.energy) (set choice x r.strand)
    attach-more k is l w = record {
      low = low-set choice x r.strand w.low l in-choice;
      chosen = below_more (λ j. AttachedAt bond left energies (set best x r.energy) (set choice x r.strand) (get_or friends j 0)) k
          (λ j l. set_other (get_or friends j 0) (ℕ_discrete (get_or friends j 0) x) (w.chosen j l)) (rw (sym is) set_here);
    }

  -- where what is compared stands there already
  module _ (best : List Float) (choice : List ℕ) (x v : ℕ) (in-choice : x < length choice)
      (new : (key : ℕ → Float) → Keys bond left energies x key → Chosen key left (last_least key left) (record { strand = v; energy = get_or best x nan })) where
    choice-here : AttachedAt bond left energies best (set choice x v) x
    choice-here key keys = let w = new key keys in record { strand = get_or-set_same choice x v 0 in-choice ∙ w.strand; energy = w.energy }

    choice-other : (y : ℕ) → Dec (y ≡ x) → AttachedAt bond left energies best choice y → AttachedAt bond left energies best (set choice x v) y
    choice-other y (yes e) old = rw e choice-here
    choice-other y (no e) old = λ key keys. let w = old key keys in record { strand = get_or-set_other choice x y v 0 e ∙ w.strand; energy = w.energy }

    pub attach-choice : (k : ℕ) → x ≡ get_or friends k 0 → v < 64 → Attachments bond left energies friends k best choice → Attachments bond left energies friends (k + 1) best (set choice x v)
    attach-choice k is l w = record {
      low = low-set choice x v w.low l in-choice;
      chosen = below_more (λ j. AttachedAt bond left energies best (set choice x v) (get_or friends j 0)) k
          (λ j l. choice-other (get_or friends j 0) (ℕ_discrete (get_or friends j 0) x) (w.chosen j l)) (rw (sym is) choice-here);
    }
