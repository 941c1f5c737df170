-- What a mark does to the states of a design, and that it does nothing where all positions are open. Assumes nothing.
use mathlib.Core.Path.{◌≡◌, refl, ap}
use mathlib.Core.Logic.{inl, inr}
use mathlib.Core.List.{List}
use Prim.Native.Nat.{ℕ, ◌<◌}
use native.Mathlib.Decide.{dec_lt}
use native.Mathlib.Omega.{arith}
use lib.ListN.{length, get_or, get_or-eq_default}
use Rattle.lists.specs.Build.{tabulate}
use Rattle.lists.proofs.Counted.{tabulate-same}
use Rattle.lists.proofs.Tests.{clash}
use Rattle.design.specs.Design.{Design, positions, strands, scaffold_glue, potential, strand_bond_in, scaffold_bond_in, blocked, friends_to, friends_of, model_of}
use Rattle.design.specs.Blocked.{BlockedEmpty, BondsKept, open_model, AllOpen}
use Rattle.design.proofs.FriendLaws.{friend-tested, open-and}

pub blocked-empty : (d : Design) → BlockedEmpty d
blocked-empty d i e s w = go (dec_lt i (length s))
  where
    here : i < length s → get_or s i 0 ≡ 0
    here h = elim (w.occupants i (omega (arith, w.places))) [
      | inl z ↦ z
      | inr f ↦ absurd (clash (open-and (blocked d i) _ (friend-tested d i (get_or s i 0) f).2).0 e)
    ]

    go : Dec (i < length s) → get_or s i 0 ≡ 0
    go (yes h) = here h
    go (no h) = get_or-eq_default s 0 (omega arith)

pub bonds-kept : (d : Design) (marks : List ℕ) → BondsKept d marks
bonds-kept d marks = record { strand_bonds = λ x y. refl; scaffold_bonds = λ i strand. refl }

pub all-open : (d : Design) → AllOpen d
unfolding model_of open_model
all-open d free = ap (λ (lists : List (List ℕ)). record { friends = lists; site = scaffold_bond_in d; pair = strand_bond_in d; potential = potential d; rt = d.ambient.rt.0 }) same
  where
    same : tabulate (positions d) (friends_of d) ≡ tabulate (positions d) (λ i. friends_to (scaffold_glue d i) d.glues d.dg d.ds (strands d))
    same = tabulate-same (positions d) (friends_of d) (λ i. friends_to (scaffold_glue d i) d.glues d.dg d.ds (strands d)) (λ i h. rw (free i h))
