-- The answers on rings, of every design and all that is lent. Assumes nothing.
use mathlib.Core.Path.{◌≡◌, refl, ap, ◌∙◌}
use mathlib.Core.Bool.{false, not}
use mathlib.Core.List.{List, []}
use Prim.Native.Nat.{ℕ, ◌≤◌}
use native.Mathlib.Omega.{arith}
use lib.Dec.{eqb}
use lib.ListN.{length}
use borrow.Author.Tests.{eq-eqb}
use Rattle.doubles.specs.Decimal.{zero}
use Rattle.reply.specs.First.{first_of}
use Rattle.reply.proofs.First.{none-holds}
use Rattle.reply.proofs.Figures.{number-admitted}
use Rattle.model.specs.Model.{State}
use Rattle.model.specs.Ring.{LowestRing, ring_energy, ring_search}
use Rattle.design.specs.Design.{Design, positions, model_of}
use Rattle.design.specs.Checks.{Admitted, not_all_friends, own_energy_checks}
use Rattle.design.specs.Laws.{Doubles}
use Rattle.design.proofs.FriendLaws.{friends-right}
use Rattle.design.proofs.Replies.{passed, own-decide}
use Rattle.ring.specs.Answers.{least_ring, own_ring_checks, ring_energy_checks, ring_energy_answer, ring_search_checks, ring_search_answer, ring_search_entries}
use Rattle.ring.specs.Answered.{RingEnergyAnswered, RingSearchAnswers}
use Rattle.ring.proofs.Replies.{Ring, ring-passed, ring-passes}
use Rattle.std.specs.Prelude.{Ok}
use Rattle.ring.proofs.Shown.{as_many, lowest-of}

-- ---- the search

module _ (d : Design) (entries : List ℕ) where
  -- number 0 is that of a call that no check refuses
  pub number_passed : (ring_search_answer d entries).number ≡ 0 → Ring d entries
  number_passed e = ring-passed d entries [] (number-admitted (first_of (ring_search_checks d entries)) zero (ring_search (model_of d)).energy e)

  module _ (a : Admitted d) (h : least_ring ≤ positions d) (l : length entries ≡ positions d) where
    reply : first_of (ring_search_checks d entries) ≡ Ok tt
    reply = own-decide (not (eqb (length entries) (positions d))) d [] (own_ring_checks d) (ap not (eq-eqb _ _ l)) a refl ∙ ring-passes d h

    number : (ring_search_answer d entries).number ≡ 0
    number = rw reply refl

    shown : Doubles d → LowestRing (model_of d) (ring_search_entries d entries) (ring_search_answer d entries).figure
    shown doubles = rw reply (lowest-of d a doubles (omega arith))

pub ring-search-answered : RingSearchAnswers
ring-search-answered d entries doubles = record {
  exactly = (λ e. let p = number_passed d entries e in (p.design, p.ring, p.places), λ w. number d entries w.0 w.1 w.2);
  lowest = λ e. let p = number_passed d entries e in shown d entries p.design p.ring p.places doubles;
}

-- ---- the energy

module _ (d : Design) (s : List ℕ) where
  energy-reply : Admitted d → least_ring ≤ positions d → length s ≡ positions d → not_all_friends d s ≡ false → first_of (ring_energy_checks d s) ≡ Ok tt
  energy-reply a h l t =
      own-decide (not (eqb (length s) (positions d))) d (own_energy_checks d s) (own_ring_checks d) (ap not (eq-eqb _ _ l)) a (rw t refl) ∙ ring-passes d h

  answered : Admitted d × (least_ring ≤ positions d) × State (model_of d) s → (ring_energy_answer d s).number ≡ 0
  answered w =
      let l : length s ≡ positions d = w.2.places ∙ as_many d in
      rw (energy-reply w.0 w.1 l (((friends-right d).states s l).1 w.2)) refl

  -- a configuration that is taken is a state
  pub state-of : first_of (ring_energy_checks d s) ≡ Ok tt → State (model_of d) s
  state-of e =
      let own = none-holds (own_energy_checks d s) (passed (not (eqb (length s) (positions d))) d (own_energy_checks d s) (own_ring_checks d) e).own in
      ((friends-right d).states s (ring-passed d s (own_energy_checks d s) e).places).0 own.0

  taken : (ring_energy_answer d s).number ≡ 0 → Admitted d × (least_ring ≤ positions d) × State (model_of d) s
  taken e =
      let e' = number-admitted (first_of (ring_energy_checks d s)) zero (ring_energy (model_of d) s) e in
      let p = ring-passed d s (own_energy_checks d s) e' in
      (p.design, p.ring, state-of e')

pub ring-energy-answered : RingEnergyAnswered
ring-energy-answered d s = (taken d s, answered d s)
