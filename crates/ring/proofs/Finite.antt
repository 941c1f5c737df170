-- Every figure that a call on rings answers is finite. Assumes nothing.
use mathlib.Core.Bool.{Bool, true, false, cond, ◌||◌}
use mathlib.Core.List.{List, []}
use Prim.Native.Nat.{ℕ, ◌-◌, ◌<◌}
use native.Mathlib.Omega.{arith}
use lib.Dec.{eqb, lit≤}
use lib.ListN.{length}
use lib.Ieee.{binary64, add}
use Rattle.doubles.specs.Decimal.{zero}
use Rattle.doubles.specs.Size.{Within}
use Rattle.doubles.proofs.Sums.{weaken, add-within}
use Rattle.doubles.proofs.Products.{mul-within}
use Rattle.reply.specs.First.{first_of}
use Rattle.reply.proofs.Figures.{by-reply}
use Rattle.model.specs.Model.{Model, State, occupant, positions}
use Rattle.model.specs.Energy.{chain_energy}
use Rattle.model.specs.Bounds.{Bounded}
use Rattle.model.specs.Ring.{closed, ring_energy, ring_search}
use Rattle.model.proofs.Bounds.{strand-below, chain-energy-within}
use Rattle.model.proofs.Search.{rt}
use Rattle.design.specs.Design.{strands, model_of}
use Rattle.design.specs.Checks.{own_energy_checks}
use Rattle.design.proofs.BoundLaws.{bounds-right}
use Rattle.design.proofs.Finite.{zero_in}
use Rattle.ring.specs.Answers.{ring_energy_checks, ring_energy_answer, ring_search_checks, ring_search_answer}
use Rattle.ring.specs.Answered.{RingsFinite}
use Rattle.ring.proofs.Replies.{ring-passed}
use Rattle.ring.proofs.Shown.{as_many, lowest-of}
use Rattle.ring.proofs.Answered.{state-of}

-- of a model within the bounds that has a position
module _ (m : Model) (n : ℕ) (b : Bounded m n) (s : List ℕ) (w : State m s) where
  closed-within : (i j : ℕ) → occupant s i < n → occupant s j < n → Within binary64 30800000 (closed m (occupant s i) (occupant s j) (chain_energy m s))
  closed-within i j h l = go (eqb (occupant s i) 0 || eqb (occupant s j) 0)
    where
      go : (t : Bool) → Within binary64 30800000 (cond t (chain_energy m s) (add binary64 (chain_energy m s) (m.pair (occupant s j) (occupant s i))))
      go true = weaken 30800000 (lit≤ tt) (chain-energy-within m n b s w)
      go false = add-within binary64 30720000 80000 (chain_energy m s) (m.pair (occupant s j) (occupant s i)) (chain-energy-within m n b s w) (b.pairs (occupant s j) (occupant s i) l h) (lit≤ tt)

  ring-within : 0 < positions m → Within binary64 246400000 (ring_energy m s)
  unfolding ring_energy
  ring-within some =
      let places = w.places in
      let first : occupant s 0 < n = strand-below m n b 0 _ (w.occupants 0 some) in
      let last : occupant s (length s - 1) < n = strand-below m n b (length s - 1) _ (w.occupants (length s - 1) (omega arith)) in
      mul-within binary64 30800000 8 _ _ (closed-within 0 (length s - 1) first last) (rt m n b).size (lit≤ tt)

pub rings-finite : RingsFinite
rings-finite d doubles = record { energies = energies; searches = searches }
  where
    energies : (s : List ℕ) → Within binary64 246400000 (ring_energy_answer d s).figure
    energies s =
        by-reply (first_of (ring_energy_checks d s)) (Within binary64 246400000) zero (ring_energy (model_of d) s) (zero_in 246400000)
        (λ e. let p = ring-passed d s (own_energy_checks d s) e in
        let ring = p.ring in
        ring-within (model_of d) (strands d) (bounds-right d doubles p.design) s (state-of d s e) (rw (as_many d) (omega arith)))

    searches : (entries : List ℕ) → Within binary64 246400000 (ring_search_answer d entries).figure
    searches entries =
        by-reply (first_of (ring_search_checks d entries)) (Within binary64 246400000) zero (ring_search (model_of d)).energy (zero_in 246400000)
        (λ e. let p = ring-passed d entries [] e in
        let ring = p.ring in
        let l = lowest-of d p.design doubles (omega arith) in
        rw l.energy (ring-within (model_of d) (strands d) (bounds-right d doubles p.design) (ring_search (model_of d)).configuration l.places (rw (as_many d) (omega arith))))
