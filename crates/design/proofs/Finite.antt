-- Every figure of a call on a design is finite: of an admitted design by the bounds of its model, and else it is 0.0. Assumes nothing.
use mathlib.Core.Path.{◌≡◌}
use mathlib.Core.Bool.{not, ◌||◌}
use mathlib.Core.List.{List, []}
use Prim.Native.Nat.{ℕ}
use native.Mathlib.Omega.{arith}
use lib.Dec.{eqb}
use lib.ListN.{length}
use lib.Ieee.{binary64}
use borrow.Author.Tests.{eqb-true, not-false, leb-false}
use Rattle.lists.proofs.Tests.{neither}
use Rattle.doubles.specs.Decimal.{zero}
use Rattle.doubles.specs.Size.{Within}
use Rattle.doubles.proofs.Sums.{weaken}
use Rattle.doubles.proofs.Bounds.{zero-within}
use Rattle.reply.specs.First.{◌if◌, first_of}
use Rattle.reply.specs.declared.Refusal.TheVariants.{NotAFriend}
use Rattle.reply.proofs.First.{passes}
use Rattle.reply.proofs.Figures.{by-reply}
use Rattle.model.specs.Model.{State}
use Rattle.model.specs.Energy.{state_energy, chain_energy, chain_product}
use Rattle.model.proofs.Bounds.{state-energy-within, chain-energy-within, chain-product-within}
use Rattle.design.specs.Design.{Design, positions, strands, strand_bond_in, scaffold_bond_in, model_of}
use Rattle.design.specs.Checks.{Admitted, no_strand, no_position, not_all_friends, strand_bond_checks, scaffold_bond_checks, own_energy_checks, energy_checks}
use Rattle.design.specs.Answers.{Chain, no_chain, strand_bond_answer, scaffold_bond_answer}
use Rattle.design.specs.Laws.{Doubles}
use Rattle.design.specs.Finite.{DesignFinite}
use Rattle.design.proofs.FriendLaws.{friends-right}
use Rattle.design.proofs.BoundLaws.{strand-bond-within, scaffold-bond-within, bounds-right}
use Rattle.std.specs.Prelude.{Ok}
use Rattle.design.proofs.Replies.{passed}

-- ---- a configuration that a call takes is a state

pub record Taken (d : Design) (s : List ℕ) : Type 0 where
  pub admitted : Admitted d
  pub state : State (model_of d) s

pub taken : (d : Design) (s : List ℕ) → first_of (energy_checks d s) ≡ Ok tt → Taken d s
taken d s e =
    let p = passed (not (eqb (length s) (positions d))) d (own_energy_checks d s) [] e in
    let sized : length s ≡ positions d = eqb-true _ _ (not-false _ p.size) in
    record { admitted = p.design; state = ((friends-right d).states s sized).0 (passes (NotAFriend if not_all_friends d s) [] p.own).0 }

pub zero_in : (most : ℕ) → Within binary64 most zero
zero_in most = weaken most (omega arith) zero-within

module _ (d : Design) (doubles : Doubles d) where
  strand-bonds : (x y : ℕ) → Within binary64 80000 (strand_bond_answer d x y).figure
  strand-bonds x y =
      by-reply (first_of (strand_bond_checks d x y)) (Within binary64 80000) zero (strand_bond_in d x y) (zero_in 80000)
      (λ e. let p = passed (no_strand d x || no_strand d y) d [] [] e in
      let q = neither (no_strand d x) (no_strand d y) p.size in
      strand-bond-within d doubles p.design x y (leb-false _ _ q.0) (leb-false _ _ q.1))

  scaffold-bonds : (i x : ℕ) → Within binary64 80000 (scaffold_bond_answer d i x).figure
  scaffold-bonds i x =
      by-reply (first_of (scaffold_bond_checks d i x)) (Within binary64 80000) zero (scaffold_bond_in d i x) (zero_in 80000)
      (λ e. let p = passed (no_position d i || no_strand d x) d [] [] e in
      let q = neither (no_position d i) (no_strand d x) p.size in
      scaffold-bond-within d doubles p.design i x (leb-false _ _ q.0) (leb-false _ _ q.1))

pub design-finite : DesignFinite
design-finite d doubles = record {
  strand_bonds = strand-bonds d doubles;
  scaffold_bonds = scaffold-bonds d doubles;
  state_energies = λ s.
      by-reply (first_of (energy_checks d s)) (Within binary64 245760000) zero (state_energy (model_of d) s) (zero_in 245760000)
      (λ e. let t = taken d s e in state-energy-within (model_of d) (strands d) (bounds-right d doubles t.admitted) s t.state);
  chain_energies = λ s.
      by-reply (first_of (energy_checks d s)) (λ (c : Chain). Within binary64 30720000 c.bare) no_chain (record { bare = chain_energy (model_of d) s; times_rt = chain_product (model_of d) s }) (zero_in 30720000)
      (λ e. let t = taken d s e in chain-energy-within (model_of d) (strands d) (bounds-right d doubles t.admitted) s t.state);
  chain_products = λ s.
      by-reply (first_of (energy_checks d s)) (λ (c : Chain). Within binary64 245760000 c.times_rt) no_chain (record { bare = chain_energy (model_of d) s; times_rt = chain_product (model_of d) s }) (zero_in 245760000)
      (λ e. let t = taken d s e in chain-product-within (model_of d) (strands d) (bounds-right d doubles t.admitted) s t.state);
}
