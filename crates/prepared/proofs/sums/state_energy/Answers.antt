use mathlib.Core.Logic.{inl}
use mathlib.Core.Path.{◌≡◌, refl, sym, ap, ◌∙◌}
use Prim.Native.Nat.{◌<◌, ◌≤◌}
use native.Mathlib.Omega.{arith}
use lib.Ieee.{Float, binary64, mul}
use lib.ListN.{length, get_or}
use Rattle.lists.proofs.Grid.{row-end}
use Rattle.doubles.specs.Decimal.{zero}
use Rattle.prepared.specs.inner.Sums.{sum_on, energy_on, begun_at}
use Rattle.prepared.proofs.Begun.{begun-is, ended_is, beside-next, sum_more, sum_done, whole-energy}
use Rattle.prepared.proofs.sums.state_energy.Goals as goal

pub loop-position-init : goal.loop-position-init
loop-position-init c = rw c.nobody-begun.ensures (c.requires.strands_nonzero, λ m w v. (refl, inl refl))

pub begin-begun-requires : goal.begin-begun-requires
begin-begun-requires c =
    let a = c.args in
    let p = c.requires in
    let l = c.loop-position in
    let here : l.position < length a.state.now = c.loop-position-test.true in
    let room = row-end a.bonds.now.strand_bonds.strands here in
    let most = p.a_row_each in
    record {
      left_known = l.invariant.0;
      strand_known = p.by_index l.position here;
      position_bound = omega arith;
      a_row = omega arith;
    }

pub loop-position-preserved : goal.loop-position-preserved
loop-position-preserved c =
    let a = c.args in
    let l = c.loop-position in
    let here : l.position < length a.state.now = c.loop-position-test.true in
    let strand-is = c.begin-begun.ensures.strand_value in (
      rw strand-is (c.requires.by_index l.position here),
      λ m w v.
          let old = l.invariant.1 m w v in
          let inside : l.position < length m.friends = rw (← v.places) here in
          let option = v.occupants l.position inside in
          let sum_is : c.begin-begun.result.sum ≡ begun_at m l.position l.begun.strand l.begun.sum (get_or a.state.now l.position 0) = c.begin-begun.ensures.sum_value ∙ begun-is w l.position l.begun.strand (get_or a.state.now l.position 0) l.begun.sum inside l.invariant.0 old.1 option in
          rw (strand-is, sum_is) (old.0 ∙ sum_more m a.state.now l.position l.begun.strand l.begun.sum here, beside-next m l.position (get_or a.state.now l.position 0) option),
    )

pub returns : goal.returns
unfolding energy_on
returns c =
    λ m w v e.
    let a = c.args in
    let l = c.loop-position in
    let old = l.invariant.1 m w v in
    let all : l.position ≤ length m.friends = rw (← v.places) l.auto.position-end in
    let sum = c.ended.ensures ∙ ended_is w l.position l.begun.strand l.begun.sum all old.1 ∙ sym (old.0 ∙ sum_done m a.state.now l.position l.begun.strand l.begun.sum c.loop-position-test.false) in
    c.mul.ensures ∙ ap (λ (x : Float). mul binary64 x a.rt.0) sum ∙ ap (mul binary64 (sum_on m 0 0 zero a.state.now)) e ∙ whole-energy m a.state.now
