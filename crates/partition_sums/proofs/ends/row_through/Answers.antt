-- The row of the sums over the states that have each option meets its contract. Assumes nothing.
use mathlib.Core.Path.{◌≡◌, ap, ap₂, ◌∙◌}
use mathlib.Core.List.{List, Memᴰ}
use Prim.Native.Nat.{ℕ, ◌+◌, ◌*◌, ◌<◌}
use native.Mathlib.Nat.{le_refl}
use native.Mathlib.Omega.{arith}
use lib.IntN.{ℤ, pos, nat_abs}
use lib.ListN.{length, get_or}
use Rattle.fractions.specs.declared.Weight.{Weight}
use Rattle.partition.specs.Terms.{term}
use Rattle.partition.specs.Weights.{signed, weight_at}
use Rattle.partition_sums.specs.declared.lent.Formed.{Formed}
use Rattle.partition_sums.specs.inner.Rows.{row_term, before_term, through_term, Stored, celled_term}
use Rattle.partition_sums.proofs.Positions.{here, passed_at, searchable, item-in, known_of}
use Rattle.partition_sums.proofs.Rowed.{written-more, written-all}
use Rattle.partition_sums.proofs.BothEnds.{before-fit, passed-fit, both-ends}
use Rattle.partition_sums.proofs.ends.row_through.Goals as goal

-- what the cell of an option holds
module _ (f : Formed) (i x : ℕ) (digits : List ℕ) (powers : List ℤ) (h : i < length f.lent.options.counts.now) (m : Memᴰ x (here f.lent i)) (s : Stored f.lent i digits powers) where
  abbrev cell : ℕ
  cell = i * f.lent.weights.strands + x

  held : weight_at digits powers cell ≡ celled_term (passed_at f.lent i x)
  held = s.terms i x (le_refl i) h m

  power-held : signed (get_or powers cell (pos 0)) ≡ pos (passed_at f.lent i x).power
  power-held = ap (λ (w : Weight). w.power) held

  term-held : term (get_or digits cell 0) (nat_abs (signed (get_or powers cell (pos 0)))) ≡ passed_at f.lent i x
  term-held = ap₂ term (ap (λ (w : Weight). w.digits) held) (ap nat_abs power-held)

pub overflow_cast-after : goal.overflow_cast-after
overflow_cast-after c =
    let f = c.args.formed.now in
    let r = c.requires in
    let i = c.args.position in
    let x = get_or c.of-x-items.result.now c.loop-x.x-index 0 in
    let m = item-in c.loop-x.x-index c.of-x-items.ensures.row c.loop-x-test.true in
    let low = (passed-fit f i x r.position_in_bounds m).low in
    rw (c.from-strand.ensures, power-held f i x c.args.digits.now c.args.powers.now r.position_in_bounds m r.stored) (tt, omega arith)

pub term_times-requires-clause-normal : goal.term_times-requires-clause-normal
term_times-requires-clause-normal c =
    let f = c.args.formed.now in
    let r = c.requires in
    let i = c.args.position in
    let x = get_or c.of-x-items.result.now c.loop-x.x-index 0 in
    let m = item-in c.loop-x.x-index c.of-x-items.ensures.row c.loop-x-test.true in
    rw (c.from-strand.ensures, r.before.terms x m) (before-fit f i x r.position_in_bounds m).form

pub term_times-requires-clause-normal_2 : goal.term_times-requires-clause-normal_2
term_times-requires-clause-normal_2 c =
    let f = c.args.formed.now in
    let r = c.requires in
    let i = c.args.position in
    let x = get_or c.of-x-items.result.now c.loop-x.x-index 0 in
    let m = item-in c.loop-x.x-index c.of-x-items.ensures.row c.loop-x-test.true in
    rw (c.from.ensures, c.from-strand.ensures, term-held f i x c.args.digits.now c.args.powers.now r.position_in_bounds m r.stored) (passed-fit f i x r.position_in_bounds m).form

pub term_times-requires-clause-power_bound : goal.term_times-requires-clause-power_bound
term_times-requires-clause-power_bound c =
    let f = c.args.formed.now in
    let r = c.requires in
    let i = c.args.position in
    let x = get_or c.of-x-items.result.now c.loop-x.x-index 0 in
    let m = item-in c.loop-x.x-index c.of-x-items.ensures.row c.loop-x-test.true in
    let a = (before-fit f i x r.position_in_bounds m).low in
    let b = (passed-fit f i x r.position_in_bounds m).low in
    rw (c.from-strand.ensures, r.before.terms x m, power-held f i x c.args.digits.now c.args.powers.now r.position_in_bounds m r.stored) (omega arith, omega arith)

pub loop-x-preserved : goal.loop-x-preserved
loop-x-preserved c =
    let f = c.args.formed.now in
    let l = f.lent in
    let r = c.requires in
    let i = c.args.position in
    let k = c.loop-x.x-index in
    let x = get_or c.of-x-items.result.now k 0 in
    let m = item-in k c.of-x-items.ensures.row c.loop-x-test.true in
    let known = known_of (searchable l) i x r.position_in_bounds m in
    let few = (searchable l).few in
    let left : row_term c.args.before.now c.from-strand.result ≡ before_term l i x = ap (row_term c.args.before.now) c.from-strand.ensures ∙ r.before.terms x m in
    let after : term c.from.result (nat_abs (signed (get_or c.args.powers.now (i * l.weights.strands + c.from-strand.result) (pos 0)))) ≡ passed_at l i x =
    rw (c.from.ensures, c.from-strand.ensures) (term-held f i x c.args.digits.now c.args.powers.now r.position_in_bounds m r.stored) in
    rw c.from-strand.ensures (written-more (through_term l i) (here l i) c.loop-x.row k x c.term_times.result (omega arith)
    (ap (λ (xs : List ℕ). get_or xs k 0) c.of-x-items.ensures.row)
    (c.term_times.ensures ∙ both-ends f i x _ _ left after) c.loop-x.invariant)

pub returns : goal.returns
returns c = record { terms = written-all c.loop-x.invariant (let e = ap length c.of-x-items.ensures.row in let past = c.loop-x-test.false in omega arith) }
