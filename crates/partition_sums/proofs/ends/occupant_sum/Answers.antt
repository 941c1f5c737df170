-- The sum over the states that have a strand at a position meets its contract. Assumes nothing.
use mathlib.Core.Path.{◌≡◌, sym, ap, ◌∙◌}
use mathlib.Core.Bool.{true}
use mathlib.Core.List.{List, Memᴰ}
use Prim.Native.Nat.{ℕ, ◌+◌, ◌*◌, ◌<◌}
use native.Mathlib.Omega.{arith}
use lib.Dec.{eqb}
use lib.ListN.{length}
use Rattle.lists.specs.Find.{any}
use Rattle.partition.specs.declared.Term.{Term}
use Rattle.partition.specs.Sum.{zero_weight}
use Rattle.partition.specs.Summed.{lowered, occupant_sum}
use Rattle.partition.proofs.AtPosition.{found-in}
use Rattle.partition_sums.specs.Layout.{options_of}
use Rattle.partition_sums.specs.declared.lent.Formed.{Formed}
use Rattle.partition_sums.specs.inner.Rows.{row_term, through_term, Through}
use Rattle.partition_sums.proofs.Positions.{here}
use Rattle.partition_sums.proofs.Constraints.{any-contains}
use Rattle.partition_sums.proofs.BothEnds.{at-is, many, through-fit}
use Rattle.partition_sums.proofs.ends.occupant_sum.Goals as goal

module _ (f : Formed) (i x : ℕ) (row : List Term) (h : i < length f.lent.options.counts.now) (r : Through f.lent i row) where
  abbrev o : List (List ℕ)
  o = options_of f.lent.options

  twice : 2 * length f.lent.options.counts.now ≡ length o + length o
  twice = omega (arith, many f)

  member : any (eqb x) (here f.lent i) ≡ true → Memᴰ x (here f.lent i)
  member e = found-in x (here f.lent i) e

  row-is : any (eqb x) (here f.lent i) ≡ true → row_term row x ≡ through_term f.lent i x
  row-is e = r.terms x (member e)

pub lowered-requires-clause-digits_bound : goal.lowered-requires-clause-digits_bound
lowered-requires-clause-digits_bound c =
    let f = c.args.formed.now in
    let r = c.requires in
    let in-list = ap (any (eqb c.args.strand)) (sym c.of.ensures.row) ∙ sym (any-contains c.of.result.now c.args.strand) ∙ sym c.contains.ensures.value ∙ c.if-contains.true in
    rw (c.from.ensures, row-is f c.args.position c.args.strand c.args.row.now r.position_in_bounds r.through in-list) (through-fit f c.args.position c.args.strand r.position_in_bounds (member f c.args.position c.args.strand c.args.row.now r.position_in_bounds r.through in-list)).form.most

pub lowered-requires-clause-power_bound : goal.lowered-requires-clause-power_bound
lowered-requires-clause-power_bound c =
    let f = c.args.formed.now in
    let r = c.requires in
    let in-list = ap (any (eqb c.args.strand)) (sym c.of.ensures.row) ∙ sym (any-contains c.of.result.now c.args.strand) ∙ sym c.contains.ensures.value ∙ c.if-contains.true in
    let low = (through-fit f c.args.position c.args.strand r.position_in_bounds (member f c.args.position c.args.strand c.args.row.now r.position_in_bounds r.through in-list)).low in
    rw (c.from.ensures, row-is f c.args.position c.args.strand c.args.row.now r.position_in_bounds r.through in-list) (omega arith)

pub returns-then-contains : goal.returns-then-contains
unfolding occupant_sum
returns-then-contains c =
    let f = c.args.formed.now in
    let r = c.requires in
    let i = c.args.position in
    let x = c.args.strand in
    let in-list = ap (any (eqb x)) (sym c.of.ensures.row) ∙ sym (any-contains c.of.result.now x) ∙ sym c.contains.ensures.value ∙ c.if-contains.true in
    let o = options_of f.lent.options in
    let is = ap (row_term c.args.row.now) c.from.ensures ∙ row-is f i x c.args.row.now r.position_in_bounds r.through in-list in
    rw (at-is f i r.position_in_bounds, in-list)
    (c.lowered.ensures ∙ ap (λ (k : ℕ). lowered 400000 k (row_term c.args.row.now c.from.result)) (twice f i x c.args.row.now r.position_in_bounds r.through) ∙ ap (lowered 400000 (length o + length o)) is)

pub returns-else-contains : goal.returns-else-contains
unfolding occupant_sum
returns-else-contains c =
    let f = c.args.formed.now in
    let r = c.requires in
    let i = c.args.position in
    let x = c.args.strand in
    let none = ap (any (eqb x)) (sym c.of.ensures.row) ∙ sym (any-contains c.of.result.now x) ∙ sym c.contains.ensures.value ∙ c.if-contains.false in
    let zero : c.default.result ≡ zero_weight = λ i. record { digits = c.default.ensures.0 i; power = c.default.ensures.1 i } in
    rw (at-is f i r.position_in_bounds, none) zero
