-- `sdc1d_params::first_out` meets its contract: each cell is that of the entry at its place. Assumes nothing.
use Rattle.std.proofs.Common.{rules, tests}
use mathlib.Core.Path.{◌≡◌, ap, ◌∙◌}
use Prim.Native.Nat.{ℕ, ◌+◌}
use native.Mathlib.Omega.{arith}
use lib.ListN.{get_or}
use Rattle.std.specs.List.{enumerate_from}
use Rattle.std.proofs.lemmas.Iterator.{YieldsList-from_slice}
use Rattle.std.proofs.lemmas.Iterator.Consumers.{YieldsList-from_enumerate}
use Rattle.std.proofs.lemmas.Iterator.Adapters.{serves_from_places}
use Rattle.std.proofs.lemmas.Iterator.Search.{position_from_yields_List}
use Rattle.std.proofs.lemmas.List.FromFn.{get_or-enumerate_from, length-enumerate_from}
use Rattle.sdc1d_params.specs.Entries.{Cell, cell, energy_of, entry_at, entry_rows}
use Rattle.sdc1d_params.specs.Tables.{out_of_range, write_of}
use Rattle.sdc1d_params.specs.inner.Cells.{write_at}
use Rattle.sdc1d_params.proofs.Writes.{same_write}
use Rattle.sdc_common.proofs.Positions.{position-rows}
use Rattle.sdc1d_params.proofs.tables.first_out.Goals as goal

pub position-requires-clause-callable : goal.position-requires-clause-callable
position-requires-clause-callable c =
    serves_from_places (YieldsList-from_enumerate (YieldsList-from_slice c.args.cells.now cc) cc) (λ x q k. search rules)
    (λ x k g e _ _ _ _ _ _ _.
    let l = length-enumerate_from 0 c.args.cells.now in
    let i = ap (λ (q : ℕ × Cell). q.0) (e ∙ get_or-enumerate_from 0 c.args.cells.now k (x.0, x.1.now) (omega (arith, g, l))) in
    omega (arith, i, g, l, c.requires))

pub returns : goal.returns
returns c =
    let a = c.args in
    let l = a.set.now.lent in
    let n = entry_rows l.entries.now in
    let f = write_at l.text.now l.entries.now l.energies.now l.penalty.dg.0 l.penalty.ds.0 a.cells.now in
    let p = λ (q : ℕ × Cell). out_of_range (write_of l.text.now l.penalty.dg.0 l.penalty.ds.0 q.1 (energy_of (entry_at l.entries.now l.energies.now q.0))) in
    let by_call = position_from_yields_List p c.position.new.self _ _ c.position.ensures.ran (YieldsList-from_enumerate (YieldsList-from_slice a.cells.now cc) cc) (λ x b q k. search (rules, tests, same_write)) in
    by_call
    ∙ position-rows p out_of_range n (0, cell 0 0) (enumerate_from 0 a.cells.now) f (length-enumerate_from 0 a.cells.now ∙ c.requires)
    (λ k h.
    let at : 0 + k ≡ k = omega arith in
    ap p (get_or-enumerate_from 0 a.cells.now k (0, cell 0 0) (omega (arith, h, c.requires))) ∙ ap (λ (i : ℕ). p (i, get_or a.cells.now k (cell 0 0))) at)
