-- `settle::settle::searched` meets its contract. Assumes nothing.
use mathlib.Core.Path.{◌≡◌, sym, ap, ◌∙◌}
use mathlib.Core.Bool.{Bool, true, false}
use mathlib.Core.List.{List}
use Prim.Native.Nat.{ℕ}
use native.Mathlib.Omega.{arith}
use lib.ListN.{take, replicate}
use Rattle.std.proofs.Common.{rules}
use Rattle.std.specs.Prelude.{Err}
use Rattle.std.proofs.lemmas.List.{take-replicate}
use Rattle.design.specs.Design.{Design}
use Rattle.design.specs.Laws.{Doubles}
use Rattle.sheet.specs.Said.{ring_said}
use Rattle.settle.specs.Searches.{entries_by, AnsweredBy}
use Rattle.settle.specs.Told.{settled}
use Rattle.settle.specs.Files.{room_for, deck_written, settled_of, search_told}
use Rattle.mfe.proofs.Answered.{search-answered}
use Rattle.ring.proofs.Answered.{ring-search-answered}
use Rattle.settle.proofs.Taken.{taken, same_settled}
use Rattle.settle.proofs.settle.searched.Goals as goal

answered-by : (ring : Bool) (d : Design) (entries : List ℕ) → Doubles d → AnsweredBy ring d entries
answered-by true d entries doubles = ring-search-answered d entries doubles
answered-by false d entries doubles = search-answered d entries doubles

pub search-requires : goal.search-requires
search-requires c =
    let s = c.args.sheet.now in
    let sound = s.sound in
    let m = s.counts.positions in
    let short = sound.positions.1 in
    let zeros : take m (replicate {A = ℕ} 128 0) ≡ room_for s.rows.now = take-replicate m 128 0 (omega arith) ∙ ap (λ (k : ℕ). replicate k 0) sound.positions.0 in
    zeros

pub returns-in_err-energy-clause-told : goal.returns-in_err-energy-clause-told
unfolding search_told
returns-in_err-energy-clause-told c =
    let u = c.in_err-energy.field-0.0 in
    let out : c.from_residual.result ≡ Err u = search rules in
    let ends = rw c.in_err-energy.was at c.search.ensures.ends in
    rw out (sym (ends _))

pub returns-clause-told : goal.returns-clause-told
unfolding search_told
returns-clause-told c =
    let s = c.args.sheet.now in
    let d = c.args.design.now in
    let goes = rw c.in_ok-energy.was at c.search.ensures.goes_on in
    let energy = rw c.in_ok-energy.was at c.search.ensures.energy in
    let front = taken s.counts.positions c.search.new.configuration _ (search rules) ∙ c.search.ensures.written in
    let slice : take s.counts.positions _ ≡ entries_by (ring_said s.rows.now) d (room_for s.rows.now) = front in
    let deck = c.deck_of.ensures ∙ ap deck_written slice in
    ap settled (same_settled s.counted c.glues_of.ensures c.names_of.ensures c.marks_of.ensures c.is_ring.ensures front energy c.states_of.ensures deck) ∙ sym (goes (settled_of s.rows.now d))

pub returns-in_err-energy-clause-lowest : goal.returns-in_err-energy-clause-lowest
returns-in_err-energy-clause-lowest c = answered-by (ring_said c.args.sheet.now.rows.now) c.args.design.now (room_for c.args.sheet.now.rows.now) c.hold_doubles.ensures

pub returns-clause-lowest : goal.returns-clause-lowest
returns-clause-lowest c = answered-by (ring_said c.args.sheet.now.rows.now) c.args.design.now (room_for c.args.sheet.now.rows.now) c.hold_doubles.ensures
