-- `settle::settle::search` meets its contract. Assumes nothing.
use mathlib.Core.Path.{◌≡◌, ap}
use mathlib.Core.Bool.{Bool, true, false}
use mathlib.Core.List.{List}
use Prim.Native.Nat.{ℕ}
use Rattle.std.specs.Prelude.{Float, Result, Ok, Err}
use Rattle.doubles.specs.Decimal.{zero}
use Rattle.reply.specs.First.{first_of}
use Rattle.reply.specs.Figures.{Figures}
use Rattle.reply.specs.declared.Refused.{Refused}
use Rattle.statements.specs.declared.statement.Row.{Row}
use Rattle.units.specs.declared.KcalPerMol.{KcalPerMol}
use Rattle.design.specs.Design.{Design}
use Rattle.design.specs.Answers.{energy_figures}
use Rattle.sheet.specs.Said.{ring_said}
use Rattle.settle.specs.Searches.{checks_by, answer_by}
use Rattle.settle.specs.Files.{search_reply, room_for}
use Rattle.settle.proofs.Refusing.{searched_so, stopped_so}
use Rattle.settle.proofs.settle.search.Goals as goal

-- of either search
module _ (d : Design) (entries : List ℕ) (r : Result KcalPerMol Refused) where
  found-by : (ring : Bool) (energy : KcalPerMol) → r ≡ Ok energy → energy_figures r ≡ answer_by ring d entries → first_of (checks_by ring d entries) ≡ Ok tt
  found-by true energy is e = searched_so _ zero _ (ap (λ (f : Figures Float). f.number) (rw is at e))
  found-by false energy is e = searched_so _ zero _ (ap (λ (f : Figures Float). f.number) (rw is at e))

  stopped-by : (ring : Bool) (given : Refused) → r ≡ Err given → energy_figures r ≡ answer_by ring d entries → first_of (checks_by ring d entries) ≡ Err given
  stopped-by true given is e =
      let f = rw is at e in
      stopped_so _ zero _ given (ap (λ (f : Figures Float). f.number) f) (ap (λ (f : Figures Float). f.place) f)
  stopped-by false given is e =
      let f = rw is at e in
      stopped_so _ zero _ given (ap (λ (f : Figures Float). f.number) f) (ap (λ (f : Figures Float). f.place) f)

found : (rows : List Row) (d : Design) (r : Result KcalPerMol Refused) (energy : KcalPerMol) → r ≡ Ok energy → energy_figures r ≡ answer_by (ring_said rows) d (room_for rows) → search_reply rows d ≡ Ok tt
unfolding search_reply
found rows d r energy is e = found-by d (room_for rows) r (ring_said rows) energy is e

stopped : (rows : List Row) (d : Design) (r : Result KcalPerMol Refused) (given : Refused) → r ≡ Err given → energy_figures r ≡ answer_by (ring_said rows) d (room_for rows) → search_reply rows d ≡ Err given
unfolding search_reply
stopped rows d r given is e = stopped-by d (room_for rows) r (ring_said rows) given is e

pub returns-in-Ok-clause-goes_on : goal.returns-in-Ok-clause-goes_on
returns-in-Ok-clause-goes_on c design =
    rw (found c.args.sheet.now.rows.now c.args.design.now _ _ c.in-Ok.is (rw (c.requires, c.is_ring.ensures) at c.lowest.ensures.value))

pub returns-in-Err-clause-ends : goal.returns-in-Err-clause-ends
returns-in-Err-clause-ends c design =
    let so = stopped c.args.sheet.now.rows.now c.args.design.now _ _ c.in-Err.is (rw (c.requires, c.is_ring.ensures) at c.lowest.ensures.value) in
    rw (so, c.refused.ensures.0, c.refused.ensures.1, c.design_found.ensures)
