-- `statements::grammar::Kind::item_at` meets its contract: each item's slot is one of a row's. Assumes nothing.
use mathlib.Core.Path.{◌≡◌, sym, subst, ◌∙◌}
use mathlib.Core.List.{List, [], ◌∷◌}
use Prim.Native.Nat.{ℕ, zero, suc}
use native.Mathlib.Omega.{arith}
use borrow.Author.Rules.{rules}
use Rattle.std.specs.Prelude.{Some}
use Rattle.std.specs.List.{slice_get}
use Rattle.lists.specs.Each.{Each}
use Rattle.statements.specs.Grammar.{InRow, items_of}
use Rattle.statements.specs.declared.grammar.Kind.{Kind}
use Rattle.statements.specs.declared.grammar.Kind.TheVariants.{Kelvin, Ambient, Strand, Quencher, Reporter, Position, EnergyGiven, EnergySequence, PairGiven, PairSequence, Penalty, Blocked, Celsius, Ring}
use Rattle.statements.specs.declared.grammar.Item.{Item}
use Rattle.statements.proofs.grammar.Kind.item_at.Goals as goal

at : (items : List Item) → Each InRow items → (place : ℕ) (item : Item) → slice_get items place ≡ Some item → InRow item
at [] e place item s = cc
at (i ∷ rest) e zero item s =
    let same : i ≡ item = cc in
    subst InRow same e.0
at (i ∷ rest) e (suc place) item s = at rest e.1 place item s

each : (kind : Kind) → Each InRow (items_of kind)
unfolding items_of
each Kelvin = (omega arith, tt)
each Ambient = (omega arith, (omega arith, (omega arith, tt)))
each Strand = (omega arith, (omega arith, (omega arith, (omega arith, (tt, tt)))))
each Quencher = (omega arith, (tt, tt))
each Reporter = (omega arith, (tt, tt))
each Position = (omega arith, tt)
each EnergyGiven = (omega arith, (tt, (omega arith, (tt, (omega arith, tt)))))
each EnergySequence = (omega arith, (tt, (omega arith, tt)))
each PairGiven = (omega arith, (omega arith, (tt, (omega arith, (tt, (omega arith, tt))))))
each PairSequence = (omega arith, (omega arith, (tt, (omega arith, tt))))
each Penalty = (omega arith, (omega arith, tt))
each Blocked = (omega arith, tt)
each Celsius = (omega arith, tt)
each Ring = tt

pub returns-clause-in_row : goal.returns-clause-in_row
unfolding items_of
returns-clause-in_row c x e =
    let value : c.copied.result ≡ slice_get (items_of c.args.self) c.args.place = search rules in
    at (items_of c.args.self) (each c.args.self) c.args.place x (sym value ∙ e)
