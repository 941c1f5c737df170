-- The division meets its contract. Assumes nothing.
use lib.Dec.{lit≤}
use mathlib.Core.Logic.{inl, inr}
use mathlib.Core.Path.{refl}
use Rattle.probabilities.proofs.Exponents.{shift-thirty, shift-more, quotiented-by}
use Rattle.probabilities.proofs.quotient.quotient.Goals as goal
use Rattle.probabilities.proofs.quotient.quotient.Goals.{then-w-v, else-w-v}

pub returns : goal.returns
returns c =
    let r = c.requires in
    elim c.if-w-v.branch [
      | then-w-v t ↦ quotiented-by c.args.v c.args.w 30 (lit≤ tt) r.modest.0 r.modest.1 c.if-v-eq0.false r.in_form r.digits_bound (shift-thirty _ _ t.if-w-v.true) (inl refl) _ t.shift-is _ _ c.from.ensures c.from-2.ensures
      | else-w-v t ↦ quotiented-by c.args.v c.args.w 31 (lit≤ tt) r.modest.0 r.modest.1 c.if-v-eq0.false r.in_form r.digits_bound (shift-more _ _ t.if-w-v.false) (inr refl) _ t.shift-is _ _ c.from.ensures c.from-2.ensures
    ]
