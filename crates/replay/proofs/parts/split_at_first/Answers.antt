-- `replay::parts::split_at_first` meets its contract. Assumes nothing.
use Rattle.std.proofs.Common.{◌≡◌, ◌+◌, ◌-◌, length, take, drop, sym, ap, ◌∙◌, arith, eqb, length-drop, drop_of_length-le}
use Rattle.std.proofs.lemmas.List.{take_all}
use Rattle.lists.specs.Find.{first_index}
use Rattle.lists.proofs.Searches.{position_some, position_first}
use Rattle.replay.proofs.parts.split_at_first.Goals as goal

pub returns-in-Some-clause-before : goal.returns-in-Some-clause-before
returns-in-Some-clause-before c =
    let text = c.args.text.now in
    let at = (position_some (eqb c.args.mark) text (sym c.in-Some.ensures)).1 in
    ap (λ k. take k text) (sym at)

pub returns-in-Some-clause-after : goal.returns-in-Some-clause-after
returns-in-Some-clause-after c =
    let text = c.args.text.now in
    let n = c.in-Some.n in
    let at = (position_some (eqb c.args.mark) text (sym c.in-Some.ensures)).1 in
    take_all (length text - (n + 1)) (drop (n + 1) text) (omega (arith, length-drop (n + 1) text)) ∙ ap (λ k. drop (k + 1) text) (sym at)

pub returns-in-None-clause-before : goal.returns-in-None-clause-before
returns-in-None-clause-before c =
    let text = c.args.text.now in
    let at : length text ≡ first_index (eqb c.args.mark) text = rw (sym c.in-None.ensures) at (position_first (eqb c.args.mark) text) in
    sym (take_all (first_index (eqb c.args.mark) text) text (omega arith))

pub returns-in-None-clause-after : goal.returns-in-None-clause-after
returns-in-None-clause-after c =
    let text = c.args.text.now in
    let at : length text ≡ first_index (eqb c.args.mark) text = rw (sym c.in-None.ensures) at (position_first (eqb c.args.mark) text) in
    sym (drop_of_length-le text (omega arith))
