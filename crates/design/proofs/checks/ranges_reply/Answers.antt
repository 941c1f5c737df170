-- The ambient lets the call pass, and of the potentials the first that is out is told. Assumes nothing.
use mathlib.Core.Path.{◌≡◌, refl, sym, ap}
use mathlib.Core.Bool.{false}
use Rattle.design.specs.Design.{Design, strands}
use Rattle.design.specs.Checks.{ambient_out, bad_ambient, unfit, potentials_out, bad_potential}
use Rattle.std.specs.Prelude.{Some}
use Rattle.reply.specs.declared.Refusal.TheVariants.{AmbientOut}
use Rattle.lists.proofs.Searches.{found_up_to, none_up_to}
use Rattle.design.proofs.Replies.{told-false}
use Rattle.design.proofs.checks.ranges_reply.Goals as goal

pub returns-in-Some-clause-value : goal.returns-in-Some-clause-value
unfolding potentials_out bad_potential
returns-in-Some-clause-value c =
    let d = c.args.design.now in
    let ambient : ambient_out d.ambient ≡ false = rw (sym (ap (λ (d : Design). d.ambient) c.design.view_is)) (told-false (ambient_out c.design.inside.ambient) AmbientOut (Some (bad_ambient c.design.inside.ambient)) c.in_ok-ambient_reply.ensures) in
    let at = found_up_to (unfit d) (strands d) (sym c.in-Some.ensures) in
    rw (ambient, at.0, at.1, c.from.ensures) refl

pub returns-in-None-clause-value : goal.returns-in-None-clause-value
unfolding potentials_out bad_potential
returns-in-None-clause-value c =
    let d = c.args.design.now in
    let ambient : ambient_out d.ambient ≡ false = rw (sym (ap (λ (d : Design). d.ambient) c.design.view_is)) (told-false (ambient_out c.design.inside.ambient) AmbientOut (Some (bad_ambient c.design.inside.ambient)) c.in_ok-ambient_reply.ensures) in
    let none = none_up_to (unfit d) (strands d) (sym c.in-None.ensures) in
    rw (ambient, none) refl

pub returns-in-None-clause-admitted : goal.returns-in-None-clause-admitted
unfolding potentials_out
returns-in-None-clause-admitted c = λ tables none-dilute.
    let d = c.args.design.now in
    let ambient : ambient_out d.ambient ≡ false = rw (sym (ap (λ (d : Design). d.ambient) c.design.view_is)) (told-false (ambient_out c.design.inside.ambient) AmbientOut (Some (bad_ambient c.design.inside.ambient)) c.in_ok-ambient_reply.ensures) in
    record {
      sizes = tables.sizes;
      cells = tables.cells;
      concentrations = none-dilute;
      ambient = ambient;
      potentials = none_up_to (unfit d) (strands d) (sym c.in-None.ensures);
      null = tables.null;
    }
