-- `first_state_under` meets its contract: its reply is that of the first check that holds, and only an admitted call writes. Assumes nothing.
use mathlib.Core.Bool.{not}
use mathlib.Core.Path.{◌≡◌, refl, sym, ◌∙◌}
use lib.Ieee.{Float, nan, inf, fin}
use Rattle.std.specs.Float.{float_is_finite}
use Rattle.std.specs.Prelude.{Ok, Err}
use Rattle.reply.specs.First.{first_of}
use Rattle.design.specs.Checks.{ranged_checks}
use Rattle.ceiling.specs.Ceiling.{finite}
use Rattle.ceiling.proofs.Replies.{own_size, ceiling-counted, ceiling-refused, ceiling-kept}
use Rattle.ceiling.proofs.first_state_under.Goals as goal

same : (x : Float) → float_is_finite x ≡ finite x
unfolding float_is_finite
same nan = refl
same (inf negative) = refl
same (fin negative digits exponent) = refl

pub returns-in_err-tabled : goal.returns-in_err-tabled
returns-in_err-tabled c =
    let a = c.args in
    let d = a.design.now in
    let e = a.entries.now in
    let told : c.is_finite.result ≡ finite a.ceiling.0 = c.is_finite.ensures.value ∙ same a.ceiling.0 in
    let reply : first_of (ranged_checks (own_size d a.ceiling.0 e) (not (finite a.ceiling.0)) d.scaffold d.marks d.glues d.dg d.ds d.amounts) ≡ Err _ =
    rw (c.positions.ensures, told) at (sym c.in_err-tabled.ensures.value) in record {
      result_value = ceiling-refused d a.ceiling.0 e c.from_residual.result c.from_residual.ensures.1 reply;
      entries_after = ceiling-kept d a.ceiling.0 e reply;
    }

pub returns : goal.returns
returns c =
    let a = c.args in
    let d = a.design.now in
    let e = a.entries.now in
    let told : c.is_finite.result ≡ finite a.ceiling.0 = c.is_finite.ensures.value ∙ same a.ceiling.0 in
    let reply : first_of (ranged_checks (own_size d a.ceiling.0 e) (not (finite a.ceiling.0)) d.scaffold d.marks d.glues d.dg d.ds d.amounts) ≡ Ok tt =
    rw (c.positions.ensures, told) at (sym c.in_ok-tabled.ensures.value) in
    let r = rw c.in_ok-tabled.ensures.same at c.counted.ensures in
    let all = ceiling-counted d a.ceiling.0 e reply r.result_value r.entries_after in record {
      result_value = all.0;
      entries_after = all.1;
    }
