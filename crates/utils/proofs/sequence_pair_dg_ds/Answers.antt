-- `utils::sequence_pair_dg_ds` meets its contract: first the strands' checks, then the loop's, then the sums. Assumes nothing.
use mathlib.Core.Path.{sym, ◌≡◌, ap, ap₂, ◌∙◌}
use mathlib.Core.List.{List, [], ◌∷◌}
use Prim.Native.Nat.{ℕ}
use Rattle.std.specs.Prelude.{None, Result, Ok, Err}
use Rattle.reply.specs.First.{first_of, ◌if◌, refuses}
use Rattle.reply.specs.declared.Refusal.{Refusal}
use Rattle.reply.specs.declared.Refusal.TheVariants.{NoSuchLoop}
use Rattle.reply.proofs.First.{reply-append}
use Rattle.reply.proofs.Bare.{same-error, answers-first}
use Rattle.utils.specs.Answers.{dg_ds_figures, refused_dg_ds, given_dg_ds}
use Rattle.utils.specs.Pair.{strand_checks, lacks_loop, pair_checks, sequence_pair_dg_ds}
use Rattle.utils.specs.inner.Code.{PairSummed}
use Rattle.utils.specs.declared.DgDs.{DgDs}
use Rattle.utils.proofs.sequence_pair_dg_ds.Goals as goal

-- what the sums say where the strands are admitted
summed : (a b : List ℕ) (r : Result DgDs Refusal) → first_of (strand_checks a b) ≡ Ok tt → PairSummed a b r → dg_ds_figures r ≡ sequence_pair_dg_ds a b
unfolding sequence_pair_dg_ds
summed a b (Ok t) admitted h =
    let reply : first_of (pair_checks a b) ≡ Ok tt = reply-append (strand_checks a b) (NoSuchLoop if lacks_loop a b ∷ []) admitted ∙ simp h.0 in
    rw reply (ap₂ given_dg_ds h.1 h.2)
summed a b (Err e) admitted h =
    let reply : first_of (pair_checks a b) ≡ refuses NoSuchLoop None = reply-append (strand_checks a b) (NoSuchLoop if lacks_loop a b ∷ []) admitted ∙ simp h.0 in
    rw (reply, h.1)

pub returns-in_err-strands : goal.returns-in_err-strands
unfolding sequence_pair_dg_ds
returns-in_err-strands c =
    let a = c.args.a.now in
    let b = c.args.b.now in
    ap dg_ds_figures (same-error _ c.from_residual.ensures) ∙ answers-first (strand_checks a b) (NoSuchLoop if lacks_loop a b ∷ []) refused_dg_ds _ (sym (rw c.in_err-strands.was at c.both_admitted.ensures))

pub returns : goal.returns
returns c =
    let a = c.args.a.now in
    let b = c.args.b.now in
    let read = rw c.in_ok-strands.was at c.both_admitted.ensures in
    summed a b c.sums.result read.0 (rw (read.1, read.2) at c.sums.ensures)
