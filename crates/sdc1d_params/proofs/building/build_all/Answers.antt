-- `sdc1d_params::build_all` meets its contract: a refusal leaves what was lent, and an admitted set is written. Assumes nothing.
use mathlib.Core.Path.{◌≡◌, refl, sym, ap, ◌∙◌}
use native.Mathlib.Omega.{arith}
use lib.Ieee.{of_bits}
use lib.Seq.{length-take-le}
use Rattle.reply.specs.First.{first_of}
use Rattle.reply.specs.declared.Refusal.TheVariants.{TwoStars}
use Rattle.reply.proofs.Asked.{admits, exits_nowhere}
use Rattle.reply.proofs.Bare.{same-error}
use Rattle.sdc_common.proofs.Fit.{strands-fit}
use Rattle.sdc1d_params.specs.Entries.{entry_rows}
use Rattle.sdc1d_params.specs.inner.Set.{set_of}
use Rattle.sdc1d_params.specs.Params.{Outcome, lent_of, param_checks, build_checks}
use Rattle.sdc1d_params.proofs.Lengths.{Sized, few-entries}
use Rattle.sdc1d_params.proofs.Passed.{build-refused, build-stars, build-none}
use Rattle.sdc1d_params.proofs.Stars.{stars-said}
use Rattle.sdc1d_params.proofs.Written.{kept, fits-tables, fits-sizes, fits-lengths, all-written}
use Rattle.std.specs.Prelude.{None, Ok}
use Rattle.sdc1d_params.specs.Places.{refusal_place, placed, build_reply}
use Rattle.sdc1d_params.proofs.Placed.{told_at, passed_so, refused_so, either_so}
use Rattle.sdc1d_params.proofs.building.build_all.Goals as goal
use Rattle.sdc1d_params.proofs.building.build_all.Goals.{Start, In_ok-check}

-- what was lent
lent : Start → Outcome
lent c = lent_of c.args.strand_glues.now c.args.scaffold_glues.now c.args.dg.now c.args.ds.now

-- what the checks leave where they pass
passed : (c : In_ok-check) → first_of (param_checks (set_of c.args.set.now) (lent_of c.args.strand_glues.now c.args.scaffold_glues.now c.args.dg.now c.args.ds.now)) ≡ Ok tt
passed c = passed_so (set_of c.args.set.now) _ c.in_ok-check.ensures.value

fit : (c : In_ok-check) → Sized (set_of c.args.set.now) (lent_of c.args.strand_glues.now c.args.scaffold_glues.now c.args.dg.now c.args.ds.now)
fit c = fits-sizes _ _ (passed c)

pub slice_bounds-cells-end : goal.slice_bounds-cells-end
slice_bounds-cells-end c = let l = c.args.set.now.lent in few-entries l.text.now l.entries.now l.energies.now c.args.set.now.fit

pub slice_bounds-cells-end-2 : goal.slice_bounds-cells-end-2
slice_bounds-cells-end-2 c =
    let l = c.args.set.now.lent in
    sym (length-take-le (entry_rows l.entries.now) _ (let few = few-entries l.text.now l.entries.now l.energies.now c.args.set.now.fit in omega (arith, few)))

pub check-requires-clause-cells_len : goal.check-requires-clause-cells_len
check-requires-clause-cells_len c =
    let l = c.args.set.now.lent in
    length-take-le (entry_rows l.entries.now) _ (let few = few-entries l.text.now l.entries.now l.energies.now c.args.set.now.fit in omega (arith, few))

pub refuses_names-requires : goal.refuses_names-requires
refuses_names-requires c =
    let p = set_of c.args.set.now in
    strands-fit p.users p.text c.args.set.now.lent.strands.now (fit (goal.at.refuses_names-requires c).In_ok-check).strands

pub returns-in_err-refused_if-clause-reply : goal.returns-in_err-refused_if-clause-reply
unfolding lent refusal_place build_reply
returns-in_err-refused_if-clause-reply c =
    let p = set_of c.args.set.now in
    let so = goal.at.returns-in_err-refused_if-clause-reply c in
    let q = exits_nowhere c.from_residual-in_err-refused_if.result TwoStars c.refuses_names.result _ c.from_residual-in_err-refused_if.ensures.1 c.in_err-refused_if.ensures in
    told_at p TwoStars None _ _ q.1 refl (build-stars c.args.build p (lent so.Start) (sym (passed so.In_ok-check)) (stars-said p c.args.build c.refuses_names.ensures q.0))

pub returns-in_err-refused_if-clause-written : goal.returns-in_err-refused_if-clause-written
unfolding lent
returns-in_err-refused_if-clause-written c =
    let p = set_of c.args.set.now in
    let so = goal.at.returns-in_err-refused_if-clause-written c in
    let q = exits_nowhere c.from_residual-in_err-refused_if.result TwoStars c.refuses_names.result _ c.from_residual-in_err-refused_if.ensures.1 c.in_err-refused_if.ensures in
    rw q.1 (kept p (lent so.Start) c.args.build TwoStars (sym (build-stars c.args.build p (lent so.Start) (sym (passed so.In_ok-check)) (stars-said p c.args.build c.refuses_names.ensures q.0))))

pub write_strands-requires : goal.write_strands-requires
write_strands-requires c =
    let so = (goal.at.write_strands-requires c).In_ok-check in
    record {
      strands_value = ((fit so).strands, fits-tables _ _ (passed so));
      quencher_value = ((fit so).quencher, (fit so).reporter);
      glues_len = (fits-lengths _ _ (fit so)).0;
    }

pub fill_tables-requires : goal.fill_tables-requires
fill_tables-requires c =
    let lengths = fits-lengths _ _ (fit (goal.at.fill_tables-requires c).In_ok-check) in
    record {
      cells_len = (c.in_ok-check.ensures.checked refl).many;
      in_tables = (c.in_ok-check.ensures.checked refl).inside;
      dg_len = (c.fill.ensures.len ∙ lengths.1, c.fill-2.ensures.len ∙ lengths.2);
    }

pub returns-in_err-check-clause-reply : goal.returns-in_err-check-clause-reply
unfolding lent build_reply
returns-in_err-check-clause-reply c =
    let so = goal.at.returns-in_err-check-clause-reply c in
    same-error c.from_residual.result c.from_residual.ensures ∙ either_so (set_of c.args.set.now) c.args.build (lent so.Start) _ c.in_err-check.ensures.value

pub returns-in_err-check-clause-written : goal.returns-in_err-check-clause-written
unfolding lent
returns-in_err-check-clause-written c =
    let p = set_of c.args.set.now in
    let so = goal.at.returns-in_err-check-clause-written c in
    let r = refused_so p _ _ c.in_err-check.ensures.value in
    rw (same-error c.from_residual.result c.from_residual.ensures) (kept p (lent so.Start) c.args.build _ (sym (build-refused c.args.build p (lent so.Start) _ (sym r.1))))

pub returns : goal.returns
unfolding of_bits lent build_reply
returns c =
    let s = c.args.set.now in
    let so = goal.at.returns c in
    let built : first_of (build_checks c.args.build (set_of s) (lent so.Start)) ≡ Ok tt = sym (build-none c.args.build (set_of s) (lent so.Start) (sym (passed so.In_ok-check)) (stars-said (set_of s) c.args.build c.refuses_names.ensures (admits TwoStars c.refuses_names.result c.in_ok-refused_if.ensures))) in
    record {
      reply = sym (ap (placed (set_of s)) built);
      written = all-written (set_of s) (lent so.Start) s.lent.entries.now s.lent.energies.now refl _ _ (c.in_ok-check.ensures.checked refl) c.args.build _ _ _ _ _ _ built c.write_strands.ensures c.write_scaffold.ensures (c.fill.ensures.after (λ y e. e)) (c.fill-2.ensures.after (λ y e. e)) c.fill_tables.ensures.dg_after c.fill_tables.ensures.ds_after;
    }
