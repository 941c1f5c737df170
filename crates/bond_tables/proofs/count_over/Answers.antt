-- Where the tables pass, the checks and the count are the design's. Assumes nothing.
use mathlib.Core.Path.{sym, ap, ◌∙◌}
use Prim.Native.Nat.{ℕ}
use Rattle.std.specs.Prelude.{Ok}
use Rattle.std.proofs.lemmas.Result.{err_from_is_err_and}
use Rattle.reply.specs.Number.{Reply}
use Rattle.reply.specs.First.{first_of}
use Rattle.reply.specs.Figures.{figures_of}
use Rattle.reply.proofs.Figures.{refused-by}
use Rattle.model.specs.States.{count}
use Rattle.design.specs.Checks.{own_count_checks, count_checks}
use Rattle.bond_tables.specs.Tables.{model_over}
use Rattle.bond_tables.specs.Answers.{count_over_checks}
use Rattle.bond_tables.proofs.Over.{told-by}
use Rattle.bond_tables.proofs.Filled.{same_count}
use Rattle.bond_tables.proofs.count_over.Goals as goal

pub returns-in_err-bonds_reply : goal.returns-in_err-bonds_reply
returns-in_err-bonds_reply c =
    let d = c.args.design.now in
    let t = c.args.tables.now.strand_bonds.now in
    let u = c.args.tables.now.scaffold_bonds.now in
    let p = err_from_is_err_and c.from_residual.result c.from_residual.ensures.1 in
    rw (p.1, p.2) (refused-by 0 (count (model_over d t u)) (told-by c.bonds_reply.result _ (first_of (count_checks d)) (first_of (count_over_checks d t u)) (c.bonds_reply.ensures.value (own_count_checks d)) c.in_err-bonds_reply.was))

pub returns : goal.returns
returns c =
    let d = c.args.design.now in
    let t = c.args.tables.now.strand_bonds.now in
    let u = c.args.tables.now.scaffold_bonds.now in
    let reply = told-by c.bonds_reply.result (Ok tt) (first_of (count_checks d)) (first_of (count_over_checks d t u)) (c.bonds_reply.ensures.value (own_count_checks d)) c.in_ok-bonds_reply.was in
    c.number_of_states.ensures
    ∙ sym (ap (λ (r : Reply). figures_of r 0 (count (model_over d t u))) reply ∙ ap (λ (n : ℕ). figures_of (first_of (count_checks d)) 0 n) (same_count d t u))
