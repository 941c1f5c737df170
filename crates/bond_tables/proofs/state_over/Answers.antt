-- Where the tables pass, the checks and the state are the design's. Assumes nothing.
use mathlib.Core.Path.{sym, ap, ◌∙◌}
use mathlib.Core.List.{List}
use Prim.Native.Nat.{ℕ}
use Rattle.std.specs.Prelude.{Ok}
use Rattle.std.proofs.lemmas.Result.{err_from_is_err_and}
use Rattle.reply.specs.Number.{Reply}
use Rattle.reply.specs.First.{first_of}
use Rattle.reply.specs.Figures.{entries_of}
use Rattle.reply.proofs.Figures.{refused-by, kept_by}
use Rattle.model.specs.States.{state_at}
use Rattle.design.specs.Checks.{own_rank_checks, rank_checks}
use Rattle.bond_tables.specs.Tables.{model_over}
use Rattle.bond_tables.specs.Answers.{rank_over_checks}
use Rattle.bond_tables.proofs.Over.{told-by}
use Rattle.bond_tables.proofs.Filled.{same-state}
use Rattle.bond_tables.proofs.state_over.Goals as goal

pub returns-in_err-bonds_reply-clause-result_value : goal.returns-in_err-bonds_reply-clause-result_value
returns-in_err-bonds_reply-clause-result_value c =
    let a = c.args in
    let d = a.design.now in
    let p = err_from_is_err_and c.from_residual.result c.from_residual.ensures.1 in
    let own = rw c.positions.ensures at (c.bonds_reply.ensures.value (own_rank_checks d a.rank)) in
    rw (p.1, p.2) (refused-by tt tt (told-by c.bonds_reply.result _ (first_of (rank_checks d a.rank a.entries.now)) (first_of (rank_over_checks d a.tables.now.strand_bonds.now a.tables.now.scaffold_bonds.now a.rank a.entries.now)) own c.in_err-bonds_reply.was))

pub returns-in_err-bonds_reply-clause-entries_after : goal.returns-in_err-bonds_reply-clause-entries_after
returns-in_err-bonds_reply-clause-entries_after c =
    let a = c.args in
    let d = a.design.now in
    let t = a.tables.now.strand_bonds.now in
    let u = a.tables.now.scaffold_bonds.now in
    let own = rw c.positions.ensures at (c.bonds_reply.ensures.value (own_rank_checks d a.rank)) in
    kept_by a.entries.now (state_at (model_over d t u) a.rank) (told-by c.bonds_reply.result _ (first_of (rank_checks d a.rank a.entries.now)) (first_of (rank_over_checks d t u a.rank a.entries.now)) own c.in_err-bonds_reply.was)

pub returns-clause-entries_after : goal.returns-clause-entries_after
returns-clause-entries_after c =
    let a = c.args in
    let d = a.design.now in
    let t = a.tables.now.strand_bonds.now in
    let u = a.tables.now.scaffold_bonds.now in
    let entries = a.entries.now in
    let own = rw c.positions.ensures at (c.bonds_reply.ensures.value (own_rank_checks d a.rank)) in
    let reply = told-by c.bonds_reply.result (Ok tt) (first_of (rank_checks d a.rank entries)) (first_of (rank_over_checks d t u a.rank entries)) own c.in_ok-bonds_reply.was in
    c.state_at_rank.ensures.entries_after
    ∙ sym (ap (λ (r : Reply). entries_of r entries (state_at (model_over d t u) a.rank)) reply ∙ ap (λ (s : List ℕ). entries_of (first_of (rank_checks d a.rank entries)) entries s) (same-state d t u a.rank))
