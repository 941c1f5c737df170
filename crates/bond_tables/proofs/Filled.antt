-- Over tables that were filled every call answers as over the design: the tables pass, since a bond of an admitted design is in range, and what a
-- state reads of them is the design's. Assumes nothing.
use mathlib.Core.Path.{◌≡◌, refl, sym, ap, ◌∙◌}
use mathlib.Core.Bool.{Bool, false, not}
use mathlib.Core.List.{List, []}
use mathlib.Core.Logic.{inl, inr}
use Prim.Native.Nat.{ℕ, suc, ◌<◌}
use lib.Dec.{lit≤, eqb}
use lib.ListN.{length}
use lib.Ieee.{Float}
use borrow.Author.Tests.{eq-eqb}
use Rattle.doubles.specs.Decimal.{zero}
use Rattle.reply.specs.First.{Check, first_of}
use Rattle.reply.specs.Figures.{figures_of, entries_of}
use Rattle.reply.proofs.Figures.{same-figures, number-admitted}
use Rattle.model.specs.Model.{Model, Friend}
use Rattle.model.specs.States.{count, state_at}
use Rattle.model.specs.Energy.{state_energy}
use Rattle.model.specs.Search.{SearchResult, search}
use Rattle.model.specs.Read.{Alike}
use Rattle.model.proofs.Read.{Held, alike-with}
use Rattle.design.specs.Design.{Design, positions, strands, strand_bond_in, scaffold_bond_in, model_of}
use Rattle.design.specs.Checks.{beyond, Admitted, design_checks, own_count_checks, own_rank_checks, own_energy_checks, energy_checks}
use Rattle.design.specs.Laws.{Doubles}
use Rattle.design.proofs.Sizes.{sized}
use Rattle.design.proofs.FriendLaws.{friend-tested}
use Rattle.design.proofs.BoundLaws.{strand-bond-within, scaffold-bond-within}
use Rattle.design.proofs.Finite.{taken}
use Rattle.design.proofs.Replies.{passed}
use Rattle.mfe.specs.Answers.{search_checks}
use Rattle.bond_tables.specs.Tables.{strand_table, scaffold_table, wrong_tables, bonds_out, bond_cell, model_over}
use Rattle.bond_tables.specs.Answers.{fill_checks, over_checks}
use Rattle.bond_tables.specs.Filled.{OverAlike, FilledTables}
use Rattle.design.proofs.Range.{not-out}
use Rattle.bond_tables.proofs.Table.{length-table, table_at, none-in-table}
use Rattle.bond_tables.proofs.Over.{same-checks}
use Rattle.reply.specs.Number.{Reply}

-- states do not hang on bonds
pub same_count : (d : Design) (t u : List Float) → count (model_over d t u) ≡ count (model_of d)
unfolding model_over count
same_count d t u = refl

pub same-state : (d : Design) (t u : List Float) (rank : ℕ) → state_at (model_over d t u) rank ≡ state_at (model_of d) rank
unfolding model_over
same-state d t u rank = refl

module _ (d : Design) (doubles : Doubles d) (a : Admitted d) where
  abbrev over : Model
  over = model_over d (strand_table d) (scaffold_table d)

  sizes-right : wrong_tables d (strand_table d) (scaffold_table d) ≡ false
  sizes-right = simp (eq-eqb _ _ (length-table (strands d) (strands d) (strand_bond_in d)), eq-eqb _ _ (length-table (positions d) (strands d) (scaffold_bond_in d)))

  cells_right : bonds_out (strand_table d) (scaffold_table d) ≡ false
  unfolding bonds_out
  cells_right =
      let pairs = none-in-table (beyond 80000) (strands d) (strands d) (strand_bond_in d) (λ x y h k. not-out 80000 (lit≤ tt) (strand_bond_in d x y) (strand-bond-within d doubles a x y h k)) in
      let sites = none-in-table (beyond 80000) (positions d) (strands d) (scaffold_bond_in d) (λ i x h k. not-out 80000 (lit≤ tt) (scaffold_bond_in d i x) (scaffold-bond-within d doubles a i x h k)) in
      rw (pairs, sites) refl

  same-reply : (own_size : Bool) (own : List Check) → first_of (over_checks own_size d (strand_table d) (scaffold_table d) own) ≡ first_of (design_checks own_size d own [])
  same-reply own_size own = same-checks own_size d (strand_table d) (scaffold_table d) own sizes-right cells_right

  site-same : (i x : ℕ) → Friend (model_of d) i x → (model_of d).site i x ≡ bond_cell (strands d) (scaffold_table d) i x
  unfolding model_of
  site-same i x f = let w = friend-tested d i x f in sym (table_at (positions d) (strands d) (scaffold_bond_in d) zero i x w.0 w.1)

  low : (i x : ℕ) → Held (model_of d) i x → x < strands d
  low i x (inl e) = rw e (sized d a.sizes).null
  low i x (inr f) = (friend-tested d i x f).1

  pair_same : (i x y : ℕ) → Held (model_of d) i x → Held (model_of d) (suc i) y → (model_of d).pair x y ≡ bond_cell (strands d) (strand_table d) x y
  unfolding model_of
  pair_same i x y h k = sym (table_at (strands d) (strands d) (strand_bond_in d) zero x y (low i x h) (low (suc i) y k))

  read : Alike (model_of d) over
  unfolding model_over
  read = alike-with (model_of d) (bond_cell (strands d) (scaffold_table d)) (bond_cell (strands d) (strand_table d)) (model_of d).potential site-same pair_same (λ i x f. refl)

  alike : OverAlike d (strand_table d) (scaffold_table d)
  alike = record {
    in_range = cells_right;
    state_energies = λ s.
        ap (λ (r : Reply). figures_of r zero (state_energy over s)) (same-reply (not (eqb (length s) (positions d))) (own_energy_checks d s))
        ∙ same-figures (first_of (energy_checks d s)) zero (state_energy over s) (state_energy (model_of d) s) (λ e. sym (read.state_energies s (taken d s e).state));
    counts =
        ap (λ (r : Reply). figures_of r 0 (count over)) (same-reply false (own_count_checks d))
        ∙ ap (λ (n : ℕ). figures_of (first_of (design_checks false d (own_count_checks d) [])) 0 n) (same_count d (strand_table d) (scaffold_table d));
    ranks = λ rank entries. ap (λ (r : Reply). figures_of r tt tt) (same-reply (not (eqb (length entries) (positions d))) (own_rank_checks d rank));
    ranked_entries = λ rank entries.
        ap (λ (r : Reply). entries_of r entries (state_at over rank)) (same-reply (not (eqb (length entries) (positions d))) (own_rank_checks d rank))
        ∙ ap (λ (s : List ℕ). entries_of (first_of (design_checks (not (eqb (length entries) (positions d))) d (own_rank_checks d rank) [])) entries s) (same-state d (strand_table d) (scaffold_table d) rank);
    searches = λ entries.
        ap (λ (r : Reply). figures_of r zero (search over).energy) (same-reply (not (eqb (length entries) (positions d))) [])
        ∙ ap (λ (found : SearchResult). figures_of (first_of (search_checks d entries)) zero found.energy) (sym read.searched);
    searched_entries = λ entries.
        ap (λ (r : Reply). entries_of r entries (search over).configuration) (same-reply (not (eqb (length entries) (positions d))) [])
        ∙ ap (λ (found : SearchResult). entries_of (first_of (search_checks d entries)) entries found.configuration) (sym read.searched);
  }

pub filled-tables : FilledTables
filled-tables d t u doubles e =
    let reply = number-admitted (first_of (fill_checks d t u)) tt tt e in
    rw reply (alike d doubles (passed (wrong_tables d t u) d [] [] reply).design)
