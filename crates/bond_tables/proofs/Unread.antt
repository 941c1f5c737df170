-- Over lent tables designs whose amounts read alike are answered alike. Assumes nothing.
use mathlib.Core.Path.{◌≡◌, refl, sym, ap, ap₂, ◌∙◌}
use mathlib.Core.Bool.{Bool, false, not, ◌||◌}
use mathlib.Core.List.{List, [], ◌∷◌, ◌++◌}
use Prim.Native.Nat.{ℕ}
use lib.Dec.{eqb}
use lib.ListN.{length}
use lib.Ieee.{Float}
use borrow.Author.Tests.{eqb-true, not-false}
use Rattle.doubles.specs.Decimal.{zero}
use Rattle.reply.specs.First.{Check, ◌if◌, ◌if◌at◌, first_of}
use Rattle.reply.specs.Figures.{figures_of, entries_of}
use Rattle.reply.specs.declared.Refusal.TheVariants.{WrongSize, OutOfRange, NullBinds, NotAFriend, TooManyStates, RankTooHigh}
use Rattle.reply.proofs.First.{passes}
use Rattle.reply.proofs.Figures.{same-figures}
use Rattle.model.specs.Model.{State}
use Rattle.model.specs.Energy.{state_energy}
use Rattle.model.specs.Search.{SearchResult}
use Rattle.model.specs.Read.{SameRead, Alike}
use Rattle.model.proofs.Read.{only-friends-read}
use Rattle.design.specs.declared.Amounts.{Amounts}
use Rattle.design.specs.Design.{Design, positions, strand_bond_in, scaffold_bond_in}
use Rattle.design.specs.Checks.{cells_out, bad_cell, null_binds, not_all_friends, design_checks, own_count_checks, own_rank_checks, own_energy_checks}
use Rattle.design.specs.Unread.{with_amounts, ReadAlike}
use Rattle.design.proofs.FriendLaws.{friends-right}
use Rattle.design.proofs.Unread.{sizes-same, numbers-same, same_read, same-models, all-friends-same, same-design-reply}
use Rattle.std.specs.Prelude.{Ok}
use Rattle.bond_tables.specs.Tables.{table, wrong_tables, bonds_out, bond_cell, model_over}
use Rattle.bond_tables.specs.Answers.{fill_checks, over_checks, energy_over_checks}
use Rattle.bond_tables.specs.Unread.{UnreadOver}
use Rattle.bond_tables.proofs.Over.{passed_over}

module _ (d : Design) (amounts : List Float) (given : Amounts) (r : ReadAlike d amounts given) (t u : List Float) where
  abbrev other : Design
  other = with_amounts d amounts given

  -- ---- the checks

  wrong-same : wrong_tables d t u ≡ wrong_tables other t u
  wrong-same = rw r.many refl

  fill-same : fill_checks d t u ≡ fill_checks other t u
  fill-same = sym (same-design-reply d amounts given r (wrong_tables d t u) [] []) ∙ ap (λ (w : Bool). design_checks w other [] []) wrong-same

  over-same : (own_size : Bool) {own another : List Check} → own ≡ another → over_checks own_size d t u own ≡ over_checks own_size other t u another
  over-same own_size {own} {another} e =
      ap₂ (λ (first last : List Check). first ++ last)
      (ap₂ (λ (w s : Bool). WrongSize if ((own_size || w) || s) ∷ OutOfRange if cells_out d.dg d.ds at bad_cell d.dg d.ds ∷ OutOfRange if bonds_out t u ∷ NullBinds if null_binds d.glues d.dg d.ds ∷ []) wrong-same (sym (sizes-same d amounts given r)))
      (ap₂ (λ (mine numbers : List Check). mine ++ numbers) e (sym (numbers-same d amounts given r)))

  -- ---- the models

  read : SameRead (model_over d t u) (model_over other t u)
  unfolding model_over
  read =
      let same = same_read d amounts given r in
      record {
        friends = same.friends;
        site = ap (λ (n : ℕ). bond_cell n u) (sym r.many);
        pair = ap (λ (n : ℕ). bond_cell n t) (sym r.many);
        rt = same.rt;
        potential = same.potential;
      }

  alike : Alike (model_over d t u) (model_over other t u)
  alike = only-friends-read (model_over d t u) (model_over other t u) read

  -- a configuration that no check refuses is a state
  taken : (s : List ℕ) → first_of (energy_over_checks d t u s) ≡ Ok tt → State (model_over d t u) s
  unfolding model_over
  taken s e =
      let p = passed_over (not (eqb (length s) (positions d))) d t u (own_energy_checks d s) e in
      let w = ((friends-right d).states s (eqb-true _ _ (not-false _ p.size))).0 (passes (NotAFriend if not_all_friends d s) [] p.mine).0 in
      record { places = w.places; occupants = w.occupants }

  -- ---- the call's own checks

  counts-same : own_count_checks d ≡ own_count_checks other
  counts-same = ap (λ (n : ℕ). TooManyStates if lib.Dec.ltb 1048576 n ∷ []) (same-models d amounts given r).counted

  ranks-same : (rank : ℕ) → own_rank_checks d rank ≡ own_rank_checks other rank
  ranks-same rank = ap (λ (n : ℕ). TooManyStates if lib.Dec.ltb 1048576 n ∷ RankTooHigh if lib.Dec.leb n rank ∷ []) (same-models d amounts given r).counted

  energies-same : (s : List ℕ) → own_energy_checks d s ≡ own_energy_checks other s
  energies-same s = ap (λ (b : Bool). NotAFriend if b ∷ []) (sym (all-friends-same d amounts given r s))

  abbrev many : List ℕ → Bool
  many s = not (eqb (length s) (positions d))

pub unread-over : UnreadOver
unread-over d amounts given r =
    let other = with_amounts d amounts given in
    record {
      fills = λ t u. ap (λ (cs : List Check). figures_of (first_of cs) tt tt) (fill-same d amounts given r t u);
      strand_cells = λ t u. ap₂ (λ (cs : List Check) (n : ℕ). entries_of (first_of cs) t (table n n (strand_bond_in d))) (fill-same d amounts given r t u) (sym r.many);
      scaffold_cells = λ t u. ap₂ (λ (cs : List Check) (n : ℕ). entries_of (first_of cs) u (table (positions d) n (scaffold_bond_in d))) (fill-same d amounts given r t u) (sym r.many);
      energies = λ t u s.
          same-figures (first_of (energy_over_checks d t u s)) zero _ _ (λ e. (alike d amounts given r t u).state_energies s (taken d amounts given r t u s e))
          ∙ ap (λ (cs : List Check). figures_of (first_of cs) zero (state_energy (model_over other t u) s)) (over-same d amounts given r t u (many d amounts given r t u s) (energies-same d amounts given r t u s));
      counts = λ t u.
          ap₂ (λ (cs : List Check) (n : ℕ). figures_of (first_of cs) 0 n) (over-same d amounts given r t u false (counts-same d amounts given r t u)) (alike d amounts given r t u).counted;
      ranks = λ t u rank entries.
          ap (λ (cs : List Check). figures_of (first_of cs) tt tt) (over-same d amounts given r t u (many d amounts given r t u entries) (ranks-same d amounts given r t u rank));
      ranked_entries = λ t u rank entries.
          ap₂ (λ (cs : List Check) (s : List ℕ). entries_of (first_of cs) entries s) (over-same d amounts given r t u (many d amounts given r t u entries) (ranks-same d amounts given r t u rank)) ((alike d amounts given r t u).ranked rank);
      searches = λ t u entries.
          ap₂ (λ (cs : List Check) (found : SearchResult). figures_of (first_of cs) zero found.energy) (over-same d amounts given r t u (many d amounts given r t u entries) {own = []} refl) (alike d amounts given r t u).searched;
      searched_entries = λ t u entries.
          ap₂ (λ (cs : List Check) (found : SearchResult). entries_of (first_of cs) entries found.configuration) (over-same d amounts given r t u (many d amounts given r t u entries) {own = []} refl) (alike d amounts given r t u).searched;
    }
