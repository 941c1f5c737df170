-- Designs whose amounts read alike have the same first state under a ceiling. Assumes nothing.
use mathlib.Core.Path.{◌≡◌, refl, sym, ap, ap₂, subst, ◌∙◌}
use mathlib.Core.Bool.{Bool, false, not, cond, ◌||◌}
use mathlib.Core.List.{List, [], ◌∷◌, ◌++◌, Memᴰ}
use Prim.Native.Nat.{ℕ, suc, ◌<◌}
use lib.Dec.{ltb, eqb}
use lib.ListN.{length, get_or}
use lib.Ieee.{Float, le}
use Rattle.lists.specs.Find.{any, first_index}
use Rattle.lists.proofs.Places.{mem-get_or}
use Rattle.doubles.specs.Decimal.{zero}
use Rattle.reply.specs.First.{Check, ◌if◌, ◌if◌at◌, first_of}
use Rattle.reply.specs.Figures.{figures_of, entries_of}
use Rattle.reply.specs.declared.Refusal.TheVariants.{WrongSize, OutOfRange, NullBinds, TooManyStates, NoneUnder}
use Rattle.reply.proofs.First.{none-holds, both-pass}
use Rattle.reply.proofs.Figures.{same-figures}
use Rattle.model.specs.Model.{Model, State}
use Rattle.model.specs.States.{states, state_at}
use Rattle.model.specs.Energy.{state_energy}
use Rattle.model.specs.Read.{Alike}
use Rattle.model.proofs.Listing.{listed}
use Rattle.design.specs.declared.Amounts.{Amounts}
use Rattle.design.specs.Design.{Design, positions, model_of}
use Rattle.design.specs.Checks.{cells_out, bad_cell, null_binds, ranged_checks, number_checks, own_count_checks}
use Rattle.design.specs.Unread.{with_amounts, ReadAlike}
use Rattle.design.proofs.Unread.{sizes-same, numbers-same, same-models}
use Rattle.std.specs.Prelude.{Ok}
use Rattle.ceiling.specs.Ceiling.{is_under, first_under, state_under, none_under, finite}
use Rattle.ceiling.specs.Answers.{ceiling_checks}
use Rattle.ceiling.specs.Unread.{UnreadUnder}
use Rattle.ceiling.proofs.Whole.{under-rank}

-- ---- two models that are alike

module _ (m n : Model) (a : Alike m n) (ceiling : Float) where
  under-same : (s : List ℕ) → State m s → is_under m ceiling s ≡ is_under n ceiling s
  under-same s w = ap (λ (e : Float). le e ceiling) (a.state_energies s w)

  any-same : (ss : List (List ℕ)) → ((s : List ℕ) → Memᴰ s ss → State m s) → any (is_under m ceiling) ss ≡ any (is_under n ceiling) ss
  unfolding any
  any-same [] h = refl
  any-same (s ∷ ss) h = ap₂ (λ (here later : Bool). here || later) (under-same s (h s (Memᴰ.head refl))) (any-same ss (λ t k. h t (Memᴰ.tail k)))

  index-same : (ss : List (List ℕ)) → ((s : List ℕ) → Memᴰ s ss → State m s) → first_index (is_under m ceiling) ss ≡ first_index (is_under n ceiling) ss
  unfolding first_index
  index-same [] h = refl
  index-same (s ∷ ss) h = ap₂ (λ (here : Bool) (later : ℕ). cond here 0 (suc later)) (under-same s (h s (Memᴰ.head refl))) (index-same ss (λ t k. h t (Memᴰ.tail k)))

  none-same : none_under m ceiling ≡ none_under n ceiling
  unfolding none_under
  none-same = ap not (any-same (states m) (listed m).only) ∙ ap (λ (ss : List (List ℕ)). not (any (is_under n ceiling) ss)) a.listed

  rank-same : first_under m ceiling ≡ first_under n ceiling
  unfolding first_under
  rank-same = index-same (states m) (listed m).only ∙ ap (first_index (is_under n ceiling)) a.listed

  state-same : state_under m ceiling ≡ state_under n ceiling
  state-same = a.ranked (first_under m ceiling) ∙ ap (state_at n) rank-same

  -- where there is one it is a state
  is-state : none_under m ceiling ≡ false → State m (state_under m ceiling)
  is-state e =
      let l = listed m in
      let inside : first_under m ceiling < length (states m) = under-rank m ceiling e in
      subst (λ (s : List ℕ). State m s) (l.ranked (first_under m ceiling) (rw (← l.size) inside)) (l.only (get_or (states m) (first_under m ceiling) []) (mem-get_or [] (states m) (first_under m ceiling) inside))

  energy-same : none_under m ceiling ≡ false → state_energy m (state_under m ceiling) ≡ state_energy n (state_under n ceiling)
  energy-same e = a.state_energies (state_under m ceiling) (is-state e) ∙ ap (state_energy n) state-same

-- ---- of two designs

module _ (d : Design) (amounts : List Float) (given : Amounts) (r : ReadAlike d amounts given) (ceiling : Float) (entries : List ℕ) where
  abbrev other : Design
  other = with_amounts d amounts given

  alike : Alike (model_of d) (model_of other)
  alike = same-models d amounts given r

  abbrev ranged : List Check
  ranged = ranged_checks (not (eqb (length entries) (positions d))) (not (finite ceiling)) d.scaffold d.marks d.glues d.dg d.ds d.amounts

  abbrev last : Bool → List Check
  last none = NoneUnder if none ∷ []

  checks-same : ceiling_checks d ceiling entries ≡ ceiling_checks other ceiling entries
  checks-same =
      ap₂ (λ (first later : List Check). first ++ later)
      (ap (λ (s : Bool). WrongSize if (not (eqb (length entries) (positions d)) || s) ∷ OutOfRange if cells_out d.dg d.ds at bad_cell d.dg d.ds ∷ OutOfRange if not (finite ceiling) ∷ NullBinds if null_binds d.glues d.dg d.ds ∷ []) (sym (sizes-same d amounts given r)))
      (ap₂ (λ (n : ℕ) (after : List Check). (TooManyStates if ltb 1048576 n ∷ []) ++ after) alike.counted
      (ap₂ (λ (numbers : List Check) (none : Bool). numbers ++ last none) (sym (numbers-same d amounts given r)) (none-same (model_of d) (model_of other) alike ceiling)))

  -- a call that is admitted has a state under the ceiling
  some : first_of (ceiling_checks d ceiling entries) ≡ Ok tt → none_under (model_of d) ceiling ≡ false
  some e =
      let first = both-pass ranged (own_count_checks d ++ (number_checks d ++ last (none_under (model_of d) ceiling))) e in
      let second = both-pass (own_count_checks d) (number_checks d ++ last (none_under (model_of d) ceiling)) first.1 in
      let third = both-pass (number_checks d) (last (none_under (model_of d) ceiling)) second.1 in
      (none-holds (last (none_under (model_of d) ceiling)) third.1).0

pub unread-under : UnreadUnder
unread-under d amounts given r =
    let other = with_amounts d amounts given in
    record {
      answers = λ ceiling entries.
          same-figures (first_of (ceiling_checks d ceiling entries)) zero _ _ (λ e. energy-same (model_of d) (model_of other) (alike d amounts given r ceiling entries) ceiling (some d amounts given r ceiling entries e))
          ∙ ap (λ (cs : List Check). figures_of (first_of cs) zero (state_energy (model_of other) (state_under (model_of other) ceiling))) (checks-same d amounts given r ceiling entries);
      written = λ ceiling entries.
          ap₂ (λ (cs : List Check) (s : List ℕ). entries_of (first_of cs) entries s) (checks-same d amounts given r ceiling entries) (state-same (model_of d) (model_of other) (alike d amounts given r ceiling entries) ceiling);
    }
