-- The places of faults as the code finds them, and what each says of its check. Assumes nothing.
use mathlib.Core.Path.{◌≡◌, refl, ap, sym, ◌∙◌}
use mathlib.Core.Bool.{true, false, ◌&&◌}
use mathlib.Core.List.{List, [], ◌∷◌}
use Prim.Native.Nat.{ℕ, zero, suc, ◌<◌, ◌≤◌}
use native.Mathlib.Numerals.{add-one}
use borrow.Author.Tests.{ltb-true}
use native.Mathlib.Omega.{arith}
use lib.ListN.{length, get_or, take}
use Rattle.std.specs.Prelude.{Option, Some, None, position, Result, Ok, Err, IsErrAnd}
use Rattle.std.proofs.lemmas.Result.{err_from_is_err_and}
use Rattle.lists.specs.Find.{any, first_index}
use Rattle.lists.specs.Build.{tabulate, up_to}
use Rattle.lists.proofs.Build.{length-tabulate, get_or-tabulate}
use Rattle.lists.proofs.Counted.{any-fails}
use Rattle.lists.proofs.Find.{passes-first, first_any}
use Rattle.lists.proofs.Searches.{position_some, position_none}
use Rattle.reply.specs.Number.{Reply}
use Rattle.reply.specs.First.{◌if◌, first_of, refuses, ◌or_else◌}
use Rattle.reply.proofs.First.{joined}
use Rattle.reply.specs.declared.Refusal.{Refusal}
use Rattle.reply.specs.declared.Refused.{Refused}
use Rattle.reply.specs.declared.Refusal.TheVariants.{OutOfRange, TwoStars}
use Rattle.sdc_common.proofs.Crowded.{take-tabulate}
use Rattle.sdc1d_params.specs.Entries.{Cell, same_pair}
use Rattle.sdc1d_params.specs.Tables.{duplicated, out_of_range}
use Rattle.sdc1d_params.specs.Params.{Params, Outcome, writes_of, param_checks, build_checks, is_ordinary, any_retired}
use Rattle.sdc1d_params.specs.Places.{repeats, refusal_place, placed}
use Rattle.sdc1d_params.specs.inner.Placed.{refused_where}
use Rattle.sdc1d_params.specs.declared.Build.{Build}
use Rattle.sdc1d_params.proofs.Marked.{nth, listed}
use Rattle.sdc1d_params.proofs.Pairs.{duplicated-more, duplicated-found}

-- ---- a check that looked for a place

-- where it passes, there is none
pub none_where : (refusal : Refusal) (place : Option ℕ) → Ok tt ≡ refused_where refusal place → place ≡ None
none_where refusal None e = refl
none_where refusal (Some k) e = cc

-- where it refuses, it has one, and the refusal is its own
pub some_where : (refusal : Refusal) (place : Option ℕ) (told : Refused) → Err told ≡ refused_where refusal place → (k : ℕ) × (place ≡ Some k) × (told ≡ record { refusal = refusal; place = place })
some_where refusal None told e = (0, cc, cc)
some_where refusal (Some k) told e = (k, refl, cc)

-- and so of the call that ends there
pub exits_where : {T : Type 0} (given : Result T Refused) (refusal : Refusal) (place : Option ℕ) (told : Refused) → IsErrAnd given (λ (e : Refused). e ≡ told)
    → Err told ≡ refused_where refusal place → (k : ℕ) × (place ≡ Some k) × (given ≡ Err (record { refusal = refusal; place = place }))
exits_where given refusal place told e q =
    let p = err_from_is_err_and given e in
    let r = some_where refusal place told q in
    (r.0, r.1, p.1 ∙ ap Err (p.2 ∙ r.2))

-- ---- the reply with its place

module _ (p : Params) where
  -- at the place of a refusal
  pub told_at : (refusal : Refusal) (place : Option ℕ) (given reply : Reply) → given ≡ refuses refusal place → place ≡ refusal_place p refusal → refuses refusal None ≡ reply → given ≡ placed p reply
  told_at refusal place given reply e at r = e ∙ ap (refuses refusal) at ∙ ap (placed p) r

  -- of one that passes
  pub passed_so : (reply : Reply) → Ok tt ≡ placed p reply → reply ≡ Ok tt
  passed_so (Ok u) e = refl
  passed_so (Err other) e = cc

  -- and of one that refuses
  pub refused_so : (reply : Reply) (told : Refused) → Err told ≡ placed p reply → (place : Option ℕ) × (reply ≡ refuses told.refusal place)
  refused_so (Ok u) told e = (None, cc)
  refused_so (Err other) told e = (other.place, let same : told ≡ record { refusal = other.refusal; place = refusal_place p other.refusal } = cc in rw same)

  later_so : (first last : Reply) (told : Refused) → Err told ≡ placed p first → Err told ≡ placed p (first or_else last)
  later_so (Ok u) last told e = cc
  later_so (Err other) last told e = e

  -- a refusal among the checks of both builds is that of either
  pub either_so : (build : Build) (lent : Outcome) (told : Refused) → Err told ≡ placed p (first_of (param_checks p lent)) → Err told ≡ placed p (first_of (build_checks build p lent))
  either_so build lent told e =
      let stars = TwoStars if (is_ordinary build && any_retired p) ∷ [] in
      rw (sym (joined (param_checks p lent) stars)) (later_so (first_of (param_checks p lent)) (first_of stars) told e)

  -- the last of the checks
  pub last_at : (place : Option ℕ) → place ≡ position out_of_range (writes_of p) → refused_where OutOfRange place ≡ placed p (first_of (OutOfRange if any out_of_range (writes_of p) ∷ []))
  unfolding refusal_place
  last_at None e = rw (position_none out_of_range (writes_of p) (sym e)) refl
  last_at (Some k) e = rw ((position_some out_of_range (writes_of p) (sym e)).0, ← e) refl

-- ---- entries that name a pair again

module _ (cells : List Cell) where
  abbrev n : ℕ
  n = length cells

  pub repeats-is : (k : ℕ) → k < n → repeats cells k ≡ any (same_pair (nth cells k)) (tabulate k (nth cells))
  repeats-is k h = ap (any (same_pair (nth cells k))) (ap (take k) (listed cells) ∙ take-tabulate k n (nth cells) (omega arith))

  none_first : duplicated (tabulate 0 (nth cells)) ≡ false
  unfolding duplicated tabulate
  none_first = refl

  once_below : ((k : ℕ) → k < n → repeats cells k ≡ false) → (i : ℕ) → i ≤ n → duplicated (tabulate i (nth cells)) ≡ false
  once_below h zero l = none_first
  once_below h (suc i) l =
      let in_cells : i < n = omega arith in
      rw (← add-one i) (duplicated-more (nth cells) i (once_below h i (omega arith)) (sym (repeats-is i in_cells) ∙ h i in_cells))

  pub once_only : position (repeats cells) (up_to n) ≡ None → duplicated cells ≡ false
  once_only e = ap duplicated (listed cells) ∙ once_below (λ k h. any-fails (repeats cells) n (λ j. j) (position_none (repeats cells) (up_to n) e) k h) n (omega arith)

  pub twice_at : {k : ℕ} → position (repeats cells) (up_to n) ≡ Some k → duplicated cells ≡ true
  twice_at {k} e =
      let found = position_some (repeats cells) (up_to n) e in
      let inside : k < n = rw (found.1, length-tabulate n (λ j. j)) at (first_inside found.0) in
      let here : repeats cells k ≡ true = rw (found.1, number-at inside) at (passes-first (repeats cells) 0 (up_to n) (first_inside found.0)) in
      ap duplicated (listed cells) ∙ duplicated-found (nth cells) n k inside (sym (repeats-is k inside) ∙ here)
    where
      first_inside : any (repeats cells) (up_to n) ≡ true → first_index (repeats cells) (up_to n) < length (up_to n)
      first_inside h = ltb-true _ _ (first_any (repeats cells) (up_to n) ∙ h)

      number-at : {j : ℕ} → j < n → get_or (up_to n) j 0 ≡ j
      number-at {j} h = get_or-tabulate n (λ j. j) 0 j h
