-- The answers of the sums, from the reply of the design's checks on; and that the figures answered are document 02's sums. Assumes nothing.
use mathlib.Core.Path.{◌≡◌, refl, sym, ap, subst, ◌∙◌}
use mathlib.Core.Bool.{Bool, true, false, cond, ◌||◌}
use mathlib.Core.List.{List, []}
use Prim.Native.Nat.{ℕ, zero, suc, ◌≤◌, ◌<◌}
use native.Mathlib.Decide.{dec_le}
use native.Mathlib.Nat.{lt_of_not-le}
use native.Mathlib.Omega.{arith}
use lib.ListN.{length, get_or, get_or-eq_default}
use borrow.Author.Tests.{eqb-false}
use Rattle.lists.specs.Build.{tabulate}
use Rattle.lists.proofs.Build.{length-tabulate, get_or-tabulate}
use Rattle.lists.proofs.Tests.{neither}
use Rattle.reply.specs.First.{Check, first_of, ◌or_else◌, bare, refused_if}
use Rattle.reply.specs.Figures.{figures_of}
use Rattle.reply.specs.declared.Refusal.{Refusal}
use Rattle.reply.specs.declared.Refused.{Refused}
use Rattle.reply.proofs.First.{none-holds, reply-append}
use Rattle.reply.proofs.Figures.{refused-by, number-admitted}
use Rattle.fractions.specs.declared.Weight.{Weight}
use Rattle.model.specs.Model as Model
use Rattle.ensemble.specs.Layout.{OptionRows}
use Rattle.design.specs.Design.{Design, positions, strands, blocked_at, scaffold_glue, friends_to, friends_of, model_of}
use Rattle.design.specs.Checks.{Admitted, TablesPass, sizes_out, design_checks}
use Rattle.design.proofs.Sizes.{sized}
use Rattle.design.proofs.FriendLaws.{null-not-bound}
use Rattle.design.proofs.Optioned.{friends-few}
use Rattle.design.proofs.Replies.{passed, tables-of}
use Rattle.partition.specs.Sum.{zero_weight, FreeSum, ConstrainedSum}
use Rattle.partition.specs.Constraint.{list_at, lists_of}
use Rattle.partition.specs.Weights.{Weights, place_worth, pair_worth, weights_out}
use Rattle.partition.specs.Summed.{free_figure, constrained_figure}
use Rattle.partition.specs.Laws.{Sums}
use Rattle.partition.specs.inner.Used.{InUse}
use Rattle.partition.proofs.Sums.{in_use, sums-of-models}
use Rattle.partition_sums.specs.Layout.{Listed, options_in, friends_in}
use Rattle.partition_sums.proofs.Options.{friends-in, options-in}
use Rattle.state_sums.specs.Sizes.{Lists, wrong_cells, wrong_lists}
use Rattle.state_sums.specs.Answers.{own_sum_checks, free_checks, constrained_checks, constraint_of, free_answer, constrained_answer, sum_figures, FreeShown, ConstrainedShown}
use Rattle.state_sums.proofs.Lent.{lists-listed}
use Rattle.std.specs.Prelude.{None, Result, Ok, Err, IsErrAnd, IfErr}
use Rattle.std.proofs.lemmas.Result.{err_from_is_err_and}
use Rattle.reply.specs.Number.{Reply}

pub positive : (n : ℕ) → (n ≡ 0 → ⊥) → 0 < n
positive zero f = absurd (f refl)
positive (suc n) f = omega arith

-- ---- the reply

-- the design's checks come first, and then the sum's own
after-design : (size : Bool) (d : Design) (after : List Check) {r : Reply} → first_of (design_checks size d [] []) ≡ r → first_of (design_checks size d [] after) ≡ r or_else first_of after
after-design size d after e = reply-append (design_checks size d [] []) after e

or-true : (a b s : Bool) → s ≡ true → (a || s) ≡ (b || s)
or-true true true s e = refl
or-true true false s e = sym e
or-true false true s e = e
or-true false false s e = refl

-- where the design's own sizes are wrong, those of what is lent beside it decide nothing
same_size : (a b s : Bool) → (s ≡ false → a ≡ b) → (a || s) ≡ (b || s)
same_size a b true h = or-true a b true refl
same_size a b false h = ap (λ (t : Bool). t || false) (h refl)

-- a refusal of the design's checks is the answer
module _ (d : Design) (w : Weights) (size : Bool) (figure : Weight) {a : Bool} {e : Refused} (same : sizes_out d ≡ false → a ≡ size) (r : first_of (design_checks a d [] []) ≡ Err e) where
  design-replied : first_of (design_checks size d [] []) ≡ Err e
  design-replied = rw (← same_size a size (sizes_out d) same) r

  pub sum-refused : (told : Result Weight Refused) → IsErrAnd told (λ (x : Refused). x ≡ e) → sum_figures told ≡ figures_of (first_of (design_checks size d [] (own_sum_checks d w))) zero_weight figure
  sum-refused told h = let p = err_from_is_err_and told h in rw (p.1, p.2) (refused-by zero_weight figure (after-design size d (own_sum_checks d w) design-replied))

-- ---- the check of the weights, over the options that are lent

pub bare-true : (holds : Bool) (x : Refusal) {y : Refusal} → ◌≡◌ {A = Result Unit Refusal} (Err y) (bare (refused_if holds x None (Ok tt))) → holds ≡ true
bare-true true x told = refl
bare-true false x told = cc

-- what holds is what a refusal says, too
pub if-err : {A : Type 0} {P : Type 0} (r : Result A Refused) → P → IfErr r (λ _. P)
if-err (Ok x) p = tt
if-err (Err e) p = p

module _ (d : Design) (w : Weights) {rows counts : List ℕ} {out : Bool} (options : OptionRows (model_of d) rows counts) (looked : out ≡ weights_out (friends_in rows counts) w) where
  pub weights-told : out ≡ weights_out (model_of d).friends w
  weights-told = looked ∙ ap (λ (friends : List (List ℕ)). weights_out friends w) (friends-in options)

  pub weights-used : out ≡ false → InUse w 0 (options_in rows counts)
  weights-used e = subst (InUse w 0) (sym (options-in options)) (in_use w (model_of d).friends (sym weights-told ∙ e))

-- ---- the figure

-- no position has more than 63 friends
friends-of-few : (d : Design) → TablesPass d → (i : ℕ) → i < positions d → length (friends_of d i) ≤ 63
friends-of-few d t i h = go (blocked_at d.marks i)
  where
    go : (b : Bool) → length (cond b [] (friends_to (scaffold_glue d i) d.glues d.dg d.ds (strands d))) ≤ 63
    go true = omega arith
    go false =
        let z = sized d t.sizes in
        let l = friends-few (scaffold_glue d i) d.glues d.dg d.ds (strands d) z.null (null-not-bound d t i h) in
        let few = z.few in
        omega arith

few-friends : (d : Design) → TablesPass d → (i : ℕ) → length (Model.friends_at (model_of d) i) ≤ 63
unfolding model_of
few-friends d t i = go (dec_le (suc i) (positions d))
  where
    go : Dec (suc i ≤ positions d) → length (get_or (tabulate (positions d) (friends_of d)) i []) ≤ 63
    go (yes h) = rw (get_or-tabulate (positions d) (friends_of d) [] i h) (friends-of-few d t i h)
    go (no f) =
        let past : length (tabulate (positions d) (friends_of d)) ≤ i = rw (length-tabulate (positions d) (friends_of d)) (let z = lt_of_not-le f in omega arith) in
        rw (get_or-eq_default (tabulate (positions d) (friends_of d)) [] past) (omega arith)

model-positions : (d : Design) → Model.positions (model_of d) ≡ positions d
unfolding model_of
model-positions d = length-tabulate (positions d) (friends_of d)

-- the figures of the pass over an admitted design of one position or more are document 02's sums
sums-right : (d : Design) (w : Weights) → Admitted d → 0 < positions d → weights_out (model_of d).friends w ≡ false → Sums (model_of d) w
sums-right d w a some none =
    let n = model-positions d in
    sums-of-models (model_of d) w (rw n some) (rw n (sized d a.sizes).short) (few-friends d (tables-of d a)) none

pub length-lists : (l : Lists) → length (constraint_of l) ≡ length l.starts
unfolding lists_of
length-lists l = length-tabulate (length l.starts) (list_at l.numbers l.starts l.lengths)

-- what an admitted call is given is document 02's sum
module _ (d : Design) (w : Weights) (r : Reply) (sums : r ≡ Ok tt → Sums (model_of d) w) where
  free-given : FreeShown d w (figures_of r zero_weight (free_figure (model_of d) w))
  free-given number = let e = number-admitted r zero_weight (free_figure (model_of d) w) number in rw e (sums e).free

  constrained-given : (l : Lists) → (r ≡ Ok tt → Listed (positions d) l.numbers l.starts l.lengths) → ConstrainedShown d w l (figures_of r zero_weight (constrained_figure (model_of d) w (constraint_of l)))
  constrained-given l listed number =
      let e = number-admitted r zero_weight (constrained_figure (model_of d) w (constraint_of l)) number in
      rw e ((sums e).constrained (constraint_of l) (length-lists l ∙ (listed e).starting ∙ sym (model-positions d)))

-- of every design, all weights and all lists
passed-sums : (d : Design) (w : Weights) (size : Bool) → first_of (design_checks size d [] (own_sum_checks d w)) ≡ Ok tt → Sums (model_of d) w
passed-sums d w size e =
    let p = passed size d [] (own_sum_checks d w) e in
    let own = none-holds (own_sum_checks d w) p.last in
    sums-right d w p.design (positive (positions d) (eqb-false (positions d) 0 own.0)) own.1.0

pub free-shown : (d : Design) (w : Weights) → FreeShown d w (free_answer d w)
free-shown d w = free-given d w (first_of (free_checks d w)) (passed-sums d w (wrong_cells (positions d) w))

pub constrained-shown : (d : Design) (w : Weights) (l : Lists) → ConstrainedShown d w l (constrained_answer d w l)
constrained-shown d w l =
    let size = wrong_cells (positions d) w || wrong_lists (positions d) l in
    constrained-given d w (first_of (constrained_checks d w l)) (passed-sums d w size) l
    (λ e. lists-listed (positions d) l (neither (wrong_cells (positions d) w) (wrong_lists (positions d) l) (passed size d [] (own_sum_checks d w) e).size).1)

-- the same of figures that are worked out where no check holds
module _ (d : Design) (w : Weights) (a : Admitted d) (some : 0 < positions d) (none : weights_out (model_of d).friends w ≡ false) {figure : Weight} where
  pub free-told : figure ≡ free_figure (model_of d) w → FreeSum (place_worth w) (pair_worth w) (model_of d) figure
  free-told e = rw e (sums-right d w a some none).free

  pub constrained-told : (l : Lists) → Listed (positions d) l.numbers l.starts l.lengths → figure ≡ constrained_figure (model_of d) w (constraint_of l) → ConstrainedSum (place_worth w) (pair_worth w) (model_of d) (constraint_of l) figure
  constrained-told l listed e = rw e ((sums-right d w a some none).constrained (constraint_of l) (length-lists l ∙ listed.starting ∙ sym (model-positions d)))
