-- What the reply of a call is, by its number and place. Assumes nothing.
use mathlib.Core.Path.{◌≡◌, refl, sym, ap}
use mathlib.Core.Bool.{false}
use Prim.Native.Nat.{ℕ}
use lib.Dec.{eqb}
use borrow.Author.Tests.{ne_eqb}
use native.Mathlib.Omega.{arith}
use Rattle.std.specs.Prelude.{Option, Result, Ok, Err}
use Rattle.std.specs.Result.{result_ok}
use Rattle.reply.specs.Number.{number_of, answered, Reply}
use Rattle.reply.specs.Figures.{figures_of}
use Rattle.reply.specs.declared.Refusal.{Refusal}
use Rattle.reply.specs.declared.Refused.{Refused}
use Rattle.reply.proofs.Answer.{number-positive}
use Rattle.reply.proofs.Lowest.{same_number}
use Rattle.design.specs.Answers.{count_figures}
use Rattle.settle.specs.Files.{states_by}

-- no refusal has the number of an answer
pub no_answer : (r : Refusal) → eqb (number_of r) answered ≡ false
no_answer r = ne_eqb _ _ (omega (arith, number-positive r))

-- a count that is refused gives no number of states
pub ok_states : (r : Result ℕ Refused) → result_ok r ≡ states_by (count_figures r)
ok_states (Ok n) = refl
ok_states (Err e) = simp (no_answer e.refusal)

joined : {q r : Refusal} {o p : Option ℕ} → q ≡ r → o ≡ p → ◌≡◌ {A = Refused} (record { refusal = q; place = o }) (record { refusal = r; place = p })
joined e f = cc

-- refusals with one number and one place are the same
same_refused : (a b : Refused) → a.refusal ≡ b.refusal → a.place ≡ b.place → a ≡ b
same_refused a b e f = joined {q = a.refusal} {r = b.refusal} {o = a.place} {p = b.place} e f

-- the same of a call with a figure
module _ {A : Type 0} where
  pub searched_so : (r : Reply) (blank figure : A) → answered ≡ (figures_of r blank figure).number → r ≡ Ok tt
  searched_so (Ok u) blank figure e = refl
  searched_so (Err r) blank figure e = absurd (omega (arith, e, number-positive r.refusal))

  pub stopped_so : (r : Reply) (blank figure : A) (given : Refused) → number_of given.refusal ≡ (figures_of r blank figure).number → given.place ≡ (figures_of r blank figure).place → r ≡ Err given
  stopped_so (Ok u) blank figure given e p = absurd (omega (arith, e, number-positive given.refusal))
  stopped_so (Err r) blank figure given e p = ap Err (same_refused r given (sym (same_number e)) (sym p))
