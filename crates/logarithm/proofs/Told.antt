-- What an answer of the logarithm call is, for callers that read it. Assumes nothing.
use mathlib.Core.Path.{◌≡◌, refl, ap}
use mathlib.Core.Bool.{Bool, true, false, cond}
use Prim.Native.Nat.{ℕ}
use native.Mathlib.Omega.{arith}
use lib.Ieee.{Float}
use Rattle.std.specs.Prelude.{Result, Ok, Err}
use Rattle.reply.specs.Number.{number_of}
use Rattle.reply.specs.Figures.{Figures}
use Rattle.reply.specs.declared.Refusal.{Refusal}
use Rattle.reply.specs.declared.Refusal.TheVariants.{TooDilute}
use Rattle.reply.proofs.Answer.{number-positive}
use Rattle.reply.proofs.Lowest.{same_number}
use Rattle.logarithm.specs.Figure.{ln_of}
use Rattle.logarithm.specs.Near.{has_logarithm}
use Rattle.logarithm.specs.Answer.{ln_figures, ln_answer}

-- the figure where there is a logarithm, and otherwise 15
pub told : (r : Result Float Refusal) (x : Float) → ln_figures r ≡ ln_answer x → r ≡ cond (has_logarithm x) (Ok (ln_of x)) (Err TooDilute)
unfolding ln_answer
told r x e = go r (has_logarithm x) refl e
  where
    go : (r : Result Float Refusal) (has : Bool) → has_logarithm x ≡ has → ln_figures r ≡ ln_answer x → r ≡ cond has (Ok (ln_of x)) (Err TooDilute)
    go (Ok y) true h e = ap Ok (ap (λ (f : Figures Float). f.figure) (rw h at e))
    go (Ok y) false h e = absurd (let n : ◌≡◌ {A = ℕ} 0 15 = ap (λ (f : Figures Float). f.number) (rw h at e) in omega arith)
    go (Err why) true h e = absurd (let n : ◌≡◌ {A = ℕ} (number_of why) 0 = ap (λ (f : Figures Float). f.number) (rw h at e) in omega (arith, number-positive why))
    go (Err why) false h e = ap Err (same_number (ap (λ (f : Figures Float). f.number) (rw h at e)))
