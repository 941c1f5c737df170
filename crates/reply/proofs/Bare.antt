-- The reply of several checks without its place, as a `?` reads it. Assumes nothing.
use mathlib.Core.Path.{◌≡◌, refl, ap, sym, ◌∙◌}
use mathlib.Core.List.{List, ◌++◌}
use Prim.Native.Nat.{ℕ}
use Rattle.std.specs.Prelude.{Option, None, Result, Ok, Err, IsErr, IsErrAnd}
use Rattle.std.proofs.lemmas.Result.{err_from_is_err_and}
use Rattle.reply.specs.Number.{number_of, Reply}
use Rattle.reply.specs.First.{Check, bare, refuses, first_of, answer}
use Rattle.reply.specs.declared.Refusal.{Refusal}
use Rattle.reply.proofs.First.{joined, reply-append}

-- what the exit of a `?` returns is the error that it met
pub same-error : {T E : Type 0} {e : E} (r : Result T E) → IsErr r × IsErrAnd r (λ (x : E). x ≡ e) → r ≡ Err e
same-error r h =
    let p = err_from_is_err_and r h.1 in
    p.1 ∙ ap Err p.2

-- where no error is met, the reply admits
pub admitted : (reply : Reply) → Ok tt ≡ bare reply → reply ≡ Ok tt
admitted (Ok u) e = refl
admitted (Err other) e = cc

-- and where one is, it refuses, at some place or none
pub refusing : (reply : Reply) (told : Refusal) → Err told ≡ bare reply → (place : Option ℕ) × (reply ≡ refuses told place)
refusing (Ok u) told e = (None, cc)
refusing (Err other) told e = (other.place, let same : told ≡ other.refusal = cc in rw same)

-- what is answered then is the number of the error
pub answers : {A : Type 0} (reply : Reply) (refused : ℕ → A) (given : A) {told : Refusal} → Err told ≡ bare reply → refused (number_of told) ≡ answer reply refused given
answers reply refused given {told} e = rw (refusing reply told e).1

-- where an error is met among the first checks, what all of them answer is its number's
pub answers-first : {A : Type 0} (cs ds : List Check) (refused : ℕ → A) (given : A) {told : Refusal}
    → Err told ≡ bare (first_of cs) → refused (number_of told) ≡ answer (first_of (cs ++ ds)) refused given
answers-first cs ds refused given {told} e = rw (sym (joined cs ds), (refusing (first_of cs) told e).1)

-- where the first admit, and one after them refuses
pub answers-later : {A : Type 0} (cs ds : List Check) (refused : ℕ → A) (given : A) {told : Refusal}
    → first_of cs ≡ Ok tt → Err told ≡ bare (first_of ds) → refused (number_of told) ≡ answer (first_of (cs ++ ds)) refused given
answers-later cs ds refused given first e = rw (reply-append cs ds first) (answers (first_of ds) refused given e)
