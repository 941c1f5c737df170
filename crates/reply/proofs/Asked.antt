-- One check that a call asked by `?`: what its reply says of its condition. Assumes nothing.
use mathlib.Core.Path.{◌≡◌, refl, ap, ◌∙◌}
use mathlib.Core.Bool.{Bool, true, false}
use mathlib.Core.List.{[], ◌∷◌}
use Rattle.std.specs.Prelude.{Result, Ok, Err, IsErrAnd}
use Rattle.std.proofs.lemmas.Result.{err_from_is_err_and}
use Rattle.reply.specs.First.{nowhere, bare, ◌if◌, first_of}
use Rattle.reply.specs.declared.Refusal.{Refusal}
use Rattle.reply.specs.declared.Refused.{Refused}

-- where it passes, its condition fails
pub admits : (refusal : Refusal) (holds : Bool) → Ok tt ≡ bare (first_of (refusal if holds ∷ [])) → holds ≡ false
admits refusal true e = cc
admits refusal false e = refl

-- where it refuses, its condition holds, and the refusal is its own
pub refused : (refusal : Refusal) (holds : Bool) (told : Refusal) → Err told ≡ bare (first_of (refusal if holds ∷ [])) → (holds ≡ true) × (told ≡ refusal)
refused refusal true told e = (refl, cc)
refused refusal false told e = (cc, cc)

-- and so of the call that ends there, which says no place
module _ {T : Type 0} where
  pub exits : (given : Result T Refusal) (refusal : Refusal) (holds : Bool) (told : Refusal) → IsErrAnd given (λ (e : Refusal). e ≡ told)
      → Err told ≡ bare (first_of (refusal if holds ∷ [])) → (holds ≡ true) × (given ≡ Err refusal)
  exits given refusal holds told e q =
      let p = err_from_is_err_and given e in
      let r = refused refusal holds told q in
      (r.0, p.1 ∙ ap Err (p.2 ∙ r.1))

  -- nor does one whose other refusals may
  pub exits_nowhere : (given : Result T Refused) (refusal : Refusal) (holds : Bool) (told : Refusal) → IsErrAnd given (λ (e : Refused). e ≡ nowhere told)
      → Err told ≡ bare (first_of (refusal if holds ∷ [])) → (holds ≡ true) × (given ≡ Err (nowhere refusal))
  exits_nowhere given refusal holds told e q =
      let p = err_from_is_err_and given e in
      let r = refused refusal holds told q in
      (r.0, p.1 ∙ ap Err (p.2 ∙ ap nowhere r.1))
