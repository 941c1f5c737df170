-- The archive's build is the call as it was, and the ordinary one differs where a name retires alone. Assumes nothing.
use mathlib.Core.Path.{◌≡◌, refl, ap, sym, ◌∙◌}
use mathlib.Core.Bool.{Bool, true, false, ◌&&◌}
use mathlib.Core.List.{[], ◌∷◌}
use Prim.Native.Nat.{ℕ}
use native.Mathlib.Omega.{arith}
use Rattle.reply.specs.Number.{number_of, answered, Reply}
use Rattle.reply.specs.First.{first_of, ◌if◌, ◌or_else◌, answer, nowhere}
use Rattle.reply.specs.declared.Refusal.{Refusal}
use Rattle.reply.specs.declared.Refusal.TheVariants.{TwoStars}
use Rattle.reply.proofs.Answer.{number-positive}
use Rattle.reply.proofs.First.{joined}
use Rattle.sdc1d_params.specs.Params.{Params, Outcome, param_checks, built_from, left_as_lent, any_retired, is_ordinary, from_params}
use Rattle.sdc1d_params.specs.Builds.{from_params_before, Builds}
use Rattle.sdc1d_params.specs.declared.Build.{Build}
use Rattle.std.specs.Prelude.{Ok, Err}
use Rattle.sdc1d_params.specs.declared.Build.TheVariants.{Ordinary, Archive}

module _ (p : Params) (lent : Outcome) where
  abbrev told : Reply → Outcome
  told r = answer r (left_as_lent lent) (built_from p)

  -- the reply to names that retire, where they do
  abbrev stars : Bool → Reply
  stars t = first_of (TwoStars if t ∷ [])

  -- either build, by document 01's reply
  by-reply : (build : Build) → from_params build p lent ≡ told (first_of (param_checks p lent) or_else stars (is_ordinary build && any_retired p))
  unfolding from_params
  by-reply build = ap told (sym (joined (param_checks p lent) (TwoStars if (is_ordinary build && any_retired p) ∷ [])))

  kept-reply : (r : Reply) → r or_else (Ok tt) ≡ r
  kept-reply (Ok u) = refl
  kept-reply (Err refused) = refl

  archive : from_params Archive p lent ≡ from_params_before p lent
  unfolding from_params_before
  archive = by-reply Archive ∙ ap told (kept-reply (first_of (param_checks p lent)))

  same : any_retired p ≡ false → from_params Ordinary p lent ≡ from_params Archive p lent
  same e = by-reply Ordinary ∙ ap (λ (t : Bool). told (first_of (param_checks p lent) or_else stars t)) e ∙ sym (by-reply Archive)

  refused-same : (r : Reply) (t : Bool) → ((told (r or_else (Ok tt))).number ≡ answered → ⊥) → told (r or_else stars t) ≡ told (r or_else (Ok tt))
  refused-same (Ok u) t h = absurd (h refl)
  refused-same (Err refused) t h = refl

  refuses : ((from_params Archive p lent).number ≡ answered → ⊥) → from_params Ordinary p lent ≡ from_params Archive p lent
  refuses h =
      by-reply Ordinary
      ∙ refused-same (first_of (param_checks p lent)) (any_retired p) (λ e. h (ap (λ (o : Outcome). o.number) (by-reply Archive) ∙ e))
      ∙ sym (by-reply Archive)

  retired-step : (r : Reply) → (told (r or_else (Ok tt))).number ≡ answered → told (r or_else Err (nowhere TwoStars)) ≡ left_as_lent lent (number_of TwoStars)
  retired-step (Ok u) e = refl
  retired-step (Err refused) e = absurd (positive refused.refusal e)
    where
      positive : (why : Refusal) → number_of why ≡ answered → ⊥
      positive why e = let h = number-positive why in omega arith

  retired : (from_params Archive p lent).number ≡ answered → any_retired p ≡ true → from_params Ordinary p lent ≡ left_as_lent lent (number_of TwoStars)
  retired e h =
      by-reply Ordinary
      ∙ ap (λ (t : Bool). told (first_of (param_checks p lent) or_else stars t)) h
      ∙ retired-step (first_of (param_checks p lent)) (sym (ap (λ (o : Outcome). o.number) (by-reply Archive)) ∙ e)

  answers-step : (r : Reply) (t : Bool) → (told (r or_else stars t)).number ≡ answered → told (r or_else stars t) ≡ told (r or_else (Ok tt))
  answers-step (Ok u) true e = absurd (let z : ◌≡◌ {A = ℕ} 21 0 = e in omega arith)
  answers-step (Ok u) false e = refl
  answers-step (Err refused) t e = refl

  answers : (from_params Ordinary p lent).number ≡ answered → from_params Ordinary p lent ≡ from_params Archive p lent
  answers e =
      by-reply Ordinary
      ∙ answers-step (first_of (param_checks p lent)) (any_retired p) (sym (ap (λ (o : Outcome). o.number) (by-reply Ordinary)) ∙ e)
      ∙ sym (by-reply Archive)

  pub builds : Builds p lent
  builds = record { archive = archive; answers = answers; same = same; refuses = refuses; retired = retired }
