-- What a deck's fault says of the deck. Assumes nothing.
use mathlib.Core.Path.{◌≡◌, refl}
use mathlib.Core.Bool.{Bool, true, false, cond, not}
use mathlib.Core.List.{List, [], ◌∷◌}
use Prim.Native.Nat.{ℕ}
use native.Mathlib.Omega.{arith}
use Rattle.deck.specs.Form.{Form}
use Rattle.deck.specs.Deck.{is_deck, misfit_of}
use Rattle.std.specs.Prelude.{None, Some, Ok, Err}
use Rattle.reply.specs.First.{◌if◌at◌, first_of}
use Rattle.reply.specs.declared.Refusal.TheVariants.{BadDeck}
use Rattle.reply.specs.declared.Refused.{Refused}
use Rattle.deck.specs.inner.Fault.{fault_of, fault_reply}

module _ (form : Form) (words : List ℕ) where
  pub no-fault : fault_of form words ≡ None → is_deck form words ≡ true
  unfolding fault_of
  no-fault e = go (is_deck form words) refl e
    where
      go : (t : Bool) → is_deck form words ≡ t → cond t None (Some (misfit_of form words)) ≡ None → is_deck form words ≡ true
      go true d e = d
      go false d e = absurd (let z : ◌≡◌ {A = ℕ} 0 1 = cc in omega arith)

  pub fault-at : {place : ℕ} → fault_of form words ≡ Some place → (is_deck form words ≡ false) × (misfit_of form words ≡ place)
  unfolding fault_of
  fault-at {place} e = go (is_deck form words) refl e
    where
      go : (t : Bool) → is_deck form words ≡ t → cond t None (Some (misfit_of form words)) ≡ Some place → (is_deck form words ≡ false) × (misfit_of form words ≡ place)
      go true d e = absurd (let z : ◌≡◌ {A = ℕ} 0 1 = cc in omega arith)
      go false d e = (d, cc)

  -- words that pass are a valid deck
  pub valid : Ok tt ≡ fault_reply form words → is_deck form words ≡ true
  valid e = go (is_deck form words) refl e
    where
      go : (t : Bool) → is_deck form words ≡ t → Ok tt ≡ first_of (BadDeck if not t at misfit_of form words ∷ []) → is_deck form words ≡ true
      go true d e = d
      go false d e = cc

  -- those that are refused are none, and the refusal has the place
  pub faulty : {e : Refused} → Err e ≡ fault_reply form words → (is_deck form words ≡ false) × (e ≡ record { refusal = BadDeck; place = Some (misfit_of form words) })
  faulty {e} h = go (is_deck form words) refl h
    where
      go : (t : Bool) → is_deck form words ≡ t → Err e ≡ first_of (BadDeck if not t at misfit_of form words ∷ []) → (is_deck form words ≡ false) × (e ≡ record { refusal = BadDeck; place = Some (misfit_of form words) })
      go true d h = cc
      go false d h = (d, cc)
