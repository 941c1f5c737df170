-- What an answer says of its call's reply: for callers that match on one. Assumes nothing.
use mathlib.Core.Path.{◌≡◌, refl, ap, sym, ◌∙◌}
use Prim.Native.Nat.{ℕ, ◌≤◌}
use native.Mathlib.Omega.{arith}
use lib.Dec.{lit≤}
use Rattle.std.specs.Prelude.{Ok, Err}
use Rattle.reply.specs.Number.{number_of, answered, Reply}
use Rattle.reply.specs.First.{answer}
use Rattle.reply.specs.declared.Refusal.{Refusal}
use Rattle.reply.specs.declared.Refused.{Refused}
use Rattle.reply.specs.declared.Refusal.TheVariants.{WrongSize, NotABase, TooShort, UnequalLengths, NoSuchLoop, UnknownName, TooManyGlues, DuplicatePair, OutOfRange, NullBinds, NotAFriend, TooManyStates, RankTooHigh, BadDeck, TooDilute, AmbientOut, PotentialOut, BareScaffold, WeightOut, NotARing, TwoStars, NotAJob, NoneUnder}
use Rattle.reply.proofs.Lowest.{same_number}

pub number-positive : (r : Refusal) → 1 ≤ number_of r
number-positive WrongSize = lit≤ tt
number-positive NotABase = lit≤ tt
number-positive TooShort = lit≤ tt
number-positive UnequalLengths = lit≤ tt
number-positive NoSuchLoop = lit≤ tt
number-positive UnknownName = lit≤ tt
number-positive TooManyGlues = lit≤ tt
number-positive DuplicatePair = lit≤ tt
number-positive OutOfRange = lit≤ tt
number-positive NullBinds = lit≤ tt
number-positive NotAFriend = lit≤ tt
number-positive TooManyStates = lit≤ tt
number-positive RankTooHigh = lit≤ tt
number-positive BadDeck = lit≤ tt
number-positive TooDilute = lit≤ tt
number-positive AmbientOut = lit≤ tt
number-positive PotentialOut = lit≤ tt
number-positive BareScaffold = lit≤ tt
number-positive WeightOut = lit≤ tt
number-positive NotARing = lit≤ tt
number-positive TwoStars = lit≤ tt
number-positive NotAJob = lit≤ tt
number-positive NoneUnder = lit≤ tt

-- over any figures that have a number
module _ {A : Type 0} (number : A → ℕ) (refused : ℕ → A) (numbered : (n : ℕ) → number (refused n) ≡ n) (given : A) where
  -- a number of 0 is that of an admitted call
  pub is-admitted : (r : Reply) (x : A) → number x ≡ answered → x ≡ answer r refused given → (r ≡ Ok tt) × (x ≡ given)
  is-admitted (Ok u) x e p = (refl, p)
  is-admitted (Err r) x e p =
      let n : number x ≡ number_of r.refusal = ap number p ∙ numbered (number_of r.refusal) in
      absurd (omega (arith, number-positive r.refusal))

  -- a refusal's number is that of the reply
  pub is-refused : (r : Reply) (why : Refusal) → number given ≡ answered → refused (number_of why) ≡ answer r refused given → (e : Refused) × ((r ≡ Err e) × (e.refusal ≡ why))
  is-refused (Ok u) why g p =
      let n : number_of why ≡ number given = sym (numbered (number_of why)) ∙ ap number p in
      absurd (omega (arith, number-positive why))
  is-refused (Err e) why g p = (e, (refl, same_number (sym (numbered (number_of e.refusal)) ∙ sym (ap number p) ∙ numbered (number_of why))))
