-- The shape of every reply. A call's checks stand in a list sorted by number, and the first that holds is its reply;
-- proofs/Lowest.antt shows that this is document 01's rule: if several conditions hold, the lowest number is given.
use Rattle.std.specs.Prelude.{Bool, true, false, ◌&&◌, ◌≡◌, ℕ, ◌≤◌, leb, Option, None, Some, Result, Ok, Err}
use mathlib.Core.List.{List, [], ◌∷◌, Memᴰ}
use Rattle.reply.specs.Number.{number_of, Reply, reply_number}
use Rattle.reply.specs.declared.Refusal.{Refusal}
use Rattle.reply.specs.declared.Refused.{Refused}

infix 68 ◌if◌
infix 68 ◌if◌at◌
infixr 40 ◌or_else◌
-- a refusal that says no place
abbrev pub nowhere : Refusal → Refused
nowhere refusal = record { refusal = refusal; place = None }

-- a reply that refuses, at a place or at none
abbrev pub refuses : Refusal → Option ℕ → Reply
refuses refusal place = Err (record { refusal = refusal; place = place })

-- a reply without its place: that of a call whose checks have none
abbrev pub bare : Reply → Result Unit Refusal
bare (Ok u) = Ok tt
bare (Err e) = Err e.refusal

-- a refusal, whether its condition holds, and where the fault lies then
pub record Check : Type 0 where
  pub refusal : Refusal
  pub holds : Bool
  pub place : Option ℕ

-- `refusal if condition`, as the lists of checks are written: a check without a place
abbrev pub ◌if◌ : Refusal → Bool → Check
refusal if holds = record { refusal = refusal; holds = holds; place = None }

-- `refusal if condition at place`: a check that says where the fault lies
abbrev pub ◌if◌at◌ : Refusal → Bool → ℕ → Check
refusal if holds at place = record { refusal = refusal; holds = holds; place = Some place }

-- the refusal where its condition holds, and otherwise the reply of the checks after it
abbrev pub refused_if : Bool → Refusal → Option ℕ → Reply → Reply
refused_if true refusal place rest = refuses refusal place
refused_if false refusal place rest = rest

-- the refusal of the first check that holds, and admitted where none does
abbrev pub first_of : List Check → Reply
first_of [] = Ok tt
first_of (c ∷ cs) = refused_if c.holds c.refusal c.place (first_of cs)

-- one reply, and the next where the first admits: how replies are put together
abbrev pub ◌or_else◌ : Reply → Reply → Reply
(Ok u) or_else next = next
(Err refused) or_else next = Err refused

-- what a call answers: what it gives where it is admitted, and otherwise what goes with a refusal of that number
abbrev pub answer : {A : Type 0} → Reply → (ℕ → A) → A → A
answer (Ok u) refused given = given
answer (Err e) refused given = refused (number_of e.refusal)

-- the numbers never fall along the list
abbrev pub sorted : List Check → Bool
sorted [] = true
sorted (c ∷ []) = true
sorted (c ∷ d ∷ cs) = leb (number_of c.refusal) (number_of d.refusal) && sorted (d ∷ cs)

-- a check of the list has this refusal, its condition holds, and its place is this
abbrev pub AppliesAt : Refusal → Option ℕ → List Check → Type 0
AppliesAt refusal place checks = Memᴰ (record { refusal = refusal; holds = true; place = place }) checks

-- the same at some place
abbrev pub Applies : Refusal → List Check → Type 0
Applies refusal checks = (place : Option ℕ) × AppliesAt refusal place checks

-- document 01: "if several apply, the lowest is given"; "a number is given if its condition holds and no lower one's does, and otherwise never"
pub record LowestGiven (checks : List Check) (reply : Reply) : Type 0 where
  -- a refusal is that of a check whose condition holds, with its place
  pub applies : (refusal : Refusal) (place : Option ℕ) → reply ≡ refuses refusal place → AppliesAt refusal place checks
  pub lowest : (refusal : Refusal) (place : Option ℕ) → reply ≡ refuses refusal place → (other : Refusal) → Applies other checks → number_of refusal ≤ number_of other
  pub given : (refusal : Refusal) → Applies refusal checks → ((other : Refusal) → Applies other checks → number_of refusal ≤ number_of other) → reply_number reply ≡ number_of refusal
  pub none : reply ≡ Ok tt → (refusal : Refusal) → Applies refusal checks → ⊥
