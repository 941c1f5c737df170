-- The first check of a sorted list that holds is the one with the lowest number. Assumes nothing.
use mathlib.Core.Path.{◌≡◌, refl, ap, sym, subst, ◌∙◌}
use mathlib.Core.Logic.{◌⊎◌, inl, inr}
use mathlib.Core.Bool.{Bool, true, false, ◌&&◌}
use mathlib.Core.List.Memᴰ
use mathlib.Core.List.{List, [], ◌∷◌, Memᴰ}
use Prim.Native.Nat.{ℕ, ◌-◌, ◌≤◌}
use native.Mathlib.Nat.{le_trans, le_antisymm}
use native.Mathlib.Omega.{arith}
use lib.Dec.{T, leb, leb→le}
use lib.ListN.{get_or}
use Rattle.std.specs.Prelude.{Option, None, Ok, Err}
use Rattle.reply.specs.Number.{number_of, Reply}
use Rattle.reply.specs.First.{Check, refuses, first_of, sorted, AppliesAt, Applies, LowestGiven}
use Rattle.reply.specs.declared.Refusal.{Refusal}
use Rattle.reply.specs.declared.Refusal.TheVariants.{WrongSize, NotABase, TooShort, UnequalLengths, NoSuchLoop, UnknownName, TooManyGlues, DuplicatePair, OutOfRange, NullBinds, NotAFriend, TooManyStates, RankTooHigh, BadDeck, TooDilute, AmbientOut, PotentialOut, BareScaffold, WeightOut, NotARing, TwoStars, NotAJob, NoneUnder}

-- the refusal with a given number
refusal_of : ℕ → Refusal
refusal_of n =
    get_or (WrongSize ∷ NotABase ∷ TooShort ∷ UnequalLengths ∷ NoSuchLoop ∷ UnknownName ∷ TooManyGlues ∷ DuplicatePair ∷ OutOfRange ∷ NullBinds ∷ NotAFriend ∷ TooManyStates ∷ RankTooHigh ∷ BadDeck ∷ TooDilute ∷ AmbientOut ∷ PotentialOut ∷ BareScaffold ∷ WeightOut ∷ NotARing ∷ TwoStars ∷ NotAJob ∷ [])
    (n - 1)
    NoneUnder

numbered : (r : Refusal) → refusal_of (number_of r) ≡ r
unfolding refusal_of
numbered WrongSize = refl
numbered NotABase = refl
numbered TooShort = refl
numbered UnequalLengths = refl
numbered NoSuchLoop = refl
numbered UnknownName = refl
numbered TooManyGlues = refl
numbered DuplicatePair = refl
numbered OutOfRange = refl
numbered NullBinds = refl
numbered NotAFriend = refl
numbered TooManyStates = refl
numbered RankTooHigh = refl
numbered BadDeck = refl
numbered TooDilute = refl
numbered AmbientOut = refl
numbered PotentialOut = refl
numbered BareScaffold = refl
numbered WeightOut = refl
numbered NotARing = refl
numbered TwoStars = refl
numbered NotAJob = refl
numbered NoneUnder = refl

-- no two refusals share a number
pub same_number : {r q : Refusal} → number_of r ≡ number_of q → r ≡ q
same_number {r} {q} e = sym (numbered r) ∙ ap refusal_of e ∙ numbered q

-- the check behind a refusal: its condition holds
abbrev applied : Refusal → Option ℕ → Check
applied refusal place = record { refusal = refusal; holds = true; place = place }

-- the same of a reply
abbrev applied-reply : Reply → Check
applied-reply (Ok u) = applied WrongSize None
applied-reply (Err e) = applied e.refusal e.place

both : (a b : Bool) → T (a && b) → T a × T b
both true b t = (tt, t)
both false b t = absurd t

tail-sorted : (c : Check) (cs : List Check) → T (sorted (c ∷ cs)) → T (sorted cs)
tail-sorted c [] t = tt
tail-sorted c (d ∷ cs) t = (both (leb (number_of c.refusal) (number_of d.refusal)) (sorted (d ∷ cs)) t).1

-- the head's number is the least of a sorted list
head-least : (c : Check) (cs : List Check) → T (sorted (c ∷ cs)) → (r : Refusal) → Applies r (c ∷ cs) → number_of c.refusal ≤ number_of r
head-least c [] t r m = here (Memᴰ.cases_cons m.1)
  where
    here : (applied r m.0 ≡ c) ⊎ Memᴰ (applied r m.0) [] → number_of c.refusal ≤ number_of r
    here (inl e) = omega (arith, ap (λ (x : Check). number_of x.refusal) e)
    here (inr n) = absurd (Memᴰ.not-nil n)
head-least c (d ∷ cs) t r m = here (λ n. head-least d cs s.1 r (m.0, n)) (Memᴰ.cases_cons m.1)
  where
    s : T (leb (number_of c.refusal) (number_of d.refusal)) × T (sorted (d ∷ cs))
    s = both (leb (number_of c.refusal) (number_of d.refusal)) (sorted (d ∷ cs)) t

    here : (AppliesAt r m.0 (d ∷ cs) → number_of d.refusal ≤ number_of r) → (applied r m.0 ≡ c) ⊎ AppliesAt r m.0 (d ∷ cs) → number_of c.refusal ≤ number_of r
    here below (inl e) = omega (arith, ap (λ (x : Check). number_of x.refusal) e)
    here below (inr n) = le_trans (leb→le _ _ s.0) (below n)

-- a check whose condition fails applies to nothing
pass : {o f : Refusal} {p : Option ℕ} {cs : List Check} → Applies o (record { refusal = f; holds = false; place = p } ∷ cs) → Applies o cs
pass {o} {f} {p} {cs} m = (m.0, rest (Memᴰ.cases_cons m.1))
  where
    rest : (applied o m.0 ≡ record { refusal = f; holds = false; place = p }) ⊎ AppliesAt o m.0 cs → AppliesAt o m.0 cs
    rest (inl e) = absurd (subst T (ap (λ (x : Check). x.holds) e) tt)
    rest (inr n) = n

later : {o : Refusal} {c : Check} {cs : List Check} → Applies o cs → Applies o (c ∷ cs)
later m = (m.0, Memᴰ.tail m.1)

step :
    (f : Refusal) (h : Bool) (p : Option ℕ) (cs : List Check)
    → T (sorted (record { refusal = f; holds = h; place = p } ∷ cs))
    → LowestGiven cs (first_of cs)
    → LowestGiven (record { refusal = f; holds = h; place = p } ∷ cs) (first_of (record { refusal = f; holds = h; place = p } ∷ cs))
step f true p cs t below =
    record {
      applies = λ r q e. Memᴰ.head (sym (told r q e));
      lowest = λ r q e o m. subst (λ (x : Check). number_of x.refusal ≤ number_of o) (told r q e) (head-least (applied f p) cs t o m);
      given = λ r m least. le_antisymm (head-least (applied f p) cs t r m) (least f (p, Memᴰ.head refl));
      none = λ e. absurd (let z : ◌≡◌ {A = ℕ} 0 1 = cc in omega arith);
    }
  where
    told : (r : Refusal) (q : Option ℕ) → ◌≡◌ {A = Reply} (refuses f p) (refuses r q) → applied f p ≡ applied r q
    told r q e = ap applied-reply e
step f false p cs t below =
    record {
      applies = λ r q e. Memᴰ.tail (below.applies r q e);
      lowest = λ r q e o m. below.lowest r q e o (pass m);
      given = λ r m least. below.given r (pass m) (λ o n. least o (later n));
      none = λ e r m. below.none e r (pass m);
    }

-- document 01's rule, of every list of checks that is sorted
pub lowest-given : (checks : List Check) → T (sorted checks) → LowestGiven checks (first_of checks)
lowest-given [] t =
    record {
      applies = λ r q e. absurd (let z : ◌≡◌ {A = ℕ} 0 1 = cc in omega arith);
      lowest = λ r q e o m. absurd (Memᴰ.not-nil m.1);
      given = λ r m least. absurd (Memᴰ.not-nil m.1);
      none = λ e r m. Memᴰ.not-nil m.1;
    }
lowest-given (c ∷ cs) t = step c.refusal c.holds c.place cs t (lowest-given cs (tail-sorted c cs t))
