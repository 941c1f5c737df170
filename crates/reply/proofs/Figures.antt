-- What is answered, and what stands in lent entries, where the reply is known. Assumes nothing.
use mathlib.Core.Path.{◌≡◌, refl, ap}
use Prim.Native.Nat.{ℕ}
use native.Mathlib.Omega.{arith}
use Rattle.std.specs.Prelude.{Ok, Err}
use Rattle.reply.specs.Number.{answered, Reply}
use Rattle.reply.specs.Figures.{given, refused_with, figures_of, entries_of}
use Rattle.reply.specs.declared.Refused.{Refused}
use Rattle.reply.proofs.Answer.{number-positive}

module _ {A : Type 0} (blank figure : A) {reply : Reply} where
  pub answered-by : reply ≡ Ok tt → given figure ≡ figures_of reply blank figure
  answered-by e = rw e

  pub refused-by : {e : Refused} → reply ≡ Err e → refused_with blank e.refusal e.place ≡ figures_of reply blank figure
  refused-by e = rw e

module _ {A : Type 0} (before after : A) {reply : Reply} where
  pub written-by : reply ≡ Ok tt → after ≡ entries_of reply before after
  written-by e = rw e

  pub kept_by : {e : Refused} → reply ≡ Err e → before ≡ entries_of reply before after
  kept_by e = rw e

-- a refusal is no admission
pub no-admission : {A : Type 0} {e : Refused} → ◌≡◌ {A = Reply} (Err e) (Ok tt) → A
no-admission e = absurd (let z : ◌≡◌ {A = ℕ} 0 1 = cc in omega arith)

-- what holds of the blank figure, and of what is given where no check holds, holds of what is answered
pub by-reply : {A : Type 0} (reply : Reply) (P : A → Type 0) (blank figure : A) → P blank → (reply ≡ Ok tt → P figure) → P (figures_of reply blank figure).figure
by-reply (Ok u) P blank figure z h = h refl
by-reply (Err e) P blank figure z h = z

-- figures that are the same where no check holds: the same answer
pub same-figures : {A : Type 0} (reply : Reply) (blank x y : A) → (reply ≡ Ok tt → x ≡ y) → figures_of reply blank x ≡ figures_of reply blank y
same-figures (Ok u) blank x y h = ap given (h refl)
same-figures (Err e) blank x y h = refl

-- entries that are the same where no check holds
pub same_entries : {A : Type 0} (reply : Reply) (before x y : A) → (reply ≡ Ok tt → x ≡ y) → entries_of reply before x ≡ entries_of reply before y
same_entries (Ok u) before x y h = h refl
same_entries (Err e) before x y h = refl

-- number 0 is that of an admitted call
pub number-admitted : {A : Type 0} (reply : Reply) (blank figure : A) → (figures_of reply blank figure).number ≡ answered → reply ≡ Ok tt
number-admitted (Ok u) blank figure e = refl
number-admitted (Err r) blank figure e = absurd (omega (arith, number-positive r.refusal))
