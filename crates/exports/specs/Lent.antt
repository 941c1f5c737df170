-- A design as callers outside lend it: the ambient is three doubles, and a number says how the amounts are given.
use Rattle.std.specs.Prelude.{cond, List, ℕ, eqb, Float, Option, None, Some}
use Rattle.std.specs.Borrow.{Bor}
use Rattle.reply.specs.Number.{number_of}
use Rattle.reply.specs.Figures.{Figures, refused_with}
use Rattle.reply.specs.declared.Refusal.TheVariants.{WrongSize}
use Rattle.units.specs.declared.Ambient.{Ambient}
use Rattle.design.specs.declared.Amounts.{Amounts}
use Rattle.design.specs.declared.Amounts.TheVariants.{Potentials, Concentrations}
use Rattle.design.specs.Design.{Design, lent}

-- the ambient out of its three doubles
abbrev pub ambient_of : Float → Float → Float → Ambient
ambient_of rt strand_excess scaffold_excess =
    record { rt = record { 0 = rt }; strand_excess = record { 0 = strand_excess }; scaffold_excess = record { 0 = scaffold_excess } }

-- 0 says potentials, 1 concentrations, and no other number says how amounts are given
abbrev pub amounts_numbered : ℕ → Option Amounts
amounts_numbered number = cond (eqb number 0) (Some Potentials) (cond (eqb number 1) (Some Concentrations) None)

-- the design that a C function is lent; none where the number says nothing
abbrev pub lent_at : Bor (List ℕ) → Bor (List ℕ) → Bor (List ℕ) → Bor (List Float) → Bor (List Float) → Bor (List Float) → Option Amounts → Float → Float → Float → Option Design
lent_at scaffold marks glues dg ds amounts (Some given) rt strand_excess scaffold_excess =
    Some (lent scaffold marks glues dg ds amounts given (ambient_of rt strand_excess scaffold_excess))
lent_at scaffold marks glues dg ds amounts None rt strand_excess scaffold_excess = None

-- what a call answers of it; where there is none, 1 and a blank figure
abbrev pub answer_in : {A : Type 0} → Option Design → A → (Design → Figures A) → Figures A
answer_in (Some d) blank answer = answer d
answer_in None blank answer = refused_with blank WrongSize None

-- what a call leaves in what it is lent to write; where there is none, what stood there
abbrev pub left_in : {A : Type 0} → Option Design → A → (Design → A) → A
left_in (Some d) before after = after d
left_in None before after = before

-- what is said of a call besides; where there is none, nothing
abbrev pub SaidIn : Option Design → (Design → Type 0) → Type 0
SaidIn (Some d) said = said d
SaidIn None said = Unit

-- the number of a call that has no place; where there is none, 1
abbrev pub number_in : Option Design → (Design → ℕ) → ℕ
number_in (Some d) number = number d
number_in None number = number_of WrongSize
