-- What a call answers: document 01's number, the place of a refusal that has one, and what the call gives.
use Rattle.std.specs.Prelude.{ℕ, Option, None, Result, Ok, Err}
use Rattle.reply.specs.Number.{number_of, answered, Reply}
use Rattle.reply.specs.declared.Refusal.{Refusal}
use Rattle.reply.specs.declared.Refused.{Refused}

-- number, place and figure; what a call without a figure gives is the unit
pub record Figures (A : Type 0) : Type 0 where
  pub number : ℕ
  pub place : Option ℕ
  pub figure : A

-- an answer, and no place
abbrev pub given : {A : Type 0} → A → Figures A
given figure = record { number = answered; place = None; figure = figure }

-- a refusal carries no figure but a blank one
abbrev pub refused_with : {A : Type 0} → A → Refusal → Option ℕ → Figures A
refused_with blank refusal place = record { number = number_of refusal; place = place; figure = blank }

-- a refusal by its number, without a place
abbrev pub refused : {A : Type 0} → A → ℕ → Figures A
refused blank number = record { number = number; place = None; figure = blank }

-- what a call answers by its reply: its figure where it is admitted, and otherwise the refusal
abbrev pub figures_of : {A : Type 0} → Reply → A → A → Figures A
figures_of (Ok u) blank figure = given figure
figures_of (Err e) blank figure = refused_with blank e.refusal e.place

-- what stands in lent entries afterwards: what is written where the call is admitted, and otherwise what stood there
abbrev pub entries_of : {A : Type 0} → Reply → A → A → A
entries_of (Ok u) before after = after
entries_of (Err e) before after = before

-- what a call's result says, with a blank figure where it refuses: the figure that it gives, read off its value
abbrev pub result_figures : {A B : Type 0} → B → (A → B) → Result A Refused → Figures B
result_figures blank figure (Ok x) = given (figure x)
result_figures blank figure (Err e) = refused_with blank e.refusal e.place

-- a reply as the answer of a call that has no figure
abbrev pub reply_figures : Reply → Figures Unit
reply_figures reply = figures_of reply tt tt
