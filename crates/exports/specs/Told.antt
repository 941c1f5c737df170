-- What a C function tells of a design: the reply number is its result, the place and the figure are written through pointers.
use Rattle.std.specs.Prelude.{◌≡◌, ℕ, Float, Result, Ok, Err, None}
use Rattle.reply.specs.Figures.{Figures, given, refused_with}
use Rattle.reply.specs.declared.Refusal.{Refusal}
use Rattle.design.specs.Answers.{Chain}
use Rattle.exports.specs.Place.{place_number}

-- the number, the place and the figure are the answer's
pub record Told {A : Type 0} (answer : Figures A) (r at : ℕ) (given : A) : Type 0 where
  pub number : r ≡ answer.number
  pub place : at ≡ place_number answer.place
  pub figure : given ≡ answer.figure

-- what a call says whose refusals have no place, with a blank figure where it refuses
abbrev pub placeless_figures : {A : Type 0} → A → Result A Refusal → Figures A
placeless_figures blank (Ok x) = given x
placeless_figures blank (Err refusal) = refused_with blank refusal None

-- the chain energy as it is, and times RT, out of two doubles
abbrev pub chain_of : Float → Float → Chain
chain_of bare times_rt = record { bare = bare; times_rt = times_rt }
