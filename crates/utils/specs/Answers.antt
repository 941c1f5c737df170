-- Document 01's number and figures of each answer. A refusal carries no other figure.
use Rattle.std.specs.Prelude.{ℕ, Float, Result, Ok, Err}
use Rattle.doubles.specs.Decimal.{zero}
use Rattle.reply.specs.Number.{number_of, answered}
use Rattle.reply.specs.declared.Refusal.{Refusal}
use Rattle.units.specs.declared.KcalPerMol.{KcalPerMol}
use Rattle.utils.specs.declared.DgDs.{DgDs}

-- of one or two sequences
pub record DgDsFigures : Type 0 where
  pub number : ℕ
  pub dg : Float
  pub ds : Float

-- a refusal of one or two sequences
abbrev pub refused_dg_ds : ℕ → DgDsFigures
refused_dg_ds number = record { number = number; dg = zero; ds = zero }

-- an answer of one or two sequences
abbrev pub given_dg_ds : Float → Float → DgDsFigures
given_dg_ds dg ds = record { number = answered; dg = dg; ds = ds }

-- an answer of the code as its number and figures
abbrev pub dg_ds_figures : Result DgDs Refusal → DgDsFigures
dg_ds_figures (Ok sums) = given_dg_ds sums.dg.0 sums.ds.0
dg_ds_figures (Err refusal) = refused_dg_ds (number_of refusal)

-- of a loop or a strength
pub record DgFigures : Type 0 where
  pub number : ℕ
  pub dg : Float

-- a refusal of a loop or a strength
abbrev pub refused_dg : ℕ → DgFigures
refused_dg number = record { number = number; dg = zero }

-- an answer of a loop or a strength
abbrev pub given_dg : Float → DgFigures
given_dg dg = record { number = answered; dg = dg }

-- an answer of the code as its number and figures
abbrev pub dg_figures : Result KcalPerMol Refusal → DgFigures
dg_figures (Ok dg) = given_dg dg.0
dg_figures (Err refusal) = refused_dg (number_of refusal)
