-- What `from_params` writes, as a design takes it. proofs/ shows all of this of every parameter set, and of everything that may be lent.
use Rattle.std.specs.Prelude.{◌≡◌, Bool, false, List, ◌∷◌, ◌++◌, ℕ, ◌+◌, ◌<◌, length, T, Float, Ok}
use Rattle.std.specs.Float.{binary64}
use Rattle.std.specs.Float.Ieee.{fits}
use Rattle.reply.specs.Number.{answered}
use Rattle.reply.specs.First.{Check, ◌if◌, first_of}
use Rattle.reply.specs.declared.Refusal.TheVariants.{WrongSize}
use Rattle.units.specs.Ambient.{ambient_figures, ambient_at}
use Rattle.units.specs.declared.Ambient.{Ambient}
use Rattle.sdc1d_params.specs.Params.{Params, Outcome, from_params}
use Rattle.sdc1d_params.specs.declared.Build.{Build}
use Rattle.design.specs.declared.Amounts.{Amounts}
use Rattle.design.specs.Design.{Design, design, cell}
use Rattle.design.specs.Checks.{wrong_marks, sizes_out, cells_out, dilute, ambient_out, potentials_out, null_binds, number_checks, design_checks, Admitted}

-- the design that is made of what was written, with these marks
abbrev pub design_of : Outcome → List ℕ → List Float → Amounts → Ambient → Design
design_of built marks amounts given ambient = design built.scaffold_glues marks built.strand_glues built.dg built.ds amounts given ambient

-- a design that only the checks of its concentrations, its ambient and its potentials can still refuse
pub record Fits (d : Design) : Type 0 where
  -- The counts are within their limits, each slice is as long as it should be, and no glue is above 63.
  pub sizes : sizes_out d ≡ false
  -- Every cell of both tables is finite and in its range.
  pub cells : cells_out d.dg d.ds ≡ false
  -- Strand 0 has no glue, and rows and columns 0 hold no nonzero cell.
  pub null : null_binds d.glues d.dg d.ds ≡ false
  -- So what is left of the checks of any call that takes the design is the call's own, the concentrations, the ambient and the potentials,
  pub left :
      (own_size : Bool) (between after : List Check)
      → first_of (design_checks own_size d between after) ≡ first_of (WrongSize if own_size ∷ (between ++ (number_checks d ++ after)))
  -- and with these in range the design is admitted.
  pub admitted : dilute d ≡ false → ambient_out d.ambient ≡ false → potentials_out d ≡ false → Admitted d

-- Where `from_params` answers, what it wrote fits, in any ambient, with any marks, one for each position, and any amounts, one for each
-- strand: strand 0, the user strands, quencher and reporter.
abbrev pub WrittenFits : Build → Params → Outcome → Type 0
WrittenFits build p lent =
    (from_params build p lent).number ≡ answered
    → (marks : List ℕ) (amounts : List Float) (given : Amounts) (ambient : Ambient)
    → wrong_marks (from_params build p lent).scaffold_glues marks ≡ false
    → length amounts ≡ p.users + 3
    → Fits (design_of (from_params build p lent) marks amounts given ambient)

-- Every ambient that `ambient_at` gives, at any double of kelvin, is one that a design takes: RT from 1/8 to 8, excesses within ±1,024.
abbrev pub AmbientFits : Type 0
AmbientFits = (kelvin : Float) → T (fits binary64 kelvin) → (ambient : Ambient) → ambient_figures (Ok ambient) ≡ ambient_at kelvin → ambient_out ambient ≡ false

-- a table whose cells are those of its mirror, as data: two zeros of different sign are not the same
abbrev pub Symmetric : List Float → Type 0
Symmetric table = (i j : ℕ) → i < 64 → j < 64 → cell table i j ≡ cell table j i

-- Where `from_params` answers, both tables are symmetric.
pub record WrittenSymmetric (build : Build) (p : Params) (lent : Outcome) : Type 0 where
  pub dg : (from_params build p lent).number ≡ answered → Symmetric (from_params build p lent).dg
  pub ds : (from_params build p lent).number ≡ answered → Symmetric (from_params build p lent).ds
