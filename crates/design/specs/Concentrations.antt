-- What is shown of designs that come with concentrations, beside that they answer as with the logarithms of these (specs/Unread.antt).
use Rattle.std.specs.Prelude.{◌≡◌, true, false, cond, List, Float}
use Rattle.lists.specs.Build.{tabulate}
use Rattle.doubles.specs.Decimal.{zero}
use Rattle.design.specs.Design.{Design, strands, potential}
use Rattle.design.specs.Checks.{somewhere, by_concentration, dilute, potentials_out}
use Rattle.design.specs.Laws.{Doubles}
use Rattle.design.specs.Unread.{PotentialsOf}

-- none of the logarithms is out of a potential's range: where concentrations are lent, 17 is never given
abbrev pub NeverOut : Type 0
NeverOut = (d : Design) → Doubles d → by_concentration d.given ≡ true → dilute d ≡ false → potentials_out d ≡ false

-- the potentials of the strands that are somewhere friends, and 0.0 of the others
abbrev pub potentials_of : Design → List Float
potentials_of d = tabulate (strands d) (λ strand. cond (somewhere d.scaffold d.marks d.glues d.dg d.ds strand) (potential d strand) zero)

-- there are such potentials of every design
abbrev pub HasPotentials : Type 0
HasPotentials = (d : Design) → PotentialsOf d (potentials_of d)
