-- No state's state energy is lower by more than 2⁻¹⁵ than that of the configuration returned. Assumes nothing.
use Rattle.model.proofs.TwoEnergies.{two-energies}
use Rattle.design.specs.Design.{strands, model_of}
use Rattle.design.proofs.BoundLaws.{bounds-right}
use Rattle.design.proofs.NullBonds.{null-bonds}
use Rattle.mfe.specs.NearLowest.{SearchNearLowest}
use Rattle.mfe.proofs.Answered.{number_passed, lent-right, reply}

pub search-near-lowest : SearchNearLowest
search-near-lowest d entries doubles e t v =
    let p = number_passed d entries e in
    let a = p.design in
    rw (reply d entries a (lent-right d entries p)) ((two-energies (model_of d) (strands d) (bounds-right d doubles a) (null-bonds d doubles a)).searched t v)
