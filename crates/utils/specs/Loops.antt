-- The loop call: 5 for a kind other than 0 (internal), 1 (bulge), 2 (hairpin), or a length outside 3 to 254.
use Rattle.std.specs.Prelude.{cond, not, ◌||◌, List, [], ◌∷◌, ℕ, eqb, ltb}
use Rattle.reply.specs.First.{Check, ◌if◌, first_of, answer}
use Rattle.reply.specs.declared.Refusal.TheVariants.{NoSuchLoop}
use Rattle.utils.specs.Answers.{DgFigures, refused_dg, given_dg}
use Rattle.utils.specs.Figures.{admitted_length, loop_energy}
use Rattle.utils.specs.declared.tables.LoopKind.{LoopKind}
use Rattle.utils.specs.declared.tables.LoopKind.TheVariants.{Internal, Bulge, HairPin}

-- the kind with this number, of those that there are
unfoldable pub kind_of : ℕ → LoopKind
kind_of kind = cond (eqb kind 0) Internal (cond (eqb kind 1) Bulge HairPin)

-- what the loop call refuses
abbrev pub loop_checks : ℕ → ℕ → List Check
loop_checks length kind = NoSuchLoop if (ltb 2 kind || not (admitted_length length)) ∷ []

-- the loop call's answer
unfoldable pub loop_penalty : ℕ → ℕ → DgFigures
loop_penalty length kind = answer (first_of (loop_checks length kind)) refused_dg (given_dg (loop_energy (kind_of kind) length))
