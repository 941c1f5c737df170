-- What a mark does: a blocked place is empty in every state, bonds don't read the marks, and with all positions open the design is document 01's.
use Rattle.std.specs.Prelude.{◌≡◌, true, false, List, ℕ, ◌<◌, get_or}
use Rattle.lists.specs.Build.{tabulate}
use Rattle.model.specs.Model.{Model, State}
use Rattle.design.specs.Design.{Design, design, positions, strands, scaffold_glue, potential, strand_bond_in, scaffold_bond_in, blocked, friends_to, model_of}

-- a blocked position is empty in every state
abbrev pub BlockedEmpty : Design → Type 0
BlockedEmpty d = (i : ℕ) → blocked d i ≡ true → (s : List ℕ) → State (model_of d) s → get_or s i 0 ≡ 0

-- the same design with other marks
abbrev pub with_marks : Design → List ℕ → Design
with_marks d marks = design d.scaffold marks d.glues d.dg d.ds d.amounts d.given d.ambient

-- every bond is as before, whatever is blocked
pub record BondsKept (d : Design) (marks : List ℕ) : Type 0 where
  pub strand_bonds : (x y : ℕ) → strand_bond_in (with_marks d marks) x y ≡ strand_bond_in d x y
  pub scaffold_bonds : (i strand : ℕ) → scaffold_bond_in (with_marks d marks) i strand ≡ scaffold_bond_in d i strand

-- document 01's model of a design, which has no marks: the friends of a position are those of its glue
unfoldable pub open_model : Design → Model
unfolding tabulate friends_to
open_model d =
    record {
      friends = tabulate (positions d) (λ i. friends_to (scaffold_glue d i) d.glues d.dg d.ds (strands d));
      site = scaffold_bond_in d;
      pair = strand_bond_in d;
      potential = potential d;
      rt = d.ambient.rt.0;
    }

-- with all positions open a design gives document 01's model: its friends, states, counts, energies and search are those without marks
abbrev pub AllOpen : Design → Type 0
AllOpen d = ((i : ℕ) → i < positions d → blocked d i ≡ false) → model_of d ≡ open_model d
