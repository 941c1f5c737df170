-- A design, and document 01's "Bonds, friends, states" read off it: the bonds, the friends, and with these the model.
use Rattle.std.specs.Prelude.{Bool, not, cond, ◌&&◌, ◌||◌, List, [], ℕ, ◌+◌, ◌*◌, eqb, length, get_or, Float}
use Rattle.std.specs.Float.{binary64}
use Rattle.std.specs.Float.Ieee.{sub, mul, div, ne}
use Rattle.std.specs.Borrow.{Bor}
use Rattle.lists.specs.Build.{tabulate, up_to, keep}
use Rattle.doubles.specs.Decimal.{zero}
use Rattle.units.specs.declared.Ambient.{Ambient}
use Rattle.logarithm.specs.Figure.{ln_of}
use Rattle.model.specs.Model.{Model}
use Rattle.design.specs.declared.Amounts.{Amounts}
use Rattle.design.specs.declared.Amounts.TheVariants.{Potentials, Concentrations}

-- Document 01's design: what a call on one is lent.
pub record Design : Type 0 where
  -- the scaffold glue of each position
  pub scaffold : List ℕ
  -- document 02's marks, one for each position: 0 open, 1 blocked
  pub marks : List ℕ
  -- three glues for each strand: west, bottom, east
  pub glues : List ℕ
  -- the dG and the dS table, 64 by 64, row first
  pub dg : List Float
  pub ds : List Float
  -- one amount for each strand: document 01's potential, which is the logarithm of its concentration, or document 02's concentration in mol/L
  pub amounts : List Float
  -- which of the two
  pub given : Amounts
  pub ambient : Ambient

-- a design out of its parts, in the order in which calls take them
abbrev pub design : List ℕ → List ℕ → List ℕ → List Float → List Float → List Float → Amounts → Ambient → Design
design scaffold marks glues dg ds amounts given ambient =
    record { scaffold = scaffold; marks = marks; glues = glues; dg = dg; ds = ds; amounts = amounts; given = given; ambient = ambient }

-- the design that a call is lent
abbrev pub lent : Bor (List ℕ) → Bor (List ℕ) → Bor (List ℕ) → Bor (List Float) → Bor (List Float) → Bor (List Float) → Amounts → Ambient → Design
lent scaffold marks glues dg ds amounts given ambient = design scaffold.now marks.now glues.now dg.now ds.now amounts.now given ambient

-- how many positions the scaffold has
abbrev pub positions : Design → ℕ
positions d = length d.scaffold

-- strand 0 included
abbrev pub strands : Design → ℕ
strands d = length d.amounts

-- ---- what the tables hold

-- the cell [row][column] of a glue table
abbrev pub cell : List Float → ℕ → ℕ → Float
cell table row column = get_or table (row * 64 + column) zero

-- the glue of a strand at a side: west 0, bottom 1, east 2
abbrev pub side : List ℕ → ℕ → ℕ → ℕ
side glues strand which = get_or glues (3 * strand + which) 0

-- the glue at a strand's west
abbrev pub west : List ℕ → ℕ → ℕ
west glues strand = side glues strand 0

-- the glue at a strand's bottom, which holds the scaffold
abbrev pub bottom : List ℕ → ℕ → ℕ
bottom glues strand = side glues strand 1

-- the glue at a strand's east
abbrev pub east : List ℕ → ℕ → ℕ
east glues strand = side glues strand 2

-- the scaffold glue at a position
abbrev pub scaffold_glue : Design → ℕ → ℕ
scaffold_glue d i = get_or d.scaffold i 0

-- a position is blocked
abbrev pub blocked_at : List ℕ → ℕ → Bool
blocked_at marks i = eqb (get_or marks i 0) 1

-- the amount of a strand as it is lent
abbrev pub amount : Design → ℕ → Float
amount d strand = get_or d.amounts strand zero

-- the potential that an amount stands for: a potential for itself, a concentration for its logarithm
abbrev pub potential_by : Amounts → Float → Float
potential_by Potentials amount = amount
potential_by Concentrations amount = ln_of amount

-- the potential of a strand
abbrev pub potential : Design → ℕ → Float
potential d strand = potential_by d.given (amount d strand)

-- ---- bonds

-- (dG − excess × dS) / RT
abbrev pub bond_of : Float → Float → Float → Float → Float
bond_of dg ds excess rt = div binary64 (sub binary64 dg (mul binary64 excess ds)) rt

-- the same at a cell
abbrev pub bond_at : List Float → List Float → ℕ → ℕ → Float → Float → Float
bond_at dg ds row column excess rt = bond_of (cell dg row column) (cell ds row column) excess rt

-- Document 01's strand bond (x, y): at [east of x][west of y], with the strand excess.
unfoldable pub strand_bond : List ℕ → List Float → List Float → Ambient → ℕ → ℕ → Float
strand_bond glues dg ds ambient x y = bond_at dg ds (east glues x) (west glues y) ambient.strand_excess.0 ambient.rt.0

-- Document 01's scaffold bond, of the glue at a position and a strand: at [scaffold glue][bottom glue], with the scaffold excess.
unfoldable pub scaffold_bond : ℕ → List ℕ → List Float → List Float → Ambient → ℕ → Float
scaffold_bond glue glues dg ds ambient strand = bond_at dg ds glue (bottom glues strand) ambient.scaffold_excess.0 ambient.rt.0

-- ---- friends

-- dG or dS is nonzero at a cell; −0.0 is zero
abbrev pub binding : List Float → List Float → ℕ → ℕ → Bool
binding dg ds row column = ne (cell dg row column) zero || ne (cell ds row column) zero

-- Document 01's friend, of a scaffold glue: a strand whose dG or dS at [scaffold glue][bottom glue] is nonzero. Strand 0 is asked like any other.
unfoldable pub befriends : ℕ → List ℕ → List Float → List Float → ℕ → Bool
befriends glue glues dg ds strand = binding dg ds glue (bottom glues strand)

-- the friends of a scaffold glue, in rising order
unfoldable pub friends_to : ℕ → List ℕ → List Float → List Float → ℕ → List ℕ
unfolding keep tabulate befriends
friends_to glue glues dg ds strands = keep (befriends glue glues dg ds) (up_to strands)

-- the friends of a position: those of its glue, and none where it is blocked
abbrev pub friends_in : List ℕ → List ℕ → List ℕ → List Float → List Float → ℕ → ℕ → List ℕ
friends_in scaffold marks glues dg ds strands i = cond (blocked_at marks i) [] (friends_to (get_or scaffold i 0) glues dg ds strands)

-- the friends of each position
abbrev pub friend_lists : List ℕ → List ℕ → List ℕ → List Float → List Float → ℕ → List (List ℕ)
friend_lists scaffold marks glues dg ds strands = tabulate (length scaffold) (friends_in scaffold marks glues dg ds strands)

-- ---- of a design

-- the strand bond of two strands of a design
abbrev pub strand_bond_in : Design → ℕ → ℕ → Float
strand_bond_in d = strand_bond d.glues d.dg d.ds d.ambient

-- the scaffold bond of a position and a strand of a design
abbrev pub scaffold_bond_in : Design → ℕ → ℕ → Float
scaffold_bond_in d i = scaffold_bond (scaffold_glue d i) d.glues d.dg d.ds d.ambient

-- a position of a design is blocked
abbrev pub blocked : Design → ℕ → Bool
blocked d = blocked_at d.marks

-- a strand is a friend at a position of a design: the position is open, and its glue binds the strand
abbrev pub is_friend : Design → ℕ → ℕ → Bool
is_friend d i strand = not (blocked d i) && befriends (scaffold_glue d i) d.glues d.dg d.ds strand

-- the friends of a position of a design
abbrev pub friends_of : Design → ℕ → List ℕ
friends_of d = friends_in d.scaffold d.marks d.glues d.dg d.ds (strands d)

-- the model that a design gives
unfoldable pub model_of : Design → Model
unfolding tabulate friends_to scaffold_bond strand_bond
model_of d =
    record {
      friends = friend_lists d.scaffold d.marks d.glues d.dg d.ds (strands d);
      site = scaffold_bond_in d;
      pair = strand_bond_in d;
      potential = potential d;
      rt = d.ambient.rt.0;
    }
