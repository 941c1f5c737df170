-- The conditions on which a design, or what is asked of it, is refused, and each call's checks.
use Rattle.std.specs.Prelude.{◌≡◌, Bool, not, true, false, cond, ◌&&◌, ◌||◌, List, [], ◌∷◌, ◌++◌, ℕ, ◌+◌, ◌*◌, leb, ltb, eqb, length, get_or, Float}
use Rattle.lists.specs.Build.{up_to, tabulate}
use Rattle.lists.specs.Find.{any, first_index}
use Rattle.doubles.specs.Decimal.{plus, minus, nearest}
use Rattle.doubles.specs.Range.{within}
use Rattle.reply.specs.First.{Check, ◌if◌, ◌if◌at◌}
use Rattle.reply.specs.Limits.{most_positions, most_strands, last_glue, glue_count, cell_count, most_states, most_dg, most_ds, most_excess, most_potential, least_rt_thousandths, most_rt}
use Rattle.reply.specs.declared.Refusal.TheVariants.{WrongSize, OutOfRange, NullBinds, NotAFriend, TooManyStates, RankTooHigh, TooDilute, AmbientOut, PotentialOut}
use Rattle.units.specs.declared.Ambient.{Ambient}
use Rattle.logarithm.specs.Near.{has_logarithm}
use Rattle.model.specs.States.{count}
use Rattle.design.specs.declared.Amounts.{Amounts}
use Rattle.design.specs.declared.Amounts.TheVariants.{Potentials, Concentrations}
use Rattle.design.specs.Design.{Design, positions, strands, amount, potential, blocked_at, west, bottom, east, binding, befriends, model_of}

-- ---- size

-- scaffold 0 to 128 positions; strands 1 to 64, strand 0 included
abbrev pub wrong_counts : List ℕ → List Float → Bool
wrong_counts scaffold amounts = ltb most_positions (length scaffold) || (ltb (length amounts) 1 || ltb most_strands (length amounts))

-- three glues for each strand, and 64 by 64 cells
abbrev pub wrong_lengths : List ℕ → List Float → List Float → List Float → Bool
wrong_lengths glues dg ds amounts =
    not (eqb (length glues) (3 * length amounts)) || (not (eqb (length dg) cell_count) || not (eqb (length ds) cell_count))

-- as many marks as positions, and each 0 or 1
abbrev pub wrong_marks : List ℕ → List ℕ → Bool
wrong_marks scaffold marks = not (eqb (length marks) (length scaffold)) || any (ltb 1) marks

-- a glue above 63
abbrev pub high_glue : ℕ → Bool
high_glue glue = ltb last_glue glue

-- the counts, the lengths, a mark or a glue is outside its limits
unfoldable pub wrong_sizes : List ℕ → List ℕ → List ℕ → List Float → List Float → List Float → Bool
unfolding any
wrong_sizes scaffold marks glues dg ds amounts =
    wrong_counts scaffold amounts || (wrong_lengths glues dg ds amounts || (wrong_marks scaffold marks || (any high_glue scaffold || any high_glue glues)))

-- refusal 1 of a design
abbrev pub sizes_out : Design → Bool
sizes_out d = wrong_sizes d.scaffold d.marks d.glues d.dg d.ds d.amounts

-- a strand asked for by number that the design lacks
abbrev pub no_strand : Design → ℕ → Bool
no_strand d strand = leb (strands d) strand

-- a position asked for by number that the design lacks
abbrev pub no_position : Design → ℕ → Bool
no_position d i = leb (positions d) i

-- ---- range: not finite, or outside its range, ends included

-- outside low to high; a NaN is outside of any
abbrev pub outside : Float → Float → Float → Bool
outside low high x = not (within low high x)

-- outside ± a whole number
abbrev pub beyond : ℕ → Float → Bool
beyond most = outside (nearest (minus most 0)) (nearest (plus most 0))

-- dG cells ±1,024 kcal/mol; dS cells ±8 kcal/mol/K
unfoldable pub cells_out : List Float → List Float → Bool
unfolding any nearest
cells_out dg ds = any (beyond most_dg) dg || any (beyond most_ds) ds

-- The number of the lowest cell that is out: a dG cell's is 64 × row + column, a dS cell's 4,096 more.
unfoldable pub bad_cell : List Float → List Float → ℕ
unfolding any first_index nearest
bad_cell dg ds = cond (any (beyond most_dg) dg) (first_index (beyond most_dg) dg) (cell_count + first_index (beyond most_ds) ds)

-- RT 1/8 to 8
abbrev pub rt_out : Ambient → Bool
rt_out ambient = outside (nearest (plus least_rt_thousandths 3)) (nearest (plus most_rt 0)) ambient.rt.0

-- the strand excess ±1,024
abbrev pub strand_excess_out : Ambient → Bool
strand_excess_out ambient = beyond most_excess ambient.strand_excess.0

-- the scaffold excess ±1,024
abbrev pub scaffold_excess_out : Ambient → Bool
scaffold_excess_out ambient = beyond most_excess ambient.scaffold_excess.0

-- a number of the ambient is out of its range
unfoldable pub ambient_out : Ambient → Bool
unfolding nearest
ambient_out ambient = rt_out ambient || (strand_excess_out ambient || scaffold_excess_out ambient)

-- Which number of the ambient is the first that is out: 0 RT, 1 the strand excess, 2 the scaffold excess.
unfoldable pub bad_ambient : Ambient → ℕ
unfolding nearest
bad_ambient ambient = cond (rt_out ambient) 0 (cond (strand_excess_out ambient) 1 2)

-- the strand is a friend at a position
abbrev pub friend_at : List ℕ → List ℕ → List ℕ → List Float → List Float → ℕ → ℕ → Bool
friend_at scaffold marks glues dg ds strand i = not (blocked_at marks i) && befriends (get_or scaffold i 0) glues dg ds strand

-- the strand is a friend at some position, which is open
unfoldable pub somewhere : List ℕ → List ℕ → List ℕ → List Float → List Float → ℕ → Bool
unfolding any tabulate befriends
somewhere scaffold marks glues dg ds strand = any (friend_at scaffold marks glues dg ds strand) (up_to (length scaffold))

-- concentrations are lent, and not potentials
abbrev pub by_concentration : Amounts → Bool
by_concentration Potentials = false
by_concentration Concentrations = true

-- concentrations 2^-60 to 2^10 mol/L, ends included; only those of strands that are somewhere friends are looked at
abbrev pub thin : Design → ℕ → Bool
thin d strand = somewhere d.scaffold d.marks d.glues d.dg d.ds strand && not (has_logarithm (amount d strand))

-- concentrations are lent, and one that is read is outside
unfoldable pub dilute : Design → Bool
unfolding any tabulate somewhere
dilute d = by_concentration d.given && any (thin d) (up_to (strands d))

-- potentials ±1,024; only those of strands that are somewhere friends are looked at. The logarithm of a concentration that is not thin never is beyond:
-- specs/Concentrations.antt.
abbrev pub unfit : Design → ℕ → Bool
unfit d strand = somewhere d.scaffold d.marks d.glues d.dg d.ds strand && beyond most_potential (potential d strand)

-- a potential that is read is out of its range
unfoldable pub potentials_out : Design → Bool
unfolding any tabulate somewhere nearest
potentials_out d = any (unfit d) (up_to (strands d))

-- the lowest strand whose potential is read and out of its range
unfoldable pub bad_potential : Design → ℕ
unfolding first_index tabulate somewhere nearest
bad_potential d = first_index (unfit d) (up_to (strands d))

-- ---- null: strand 0 has a nonzero glue, or row or column 0 of a glue table has a nonzero cell

-- strand 0 has a nonzero glue
abbrev pub null_glued : List ℕ → Bool
null_glued glues = not (eqb (west glues 0) 0) || (not (eqb (bottom glues 0) 0) || not (eqb (east glues 0) 0))

-- row 0 or column 0 has a nonzero cell at a glue
abbrev pub null_cells : List Float → List Float → ℕ → Bool
null_cells dg ds glue = binding dg ds 0 glue || binding dg ds glue 0

-- document 01's refusal 10 of a design
unfoldable pub null_binds : List ℕ → List Float → List Float → Bool
unfolding any tabulate
null_binds glues dg ds = null_glued glues || any (null_cells dg ds) (up_to glue_count)

-- ---- stranger: a configuration holds, at some position, neither 0 nor a friend; a number that is no strand is no friend

-- an occupant that is neither 0 nor a friend, of a place that is blocked or not and has this scaffold glue
abbrev pub no_friend : Bool → ℕ → List ℕ → List Float → List Float → ℕ → ℕ → Bool
no_friend blocked glue glues dg ds strands occupant =
    not (eqb occupant 0) && not (ltb occupant strands && (not blocked && befriends glue glues dg ds occupant))

-- the same of the occupant of position i
abbrev pub no_friend_at : List ℕ → List ℕ → List ℕ → List Float → List Float → ℕ → List ℕ → ℕ → Bool
no_friend_at scaffold marks glues dg ds strands s i = no_friend (blocked_at marks i) (get_or scaffold i 0) glues dg ds strands (get_or s i 0)

-- document 01's refusal 11 of a configuration, a stranger in it: at some position it holds neither 0 nor a friend
unfoldable pub not_all_friends : Design → List ℕ → Bool
unfolding any tabulate befriends
not_all_friends d s = any (no_friend_at d.scaffold d.marks d.glues d.dg d.ds (strands d) s) (up_to (positions d))

-- ---- many, and rank

-- more than 1,048,576 states
abbrev pub too_many_states : Design → Bool
too_many_states d = ltb most_states (count (model_of d))

-- at or above the number of states
abbrev pub rank_too_high : Design → ℕ → Bool
rank_too_high d rank = leb (count (model_of d)) rank

-- ---- a design is admitted if no condition on which the table refuses the search holds

-- Document 01's admitted design: none of its own checks holds.
pub record Admitted (d : Design) : Type 0 where
  pub sizes : sizes_out d ≡ false
  pub cells : cells_out d.dg d.ds ≡ false
  pub concentrations : dilute d ≡ false
  pub ambient : ambient_out d.ambient ≡ false
  pub potentials : potentials_out d ≡ false
  pub null : null_binds d.glues d.dg d.ds ≡ false

-- What friends, states and their number read of a design is in order: its sizes, its cells, and nothing binds to null.
pub record TablesPass (d : Design) : Type 0 where
  pub sizes : sizes_out d ≡ false
  pub cells : cells_out d.dg d.ds ≡ false
  pub null : null_binds d.glues d.dg d.ds ≡ false

-- ---- the checks of each call, sorted by number

-- the sizes, with the call's own; the cells; what else the call finds out of range, which has no place; what binds to null
abbrev pub ranged_checks : Bool → Bool → List ℕ → List ℕ → List ℕ → List Float → List Float → List Float → List Check
ranged_checks own_size own_range scaffold marks glues dg ds amounts =
    WrongSize if (own_size || wrong_sizes scaffold marks glues dg ds amounts)
    ∷ OutOfRange if cells_out dg ds at bad_cell dg ds
    ∷ OutOfRange if own_range
    ∷ NullBinds if null_binds glues dg ds
    ∷ []

-- the sizes, with the call's own; the cells; what binds to null
abbrev pub table_checks : Bool → List ℕ → List ℕ → List ℕ → List Float → List Float → List Float → List Check
table_checks own_size scaffold marks glues dg ds amounts =
    WrongSize if (own_size || wrong_sizes scaffold marks glues dg ds amounts)
    ∷ OutOfRange if cells_out dg ds at bad_cell dg ds
    ∷ NullBinds if null_binds glues dg ds
    ∷ []

-- the ambient, and the potentials that are read
abbrev pub range_checks : Design → List Check
range_checks d = AmbientOut if ambient_out d.ambient at bad_ambient d.ambient ∷ PotentialOut if potentials_out d at bad_potential d ∷ []

-- the concentrations that are read, which have no place, and then the ranges
abbrev pub number_checks : Design → List Check
number_checks d = TooDilute if dilute d ∷ range_checks d

-- What every call that takes a design checks: its tables; then the call's own of 11 to 13, which read these alone; then its numbers; then the
-- call's own from 18 on.
abbrev pub design_checks : Bool → Design → List Check → List Check → List Check
design_checks own_size d between after =
    table_checks own_size d.scaffold d.marks d.glues d.dg d.ds d.amounts ++ (between ++ (number_checks d ++ after))

-- what is refused of a strand bond
abbrev pub strand_bond_checks : Design → ℕ → ℕ → List Check
strand_bond_checks d x y = design_checks (no_strand d x || no_strand d y) d [] []

-- what is refused of a scaffold bond
abbrev pub scaffold_bond_checks : Design → ℕ → ℕ → List Check
scaffold_bond_checks d i strand = design_checks (no_position d i || no_strand d strand) d [] []

-- the friends are written into 64 lent entries
abbrev pub friends_checks : Design → ℕ → List ℕ → List Check
friends_checks d i entries = design_checks (no_position d i || not (eqb (length entries) most_strands)) d [] []

-- what the count itself is refused for
abbrev pub own_count_checks : Design → List Check
own_count_checks d = TooManyStates if too_many_states d ∷ []

-- what is refused of the count
abbrev pub count_checks : Design → List Check
count_checks d = design_checks false d (own_count_checks d) []

-- what a rank itself is refused for
abbrev pub own_rank_checks : Design → ℕ → List Check
own_rank_checks d rank = TooManyStates if too_many_states d ∷ RankTooHigh if rank_too_high d rank ∷ []

-- a state is written into one lent entry for each position
abbrev pub rank_checks : Design → ℕ → List ℕ → List Check
rank_checks d rank entries = design_checks (not (eqb (length entries) (positions d))) d (own_rank_checks d rank) []

-- what a configuration itself is refused for
abbrev pub own_energy_checks : Design → List ℕ → List Check
own_energy_checks d s = NotAFriend if not_all_friends d s ∷ []

-- a configuration has one entry for each position
abbrev pub energy_checks : Design → List ℕ → List Check
energy_checks d s = design_checks (not (eqb (length s) (positions d))) d (own_energy_checks d s) []
