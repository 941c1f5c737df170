-- Designs with faults, one or two at once: the number of the reply and its place, as document 02 has them.
use Rattle.std.specs.Prelude.{◌≡◌, List, [], ◌∷◌, ◌++◌, ℕ, set, replicate, Float, None, Some}
use Rattle.std.specs.Float.{nan}
use Rattle.doubles.specs.Decimal.{Decimal, plus, minus, nearest, zero}
use Rattle.units.specs.declared.Ambient.{Ambient}
use Rattle.reply.specs.Figures.{given, refused_with}
use Rattle.reply.specs.declared.Refusal.TheVariants.{OutOfRange, NullBinds, NotAFriend, TooManyStates, RankTooHigh, AmbientOut, PotentialOut}
use Rattle.design.specs.declared.Amounts.TheVariants.{Potentials}
use Rattle.design.specs.Design.{Design, design}
use Rattle.design.specs.Answers.{count_answer, rank_answer, state_energy_answer}
use Rattle.mfe.specs.Answers.{search_answer}
use Rattle.bench_table.specs.Designs.{half, zeros}

-- an ambient out of three decimals
abbrev pub ambient_with : Decimal → Decimal → Decimal → Ambient
ambient_with rt strand scaffold =
    record { rt = record { 0 = nearest rt }; strand_excess = record { 0 = nearest strand }; scaffold_excess = record { 0 = nearest scaffold } }

-- RT 0 is out of its range
abbrev pub cold : Ambient
cold = ambient_with (plus 0 0) (plus 0 0) (plus 0 0)

-- one position of scaffold glue 1, and strand 1 with bottom glue 1
abbrev pub one : List Float → List Float → List Float → Ambient → Design
one dg ds potentials ambient = design (1 ∷ []) (0 ∷ []) (0 ∷ 0 ∷ 0 ∷ 0 ∷ 1 ∷ 0 ∷ []) dg ds potentials Potentials ambient

-- dG −1 where glue 1 meets glue 1, and 0 elsewhere
abbrev pub bound : List Float
bound = set zeros 65 (nearest (minus 1 0))

-- the same with dG 1 in row 0: it binds to null
abbrev pub null_bound : List Float
null_bound = set bound 1 (nearest (plus 1 0))

-- no potential is out
abbrev pub mild : List Float
mild = zero ∷ zero ∷ []

-- that of strand 1 is no number
abbrev pub wild : List Float
wild = zero ∷ nan ∷ []

-- 21 positions with one friend each: 2,097,152 states
abbrev pub long : Ambient → Design
long ambient = design (replicate 21 1) (replicate 21 0) (0 ∷ 0 ∷ 0 ∷ 0 ∷ 1 ∷ 0 ∷ []) bound zeros mild Potentials ambient

-- 8 strands, of which 7 alone is a friend; the potentials of 3 and of 7 are out
abbrev pub eight : Design
eight =
    design (1 ∷ []) (0 ∷ []) (replicate 22 0 ++ 1 ∷ 0 ∷ []) bound zeros (zero ∷ zero ∷ zero ∷ nan ∷ zero ∷ zero ∷ zero ∷ nan ∷ []) Potentials half

-- Where the fault lies.
pub record FaultPlaces : Type 0 where
  -- the cell of dG at row 1 and column 1
  pub dg : (x : ℕ) → search_answer (one (set zeros 65 nan) zeros mild half) (x ∷ []) ≡ refused_with zero OutOfRange (Some 65)
  -- dG's last cell before dS's first
  pub both : (x : ℕ) → search_answer (one (set bound 4095 nan) (set zeros 0 nan) mild half) (x ∷ []) ≡ refused_with zero OutOfRange (Some 4095)
  -- dS's first and last
  pub first : (x : ℕ) → search_answer (one bound (set zeros 0 nan) mild half) (x ∷ []) ≡ refused_with zero OutOfRange (Some 4096)
  pub last : (x : ℕ) → search_answer (one bound (set zeros 4095 nan) mild half) (x ∷ []) ≡ refused_with zero OutOfRange (Some 8191)
  -- RT before the excesses, and the strand excess before the scaffold excess
  pub rt : (x : ℕ) → search_answer (one bound zeros mild (ambient_with (plus 0 0) (plus 2000 0) (plus 0 0))) (x ∷ []) ≡ refused_with zero AmbientOut (Some 0)
  pub strand : (x : ℕ) → search_answer (one bound zeros mild (ambient_with (plus 5 1) (plus 2000 0) (plus 2000 0))) (x ∷ []) ≡ refused_with zero AmbientOut (Some 1)
  pub scaffold : (x : ℕ) → search_answer (one bound zeros mild (ambient_with (plus 5 1) (plus 0 0) (plus 2000 0))) (x ∷ []) ≡ refused_with zero AmbientOut (Some 2)
  -- strand 3's potential is not read
  pub potential : (x : ℕ) → search_answer eight (x ∷ []) ≡ refused_with zero PotentialOut (Some 7)

-- Of two faults at once the lower number is given, with its place.
pub record TwoFaults : Type 0 where
  pub cell_and_ambient : (x : ℕ) → search_answer (one (set zeros 65 nan) zeros mild cold) (x ∷ []) ≡ refused_with zero OutOfRange (Some 65)
  pub cell_and_null : (x : ℕ) → search_answer (one (set null_bound 65 nan) zeros mild half) (x ∷ []) ≡ refused_with zero OutOfRange (Some 65)
  pub ambient_and_null : (x : ℕ) → search_answer (one null_bound zeros mild cold) (x ∷ []) ≡ refused_with zero NullBinds None
  pub potential_and_null : (x : ℕ) → search_answer (one null_bound zeros wild half) (x ∷ []) ≡ refused_with zero NullBinds None
  pub ambient_and_stranger : state_energy_answer (one bound zeros mild cold) (2 ∷ []) ≡ refused_with zero NotAFriend None
  pub potential_and_stranger : state_energy_answer (one bound zeros wild half) (2 ∷ []) ≡ refused_with zero NotAFriend None
  pub ambient_and_many : count_answer (long cold) ≡ refused_with 0 TooManyStates None
  pub ambient_and_rank : (x : ℕ) → rank_answer (one bound zeros mild cold) 2 (x ∷ []) ≡ refused_with tt RankTooHigh None
  pub potential_and_rank : (x : ℕ) → rank_answer (one bound zeros wild half) 2 (x ∷ []) ≡ refused_with tt RankTooHigh None
  pub ambient_and_potential : (x : ℕ) → search_answer (one bound zeros wild cold) (x ∷ []) ≡ refused_with zero AmbientOut (Some 0)
  -- strand 0 a friend, and its potential out: 10
  pub null_potential : (x : ℕ) → search_answer (design (1 ∷ []) (0 ∷ []) (0 ∷ 0 ∷ 0 ∷ []) (set zeros 64 (nearest (minus 1 0))) zeros (nan ∷ []) Potentials half) (x ∷ []) ≡ refused_with zero NullBinds None
  -- no positions: the ambient is looked at, no potential is
  pub ambient_alone : search_answer (design [] [] (0 ∷ 0 ∷ 0 ∷ 0 ∷ 1 ∷ 0 ∷ []) bound zeros wild Potentials cold) [] ≡ refused_with zero AmbientOut (Some 0)
  pub no_potential : search_answer (design [] [] (0 ∷ 0 ∷ 0 ∷ 0 ∷ 1 ∷ 0 ∷ []) bound zeros wild Potentials half) [] ≡ given zero
