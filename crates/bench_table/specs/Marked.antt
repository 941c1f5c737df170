-- Document 01's two positions, with friends 1 and 2, where one or both are blocked: states, search, strangers, bonds.
use Rattle.std.specs.Prelude.{◌≡◌, List, [], ◌∷◌, ℕ, set, replicate, Float, None}
use Rattle.std.specs.Float.{nan}
use Rattle.doubles.specs.Decimal.{minus, nearest, zero}
use Rattle.reply.specs.Figures.{given, refused_with}
use Rattle.reply.specs.declared.Refusal.TheVariants.{WrongSize, NotAFriend}
use Rattle.model.specs.States.{states}
use Rattle.design.specs.declared.Amounts.TheVariants.{Potentials}
use Rattle.design.specs.Design.{Design, design, model_of}
use Rattle.design.specs.Answers.{friends_answer, friends_entries, count_answer, state_energy_answer, scaffold_bond_answer}
use Rattle.mfe.specs.Answers.{search_answer, search_entries}
use Rattle.bench_table.specs.Designs.{half, zeros}

-- the two positions with these marks and potentials
unfoldable pub marked : List ℕ → List Float → Design
unfolding nearest
marked marks potentials =
    design (1 ∷ 2 ∷ []) marks (0 ∷ 0 ∷ 0 ∷ 0 ∷ 1 ∷ 0 ∷ 0 ∷ 2 ∷ 0 ∷ []) (set (set zeros 65 (nearest (minus 5 1))) 130 (nearest (minus 2 0))) zeros potentials Potentials half

-- those of document 01's two positions
abbrev pub usual : List Float
usual = zero ∷ nearest (minus 1 0) ∷ nearest (minus 1 0) ∷ []

-- no number for either strand
abbrev pub wild : List Float
wild = zero ∷ nan ∷ nan ∷ []

-- the first is blocked
pub record FirstBlocked : Type 0 where
  pub listed : states (model_of (marked (1 ∷ 0 ∷ []) usual)) ≡ (0 ∷ 2 ∷ []) ∷ (0 ∷ 0 ∷ []) ∷ []
  pub number : count_answer (marked (1 ∷ 0 ∷ []) usual) ≡ given 2
  pub energy : (x y : ℕ) → search_answer (marked (1 ∷ 0 ∷ []) usual) (x ∷ y ∷ []) ≡ given (nearest (minus 15 1))
  pub shown : (x y : ℕ) → search_entries (marked (1 ∷ 0 ∷ []) usual) (x ∷ y ∷ []) ≡ 0 ∷ 2 ∷ []
  -- a strand on the blocked place
  pub stranger : state_energy_answer (marked (1 ∷ 0 ∷ []) usual) (1 ∷ 2 ∷ []) ≡ refused_with zero NotAFriend None
  -- it has no friends, and the lent entries are kept
  pub friends : friends_answer (marked (1 ∷ 0 ∷ []) usual) 0 (replicate 64 0) ≡ given 0
  pub kept : friends_entries (marked (1 ∷ 0 ∷ []) usual) 0 (replicate 64 7) ≡ replicate 64 7
  -- its scaffold bond is as before
  pub bond : scaffold_bond_answer (marked (1 ∷ 0 ∷ []) usual) 0 1 ≡ given (nearest (minus 1 0))

-- the last is blocked: of equal left entries the later is taken, and that is empty
pub record LastBlocked : Type 0 where
  pub listed : states (model_of (marked (0 ∷ 1 ∷ []) usual)) ≡ (1 ∷ 0 ∷ []) ∷ (0 ∷ 0 ∷ []) ∷ []
  pub energy : (x y : ℕ) → search_answer (marked (0 ∷ 1 ∷ []) usual) (x ∷ y ∷ []) ≡ given zero
  pub shown : (x y : ℕ) → search_entries (marked (0 ∷ 1 ∷ []) usual) (x ∷ y ∷ []) ≡ 0 ∷ 0 ∷ []

-- both are blocked: one state, and no potential is read
pub record BothBlocked : Type 0 where
  pub listed : states (model_of (marked (1 ∷ 1 ∷ []) wild)) ≡ (0 ∷ 0 ∷ []) ∷ []
  pub energy : (x y : ℕ) → search_answer (marked (1 ∷ 1 ∷ []) wild) (x ∷ y ∷ []) ≡ given zero
  pub shown : (x y : ℕ) → search_entries (marked (1 ∷ 1 ∷ []) wild) (x ∷ y ∷ []) ≡ 0 ∷ 0 ∷ []

-- marks that are none: 1 too many, 1 too few, a mark of 2
pub record NoMarks : Type 0 where
  pub long : (x y : ℕ) → search_answer (marked (0 ∷ 0 ∷ 0 ∷ []) usual) (x ∷ y ∷ []) ≡ refused_with zero WrongSize None
  pub short : (x y : ℕ) → search_answer (marked (0 ∷ []) usual) (x ∷ y ∷ []) ≡ refused_with zero WrongSize None
  pub two : (x y : ℕ) → search_answer (marked (0 ∷ 2 ∷ []) usual) (x ∷ y ∷ []) ≡ refused_with zero WrongSize None
