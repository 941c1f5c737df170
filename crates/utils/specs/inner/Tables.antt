-- How the code's tables stand: private contracts use this, and no public one.
use Rattle.std.specs.Prelude.{◌≡◌, cond, List, [], ◌∷◌, ℕ, ℤ, pos, neg_ℤ, Float, get_or}
use Rattle.doubles.specs.Decimal.{Decimal}
use Rattle.utils.specs.Bases.{Base, index_of}
use Rattle.utils.specs.Paper.{mismatch_of, no_loop, loop_figure}
use Rattle.utils.specs.Figures.{stack_dg, stack_ds, loop_rows}
use Rattle.utils.specs.declared.bases.DnaNucleotideBase.TheVariants.{A, T, G, C}
use Rattle.utils.specs.declared.tables.LoopKind.{LoopKind}
use Rattle.utils.specs.declared.tables.LoopKind.TheVariants.{Internal, Bulge, HairPin}

-- an entry for each base, in the order of their numbers
abbrev pub by_base : {X : Type 0} → (Base → X) → List X
by_base f = f A ∷ f T ∷ f G ∷ f C ∷ []

-- an entry for each two bases
abbrev pub by_two : {X : Type 0} → (Base → Base → X) → List (List X)
by_two f = by_base (λ a. by_base (f a))

-- an entry for each three bases
abbrev pub by_three : {X : Type 0} → (Base → Base → Base → X) → List (List (List X))
by_three f = by_base (λ a. by_two (f a))

-- dG and dS of the stack of the bases that have these numbers
abbrev pub StackAt : ℕ → ℕ → Float → Float → Type 0
StackAt i j dg ds = (a b : Base) → i ≡ index_of a → j ≡ index_of b → (dg ≡ stack_dg a b) × (ds ≡ stack_ds a b)

-- a decimal without its point: −13 for −0.13
abbrev pub unpointed : Decimal → ℤ
unpointed d = cond d.negative (neg_ℤ (pos d.digits)) (pos d.digits)

-- an entry of the code's table of mismatches
unfoldable pub hundredths : Base → Base → Base → ℤ
hundredths p x y = unpointed (mismatch_of p x y)

-- an entry of the code's table of loops
unfoldable pub tenths : LoopKind → ℕ → ℤ
tenths kind at = unpointed (loop_figure kind (get_or loop_rows at no_loop))

-- the Rust's numbers of the kinds of loop, in whose order its table stands
abbrev pub kind_index : LoopKind → ℕ
kind_index Internal = 0
kind_index Bulge = 1
kind_index HairPin = 2
