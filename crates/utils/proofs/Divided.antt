-- One division of a whole number gives the double nearest to its decimal, for every entry of the two tables: a test over each table, worked out
-- once, and a law that turns it into the equation at an entry. Assumes nothing.
use mathlib.Core.Path.{◌≡◌, refl, ap}
use mathlib.Core.Bool.{Bool, true, false, not, ◌&&◌, ◌||◌, beq, false≢true, true≢false}
use mathlib.Core.List.{List, [], ◌∷◌}
use Prim.Native.Nat.{ℕ}
use borrow.Author.Tests.{eqb-true}
use lib.Dec.{eqb}
use lib.IntN.{ℤ, pos, negsuc}
use lib.Ieee.{Float, nan, inf, fin, binary64, of_int, of_bits, div}
use lib.ListN.{get_or}
use mir.Syntax.{w16}
use mir.Val.{to_z, of_z}
use Rattle.lists.specs.Build.{keep}
use Rattle.lists.specs.Find.{any}
use Rattle.lists.proofs.Each.{none_each, each-get_or}
use Rattle.lists.proofs.Tests.{both, neither}
use Rattle.doubles.specs.Decimal.{nearest}
use Rattle.utils.specs.Bases.{Base}
use Rattle.utils.specs.Paper.{mismatch_of, table2, Loop, no_loop, loop_figure, table4}
use Rattle.utils.specs.Figures.{penalty, loop_rows, loop_entry}
use Rattle.utils.specs.inner.Tables.{unpointed, hundredths, tenths}
use Rattle.utils.specs.declared.bases.DnaNucleotideBase.TheVariants.{A, T, G, C}
use Rattle.utils.specs.declared.tables.LoopKind.{LoopKind}
use Rattle.utils.specs.declared.tables.LoopKind.TheVariants.{Internal, Bulge, HairPin}

-- ---- one double, told by a test

same_int : ℤ → ℤ → Bool
same_int (pos m) (pos n) = eqb m n
same_int (pos m) (negsuc n) = false
same_int (negsuc m) (pos n) = false
same_int (negsuc m) (negsuc n) = eqb m n

same_int_lem : (x y : ℤ) → same_int x y ≡ true → x ≡ y
unfolding same_int
same_int_lem (pos m) (pos n) e = ap pos (eqb-true m n e)
same_int_lem (pos m) (negsuc n) e = absurd (false≢true e)
same_int_lem (negsuc m) (pos n) e = absurd (false≢true e)
same_int_lem (negsuc m) (negsuc n) e = ap negsuc (eqb-true m n e)

same_sign : (s t : Bool) → beq s t ≡ true → s ≡ t
same_sign true true e = refl
same_sign true false e = absurd (false≢true e)
same_sign false true e = absurd (false≢true e)
same_sign false false e = refl

-- two finite doubles that are one as data
same_double : Float → Float → Bool
same_double nan y = false
same_double (inf s) y = false
same_double (fin s m e) nan = false
same_double (fin s m e) (inf t) = false
same_double (fin s m e) (fin t n g) = beq s t && (eqb m n && same_int e g)

same-double : (x y : Float) → same_double x y ≡ true → x ≡ y
unfolding same_double
same-double nan y h = absurd (false≢true h)
same-double (inf s) y h = absurd (false≢true h)
same-double (fin s m e) nan h = absurd (false≢true h)
same-double (fin s m e) (inf t) h = absurd (false≢true h)
same-double (fin s m e) (fin t n g) h =
    let first = both (beq s t) (eqb m n && same_int e g) h in
    let rest = both (eqb m n) (same_int e g) first.1 in
    let sign : s ≡ t = same_sign s t first.0 in
    let size : m ≡ n = eqb-true m n rest.0 in
    let power : e ≡ g = same_int_lem e g rest.1 in
    cc

not-false : (b : Bool) → not b ≡ false → b ≡ true
not-false true e = refl
not-false false e = absurd (true≢false e)

-- ---- the quotients that the code works out

-- an entry, as the code keeps it, over 100.0
abbrev pub by_hundred : ℤ → Float
by_hundred z = div binary64 (of_int binary64 (to_z w16 (of_z w16 z))) (of_bits binary64 4636737291354636288)

-- an entry over 10.0
abbrev pub by_ten : ℤ → Float
by_ten z = div binary64 (of_int binary64 (to_z w16 (of_z w16 z))) (of_bits binary64 4621819117588971520)

-- ---- mismatches

four : List Base
four = A ∷ T ∷ G ∷ C ∷ []

-- what no base passes, a base fails
none_of_four : (p : Base → Bool) → any p four ≡ false → ((b : Base) → p b ≡ false)
unfolding four
none_of_four p e A = (none_each p four e).0
none_of_four p e T = (none_each p four e).1.0
none_of_four p e G = (none_each p four e).1.1.0
none_of_four p e C = (none_each p four e).1.1.1.0

wrong_mismatch : Base → Base → Base → Bool
wrong_mismatch p x y = not (same_double (by_hundred (hundredths p x y)) (penalty p x y))

-- the test of all 64
no-wrong-mismatch : any (λ p. any (λ x. any (wrong_mismatch p x) four) four) four ≡ false
unfolding any four wrong_mismatch same_double same_int div of_int of_bits hundredths penalty nearest mismatch_of table2
no-wrong-mismatch = refl

pub mismatch-divided : (p x y : Base) → by_hundred (hundredths p x y) ≡ penalty p x y
unfolding wrong_mismatch
mismatch-divided p x y =
    let of-p = none_of_four (λ p. any (λ x. any (wrong_mismatch p x) four) four) no-wrong-mismatch p in
    let of-x = none_of_four (λ x. any (wrong_mismatch p x) four) of-p x in
    same-double _ _ (not-false _ (none_of_four (wrong_mismatch p x) of-x y))

-- ---- loops

wrong_loop : LoopKind → Loop → Bool
wrong_loop kind l = not (same_double (by_ten (unpointed (loop_figure kind l))) (nearest (loop_figure kind l)))

-- the test of all 45, and of the row that stands for none
no-wrong-loop : any (λ l. wrong_loop Internal l || (wrong_loop Bulge l || wrong_loop HairPin l)) (no_loop ∷ loop_rows) ≡ false
unfolding any wrong_loop same_double same_int div of_int of_bits nearest loop_rows keep table4
no-wrong-loop = refl

loop-right : (kind : LoopKind) (l : Loop) → (wrong_loop Internal l || (wrong_loop Bulge l || wrong_loop HairPin l)) ≡ false → wrong_loop kind l ≡ false
loop-right Internal l e = (neither (wrong_loop Internal l) (wrong_loop Bulge l || wrong_loop HairPin l) e).0
loop-right Bulge l e = (neither (wrong_loop Bulge l) (wrong_loop HairPin l) (neither (wrong_loop Internal l) (wrong_loop Bulge l || wrong_loop HairPin l) e).1).0
loop-right HairPin l e = (neither (wrong_loop Bulge l) (wrong_loop HairPin l) (neither (wrong_loop Internal l) (wrong_loop Bulge l || wrong_loop HairPin l) e).1).1

pub loop-divided : (kind : LoopKind) (at : ℕ) → by_ten (tenths kind at) ≡ loop_entry kind at
unfolding tenths loop_entry wrong_loop
loop-divided kind at =
    let tested = none_each (λ l. wrong_loop Internal l || (wrong_loop Bulge l || wrong_loop HairPin l)) (no_loop ∷ loop_rows) no-wrong-loop in
    let row = get_or loop_rows at no_loop in
    let right = each-get_or (λ l. (wrong_loop Internal l || (wrong_loop Bulge l || wrong_loop HairPin l)) ≡ false) loop_rows no_loop tested.1 tested.0 at in
    same-double _ _ (not-false _ (loop-right kind row right))
