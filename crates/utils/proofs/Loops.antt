-- The loop table as the code has it: a row of tenths for each kind, a column for each length. Assumes nothing.
use mathlib.Core.Path.{◌≡◌, refl, ◌∙◌}
use mathlib.Core.List.{List, [], ◌∷◌, map}
use Prim.Native.Nat.{ℕ, ◌≤◌, ◌<◌}
use native.Mathlib.Omega.{arith}
use lib.Dec.{T, leb, leb→le}
use lib.IntN.{ℤ, pos}
use lib.ListN.{get_or, length}
use mir.Syntax.{w16}
use mir.Val.{to_z}
use mir.Facts.{to_z_pos}
use Rattle.lists.specs.Build.{keep}
use Rattle.lists.specs.Each.{Each}
use Rattle.lists.proofs.Each.{each-get_or}
use Rattle.lists.proofs.Places.{get_or-map-lt}
use Rattle.utils.specs.Paper.{Loop, loop_figure, no_loop, table4}
use Rattle.utils.specs.Figures.{loop_rows, loop_entry}
use Rattle.utils.specs.inner.Tables.{kind_index, unpointed, tenths}
use Rattle.utils.specs.declared.tables.LoopKind.{LoopKind}
use Rattle.utils.specs.declared.tables.LoopKind.TheVariants.{Internal, Bulge, HairPin}
use Rattle.utils.proofs.Divided.{by_ten, loop-divided}
use Rattle.utils.proofs.Lengths.{fifteen}

abbrev pub row_of : LoopKind → List ℤ
row_of kind = map (λ l. unpointed (loop_figure kind l)) loop_rows

abbrev pub rows : List (List ℤ)
rows = row_of Internal ∷ row_of Bulge ∷ row_of HairPin ∷ []

entry-at : (kind : LoopKind) (at : ℕ) → at < 15 → get_or (row_of kind) at (pos 0) ≡ tenths kind at
unfolding tenths
entry-at kind at h =
    let l = fifteen in
    let k : at < length loop_rows = omega arith in
    get_or-map-lt (λ l. unpointed (loop_figure kind l)) loop_rows at no_loop (pos 0) k

in_row : (kind : LoopKind) (at : ℕ) → at < 15 → get_or (get_or rows (kind_index kind) []) at (pos 0) ≡ tenths kind at
in_row Internal at h = entry-at Internal at h
in_row Bulge at h = entry-at Bulge at h
in_row HairPin at h = entry-at HairPin at h

-- the entry as a whole number of tenths: none is below zero
tenths-are : (kind : LoopKind) (at : ℕ) → tenths kind at ≡ pos (loop_figure kind (get_or loop_rows at no_loop)).digits
unfolding tenths
tenths-are Internal at = refl
tenths-are Bulge at = refl
tenths-are HairPin at = refl

pub tenths-in-row : (kind : LoopKind) (row at : ℕ) → row ≡ kind_index kind → at < 15 → get_or (get_or rows row []) at (pos 0) ≡ pos (loop_figure kind (get_or loop_rows at no_loop)).digits
tenths-in-row kind row at e h = rw e (in_row kind at h ∙ tenths-are kind at)

few-tenths : (kind : LoopKind) → Each (λ l. T (leb (loop_figure kind l).digits 100)) loop_rows
unfolding loop_rows keep table4
few-tenths Internal = (tt, (tt, (tt, (tt, (tt, (tt, (tt, (tt, (tt, (tt, (tt, (tt, (tt, (tt, (tt, tt)))))))))))))))
few-tenths Bulge = (tt, (tt, (tt, (tt, (tt, (tt, (tt, (tt, (tt, (tt, (tt, (tt, (tt, (tt, (tt, tt)))))))))))))))
few-tenths HairPin = (tt, (tt, (tt, (tt, (tt, (tt, (tt, (tt, (tt, (tt, (tt, (tt, (tt, (tt, (tt, tt)))))))))))))))

no-tenths : (kind : LoopKind) → T (leb (loop_figure kind no_loop).digits 100)
no-tenths Internal = tt
no-tenths Bulge = tt
no-tenths HairPin = tt

pub tenths-small : (kind : LoopKind) (at : ℕ) → (loop_figure kind (get_or loop_rows at no_loop)).digits ≤ 100
tenths-small kind at = leb→le _ _ (each-get_or (λ (l : Loop). T (leb (loop_figure kind l).digits 100)) loop_rows no_loop (few-tenths kind) (no-tenths kind) at)

-- sixteen bits hold it
pub narrow : (kind : LoopKind) (at : ℕ) → to_z w16 (loop_figure kind (get_or loop_rows at no_loop)).digits ≡ pos (loop_figure kind (get_or loop_rows at no_loop)).digits
narrow kind at = to_z_pos w16 (omega (arith, tenths-small kind at))

pub entry-in-row : (kind : LoopKind) (row at : ℕ) → row ≡ kind_index kind → at < 15 → by_ten (get_or (get_or rows row []) at (pos 0)) ≡ loop_entry kind at
entry-in-row kind row at e h = rw (e, in_row kind at h) (loop-divided kind at)
