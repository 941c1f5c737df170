-- What a design whose sizes are not wrong is. Assumes nothing.
use mathlib.Core.Path.{◌≡◌, sym, ◌∙◌}
use mathlib.Core.Bool.{false, not, ◌||◌}
use Prim.Native.Nat.{ℕ, ◌+◌, ◌*◌, ◌<◌, ◌≤◌}
use native.Mathlib.Omega.{arith}
use lib.Dec.{ltb, eqb}
use lib.ListN.{length, get_or}
use borrow.Author.Tests.{ltb-false, eqb-true, not-false}
use Rattle.lists.specs.Find.{any}
use Rattle.lists.proofs.Tests.{neither}
use Rattle.lists.proofs.Any.{none_passes}
use Rattle.design.specs.Design.{Design, positions, strands, scaffold_glue, bottom}
use Rattle.design.specs.Checks.{high_glue, wrong_counts, wrong_lengths, wrong_marks, wrong_sizes, sizes_out}
use Rattle.design.specs.Passed.{TablesPassed}

pub record Sized (d : Design) : Type 0 where
  pub short : positions d ≤ 128
  pub null : 0 < strands d
  pub few : strands d ≤ 64
  pub three : length d.glues ≡ 3 * strands d
  pub dg-cells : length d.dg ≡ 4096
  pub ds-cells : length d.ds ≡ 4096
  pub marked : length d.marks ≡ positions d
  pub scaffold-low : (i : ℕ) → i < positions d → scaffold_glue d i < 64
  pub glues-low : (k : ℕ) → k < 3 * strands d → get_or d.glues k 0 < 64

pub sized : (d : Design) → sizes_out d ≡ false → Sized d
unfolding wrong_sizes
sized d e =
    let counts = neither (wrong_counts d.scaffold d.amounts) (wrong_lengths d.glues d.dg d.ds d.amounts || (wrong_marks d.scaffold d.marks || (any high_glue d.scaffold || any high_glue d.glues))) e in
    let lengths = neither (wrong_lengths d.glues d.dg d.ds d.amounts) (wrong_marks d.scaffold d.marks || (any high_glue d.scaffold || any high_glue d.glues)) counts.1 in
    let marks = neither (wrong_marks d.scaffold d.marks) (any high_glue d.scaffold || any high_glue d.glues) lengths.1 in
    let glues = neither (any high_glue d.scaffold) (any high_glue d.glues) marks.1 in
    let c = neither (ltb 128 (positions d)) (ltb (strands d) 1 || ltb 64 (strands d)) counts.0 in
    let s = neither (ltb (strands d) 1) (ltb 64 (strands d)) c.1 in
    let l = neither (not (eqb (length d.glues) (3 * strands d))) (not (eqb (length d.dg) 4096) || not (eqb (length d.ds) 4096)) lengths.0 in
    let t = neither (not (eqb (length d.dg) 4096)) (not (eqb (length d.ds) 4096)) l.1 in
    let m = neither (not (eqb (length d.marks) (positions d))) (any (ltb 1) d.marks) marks.0 in
    let three : length d.glues ≡ 3 * strands d = eqb-true _ _ (not-false _ l.0) in
    record {
      short = ltb-false _ _ c.0;
      null = ltb-false _ _ s.0;
      few = ltb-false _ _ s.1;
      three = three;
      dg-cells = eqb-true _ _ (not-false _ t.0);
      ds-cells = eqb-true _ _ (not-false _ t.1);
      marked = eqb-true _ _ (not-false _ m.0);
      scaffold-low = λ i h. omega (arith, ltb-false 63 (get_or d.scaffold i 0) (none_passes high_glue 0 d.scaffold glues.0 i h));
      glues-low = λ k h. omega (arith, ltb-false 63 (get_or d.glues k 0) (none_passes high_glue 0 d.glues glues.1 k (rw three h)));
    }

-- where a glue meets a strand's bottom, a table has a cell
pub cell-inside : {d : Design} → Sized d → (glue strand : ℕ) → glue < 64 → strand < strands d → glue * 64 + bottom d.glues strand < 4096
cell-inside s glue strand low known = omega (arith, s.glues-low (3 * strand + 1) (omega arith))

-- the sizes of a design that is read field by field: it is the one that is held, whose tables pass, and so the one that is told, which has the strand
pub read-sized : {read held told : Design} → read ≡ held → held ≡ told → TablesPassed held → {strand : ℕ} → strand < strands told → Sized read × (strand < strands read)
read-sized {read} {held} {told} e f passed known = (rw (sym e) at (sized held passed.tables.sizes), rw (sym (e ∙ f)) at known)
