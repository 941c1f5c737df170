use mathlib.Core.Path.{◌≡◌, refl, sym, ◌∙◌}
use mathlib.Core.Bool.{false}
use mathlib.Core.List.{List}
use Prim.Native.Nat.{ℕ, ◌+◌, ◌*◌, ◌-◌, ◌<◌, ◌≤◌}
use native.Mathlib.Omega.{arith}
use lib.ListN.{length, get_or, replicate, length-set, get_or-replicate}
use Rattle.design.specs.Design.{friends_of, friends_to, positions, strands, blocked, scaffold_glue, model_of}
use Rattle.design.proofs.CopiedRows.{met-later, met-more, copied-row}
use Rattle.design.proofs.Optioned.{rows_more, all-searchable, all-options}
use Rattle.design.proofs.Sizes.{sized}
use Rattle.design.proofs.passed.TabledDesign.fill_options.Goals.{then-blocked, else-blocked+then-met-glue-eq0, else-blocked+else-met-glue-eq0}
use Rattle.design.proofs.passed.TabledDesign.fill_options.Goals as goal

pub loop-position-init : goal.loop-position-init
loop-position-init c = record {
  wide = refl;
  filled = λ i h. absurd (omega arith);
  met = λ glue h some.
      let zeros : List ℕ = replicate 64 0 in
      let none : get_or zeros glue 0 ≡ 0 = get_or-replicate 64 glue 0 0 h in
      let one : 0 < get_or zeros glue 0 = some in
      absurd (omega (arith, none, one));
}

pub bounds-met-glue : goal.bounds-met-glue
bounds-met-glue c =
    let places = rw c.self.view_is at c.positions-position-end.ensures in
    let low = (sized c.args.self.now (rw c.self.view_is at c.self.invariant).tables.sizes).scaffold-low c.loop-position.position (omega (arith, places)) in
    rw (c.from-glue.ensures, c.scaffold_glue.ensures, c.self.view_is) low

pub bounds-met-glue-then-met-glue-eq0 : goal.bounds-met-glue-then-met-glue-eq0
bounds-met-glue-then-met-glue-eq0 c =
    let places = rw c.self.view_is at c.positions-position-end.ensures in
    let low = (sized c.args.self.now (rw c.self.view_is at c.self.invariant).tables.sizes).scaffold-low c.loop-position.position (omega (arith, places)) in
    rw (c.from-glue.ensures, c.scaffold_glue.ensures, c.self.view_is) low

pub loop-position-preserved : goal.loop-position-preserved
loop-position-preserved c =
    let d = c.args.self.now in
    let l = c.loop-position in
    let i = l.position in
    let of_glue : ℕ → List ℕ = λ glue. friends_to glue d.glues d.dg d.ds (strands d) in
    let places = rw c.self.view_is at c.positions-position-end.ensures in
    let low = (sized d (rw c.self.view_is at c.self.invariant).tables.sizes).scaffold-low i (omega (arith, places)) in
    let glue : c.from-glue.result ≡ scaffold_glue d i = rw c.self.view_is at (c.from-glue.ensures ∙ c.scaffold_glue.ensures) in
    let room : 64 * i + 64 ≤ length l.rows = omega (arith, places) in
    let here : i < length l.counts = omega (arith, places) in
    let size : 64 * i + 64 - 64 * i ≡ 64 = omega arith in
    let free : blocked d i ≡ false → friends_of d i ≡ of_glue c.from-glue.result = λ e. rw (e, glue) refl in
    elim c.if-blocked.branch [
      | then-blocked w ↦
          let row = w.fill_row.new.row in
          let full : length row ≡ 64 = omega arith in
          rw (w.rows-is, w.counts-is, w.met-is, size) (record {
            wide = l.invariant.wide;
            filled = rows_more (friends_of d) l.rows l.counts i row w.fill_row.result room here full l.invariant.filled w.fill_row.ensures;
            met = met-later (friends_of d) of_glue i l.met l.invariant.met;
          })
      | else-blocked+then-met-glue-eq0 w ↦
          let row = w.fill_row-then-met-glue-eq0.new.row in
          let full : length row ≡ 64 = omega arith in
          let same = free (rw c.self.view_is at (sym c.is_blocked-blocked.ensures ∙ w.if-blocked.false)) in
          rw (w.rows-is, w.counts-is, w.met-is, size) (record {
            wide = length-set l.met c.from-glue.result (i + 1) ∙ l.invariant.wide;
            filled = rows_more (friends_of d) l.rows l.counts i row w.fill_row-then-met-glue-eq0.result room here full l.invariant.filled w.fill_row-then-met-glue-eq0.ensures;
            met = met-more (friends_of d) of_glue i l.met c.from-glue.result (omega (arith, glue, low, l.invariant.wide)) same l.invariant.met;
          })
      | else-blocked+else-met-glue-eq0 w ↦
          let known = w.from-first.ensures in
          let inside : c.from-glue.result < 64 = omega (arith, glue, low) in
          let some : 0 < get_or l.met c.from-glue.result 0 = omega (arith, w.if-met-glue-eq0.false) in
          let first = l.invariant.met c.from-glue.result inside some in
          let same : friends_of d (w.from-first.result - 1) ≡ friends_of d i = rw known (first.1 ∙ sym (free (rw c.self.view_is at (sym c.is_blocked-blocked.ensures ∙ w.if-blocked.false)))) in
          rw (w.rows-is, w.counts-is, w.met-is, w.copy_within.ensures.after) (record {
            wide = l.invariant.wide;
            filled = copied-row (friends_of d) l.rows l.counts i (w.from-first.result - 1) room here (omega (arith, known, first.0, some)) same l.invariant.filled;
            met = met-later (friends_of d) of_glue i l.met l.invariant.met;
          })
    ]

pub returns : goal.returns
unfolding model_of
returns c =
    let d = c.args.self.now in
    let l = c.loop-position in
    let passed = rw c.self.view_is at c.self.invariant in
    let ended = rw c.self.view_is at c.positions-position-end.ensures in
    let all : l.position ≡ positions d = omega (arith, ended) in
    let rooms : 64 * positions d ≤ length l.rows = omega arith in
    let places : length l.counts ≡ positions d = omega arith in
    let filled = rw all at l.invariant.filled in record {
      searchable = all-searchable d.scaffold d.marks d.glues d.dg d.ds (strands d) l.rows l.counts rooms places filled passed.some passed.few passed.short;
      option_rows = all-options d.scaffold d.marks d.glues d.dg d.ds (strands d) l.rows l.counts rooms places filled;
      rows_len_unchanged = omega arith;
      counts_len_unchanged = omega arith;
    }
