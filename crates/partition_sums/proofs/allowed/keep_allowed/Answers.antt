-- The filling of all rows meets its contract. Assumes nothing.
use mathlib.Core.Path.{◌≡◌, ◌∙◌}
use mathlib.Core.List.{[]}
use Prim.Native.Nat.{◌+◌, ◌*◌, ◌-◌, ◌≤◌}
use native.Mathlib.Omega.{arith}
use lib.ListN.{length, get_or, length-set}
use Rattle.partition_sums.specs.Layout.{options_at}
use Rattle.partition_sums.proofs.Keeping.{part_length, kept_more}
use Rattle.partition_sums.proofs.allowed.keep_allowed.Goals as goal

pub loop-position-preserved : goal.loop-position-preserved
loop-position-preserved c =
    let a = c.args in
    let r = c.requires in
    let l = c.loop-position in
    let i = l.position in
    let h = c.loop-position-test.true in
    let places = r.kept_counts_len in
    let rooms = r.counts_in_bounds in
    let size = l.invariant.0 in
    let number = l.invariant.1 in
    let row = c.keep_row.new.row in
    let room : 64 * i + 64 ≤ length l.kept_rows = omega arith in
    let full : length row ≡ 64 = let sized = c.keep_row in omega arith in
    let wide64 : 64 * i + 64 - 64 * i ≡ 64 = omega arith in
    let kept = rw (c.list.ensures, c.of.ensures.row) at c.keep_row.ensures in
    rw wide64 (
      part_length l.kept_rows (64 * i) 64 row room full ∙ size,
      length-set l.kept_counts i c.keep_row.result ∙ number,
      kept_more (λ j. get_or a.constraint.now j []) (options_at a.options.now.rows.now a.options.now.counts.now) l.kept_rows l.kept_counts i row c.keep_row.result room (omega arith) full l.invariant.2 kept,
    )
