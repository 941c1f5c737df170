-- `sheet::said::Sheet::member` meets its contract: no group has more rows than its limit. Assumes nothing.
use mathlib.Core.Path.{◌≡◌, sym, ap, ◌∙◌}
use Prim.Native.Nat.{◌≤◌}
use native.Mathlib.Omega.{arith}
use Rattle.std.proofs.Common.{rules}
use Rattle.std.specs.Option.{option_and_then}
use Rattle.sheet.specs.Rows.{rows_of, row_among}
use Rattle.sheet.proofs.Placed.{limit_most}
use Rattle.sheet.proofs.said.Sheet.member.Goals as goal

pub slice_bounds-places-end : goal.slice_bounds-places-end
slice_bounds-places-end c =
    let few = c.args.self.now.sound.few c.args.group in
    let most = limit_most c.args.group in
    omega (arith, few, most)

pub slice_bounds-of-end : goal.slice_bounds-of-end
slice_bounds-of-end c =
    let few = c.args.self.now.sound.few c.args.group in
    let most = limit_most c.args.group in
    let h : c.count_of-count.result ≤ 1024 = omega (arith, few, most) in
    search rules

pub of-members-requires : goal.of-members-requires
of-members-requires c =
    let few = c.args.self.now.sound.few c.args.group in
    let most = limit_most c.args.group in
    let h : c.count_of-count.result ≤ 1024 = omega (arith, few, most) in
    search rules

pub returns : goal.returns
returns c =
    let rows = c.args.self.now.rows.now in
    let few = c.args.self.now.sound.few c.args.group in
    let most = limit_most c.args.group in
    let h : c.count_of-count.result ≤ 1024 = omega (arith, few, most) in
    let there : c.copied.result ≡ row_among rows (rows_of c.args.group rows) c.in_ok-number.number = search rules in
    there ∙ sym (ap (option_and_then (row_among rows (rows_of c.args.group rows))) c.in_ok-number.was)
