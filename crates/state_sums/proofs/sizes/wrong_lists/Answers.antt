-- The test of the lists finds one that leaves the numbers where there is one. Assumes nothing.
use mathlib.Core.Path.{◌≡◌, sym, ap, ◌∙◌}
use Prim.Native.Nat.{ℕ}
use native.Mathlib.Omega.{arith}
use lib.ListN.{length}
use Rattle.std.proofs.Common.{rules, tests}
use Rattle.std.specs.List.{zip}
use Rattle.std.proofs.lemmas.Iterator.{YieldsList-from_slice, YieldsList-from_zip}
use Rattle.std.proofs.lemmas.Iterator.Search.{any_from_yields_List}
use Rattle.std.proofs.lemmas.Slice.Zip.{get_or-zip, length-zip}
use Rattle.lists.proofs.Searches.{any_is}
use Rattle.lists.proofs.Places.{any-places}
use Rattle.lists.specs.Find.{any}
use Rattle.lists.specs.Build.{tabulate}
use Rattle.state_sums.specs.Sizes.{Lists, lists_lent, list_outside, list_out}
use Rattle.state_sums.proofs.Lent.{lists-told}
use Rattle.state_sums.proofs.sizes.wrong_lists.Goals as goal
use Rattle.state_sums.proofs.sizes.wrong_lists.Goals.{then-starts-positions, else-starts-positions}

pub returns-else-lengths-positions : goal.returns-else-lengths-positions
returns-else-lengths-positions c =
    let a = c.args in
    let l : Lists = lists_lent a.lists.now in
    let p = λ (list : ℕ × ℕ). list_outside (length l.numbers) list.0 list.1 in
    let found = any_from_yields_List p c.any.new.self _ _ c.any.ensures.ran (YieldsList-from_zip (YieldsList-from_slice l.starts cc) (YieldsList-from_slice l.lengths cc)) (λ x b q k. search (rules, tests)) in
    let sized : (length l.starts ≡ a.positions) × (length l.lengths ≡ a.positions) = elim c.if-starts-positions.branch [ then-starts-positions w ↦ search (rules, tests) | else-starts-positions w ↦ search (rules, tests) ] in
    let pairs = zip l.starts l.lengths in
    let many : length pairs ≡ a.positions = let m = length-zip l.starts l.lengths in omega (arith, m, sized.0, sized.1) in
    let here = any-places (0, 0) (list_out l) p pairs (λ k. k) (λ k h. sym (ap p (get_or-zip l.starts l.lengths k (0, 0) (omega (arith, h, many, sized.0)) (omega (arith, h, many, sized.1))))) in
    lists-told a.positions l sized.0 sized.1 (found ∙ any_is p pairs ∙ sym here ∙ ap (λ n. any (list_out l) (tabulate n (λ k. k))) many)
