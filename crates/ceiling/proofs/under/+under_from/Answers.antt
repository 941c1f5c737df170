use mathlib.Core.Path.{ap, ap₂, ◌≡◌, ◌∙◌}
use mathlib.Core.Logic.{◌⊎◌}
use mathlib.Core.List.{List}
use Prim.Native.Nat.{ℕ, ◌+◌, ◌-◌, ◌*◌, ◌≤◌, ◌<◌}
use native.Mathlib.Omega.{arith}
use lib.ListN.{length, length-map, get_or, take, drop}
use lib.Ieee.{binary64, mul}
use Rattle.std.proofs.lemmas.List.{get_or-take, get_or-drop}
use Rattle.lists.proofs.Places.{mem-get_or}
use Rattle.model.specs.Model.{Friend, options, options_of}
use Rattle.model.specs.Search.{options_at}
use Rattle.model.proofs.Search.{own}
use Rattle.ensemble.proofs.OptionRows.{options-are, count-is, option_is}
use Rattle.prepared.specs.inner.Sums.{sum_on, energy_on}
use Rattle.prepared.proofs.Begun.{begun-is, ended_is, beside-next}
use Rattle.ceiling.proofs.Passing.{step-some, step-none, step-done, end-told}
use Rattle.ceiling.proofs.under.+under_from.Goals as goal

pub returns-then-position-lent : goal.returns-then-position-lent
unfolding energy_on sum_on
returns-then-position-lent t c =
    λ m o w e beside.
    let a = c.args in
    let p = c.requires in
    let number = o.positions in
    let all : length (options m) ≤ a.position = rw (length-map m.friends options_of) (omega arith) in
    let whole : length a.entries.now ≤ a.position = omega arith in
    let inside : a.position ≤ length m.friends = omega arith in
    let energy-is = ap₂ (mul binary64) (c.ended.ensures ∙ ended_is w a.position a.begun.strand a.begun.sum inside beside) e in
    rw c.then_some.ensures (end-told m a.limit.ceiling a.position a.begun.strand a.begun.sum a.entries.now all whole _ energy-is)

-- an option out of its position's part of the rows
listed : (options rows : List ℕ) (row count k : ℕ) → options ≡ take count (drop row rows) → length options ≡ count → k < length options → (k < count) × (get_or options k 0 ≡ get_or rows (row + k) 0)
listed options rows row count k is sized h =
    let few : k < count = rw sized at h in
    (few, ap (λ (xs : List ℕ). get_or xs k 0) is ∙ get_or-take count (drop row rows) k 0 few ∙ get_or-drop row rows k 0)

pub under_from-found-requires : goal.under_from-found-requires
under_from-found-requires t c =
    let a = c.args in
    let p = c.requires in
    let low : a.position < length a.lent.now.options.counts.now = omega arith in
    let measured : length a.lent.now.options.counts.now - a.position ≡ t = c.decreases in
    let less : length a.lent.now.options.counts.now - (a.position + 1) < t = omega arith in
    let known = c.of-strand-items.ensures.known c.loop-strand.strand-index c.loop-strand-test.true in
    (less, (c.loop-strand.auto.entries ∙ p.entries_len, (omega arith, rw c.begin-next.ensures.strand_value known)))

pub returns-in-Some : goal.returns-in-Some
returns-in-Some t c =
    λ m o w e beside.
    let a = c.args in
    let p = c.requires in
    let l = c.loop-strand in
    let low : a.position < length a.lent.now.options.counts.now = omega arith in
    let listing = listed c.of-strand-items.result.now a.lent.now.options.rows.now (64 * a.position) _ l.strand-index c.of-strand-items.ensures.row c.of-strand-items.ensures.sized c.loop-strand-test.true in
    let counted = listing.0 in
    let here : a.position < length m.friends = omega (arith, o.positions) in
    let inside : l.strand-index < length (options_at m a.position) = rw (← count-is o a.position here) counted in
    let room : a.position < length a.entries.now = omega arith in
    let is = listing.1 ∙ option_is o a.position l.strand-index here counted in
    let strand = get_or c.of-strand-items.result.now l.strand-index 0 in
    let option : (strand ≡ 0) ⊎ Friend m a.position strand = rw is (own m a.position (get_or (options_at m a.position) l.strand-index 0) (mem-get_or 0 (options_at m a.position) l.strand-index inside)) in
    let next = c.begin-next in
    let sum_is_lem = next.ensures.sum_value ∙ begun-is w a.position a.begun.strand strand a.begun.sum here (rw a.lent.now.same_strands p.strand_in_bounds) beside option in
    let new = c.under_from-found.ensures m o w e (rw next.ensures.strand_value (beside-next m a.position strand option)) in
    let old = l.invariant m o w e beside in
    step-some m a.limit.ceiling a.position a.begun.strand a.begun.sum l.strand-index a.entries.now l.entries _ _ here inside room is next.ensures.strand_value sum_is_lem old.0 old.1 new _ c.in-Some.is

pub loop-strand-preserved : goal.loop-strand-preserved
loop-strand-preserved t c =
    λ m o w e beside.
    let a = c.args in
    let p = c.requires in
    let l = c.loop-strand in
    let low : a.position < length a.lent.now.options.counts.now = omega arith in
    let listing = listed c.of-strand-items.result.now a.lent.now.options.rows.now (64 * a.position) _ l.strand-index c.of-strand-items.ensures.row c.of-strand-items.ensures.sized c.loop-strand-test.true in
    let counted = listing.0 in
    let here : a.position < length m.friends = omega (arith, o.positions) in
    let inside : l.strand-index < length (options_at m a.position) = rw (← count-is o a.position here) counted in
    let room : a.position < length a.entries.now = omega arith in
    let is = listing.1 ∙ option_is o a.position l.strand-index here counted in
    let strand = get_or c.of-strand-items.result.now l.strand-index 0 in
    let option : (strand ≡ 0) ⊎ Friend m a.position strand = rw is (own m a.position (get_or (options_at m a.position) l.strand-index 0) (mem-get_or 0 (options_at m a.position) l.strand-index inside)) in
    let next = c.begin-next in
    let sum_is_lem = next.ensures.sum_value ∙ begun-is w a.position a.begun.strand strand a.begun.sum here (rw a.lent.now.same_strands p.strand_in_bounds) beside option in
    let new = c.under_from-found.ensures m o w e (rw next.ensures.strand_value (beside-next m a.position strand option)) in
    let old = l.invariant m o w e beside in
    step-none m a.limit.ceiling a.position a.begun.strand a.begun.sum l.strand-index a.entries.now l.entries _ _ here inside room is next.ensures.strand_value sum_is_lem old.0 old.1 new c.in_default.is

pub returns : goal.returns
returns t c =
    λ m o w e beside.
    let a = c.args in
    let p = c.requires in
    let l = c.loop-strand in
    let low : a.position < length a.lent.now.options.counts.now = omega arith in
    let here : a.position < length m.friends = omega (arith, o.positions) in
    let all = rw (c.of-strand-items.ensures.row, options-are o a.position here) at c.loop-strand-test.false in
    let old = l.invariant m o w e beside in
    step-done m a.limit.ceiling a.position a.begun.strand a.begun.sum l.strand-index a.entries.now l.entries here all old.0 old.1
