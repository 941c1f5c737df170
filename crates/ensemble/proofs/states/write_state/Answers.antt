use mathlib.Core.Path.{◌≡◌, refl, sym, ap, ◌∙◌}
use mathlib.Core.List.{List, []}
use Prim.Native.Nat.{ℕ, ◌≤◌, ◌<◌, ◌+◌, ◌*◌, ◌/◌, ◌%◌}
use native.Mathlib.Omega.{arith}
use lib.ListN.{length, drop, get_or, length-set}
use Rattle.lists.specs.Build.{product}
use Rattle.lists.proofs.Front.{Front, front-step, front-full}
use Rattle.model.specs.Model.{options}
use Rattle.model.specs.States.{choice_at}
use Rattle.ensemble.proofs.Products.{product-more, first-positive, rest-positive, divided, rank_left, rank-first}
use Rattle.ensemble.proofs.OptionRows.{row_inside, choice-more, choice-past}
use Rattle.ensemble.proofs.states.write_state.Goals as goal

-- what one step of the loop reads of the counts
module _ (counts : List ℕ) (position count later left : ℕ) (inside : position < length counts) (is : count ≡ get_or counts position 0) (e : later ≡ product (drop position counts)) (h : left < later) where
  splits : later ≡ count * product (drop (position + 1) counts)
  splits = e ∙ product-more counts position inside ∙ ap (λ (n : ℕ). n * product (drop (position + 1) counts)) (sym is)

  some : 0 < count
  some = first-positive count (product (drop (position + 1) counts)) later left splits h

  next : later / count ≡ product (drop (position + 1) counts)
  next = divided count (product (drop (position + 1) counts)) later left splits h

  next-some : 0 < later / count
  next-some = rw next (rest-positive count (product (drop (position + 1) counts)) later left splits h)

  option : left / (later / count) < get_or counts position 0
  option = rw (next, ← is) (rank-first count (product (drop (position + 1) counts)) later left splits h)

  next-left : left % (later / count) < later / count
  next-left = rw next (rank_left count (product (drop (position + 1) counts)) later left splits h)

pub nonzero_div-later : goal.nonzero_div-later
nonzero_div-later c = let l = c.loop-position in some c.args.counts.now l.position c.from-later.result l.later l.left c.loop-position-test.true c.from-later.ensures l.invariant.later-is l.invariant.below

pub nonzero_div-option : goal.nonzero_div-option
nonzero_div-option c = let l = c.loop-position in next-some c.args.counts.now l.position c.from-later.result l.later l.left c.loop-position-test.true c.from-later.ensures l.invariant.later-is l.invariant.below

pub bounds-rows-position : goal.bounds-rows-position
bounds-rows-position c =
    let l = c.loop-position in
    let sized = c.requires.readable.sized in
    let few = c.requires.readable.few l.position c.loop-position-test.true in
    let which = option c.args.counts.now l.position c.from-later.result l.later l.left c.loop-position-test.true c.from-later.ensures l.invariant.later-is l.invariant.below in
    let row = row_inside l.position (length c.args.counts.now) c.loop-position-test.true in
    omega arith

pub nonzero_rem-left : goal.nonzero_rem-left
nonzero_rem-left c = let l = c.loop-position in next-some c.args.counts.now l.position c.from-later.result l.later l.left c.loop-position-test.true c.from-later.ensures l.invariant.later-is l.invariant.below

pub loop-position-preserved : goal.loop-position-preserved
loop-position-preserved c =
    let l = c.loop-position in
    let counts = c.args.counts.now in
    let count = c.from-later.result in
    let is = c.from-later.ensures in
    let inside : l.position < length counts = c.loop-position-test.true in
    let e = next counts l.position count l.later l.left inside is l.invariant.later-is l.invariant.below in
    let which = option counts l.position count l.later l.left inside is l.invariant.later-is l.invariant.below in
    let size = c.requires.entries_len in
    record {
      later-is = e;
      below = next-left counts l.position count l.later l.left inside is l.invariant.later-is l.invariant.below;
      sized = length-set l.entries l.position _ ∙ l.invariant.sized;
      front = λ m w.
          let more = choice-more w l.position l.left (rw (← w.positions) inside) (rw (← e) which) in
          front-step (l.invariant.front m w) (rw (← e) at more) (omega arith) refl refl;
    }

pub returns : goal.returns
returns c = λ m w.
    let l = c.loop-position in
    let a = c.args in
    let past = c.loop-position-test.false in
    let size = c.requires.entries_len in
    let all : length a.entries.now ≤ l.position = omega arith in
    let none = choice-past w l.position l.left (rw (← w.positions) past) in
    let done : Front a.entries.now (choice_at (options m) a.rank) [] l.position l.entries = rw none at (l.invariant.front m w) in
    front-full done all
