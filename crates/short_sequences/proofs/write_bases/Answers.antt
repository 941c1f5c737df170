use mathlib.Core.Path.{◌≡◌, refl, ap, ap₂, ◌∙◌}
use mathlib.Core.List.{List, [], ◌∷◌, ◌++◌}
use Prim.Native.Nat.{ℕ, suc, ◌<◌, ◌+◌, ◌-◌, ◌*◌, ◌/◌, ◌%◌, ◌^◌}
use native.Mathlib.Nat.{pow-succ', mul-div_cancel_left, mod-lt, div-lt_iff_lt-mul}
use native.Mathlib.Omega.{arith}
use lib.ListN.{length, get_or, replicate, set, take, drop}
use Rattle.std.proofs.lemmas.List.{length-take-le}
use Rattle.lists.specs.Front.{over}
use Rattle.lists.proofs.Front.{Front, front-step, front-count, front-full}
use Rattle.model.specs.States.{choice_at}
use Rattle.short_sequences.specs.Sequences.{letters}
use Rattle.short_sequences.proofs.Lengths.{first-letter, some-power}
use Rattle.short_sequences.proofs.write_bases.Goals as goal

-- what one step of the loop reads of the rank left
module _ (bases place later left : ℕ) (inside : place < bases) (e : later ≡ 4 ^ (bases - place)) (h : left < later) where
  fewer : bases - place ≡ suc (bases - (place + 1))
  fewer = omega arith

  splits : later ≡ 4 * 4 ^ (bases - (place + 1))
  splits = e ∙ ap (λ (k : ℕ). 4 ^ k) fewer ∙ pow-succ' 4 (bases - (place + 1))

  next : later / 4 ≡ 4 ^ (bases - (place + 1))
  next = rw splits (mul-div_cancel_left (4 ^ (bases - (place + 1))) (omega arith))

  next-some : 0 < later / 4
  next-some = rw next (some-power (bases - (place + 1)))

  which : left / (later / 4) < 4
  which = rw next ((div-lt_iff_lt-mul (some-power (bases - (place + 1)))).1 (rw splits at h))

  next-left : left % (later / 4) < later / 4
  next-left = mod-lt left next-some

  letters-left : choice_at (replicate (bases - place) letters) left ≡ get_or letters (left / (later / 4)) 0 ∷ choice_at (replicate (bases - (place + 1)) letters) (left % (later / 4))
  letters-left = rw (fewer, next) (first-letter (bases - (place + 1)) left)

pub loop-byte-preserved : goal.loop-byte-preserved
loop-byte-preserved c =
    let l = c.loop-byte in
    let bases = c.args.bases in
    let size = length-take-le bases c.args.bytes.now c.requires.bases_in_bounds in
    let inside : l.byte-index < bases = omega (arith, size, c.loop-byte-test.true) in
    record {
      share = next bases l.byte-index l.later l.left inside l.invariant.share l.invariant.inside;
      inside = next-left bases l.byte-index l.later l.left inside l.invariant.share l.invariant.inside;
      front = front-step l.invariant.front (letters-left bases l.byte-index l.later l.left inside l.invariant.share l.invariant.inside) (omega (arith, size, inside)) (ap (λ (x : ℕ). set l.byte-items l.byte-index x) c.letter.ensures) refl;
    }

pub returns : goal.returns
unfolding choice_at over
returns c =
    let l = c.loop-byte in
    let bases = c.args.bases in
    let bytes = c.args.bytes.now in
    let size = length-take-le bases bytes c.requires.bases_in_bounds in
    let none : bases - l.byte-index ≡ 0 = omega (arith, size, c.loop-byte-test.false) in
    let done : Front (take bases bytes) (choice_at (replicate bases letters) c.args.rank) [] l.byte-index l.byte-items = rw none at l.invariant.front in
    let whole = choice_at (replicate bases letters) c.args.rank in
    let many : bases ≡ length whole = omega (arith, size, none, front-count done, l.auto.byte-index-end) in
    ap₂ (λ (s : List ℕ) (n : ℕ). s ++ drop n bytes) (front-full done (omega (arith, size, none))) many
