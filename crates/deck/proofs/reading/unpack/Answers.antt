use mathlib.Core.Path.{◌≡◌, refl, sym, ◌∙◌}
use mathlib.Core.Bool.{true, false≢true}
use mathlib.Core.List.{List, [], ◌∷◌, ◌++◌, append_assoc}
use Prim.Native.Nat.{ℕ, ◌+◌, ◌-◌, ◌≤◌}
use native.Mathlib.Omega.{arith}
use borrow.Rule.Slice.PartMut.{put_mid}
use lib.ListN.{length, get_or, replicate, drop, take, length-replicate, length-take, length-drop}
use lib.Seq.{sets, sets-eq}
use Rattle.std.proofs.lemmas.List.{drop-drop}
use Rattle.deck.specs.Form.{Form}
use Rattle.deck.specs.Forms.{form_of}
use Rattle.deck.specs.Deck.{is_deck, configuration_of}
use Rattle.deck.proofs.Found.{some-found}
use Rattle.deck.proofs.Decks.{configuration-few}
use Rattle.deck.proofs.Laying.{laid-past, laid-length, laid_more, laid-none}
use Rattle.deck.proofs.reading.unpack.Goals as goal
use Rattle.deck.proofs.reading.unpack.Goals.{in-Some, in_default}

-- a valid deck has a first word
has-first : (form : Form) (words : List ℕ) → is_deck form words ≡ true → 1 ≤ length words
unfolding is_deck
has-first form [] d = absurd (false≢true d)
has-first form (first ∷ rest) d = omega arith

pub split_at-requires : goal.split_at-requires
split_at-requires c = has-first (form_of c.args.form) c.args.words.now c.requires.0

pub loop-word-init : goal.loop-word-init
unfolding configuration_of
loop-word-init c = rw c.split_at.ensures.back (omega arith, refl)

pub overflow_add-end : goal.overflow_add-end
overflow_add-end c =
    let l = c.loop-word in
    let s = c.in-Some.stretch in
    let n = laid-length (form_of c.args.form) c.split_at.result.1.now l.word-index c.loop-word-test.true s (sym (some-found _ (sym c.in-Some.ensures)).1) in
    let few = configuration-few (form_of c.args.form) c.args.words.now c.requires.0 in
    omega arith

pub slice_bounds-fill-end : goal.slice_bounds-fill-end
slice_bounds-fill-end c =
    let l = c.loop-word in
    let s = c.in-Some.stretch in
    let n = laid-length (form_of c.args.form) c.split_at.result.1.now l.word-index c.loop-word-test.true s (sym (some-found _ (sym c.in-Some.ensures)).1) in
    let few = configuration-few (form_of c.args.form) c.args.words.now c.requires.0 in
    omega (arith, l.auto.entries)

-- a part of the entries, filled
filled : (entries written : List ℕ) (at k run x : ℕ) → k ≡ run → at + run ≤ length entries → written ≡ replicate (length (take k (drop at entries))) x
    → put_mid at k entries written ≡ sets entries at (replicate run x)
filled entries written at k run x n h w =
    let len : length (take k (drop at entries)) ≡ run = rw (length-take, length-drop) (omega arith) in
    let stored : sets entries at (replicate run x) ≡ take at entries ++ replicate run x ++ drop (at + run) entries = rw (sets-eq (replicate run x) entries at (rw (length-replicate run x) h), length-replicate run x) in
    rw (w, len, drop-drop k at entries, n) (sym (stored ∙ append_assoc (take at entries) (replicate run x) (drop (at + run) entries)))

pub loop-word-preserved : goal.loop-word-preserved
loop-word-preserved c =
    let form = form_of c.args.form in
    let l = c.loop-word in
    let i = l.word-index in
    let rest = c.split_at.result.1.now in
    elim c.match-of.branch [
      | in-Some w ↦
          let s = w.in-Some.stretch in
          let is = sym (some-found (form.stretch_of (get_or rest i 0)) (sym w.in-Some.ensures)).1 in
          let more = laid_more form rest i c.loop-word-test.true s is l.entries l.at in
          let n = laid-length form rest i c.loop-word-test.true s is in
          let few = configuration-few form c.args.words.now c.requires.0 in
          let now = filled l.entries w.fill.new.self l.at (l.at + s.run - l.at) s.run s.occupant (omega arith) (omega (arith, l.auto.entries)) (w.fill.ensures.after (λ y e. e)) in
          rw (w.at-is, w.entries-is, now) (omega (arith, n), more ∙ l.invariant.1)
      | in_default w ↦
          let same = laid-none form rest i c.loop-word-test.true (sym w.in_default.ensures) in
          rw (w.at-is, w.entries-is, sym same) l.invariant
    ]

pub returns : goal.returns
returns c =
    let l = c.loop-word in
    let inv = rw (laid-past (form_of c.args.form) c.split_at.result.1.now l.word-index c.loop-word-test.false) at l.invariant in
    (omega arith, inv.1)
