use mathlib.Core.Path.{◌≡◌, sym, ap, ◌∙◌}
use mathlib.Core.Logic.{◌⊎◌, inl, inr}
use mathlib.Core.Bool.{false}
use Prim.Native.Nat.{ℕ, ◌<◌}
use native.Mathlib.Omega.{arith}
use lib.ListN.{get_or}
use borrow.Author.Tests.{le-leb, lt-leb, eq-eqb, ne_eqb}
use Rattle.std.specs.Prelude.{Some}
use Rattle.std.proofs.lemmas.List.{nil_from_length}
use Rattle.deck.specs.Word.{kind_of, payload_of}
use Rattle.deck.specs.Form.{nothing}
use Rattle.deck.specs.Forms.{form_of}
use Rattle.deck.specs.Deck.{is_first}
use Rattle.deck.specs.inner.Fault.{fault_of}
use Rattle.deck.specs.declared.word.Word.{Word}
use Rattle.deck.specs.inner.Found.{joins}
use Rattle.deck.proofs.Walk.{walk-on, walk-stops, walk_ends, fault-none, fault-first, fault-walk, none-fits, here-run, joined-out, long-out, fits-here}
use Rattle.deck.proofs.reading.fault.Goals as goal

pub returns-in_default : goal.returns-in_default
returns-in_default c = sym (ap (fault_of (form_of c.args.form)) (nil_from_length c.args.words.now c.in_default.ensures.cases) ∙ fault-none (form_of c.args.form))

not-first : (word : Word) (first : ℕ) → word.kind ≡ kind_of first → word.payload ≡ payload_of first → (word.kind ≡ 1 → ⊥) ⊎ ((word.kind ≡ 1) × (128 < word.payload)) → is_first first ≡ false
not-first word first k p (inl n) = rw (ne_eqb (kind_of first) 1 (λ e. n (k ∙ e)))
not-first word first k p (inr h) = rw (sym k ∙ h.0, lt-leb (payload_of first) 128 (rw p at h.1))

pub returns-then-first-ne-FIRST : goal.returns-then-first-ne-FIRST
returns-then-first-ne-FIRST c =
    let s = c.in-Some in
    let e = c.of-first.ensures in
    sym (ap (fault_of (form_of c.args.form)) s.ensures.cases.0 ∙ fault-first (form_of c.args.form) s.first.now s.rest.now (not-first c.of-first.result s.first.now e.0 e.1 c.then-first-ne-FIRST.either))

pub loop-i-init : goal.loop-i-init
loop-i-init c =
    let s = c.in-Some in
    let e = c.of-first.ensures in (
      nothing,
      cc,
      rw e.1 (ap (fault_of (form_of c.args.form)) s.ensures.cases.0
          ∙ fault-walk (form_of c.args.form) s.first.now s.rest.now (rw (sym e.0 ∙ c.if-first-ne-FIRST.false, le-leb (payload_of s.first.now) 128 (rw e.1 at c.if-left-gt-POSITIONS.false)))),
    )

pub returns-in_default-of : goal.returns-in_default-of
returns-in_default-of c =
    let form = form_of c.args.form in
    let rest = c.in-Some.rest.now in
    let l = c.loop-i in
    let before = l.invariant.0 in
    let s = form.stretch_of (get_or rest l.i 0) in
    sym (l.invariant.2 ∙ walk-stops form rest l.i before l.left c.loop-i-test.true (none-fits form before s l.left (sym c.in_default-of.ensures)))

pub returns-then-joins : goal.returns-then-joins
returns-then-joins c =
    let form = form_of c.args.form in
    let rest = c.in-Some.rest.now in
    let l = c.loop-i in
    let before = l.invariant.0 in
    let s = form.stretch_of (get_or rest l.i 0) in
    let is = sym c.in-Some-of.ensures in
    let j = ap (λ o. joins form o c.in-Some-of.here) (sym l.invariant.1) ∙ sym c.joins.ensures in
    sym (l.invariant.2 ∙ walk-stops form rest l.i before l.left c.loop-i-test.true
    (elim c.then-joins.either [
      | inl t ↦ joined-out form before s l.left is (j ∙ t)
      | inr f ↦ long-out form before s l.left is f.1
    ]))

pub loop-i-preserved : goal.loop-i-preserved
loop-i-preserved c =
    let form = form_of c.args.form in
    let rest = c.in-Some.rest.now in
    let l = c.loop-i in
    let before = l.invariant.0 in
    let s = form.stretch_of (get_or rest l.i 0) in
    let is = sym c.in-Some-of.ensures in
    let j = ap (λ o. joins form o c.in-Some-of.here) (sym l.invariant.1) ∙ sym c.joins.ensures in
    let run = here-run form before s l.left is in
    (s, sym is, rw run (l.invariant.2 ∙ walk-on form rest l.i before l.left c.loop-i-test.true (fits-here form before s l.left is (j ∙ c.if-joins.false) c.if-left-here.false)))

pub returns-then-left-eq0 : goal.returns-then-left-eq0
returns-then-left-eq0 c =
    let l = c.loop-i in
    sym (l.invariant.2 ∙ walk_ends (form_of c.args.form) c.in-Some.rest.now l.i l.invariant.0 l.left c.loop-i-test.false ∙ rw (eq-eqb 0 l.left (omega arith)))

pub returns-else-left-eq0 : goal.returns-else-left-eq0
returns-else-left-eq0 c =
    let l = c.loop-i in
    let n = c.in-Some.ensures.cases.1 in
    sym (l.invariant.2 ∙ walk_ends (form_of c.args.form) c.in-Some.rest.now l.i l.invariant.0 l.left c.loop-i-test.false
    ∙ rw (ne_eqb 0 l.left (λ e. omega arith)) (ap Some (omega arith)))
