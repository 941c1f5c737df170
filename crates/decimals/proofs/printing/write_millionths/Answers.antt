-- `decimals::printing::write_millionths` meets its contract. Assumes nothing.
use Rattle.std.proofs.Common.{◌≡◌, ◌∙◌, ℕ, ◌+◌, ◌-◌, ◌/◌, ◌%◌, ap, arith, rules, ◌++◌, length, take, drop, set, replicate}
use borrow.Rule.Slice.PartMut.{put_mid}
use Rattle.std.proofs.lemmas.List.{length-drop, length-append, length-set, length-take-le}
use Rattle.decimals.specs.Digits.{digits_in}
use Rattle.decimals.specs.Print.{fixed}
use Rattle.decimals.proofs.Fixed.{fixed-length, fixed-parts, part-kept, part-length}
use Rattle.decimals.proofs.Room.{no_room, room}
use Rattle.decimals.proofs.printing.write_millionths.Goals as goal

pub returns-then-out-point : goal.returns-then-out-point
returns-then-out-point c =
    let a = c.args in
    let signs = c.minus_signs-signs in
    let whole = c.count_places-whole in
    no_room (fixed a.negative a.n) a.out.now (signs.result + whole.result + 7) (fixed-length a.negative a.n signs.result whole.result signs.ensures.0 whole.ensures.0) c.if-out-point.true

pub returns : goal.returns
returns c =
    let a = c.args in
    let signs = c.minus_signs-signs in
    let whole = c.count_places-whole in
    let size = fixed-length a.negative a.n signs.result whole.result signs.ensures.0 whole.ensures.0 in
    let fits = room (fixed a.negative a.n) a.out.now (signs.result + whole.result + 7) size (omega arith) in
    let part : length (take signs.result a.out.now) ≡ signs.result = length-take-le signs.result a.out.now (omega arith) in
    let one = c.fill.new.self ++ drop signs.result a.out.now in
    let same : length one ≡ length a.out.now = simp (length-append, length-drop) (omega arith) in
    let place = part-length signs.result (signs.result + whole.result - signs.result) one (omega arith) in
    let two = put_mid signs.result (signs.result + whole.result - signs.result) one c.put_digits.new.out in
    let three = set two (signs.result + whole.result) 46 in
    let kept : length three ≡ length a.out.now = length-set two (signs.result + whole.result) 46 ∙ part-kept signs.result _ one c.put_digits.new.out (c.put_digits.auto.out ∙ place) (omega arith) ∙ same in
    let parts =
    fixed-parts a.negative a.n signs.result whole.result signs.ensures.0 whole.ensures.0 a.out.now c.fill.new.self c.put_digits.new.out c.put_digits-2.new.out
    (omega arith)
    (c.fill.ensures.after (λ y e. search rules) ∙ ap (λ (k : ℕ). replicate k 45) part)
    (rw c.put_digits.ensures (ap (λ (k : ℕ). digits_in 10 k (a.n / 1000000)) (place ∙ omega arith)))
    (rw c.put_digits-2.ensures (ap (λ (k : ℕ). digits_in 10 k (a.n % 1000000)) (part-length (signs.result + whole.result + 1) _ three (omega arith) ∙ omega arith))) in
    (fits.0, parts ∙ fits.1)
