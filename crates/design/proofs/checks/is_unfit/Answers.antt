use mathlib.Core.Path.{◌≡◌, refl, sym, ap, ◌∙◌}
use mathlib.Core.Bool.{Bool, true, false, not, ◌&&◌}
use mathlib.Core.List.{List}
use Prim.Native.Nat.{ℕ, ◌<◌}
use lib.ListN.{get_or}
use lib.Ieee.{Float, neg, of_bits}
use Rattle.doubles.specs.Decimal.{nearest, zero}
use Rattle.design.specs.Design.{Design, strands, potential}
use Rattle.design.specs.Checks.{beyond, somewhere}
use Rattle.design.specs.Places.{potential_out}
use Rattle.design.specs.Unread.{PotentialsOf}
use Rattle.design.proofs.Unread.{tested-alike}
use Rattle.design.proofs.checks.is_unfit.Goals as goal

-- a strand is unfit exactly if it is somewhere a friend, where its potential is out of range, and else it isn't
both : (s b : Bool) → b ≡ true → s ≡ (s && b)
both true b e = sym e
both false b e = refl

not-both : (s b : Bool) → b ≡ false → false ≡ (s && b)
not-both true b e = sym e
not-both false b e = refl

-- where the strand is somewhere a friend, its lent potential is the design's
pub lent-same : (d : Design) (potentials : List Float) → PotentialsOf d potentials → (x : ℕ) → x < strands d
    → (somewhere d.scaffold d.marks d.glues d.dg d.ds x && beyond 1024 (get_or potentials x zero)) ≡ potential_out d x
lent-same d potentials own = tested-alike d (λ x. beyond 1024 (get_or potentials x zero)) (λ x. beyond 1024 (potential d x)) (λ i x f. ap (beyond 1024) (sym (own.friends i x f)))

pub returns-then-not-in_range : goal.returns-then-not-in_range
unfolding nearest neg of_bits
returns-then-not-in_range c =
    let a = c.args in
    let d = a.design.now in
    let out : beyond 1024 (get_or a.potentials.now a.strand zero) ≡ true =
    ap (λ (k : ℕ). beyond 1024 (get_or a.potentials.now k zero)) (sym c.from.ensures) ∙ ap (beyond 1024) (sym c.number_at-potential.ensures) ∙ ap not (sym c.in_range.ensures) ∙ ap not c.if-not-in_range.true in
    c.is_friend_somewhere.ensures ∙ both (somewhere d.scaffold d.marks d.glues d.dg d.ds a.strand) (beyond 1024 (get_or a.potentials.now a.strand zero)) out
    ∙ lent-same d a.potentials.now c.requires.own a.strand c.requires.known

pub returns-else-not-in_range : goal.returns-else-not-in_range
unfolding nearest neg of_bits
returns-else-not-in_range c =
    let a = c.args in
    let d = a.design.now in
    let out : beyond 1024 (get_or a.potentials.now a.strand zero) ≡ false =
    ap (λ (k : ℕ). beyond 1024 (get_or a.potentials.now k zero)) (sym c.from.ensures) ∙ ap (beyond 1024) (sym c.number_at-potential.ensures) ∙ ap not (sym c.in_range.ensures) ∙ ap not c.if-not-in_range.false in
    ap not c.if-not-in_range.false ∙ not-both (somewhere d.scaffold d.marks d.glues d.dg d.ds a.strand) (beyond 1024 (get_or a.potentials.now a.strand zero)) out
    ∙ lent-same d a.potentials.now c.requires.own a.strand c.requires.known
