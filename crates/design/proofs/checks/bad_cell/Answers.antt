-- The lowest cell of either table meets its contract. Assumes nothing.
use mathlib.Core.Path.{◌≡◌, refl, sym, ap, ◌∙◌}
use mathlib.Core.Bool.{Bool, true, false, cond}
use Prim.Native.Nat.{ℕ, ◌+◌}
use lib.Ieee.{neg, of_bits}
use Rattle.std.proofs.Common.{rules}
use Rattle.std.specs.Prelude.{Option, Some, None, MatchOption, option_map, position}
use Rattle.doubles.specs.Decimal.{nearest}
use Rattle.lists.specs.Find.{any, first_index}
use Rattle.lists.proofs.Searches.{position_is, position_some, position_none}
use Rattle.design.specs.Design.{Design}
use Rattle.design.specs.Checks.{beyond, cells_out, bad_cell}
use Rattle.design.proofs.checks.bad_cell.Goals as goal

-- where a table's first cell beyond its range stands
abbrev dg-place : Design → Option ℕ
dg-place d = position (beyond 1024) d.dg

-- a dS cell is numbered on from dG's
abbrev past-dg : Option ℕ → Option ℕ
past-dg = option_map (λ (k : ℕ). 4096 + k)

abbrev ds-place : Design → Option ℕ
ds-place d = past-dg (position (beyond 8) d.ds)

matched : {N : Type 0} {S : ℕ → Type 0} {P : Type 0} (o : Option ℕ) → MatchOption o N S → (o ≡ None → N → P) → ((k : ℕ) → o ≡ Some k → S k → P) → P
matched None n none some = none refl n
matched (Some k) s none some = some k refl s

counted_on : (t : Bool) (k : ℕ) → past-dg (cond t (Some k) None) ≡ cond t (Some (4096 + k)) None
counted_on true k = refl
counted_on false k = refl

pub returns : goal.returns
unfolding cells_out bad_cell nearest neg of_bits
returns c =
    let d : Design = c.args.design.now in
    matched c.first_beyond.result c.or_else.ensures
    (λ e n.
    let told : c.or_else.result ≡ past-dg (position (beyond 8) c.design.inside.ds.now) = search (rules) in
    let none = position_none (beyond 1024) d.dg (ap dg-place (sym c.design.view_is) ∙ sym c.first_beyond.ensures ∙ e) in
    rw none (told ∙ ap ds-place c.design.view_is ∙ ap past-dg (position_is (beyond 8) d.ds) ∙ counted_on (any (beyond 8) d.ds) (first_index (beyond 8) d.ds)))
    (λ k e s.
    let at = position_some (beyond 1024) d.dg (ap dg-place (sym c.design.view_is) ∙ sym c.first_beyond.ensures ∙ e) in
    rw (s, at.0, at.1) refl)
