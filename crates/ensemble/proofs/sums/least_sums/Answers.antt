use mathlib.Core.Path.{◌≡◌, sym, ◌∙◌}
use mathlib.Core.List.{List}
use mathlib.Core.Logic.{inl, inr}
use Prim.Native.Nat.{ℕ, ◌+◌, ◌-◌, ◌*◌, ◌<◌}
use native.Mathlib.Omega.{arith}
use lib.ListN.{length, get_or}
use lib.Ieee.{Float, nan}
use Rattle.std.proofs.lemmas.Bool.{cases_lt}
use Rattle.ensemble.specs.inner.Entries.{table_bond, LeastSum}
use Rattle.ensemble.proofs.sums.least_sums.Goals as goal

-- eight leasts stored from a right strand on, and those below it kept
stored : (bond : ℕ → ℕ → Float) (left : List ℕ) (energies : List Float) (k right : ℕ) (old new lanes : List Float) → ((r : ℕ) → r < right → LeastSum bond left energies k r (get_or old r nan))
    → ((lane : ℕ) → lane < 8 → LeastSum bond left energies k (right + lane) (get_or lanes lane nan))
    → ((lane : ℕ) → lane < 8 → get_or new (right + lane) nan ≡ get_or lanes lane nan) → ((r : ℕ) → r < right → get_or new r nan ≡ get_or old r nan)
    → (r : ℕ) → r < right + 8 → LeastSum bond left energies k r (get_or new r nan)
stored bond left energies k right old new lanes before here put below r h =
    elim (cases_lt r right) [
      | inl low ↦ λ key keys. below r low ∙ before r low key keys
      | inr high ↦
          let lane = r - right in
          let back : right + lane ≡ r = omega arith in
          let inside : lane < 8 = omega arith in
          rw (sym back) (λ key keys. put lane inside ∙ here lane inside key keys)
    ]

pub loop-eight-init : goal.loop-eight-init
loop-eight-init c = λ r h. absurd (omega arith)

pub loop-eight-preserved : goal.loop-eight-preserved
loop-eight-preserved c = λ r h.
    let left = c.args.left.now in
    stored (table_bond left.bonds.strands left.bonds.cells.now) left.options.now left.energies.now (length left.options.now) (8 * c.loop-eight.eight) c.loop-eight.best c.put_eight.new.best c.eight_least.result
    c.loop-eight.invariant c.eight_least.ensures c.put_eight.ensures.put c.put_eight.ensures.below r (omega (arith, h))

pub returns : goal.returns
returns c = λ r h.
    let left = c.args.left.now in
    let all = c.loop-eight.invariant in
    stored (table_bond left.bonds.strands left.bonds.cells.now) left.options.now left.energies.now (length left.options.now) (left.bonds.strands - 8) c.loop-eight.best c.put_eight-2.new.best c.eight_least-2.result
    (λ r l. all r (omega (arith, l))) c.eight_least-2.ensures c.put_eight-2.ensures.put c.put_eight-2.ensures.below r (omega (arith, h))
