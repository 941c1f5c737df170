-- The energy of a loop out of the code's tables, by the place of an entry. Assumes nothing.
use mathlib.Core.Path.{◌≡◌, sym, ap, ap₂, ◌∙◌}
use Prim.Native.Nat.{ℕ, ◌≤◌}
use lib.ListN.{get_or}
use Rattle.logarithm.specs.Figure.{fixed}
use Rattle.utils.specs.Paper.{no_loop, loop_figure}
use Rattle.utils.specs.Figures.{loop_rows, loop_entry, entry_up_to, between_units, loop_energy}
use Rattle.utils.specs.declared.tables.LoopKind.{LoopKind}
use Rattle.utils.proofs.Lengths.{length_of, lengths, length_at, entry-le}
use Rattle.utils.proofs.LoopEnergy.{own-entry, entry-below, base-least}

module _ (n at : ℕ) (e : get_or loop_rows at no_loop ≡ entry_up_to n) where
  pub own_at : (kind : LoopKind) → get_or lengths at 0 ≡ n → loop_entry kind at ≡ loop_energy kind n
  unfolding loop_entry
  own_at kind l = own-entry kind n (get_or loop_rows at no_loop) e (sym (length_at at) ∙ l)

  pub base-at : 3 ≤ n → n ≤ 254 → (get_or lengths at 0 ≡ n → ⊥) → (10 ≤ get_or lengths at 0) × (get_or lengths at 0 ≤ n)
  base-at l h ne =
      let q : get_or lengths at 0 ≡ (entry_up_to n).length = length_at at ∙ ap length_of e in
      rw q (base-least n l h (λ (k : (entry_up_to n).length ≡ n). ne (q ∙ k)), entry-le n)

  pub between-at : (kind : LoopKind) (t u : ℕ) → (get_or lengths at 0 ≡ n → ⊥) → t ≡ (loop_figure kind (get_or loop_rows at no_loop)).digits → u ≡ between_units t (get_or lengths at 0) n → fixed u ≡ loop_energy kind n
  between-at kind t u ne te ue =
      ap fixed (ue ∙ ap₂ (λ (x y : ℕ). between_units x y n) te (length_at at)) ∙ entry-below kind n (get_or loop_rows at no_loop) e (λ (k : length_of (get_or loop_rows at no_loop) ≡ n). ne (length_at at ∙ k))
