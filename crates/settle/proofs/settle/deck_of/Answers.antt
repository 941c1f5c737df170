-- `settle::settle::deck_of` meets its contract. Assumes nothing.
use mathlib.Core.Path.{◌≡◌, refl, ap, ◌∙◌}
use Prim.Native.Nat.{ℕ}
use Rattle.std.specs.Prelude.{Result, Ok, Err}
use Rattle.std.specs.Result.{result_unwrap_or}
use Rattle.reply.specs.declared.Refusal.{Refusal}
use Rattle.deck.specs.Writing.{WriteFigures, write_figures_of}
use Rattle.settle.specs.Files.{deck_written}
use Rattle.settle.proofs.settle.deck_of.Goals as goal

counted : (r : Result ℕ Refusal) → result_unwrap_or r 0 ≡ (write_figures_of r).count
counted (Ok n) = refl
counted (Err refusal) = refl

pub returns : goal.returns
unfolding deck_written
returns c =
    let count = c.unwrap_or-count.ensures ∙ counted c.write.result ∙ ap (λ (f : WriteFigures). f.count) c.write.ensures.0 in
    rw (count, c.write.ensures.1)
