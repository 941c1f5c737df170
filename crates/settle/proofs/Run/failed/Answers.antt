-- `settle::Run::failed` meets its contract: a reason that lies nowhere has no line and no word. Assumes nothing.
use mathlib.Core.Path.{◌≡◌, ap₂}
use Prim.Native.Nat.{ℕ}
use Rattle.std.specs.Prelude.{Option, None}
use Rattle.statements.specs.declared.words.Word.{Word}
use Rattle.answers.specs.declared.Spot.{Spot}
use Rattle.settle.proofs.Run.failed.Goals as goal

pub returns-clause-printed : goal.returns-clause-printed
returns-clause-printed g c =
    let found = c.nowhere-found in
    let spot : ◌≡◌ {A = Spot} found.result.spot (record { line = None; word = None }) =
    ap₂ (λ (line : Option ℕ) (word : Option Word). record { line = line; word = word }) found.ensures.line found.ensures.word in
    rw spot at c.in_ok-unreadable.ensures
