-- A sequence that is admitted has two bases at least. Assumes nothing.
use mathlib.Core.Path.{◌≡◌}
use mathlib.Core.List.{List, [], ◌∷◌}
use Prim.Native.Nat.{ℕ, ◌≤◌}
use lib.ListN.{length}
use borrow.Author.Tests.{ltb-false}
use Rattle.lists.specs.Find.{any}
use Rattle.reply.specs.First.{first_of, ◌if◌}
use Rattle.reply.specs.declared.Refusal.TheVariants.{WrongSize, NotABase, TooShort}
use Rattle.reply.proofs.First.{passes}
use Rattle.utils.specs.Bases.{not_a_base}
use Rattle.utils.specs.Single.{too_long, too_short, sequence_checks}
use Rattle.std.specs.Prelude.{Ok}

pub long-enough : (s : List ℕ) → first_of (sequence_checks s) ≡ Ok tt → 2 ≤ length s
long-enough s e =
    let first = passes (WrongSize if too_long s) (NotABase if any not_a_base s ∷ TooShort if too_short s ∷ []) e in
    let second = passes (NotABase if any not_a_base s) (TooShort if too_short s ∷ []) first.1 in
    ltb-false (length s) 2 (passes (TooShort if too_short s) [] second.1).0
