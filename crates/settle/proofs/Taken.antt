-- The first of an array's entries. Assumes nothing.
use mathlib.Core.Path.{◌≡◌}
use mathlib.Core.List.{List, ◌++◌}
use mathlib.Core.Bool.{Bool}
use Prim.Native.Nat.{ℕ}
use lib.ListN.{length, take}
use Rattle.std.specs.Prelude.{Float, Option}
use Rattle.statements.specs.declared.words.Word.{Word}
use Rattle.sheet.specs.declared.faults.Counts.{Counts}
use Rattle.settle.specs.Told.{Settled}
use lib.Seq.{take-append_seam}

-- what was written to the front is what is taken of it
pub taken : {A : Type 0} (n : ℕ) (xs rest : List A) → n ≡ length xs → take n (xs ++ rest) ≡ xs
taken n xs rest e = rw e (take-append_seam xs rest)

-- settled designs that are alike in each part
pub same_settled : {counts counts' : Counts} {glues glues' names names' : List Word} {marks marks' configuration configuration' : List ℕ} {ring ring' : Bool} {energy energy' : Float} {states states' : Option ℕ} {deck deck' : List ℕ}
    → counts ≡ counts' → glues ≡ glues' → names ≡ names' → marks ≡ marks' → ring ≡ ring' → configuration ≡ configuration' → energy ≡ energy' → states ≡ states' → deck ≡ deck'
    → ◌≡◌ {A = Settled} (record { counts = counts; glues = glues; strand_names = names; marks = marks; ring = ring; configuration = configuration; energy = energy; states = states; deck = deck }) (record { counts = counts'; glues = glues'; strand_names = names'; marks = marks'; ring = ring'; configuration = configuration'; energy = energy'; states = states'; deck = deck' })
same_settled a b c d e f g h i = cc
