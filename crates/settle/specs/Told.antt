-- What became of a design file, as the program's own answer says it: refusals by document 01's number, and of each array as much as is in use.
use Rattle.std.specs.Prelude.{Bool, List, ℕ, take, Float, Option, None, Some, Result, Ok, Err}
use Rattle.reply.specs.Number.{number_of}
use Rattle.reply.specs.declared.Refusal.{Refusal}
use Rattle.statements.specs.declared.words.Word.{Word}
use Rattle.sheet.specs.declared.faults.Counts.{Counts}
use Rattle.answers.specs.declared.Found.{Found}
use Rattle.settle.specs.declared.settle.SettledFile.{SettledFile}
use Rattle.settle.specs.declared.settle.Unsettled.{Unsettled}

-- a settled design: how many strands, positions and energies it has, the glues of its positions, the names of its strands, its marks,
-- whether it is a ring, the configuration that the search gives, its energy, the number of states where so many are counted, and the configuration's deck
pub record Settled : Type 0 where
  pub counts : Counts
  pub glues : List Word
  pub strand_names : List Word
  pub marks : List ℕ
  pub ring : Bool
  pub configuration : List ℕ
  pub energy : Float
  pub states : Option ℕ
  pub deck : List ℕ

-- what becomes of a file: it can't be read, or a call refuses its design with a number, each at a place; or it is settled
pub data Told : Type 0 where
  unreadable : Found → Told
  refused : ℕ → Found → Told
  settled : Settled → Told

-- a settled design, of each array as much as it has positions or strands
abbrev pub settled_file : SettledFile → Settled
settled_file f =
    record {
      counts = f.counts;
      glues = take f.counts.positions f.glues;
      strand_names = take f.counts.strands f.strand_names;
      marks = take f.counts.positions f.marks;
      ring = f.ring;
      configuration = take f.counts.positions f.configuration;
      energy = f.energy.0;
      states = f.states;
      deck = take f.deck.count f.deck.words;
    }

-- a file without a settled configuration: refused where a call refuses it
abbrev pub unsettled : Option Refusal → Found → Told
unsettled None found = unreadable found
unsettled (Some refusal) found = refused (number_of refusal) found

-- the program's answer
abbrev pub told : Result SettledFile Unsettled → Told
told (Ok f) = settled (settled_file f)
told (Err u) = unsettled u.refusal u.found
