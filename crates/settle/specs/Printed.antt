-- What is printed of a file, by what became of it. What each of the printer's calls appends is in answers/specs/Told.antt.
use Rattle.std.specs.Prelude.{◌≡◌, ◌⊎◌, Bool, true, false, List, [], ℕ, Option, None}
use Rattle.reply.specs.Number.{number_of}
use Rattle.reply.specs.declared.Refusal.{Refusal}
use Rattle.sdc1d_params.specs.declared.Build.{Build}
use Rattle.answers.specs.Told.{TellsMore, Tells, Settles, unreadable_text, refused_text}
use Rattle.answers.specs.declared.SettledDesign.{SettledDesign}
use Rattle.answers.specs.declared.print.Style.{Style}
use Rattle.settle.specs.Told.{Settled, Told, unreadable, refused, settled}
use Rattle.settle.specs.Files.{settle_told}

-- a settled design as the printer is handed it, with the file's text
pub record Shows (bytes : List ℕ) (s : Settled) (d : SettledDesign) : Type 0 where
  pub text : d.text.now ≡ bytes
  pub glues : d.glues.now ≡ s.glues
  pub strand_names : d.strand_names.now ≡ s.strand_names
  pub entries : d.entries ≡ s.counts.entries
  pub states : d.states ≡ s.states
  pub configuration : d.configuration.now ≡ s.configuration
  pub marks : d.marks.now ≡ s.marks
  pub ring : d.ring ≡ s.ring
  pub energy : d.energy ≡ s.energy
  pub deck : d.deck.now ≡ s.deck

-- of what became of a file, with its name and its text
abbrev pub Printed : Option (List ℕ) → Option (List ℕ) → Style → List ℕ → List ℕ → Told → Type 0
Printed old new style path bytes (unreadable found) = TellsMore old new (unreadable_text style path bytes found.spot)
Printed old new style path bytes (refused number found) = (refusal : Refusal) × (number_of refusal ≡ number) × Tells old new (refused_text style path bytes refusal found.spot)
Printed old new style path bytes (settled s) = (d : SettledDesign) × Shows bytes s d × Settles old new style path d

-- of a file whose bytes can't be had
abbrev pub PrintedLost : Option (List ℕ) → Option (List ℕ) → Style → List ℕ → Type 0
PrintedLost old new style path = TellsMore old new (unreadable_text style path [] (record { line = None; word = None }))

-- of the file of a name: what becomes of its bytes, or that they can't be had
abbrev pub PrintedOf : Option (List ℕ) → Option (List ℕ) → Build → Style → List ℕ → Type 0
PrintedOf old new which style path = PrintedLost old new style path ⊎ ((bytes : List ℕ) × Printed old new style path bytes (settle_told which bytes))

-- whether a file is settled
abbrev pub settles : Told → Bool
settles (settled s) = true
settles other = false
