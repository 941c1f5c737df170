-- A form says what the words after a deck's first one stand for, and which of them may follow which. Document 01 has one form, `singles`; document 02
-- adds `runs`.
-- What is shown of decks is shown of every form that keeps `Rules`.
use Rattle.std.specs.Prelude.{Bool, true, false, cond, not, ◌&&◌, ◌≡◌, ℕ, ◌+◌, ◌-◌, ◌*◌, ◌/◌, ◌%◌, ◌≤◌, leb, eqb}
use Rattle.deck.specs.Word.{kind_of, payload_of, word_of}
use Rattle.deck.specs.declared.form.Stretch.{Stretch}

-- positions in a row with one occupant: a strand's number, or 0 for empty places
abbrev pub stretch : ℕ → ℕ → Stretch
stretch occupant run = record { occupant = occupant; run = run }

-- no position at all
abbrev pub nothing : Stretch
nothing = stretch 0 0

-- a position at least
abbrev pub something : Stretch → Bool
something s = leb 1 s.run

-- the words after the first, and the stretches that they stand for
pub record Form : Type 0 where
  -- the stretch that a word stands for, and nothing if it is no word of the form
  pub stretch_of : ℕ → Stretch
  -- the word that stands for a stretch
  pub word_for : Stretch → ℕ
  -- whether neighbouring positions with this occupant are one run, and have one word
  pub in_runs : ℕ → Bool

-- whether neighbouring positions with these occupants are of one run
abbrev pub same_run : Form → ℕ → ℕ → Bool
same_run form left right = eqb left right && form.in_runs right

-- a stretch may follow another if it is something, and the two are not of one run
abbrev pub may_follow : Form → Stretch → Stretch → Bool
may_follow form before s = something s && not (something before && same_run form before.occupant s.occupant)

-- "Kind 2: one strand, 1 to 63."
abbrev pub one_strand : ℕ → Stretch
one_strand payload = cond (leb 1 payload && leb payload 63) (stretch payload 1) nothing

-- "Kind 3: a run of empties, payload 1 or more, never next to another."
abbrev pub empties : ℕ → Stretch
empties payload = stretch 0 payload

-- document 01's form: each strand has a word of its own, and empties in a row have one
abbrev pub singles : Form
singles =
    record {
      stretch_of = λ word. cond (eqb (kind_of word) 2) (one_strand (payload_of word)) (cond (eqb (kind_of word) 3) (empties (payload_of word)) nothing);
      word_for = λ s. cond (eqb s.occupant 0) (word_of 3 s.run) (word_of 2 s.occupant);
      in_runs = λ occupant. eqb occupant 0;
    }

-- kind 4: a strand, and 64 for each position of its run after the first
abbrev pub strand_run : ℕ → Stretch
strand_run payload = cond (eqb (payload % 64) 0) nothing (stretch (payload % 64) (payload / 64 + 1))

-- the form with runs: neighbours with one occupant, a strand or empty, have one word
abbrev pub runs : Form
runs =
    record {
      stretch_of = λ word. cond (eqb (kind_of word) 4) (strand_run (payload_of word)) (cond (eqb (kind_of word) 3) (empties (payload_of word)) nothing);
      word_for = λ s. cond (eqb s.occupant 0) (word_of 3 s.run) (word_of 4 (s.occupant + 64 * (s.run - 1)));
      in_runs = λ occupant. true;
    }

-- a stretch that has a word in a form
pub record HasWord (form : Form) (s : Stretch) : Type 0 where
  pub some : 1 ≤ s.run
  pub strand : s.occupant ≤ 63
  pub single : form.in_runs s.occupant ≡ false → s.run ≡ 1

-- a form's words and its stretches stand for each other one to one
pub record Rules (form : Form) : Type 0 where
  pub has_word : (word : ℕ) → 1 ≤ (form.stretch_of word).run → HasWord form (form.stretch_of word)
  pub word_back : (word : ℕ) → 1 ≤ (form.stretch_of word).run → form.word_for (form.stretch_of word) ≡ word
  pub stretch-back : (s : Stretch) → HasWord form s → s.run ≤ 128 → form.stretch_of (form.word_for s) ≡ s
