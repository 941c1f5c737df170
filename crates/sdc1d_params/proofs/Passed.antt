-- The reply at each check, and what the checks leave to the writing. Assumes nothing.
use mathlib.Core.Path.{◌≡◌, refl, ap, sym, ◌∙◌}
use mathlib.Core.Bool.{Bool, true, false, ◌&&◌}
use mathlib.Core.List.{List, [], ◌∷◌, map}
use Prim.Native.Nat.{ℕ, ◌<◌, ◌≤◌}
use native.Mathlib.Omega.{arith}
use lib.Dec.{ltb}
use lib.Ieee.{Float}
use lib.ListN.{length, get_or}
use borrow.Author.Tests.{ltb-false, lt-ltb, le-ltb}
use Rattle.lists.specs.Find.{any}
use Rattle.lists.specs.Build.{tabulate}
use Rattle.lists.proofs.Build.{length-tabulate, get_or-tabulate}
use Rattle.lists.proofs.Counted.{map-tabulate, tabulate-same}
use Rattle.reply.specs.First.{Check, ◌if◌, first_of, refuses}
use Rattle.reply.specs.declared.Refusal.{Refusal}
use Rattle.reply.specs.declared.Refusal.TheVariants.{WrongSize, NotABase, TooShort, UnknownName, TooManyGlues, DuplicatePair, OutOfRange, TwoStars}
use Rattle.reply.proofs.First.{both-pass, reply-append}
use Rattle.sdc_common.specs.Names.{Name}
use Rattle.sdc_common.specs.Lent.{names_of, glue_of, glues_of}
use Rattle.sdc_common.specs.Numbers.{numbers_among}
use Rattle.sdc_common.specs.Spelled.{is_unknown}
use Rattle.sdc_common.specs.Calls.{too_many_bases}
use Rattle.sdc1d_params.specs.Entries.{Cell, cell, energy_of, entry_at, entry_rows, has_bad_base, is_short}
use Rattle.sdc1d_params.specs.Tables.{Write, write_of, cells_of, duplicated, out_of_range}
use Rattle.sdc1d_params.specs.inner.Cells.{write_at, InTables}
use Rattle.sdc1d_params.specs.inner.Cells.{cell_at as cell_among_at}
use Rattle.sdc1d_params.specs.Params.{Params, Outcome, energies_of, strand_names, bases, first_name, cell_of_entry, write_of_entry, writes_of, wrong_size, param_checks, is_ordinary, any_retired, build_checks}
use Rattle.sdc1d_params.specs.inner.Checked.{Checked}
use Rattle.sdc1d_params.specs.declared.Build.{Build}
use Rattle.sdc1d_params.specs.declared.set.ParameterSet.{ParameterSet}
use Rattle.sdc1d_params.specs.inner.Set.{set_of}
use Rattle.std.specs.Prelude.{Option, None, Ok}
use Rattle.sdc1d_params.proofs.Found.{number_small, numbers-length, numbers-spelled, cell-inside}

-- ---- the reply

pub never : {A : Type 0} (r : Refusal) {place : Option ℕ} → refuses r place ≡ Ok tt → A
never r e = absurd (let z : ◌≡◌ {A = ℕ} 0 1 = cc in omega arith)

module _ (p : Params) (lent : Outcome) where
  pub reply-size : wrong_size p lent ≡ true → refuses WrongSize None ≡ first_of (param_checks p lent)
  reply-size e = rw e

  module _ (size : wrong_size p lent ≡ false) where
    pub reply-base : any (has_bad_base p.text) (energies_of p) ≡ true → refuses NotABase None ≡ first_of (param_checks p lent)
    reply-base e = rw (size, e)

    module _ (base : any (has_bad_base p.text) (energies_of p) ≡ false) where
      pub reply-short : any (is_short p.text) (energies_of p) ≡ true → refuses TooShort None ≡ first_of (param_checks p lent)
      reply-short e = rw (size, base, e)

      module _ (short : any (is_short p.text) (energies_of p) ≡ false) where
        pub reply-unknown : any (is_unknown (bases p)) (glues_of p.text p.scaffold) ≡ true → refuses UnknownName None ≡ first_of (param_checks p lent)
        reply-unknown e = rw (size, base, short, e)

        module _ (known : any (is_unknown (bases p)) (glues_of p.text p.scaffold) ≡ false) where
          pub reply-glues : too_many_bases (strand_names p) ≡ true → refuses TooManyGlues None ≡ first_of (param_checks p lent)
          reply-glues e = rw (size, base, short, known, e)

          module _ (few : too_many_bases (strand_names p) ≡ false) where
            pub reply-twice : duplicated (cells_of (writes_of p)) ≡ true → refuses DuplicatePair None ≡ first_of (param_checks p lent)
            reply-twice e = rw (size, base, short, known, few, e)

            module _ (once : duplicated (cells_of (writes_of p)) ≡ false) where
              pub reply-last : {out : Bool} → out ≡ any out_of_range (writes_of p) → first_of (OutOfRange if out ∷ []) ≡ first_of (param_checks p lent)
              reply-last e = rw (size, base, short, known, few, once, e)

-- ---- either build

module _ (build : Build) (p : Params) (lent : Outcome) where
  abbrev stars : List Check
  stars = TwoStars if (is_ordinary build && any_retired p) ∷ []

  pub build-refused : (why : Refusal) {place : Option ℕ} → refuses why place ≡ first_of (param_checks p lent) → refuses why place ≡ first_of (build_checks build p lent)
  build-refused why e = sym (reply-append (param_checks p lent) stars (sym e))

  pub build-stars : Ok tt ≡ first_of (param_checks p lent) → (is_ordinary build && any_retired p) ≡ true → refuses TwoStars None ≡ first_of (build_checks build p lent)
  build-stars e h = sym (reply-append (param_checks p lent) stars (sym e) ∙ rw h)

  pub build-none : Ok tt ≡ first_of (param_checks p lent) → (is_ordinary build && any_retired p) ≡ false → Ok tt ≡ first_of (build_checks build p lent)
  build-none e h = sym (reply-append (param_checks p lent) stars (sym e) ∙ rw h)

  pub build-passes : first_of (build_checks build p lent) ≡ Ok tt → first_of (param_checks p lent) ≡ Ok tt
  build-passes e = (both-pass (param_checks p lent) stars e).0

-- ---- what is written

-- the writes of entries that are read off rows, where the cells are theirs
pub written :
    (p : Params) (entries : List ℕ) (energies : List Float) (cells : List Cell)
    → p.entries.each ≡ tabulate (entry_rows entries) (entry_at entries energies)
    → ((k : ℕ) → k < entry_rows entries → get_or cells k (cell 0 0) ≡ cell_of_entry p (entry_at entries energies k))
    → tabulate (entry_rows entries) (write_at p.text entries energies p.penalty_dg p.penalty_ds cells) ≡ writes_of p
unfolding writes_of
written p entries energies cells same found =
    tabulate-same (entry_rows entries) (write_at p.text entries energies p.penalty_dg p.penalty_ds cells)
    (λ i. write_of_entry p (entry_at entries energies i))
    (λ k h. ap (λ (x : Cell). write_of p.text p.penalty_dg p.penalty_ds x (energy_of (entry_at entries energies k))) (found k h))
    ∙ sym (ap (map (write_of_entry p)) same ∙ map-tabulate (write_of_entry p) (entry_rows entries) (entry_at entries energies))

-- ---- the bases

module _ (p : Params) (held : List Name) (count : ℕ) (many : length held ≡ count) (e : held ≡ bases p) where
  pub few-bases : count ≤ 31 → too_many_bases (strand_names p) ≡ false
  few-bases h = ap (ltb 31) (sym (ap length e) ∙ many) ∙ le-ltb 31 count h

  pub many-bases : 31 < count → too_many_bases (strand_names p) ≡ true
  many-bases h = ap (ltb 31) (sym (ap length e) ∙ many) ∙ lt-ltb 31 count h

-- ---- the cells

-- what is lent, and the entries' cells
module _ (s : ParameterSet) (held : List Name) (cells : List Cell)
    (b : held ≡ bases (set_of s))
    (c : cells ≡ tabulate (entry_rows s.lent.entries.now) (cell_among_at held s.lent.text.now s.lent.entries.now s.lent.energies.now)) where
  abbrev pub p : Params
  p = set_of s

  -- the rows of numbers and of doubles
  abbrev entries : List ℕ
  entries = s.lent.entries.now

  abbrev energies : List Float
  energies = s.lent.energies.now

  pub cells-many : length cells ≡ entry_rows entries
  cells-many = ap length c ∙ length-tabulate (entry_rows entries) (cell_among_at held s.lent.text.now entries energies)

  cells-listed : cells ≡ tabulate (entry_rows entries) (λ k. cell_of_entry p (entry_at entries energies k))
  cells-listed = c ∙ ap (λ (bs : List Name). tabulate (entry_rows entries) (cell_among_at bs s.lent.text.now entries energies)) b

  pub cells-found : (k : ℕ) → k < entry_rows entries → get_or cells k (cell 0 0) ≡ cell_of_entry p (entry_at entries energies k)
  cells-found k h =
      ap (λ (xs : List Cell). get_or xs k (cell 0 0)) cells-listed ∙ get_or-tabulate (entry_rows entries) (λ j. cell_of_entry p (entry_at entries energies j)) (cell 0 0) k h

  -- and are those that are written to
  pub cells_written : cells ≡ cells_of (writes_of p)
  unfolding writes_of write_of
  cells_written =
      cells-listed
      ∙ sym (ap (map (λ (w : Write). w.at)) (map-tabulate (write_of_entry p) (entry_rows entries) (entry_at entries energies))
      ∙ map-tabulate (λ (w : Write). w.at) (entry_rows entries) (λ k. write_of_entry p (entry_at entries energies k)))

  pub writes_found : tabulate (entry_rows entries) (write_at s.lent.text.now entries energies s.lent.penalty.dg.0 s.lent.penalty.ds.0 cells) ≡ writes_of p
  writes_found = written p entries energies cells refl cells-found

  module _ (few : too_many_bases (strand_names p) ≡ false) where
    most : length (bases p) ≤ 31
    most = ltb-false 31 (length (bases p)) few

    pub cells-inside : InTables cells
    cells-inside k h =
        let l : k < entry_rows entries = rw cells-many at h in
        rw (cells-found k l) (cell-inside (bases p) (first_name p (entry_at entries energies k)) (glue_of s.lent.text.now (entry_at entries energies k).second) most)

    pub checked :
        (numbers : List ℕ)
        → numbers ≡ numbers_among (strand_names p) (glues_of s.lent.text.now (names_of s.lent.scaffold.now))
        → any (is_unknown (bases p)) (glues_of s.lent.text.now (names_of s.lent.scaffold.now)) ≡ false
        → Checked p entries energies numbers cells
    checked numbers n known = record {
      spelled = numbers-spelled (strand_names p) s.lent.text.now s.lent.scaffold.now numbers n known;
      small = λ k h. number_small (strand_names p) s.lent.text.now s.lent.scaffold.now numbers n few k (rw (numbers-length (strand_names p) s.lent.text.now s.lent.scaffold.now numbers n) at h);
      many = cells-many;
      cells-at = cells-found;
      inside = cells-inside;
    }
