-- Energy entries: for one name or a pair of names, two doubles or a sequence.
use Rattle.std.specs.Prelude.{Bool, false, cond, not, ◌&&◌, ◌||◌, List, ℕ, ◌+◌, ◌*◌, ◌/◌, ◌%◌, eqb, ltb, Float, length, get_or}
use Rattle.std.proofs.Math.Option.{none, some}
use Rattle.std.specs.Float.{nan}
use Rattle.lists.specs.Find.{any}
use Rattle.lists.specs.Build.{tabulate}
use Rattle.utils.specs.Bases.{not_a_base}
use Rattle.utils.specs.Single.{too_long, too_short, string_dna_dg_ds}
use Rattle.sdc_common.specs.Names.{Name, base_of}
use Rattle.sdc_common.specs.Lent.{Glue, part_of, leaves, unfit_name, unfit_glue}
use Rattle.sdc_common.specs.Numbers.{base_number, name_number}
use Rattle.sdc1d_params.specs.declared.Entry.{Entry}
use Rattle.sdc1d_params.specs.declared.entries.GsOrSeq.{GsOrSeq}
use Rattle.sdc1d_params.specs.declared.cells.Cell as lent
use Rattle.sdc1d_params.specs.declared.entries.GsOrSeq.TheVariants.{Given, Sequence}

-- ---- what an entry gives

-- the entry's two doubles, or its sequence, as a part of the text
unfoldable pub energy_of : Entry → GsOrSeq
energy_of e = cond (eqb e.form 0) (Given e.dg e.ds) (Sequence e.sequence)

-- a form that is neither value
abbrev pub bad_form : ℕ → Bool
bad_form form = not (eqb form 0) && not (eqb form 1)

-- a sequence that is too long or leaves the text; two doubles are never checked by themselves
abbrev pub unfit_energy : List ℕ → GsOrSeq → Bool
unfit_energy text (Given dg ds) = false
unfit_energy text (Sequence part) = leaves text part.start part.size || too_long (part_of text part.start part.size)

-- a name, the form or the sequence of an entry is unfit. The first name is always there.
unfoldable pub unfit_entry : List ℕ → Entry → Bool
unfit_entry text e = unfit_name text e.first.start e.first.size || unfit_glue text e.second || bad_form e.form || unfit_energy text (energy_of e)

-- a sequence with a byte that is no base: refusal 2
abbrev pub has_bad_base : List ℕ → GsOrSeq → Bool
has_bad_base text (Given dg ds) = false
has_bad_base text (Sequence part) = any not_a_base (part_of text part.start part.size)

-- a sequence of fewer than 2 bases: refusal 3
abbrev pub is_short : List ℕ → GsOrSeq → Bool
is_short text (Given dg ds) = false
is_short text (Sequence part) = too_short (part_of text part.start part.size)

-- dG of an entry: as given, or of its sequence
abbrev pub entry_dg : List ℕ → GsOrSeq → Float
entry_dg text (Given dg ds) = dg
entry_dg text (Sequence part) = (string_dna_dg_ds (part_of text part.start part.size)).dg

-- dS of an entry: as given, or of its sequence
abbrev pub entry_ds : List ℕ → GsOrSeq → Float
entry_ds text (Given dg ds) = ds
entry_ds text (Sequence part) = (string_dna_dg_ds (part_of text part.start part.size)).ds

-- ---- entries as they are lent

-- entry i of rows of eight numbers and rows of two doubles: start and length of the first name; mark, start and length of the second;
-- form, start and length of the sequence; dG and dS
abbrev pub entry_at : List ℕ → List Float → ℕ → Entry
entry_at numbers doubles i =
    record {
      first = record { start = get_or numbers (8 * i) 0; size = get_or numbers (8 * i + 1) 0 };
      second = record { mark = get_or numbers (8 * i + 2) 0; part = record { start = get_or numbers (8 * i + 3) 0; size = get_or numbers (8 * i + 4) 0 } };
      form = get_or numbers (8 * i + 5) 0;
      sequence = record { start = get_or numbers (8 * i + 6) 0; size = get_or numbers (8 * i + 7) 0 };
      dg = get_or doubles (2 * i) nan;
      ds = get_or doubles (2 * i + 1) nan;
    }

-- entries as they are read off rows, and whether the last row is not whole, or there are not two doubles for each row
pub record Entries : Type 0 where
  pub ragged : Bool
  pub each : List Entry

-- how many rows of eight there are
abbrev pub entry_rows : List ℕ → ℕ
entry_rows numbers = length numbers / 8

-- the entries that the rows hold
abbrev pub entries_of : List ℕ → List Float → Entries
entries_of numbers doubles =
    record {
      ragged = not (eqb (length numbers % 8) 0) || not (eqb (length doubles) (2 * entry_rows numbers));
      each = tabulate (entry_rows numbers) (entry_at numbers doubles);
    }

-- energy entries: 1,024
unfoldable pub unfit_entries : List ℕ → Entries → Bool
unfit_entries text entries = entries.ragged || ltb 1024 (length entries.each) || any (unfit_entry text) entries.each

-- ---- where it is written

-- a cell of the glue tables, by its row and column; 0 where a name is not known
abbrev pub Cell : Type 0
Cell = lent.Cell

-- a cell out of its row and column
abbrev pub cell : ℕ → ℕ → Cell
cell row column = record { row = row; column = column }

-- document 01: "for one name (base and base*) or a pair of names"
unfoldable pub cell_of : List Name → Name → Glue → Cell
cell_of bases first none = cell (base_number bases (base_of first) 0) (base_number bases (base_of first) 1)
cell_of bases first (some second) = cell (name_number bases first) (name_number bases second)

-- both names are known; otherwise the entry is passed over
abbrev pub is_written : Cell → Bool
is_written c = not (eqb c.row 0) && not (eqb c.column 0)

-- two cells that are written, the same one or its mirror
unfoldable pub same_pair : Cell → Cell → Bool
same_pair c d =
    is_written c && is_written d && (eqb c.row d.row && eqb c.column d.column || eqb c.row d.column && eqb c.column d.row)
