-- The glues and tables that are written: their lengths, and what holds of each glue and cell. Assumes nothing.
use mathlib.Core.Path.{◌≡◌, refl, ap, sym, ◌∙◌}
use mathlib.Core.Bool.{Bool, true, false, not, ◌&&◌, ◌||◌}
use mathlib.Core.List.{List, ◌++◌, map}
use Prim.Native.Nat.{ℕ, ◌+◌, ◌*◌, ◌<◌, ◌≤◌}
use native.Mathlib.Omega.{arith}
use lib.ListN.{length, length-append, length-map, length-replicate, get_or-replicate}
use lib.Ieee.{Float, le, lt, eq}
use borrow.Author.Tests.{le-ltb}
use Rattle.doubles.specs.Decimal.{nearest, zero}
use Rattle.doubles.specs.Range.{in_range}
use Rattle.lists.specs.Find.{any}
use Rattle.lists.specs.Each.{Each}
use Rattle.lists.proofs.Tests.{clash}
use Rattle.lists.proofs.Each.{each_append, each_all, each-get_or, each_map, fold-keeps, none_each}
use Rattle.lists.proofs.Find.{any-replicate}
use Rattle.sdc_common.specs.Lent.{Names, Glue, glue_of, glues_of}
use Rattle.sdc_common.specs.Numbers.{glue_number, numbers_among}
use Rattle.sdc_common.specs.Spelled.{is_unknown, spelled_number}
use Rattle.sdc1d_params.specs.Entries.{is_written}
use Rattle.sdc1d_params.specs.Tables.{Write, dg_in_range, ds_in_range, out_of_range, write_dg, write_ds, empty_table, dg_table, ds_table}
use Rattle.sdc1d_params.specs.Params.{Params, strand_names, bases, glue_of_strand, quencher_glues, reporter_glues, strand_glues_of}
use Rattle.std.specs.Prelude.{Option, Some, None}
use Rattle.design.specs.Design as Design
use Rattle.design.specs.Checks.{high_glue, beyond}
use Rattle.built.proofs.Numbers.{Small, glue-small, spelled-small}
use Rattle.built.proofs.Tables.{Mirrored, set-none, set-null-row, set-null-column, set-mirrored}

-- ---- glues

abbrev Low : ℕ → Type 0
Low glue = high_glue glue ≡ false

low : (glue : ℕ) → glue < 64 → Low glue
low glue h = le-ltb 63 glue (omega arith)

glues-many : (text : List ℕ) (names : Names) → length (glues_of text names) ≡ length names.each
unfolding glues_of
glues-many text names = length-map names.each (glue_of text)

module _ (numbers : List ℕ) (each : Each Low numbers) where
  of-strand : (k side : ℕ) → Low (glue_of_strand numbers k side)
  of-strand k side = each-get_or Low numbers 0 each (low 0 (omega arith)) _

  pub quencher-low : (c : Option ℕ) → Each Low (quencher_glues numbers c)
  quencher-low None = (low 0 (omega arith), (low 0 (omega arith), (low 0 (omega arith), tt)))
  quencher-low (Some k) = (of-strand k 0, (of-strand k 1, (low 0 (omega arith), tt)))

  pub reporter-low : (c : Option ℕ) → Each Low (reporter_glues numbers c)
  reporter-low None = (low 0 (omega arith), (low 0 (omega arith), (low 0 (omega arith), tt)))
  reporter-low (Some k) = (low 0 (omega arith), (of-strand k 1, (of-strand k 2, tt)))

quencher-three : (numbers : List ℕ) (c : Option ℕ) → length (quencher_glues numbers c) ≡ 3
quencher-three numbers None = refl
quencher-three numbers (Some k) = refl

reporter-three : (numbers : List ℕ) (c : Option ℕ) → length (reporter_glues numbers c) ≡ 3
reporter-three numbers None = refl
reporter-three numbers (Some k) = refl

module _ (p : Params) where
  abbrev numbers : List ℕ
  numbers = numbers_among (strand_names p) (strand_names p)

  numbers-many : length numbers ≡ length p.strands.each
  unfolding numbers_among
  numbers-many = length-map (strand_names p) (glue_number (bases p)) ∙ glues-many p.text p.strands

  pub strand-glues-many : length p.strands.each ≡ 3 * p.users → length (strand_glues_of p) ≡ 3 * (p.users + 3)
  unfolding strand_glues_of
  strand-glues-many e =
      let q = quencher-three numbers p.quencher in
      let r = reporter-three numbers p.reporter in
      let n = numbers-many in
      let s = length-append numbers (quencher_glues numbers p.quencher) in
      let t = length-append (numbers ++ quencher_glues numbers p.quencher) (reporter_glues numbers p.reporter) in
      omega arith

  pub scaffold-many : length (map (spelled_number (bases p)) (glues_of p.text p.scaffold)) ≡ length p.scaffold.each
  scaffold-many = length-map (glues_of p.text p.scaffold) (spelled_number (bases p)) ∙ glues-many p.text p.scaffold

  module _ (few : length (bases p) ≤ 31) where
    numbers-low : Each Low numbers
    unfolding numbers_among
    numbers-low =
        each_map (λ (g : Glue). Unit) Low (glue_number (bases p)) (λ g t. low (glue_number (bases p) g) (glue-small (bases p) few g)) (strand_names p)
        (each_all (λ (g : Glue). Unit) (λ g. tt) (strand_names p))

    pub strand-glues-low : Each Low (strand_glues_of p)
    unfolding strand_glues_of
    strand-glues-low =
        let zero-low = low 0 (omega arith) in
        let with-quencher = each_append Low numbers (quencher_glues numbers p.quencher) numbers-low (quencher-low numbers numbers-low p.quencher) in
        (zero-low, (zero-low, (zero-low, each_append Low (numbers ++ quencher_glues numbers p.quencher) (reporter_glues numbers p.reporter) with-quencher (reporter-low numbers numbers-low p.reporter))))

    pub scaffold-low : any (is_unknown (bases p)) (glues_of p.text p.scaffold) ≡ false → Each Low (map (spelled_number (bases p)) (glues_of p.text p.scaffold))
    scaffold-low known =
        each_map (λ (g : Glue). is_unknown (bases p) g ≡ false) Low (spelled_number (bases p)) (λ g e. low (spelled_number (bases p) g) (spelled-small (bases p) few g e)) (glues_of p.text p.scaffold)
        (none_each (is_unknown (bases p)) (glues_of p.text p.scaffold) known)

-- ---- tables

empty-mirrored : Mirrored empty_table
unfolding empty_table
empty-mirrored =
    record {
      many = length-replicate 4096 zero;
      same = λ i j h l. get_or-replicate 4096 (i * 64 + j) zero zero (omega arith) ∙ sym (get_or-replicate 4096 (j * 64 + i) zero zero (omega arith));
    }

module _ (writes : List Write) (small : Each (λ w. Small w.at) writes) where
  pub dg-mirrored : Mirrored (dg_table writes)
  unfolding dg_table
  dg-mirrored = fold-keeps (λ (w : Write). Small w.at) Mirrored write_dg (λ t w s m. set-mirrored w.at w.dg t s m) writes small empty_table empty-mirrored

  pub ds-mirrored : Mirrored (ds_table writes)
  unfolding ds_table
  ds-mirrored = fold-keeps (λ (w : Write). Small w.at) Mirrored write_ds (λ t w s m. set-mirrored w.at w.ds t s m) writes small empty_table empty-mirrored

-- row and column 0 hold 0.0
pub record NullZero (table : List Float) : Type 0 where
  pub row : (g : ℕ) → g < 64 → Design.cell table 0 g ≡ zero
  pub column : (g : ℕ) → g < 64 → Design.cell table g 0 ≡ zero

empty-null : NullZero empty_table
unfolding empty_table
empty-null =
    record {
      row = λ g h. get_or-replicate 4096 (0 * 64 + g) zero zero (omega arith);
      column = λ g h. get_or-replicate 4096 (g * 64 + 0) zero zero (omega arith);
    }

module _ (writes : List Write) (small : Each (λ w. Small w.at) writes) where
  pub dg-null : NullZero (dg_table writes)
  unfolding dg_table
  dg-null =
      fold-keeps (λ (w : Write). Small w.at) NullZero write_dg
      (λ t w s n. record { row = λ g h. set-null-row w.at w.dg t s g h ∙ n.row g h; column = λ g h. set-null-column w.at w.dg t s g h ∙ n.column g h })
      writes small empty_table empty-null

  pub ds-null : NullZero (ds_table writes)
  unfolding ds_table
  ds-null =
      fold-keeps (λ (w : Write). Small w.at) NullZero write_ds
      (λ t w s n. record { row = λ g h. set-null-row w.at w.ds t s g h ∙ n.row g h; column = λ g h. set-null-column w.at w.ds t s g h ∙ n.column g h })
      writes small empty_table empty-null

-- ---- ranges

zero-1024 : beyond 1024 zero ≡ false
unfolding nearest le lt eq
zero-1024 = refl

zero-8 : beyond 8 zero ≡ false
unfolding nearest le lt eq
zero-8 = refl

both-in : (t a b : Bool) → (t && (not a || not b)) ≡ false → t ≡ true → (a ≡ true) × (b ≡ true)
both-in true true true e h = (refl, refl)
both-in true true false e h = absurd (clash e refl)
both-in true false b e h = absurd (clash e refl)
both-in false a b e h = absurd (clash refl h)

module _ (w : Write) (e : out_of_range w ≡ false) (h : is_written w.at ≡ true) where
  sums-in : (dg_in_range w.dg ≡ true) × (ds_in_range w.ds ≡ true)
  unfolding out_of_range
  sums-in = both-in (is_written w.at) (dg_in_range w.dg) (ds_in_range w.ds) e h

  dg-in : beyond 1024 w.dg ≡ false
  unfolding dg_in_range in_range
  dg-in = ap not sums-in.0

  ds-in : beyond 8 w.ds ≡ false
  unfolding ds_in_range in_range
  ds-in = ap not sums-in.1

module _ (writes : List Write) (ranged : any out_of_range writes ≡ false) where
  pub dg-ranged : any (beyond 1024) (dg_table writes) ≡ false
  unfolding dg_table empty_table
  dg-ranged =
      fold-keeps (λ (w : Write). out_of_range w ≡ false) (λ (t : List Float). any (beyond 1024) t ≡ false) write_dg
      (λ t w r e. set-none w.at w.dg t (beyond 1024) e (dg-in w r))
      writes (none_each out_of_range writes ranged) empty_table (any-replicate (beyond 1024) 4096 zero zero-1024)

  pub ds-ranged : any (beyond 8) (ds_table writes) ≡ false
  unfolding ds_table empty_table
  ds-ranged =
      fold-keeps (λ (w : Write). out_of_range w ≡ false) (λ (t : List Float). any (beyond 8) t ≡ false) write_ds
      (λ t w r e. set-none w.at w.ds t (beyond 8) e (ds-in w r))
      writes (none_each out_of_range writes ranged) empty_table (any-replicate (beyond 8) 4096 zero zero-8)
