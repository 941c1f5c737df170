-- What specs/Theorems.antt states. Assumes nothing.
use mathlib.Core.Path.{◌≡◌, refl, sym, ◌∙◌}
use mathlib.Core.Bool.{Bool, true, false, cond}
use mathlib.Core.List.{List, [], ◌∷◌, append-nil}
use Prim.Native.Nat.{ℕ, zero, suc, ◌+◌, ◌≤◌, ◌<◌}
use native.Mathlib.Omega.{arith}
use lib.Dec.{eqb, ltb}
use lib.ListN.{length, get_or, drop, take, drop_of_length-le}
use lib.Seq.{take_all, length-take-le}
use borrow.Author.Tests.{ltb-true}
use Rattle.std.specs.Prelude.{Option, None, Some, Result, Ok, Err, IsSome, slice_get}
use Rattle.std.specs.List.{list_any}
use Rattle.std.proofs.lemmas.List.Sums.{sum_by-cons, sum_by_more}
use Rattle.std.proofs.lemmas.List.Folds.{list_any_at}
use Rattle.std.proofs.lemmas.List.{get_or-take}
use Rattle.std.proofs.lemmas.Option.{get_or_from_slice_get, slice_get_within}
use denote.Enum.Bare.{same_true}
use native.Mathlib.Numerals.{add-one}
use Rattle.sheet.proofs.Faulty.{fault-none}
use Rattle.lists.specs.Front.{over}
use Rattle.statements.specs.declared.statement.Row.{Row}
use Rattle.sheet.specs.Rows.{group_of, is_of, places_from, rows_of, count_of, first_of}
use Rattle.sheet.specs.inner.Laid.{laid}
use Rattle.sheet.specs.Faults.{limit_of, same_word, name_of, has_name, is_name_twice, fault_of, and_then, fault_from, counts_of, counts_if, sheet_answer}
use Rattle.sheet.specs.Theorems.{Sound, Sheets}
use Rattle.sheet.specs.declared.faults.Counts.{Counts}
use Rattle.sheet.specs.declared.faults.SheetFault.{SheetFault}
use Rattle.sheet.specs.declared.faults.SheetFault.TheVariants.{NameTwice, GivenTwice, TooMany}
use Rattle.sheet.specs.declared.rows.Group.{Group}
use Rattle.sheet.specs.contracts.rows.Group as groups
use Rattle.statements.specs.declared.grammar.Kind.TheVariants.{Kelvin}
use Rattle.sheet.specs.declared.rows.Group.TheVariants.{Ambient, Strand, Position, Entry}

-- ---- what no row at fault means

-- a row that is not at fault
module _ (text : List ℕ) (before : List Row) (row : Row) where
  fine-by : (n m o : Bool)
      → cond n (Err (NameTwice row.line (name_of row))) (cond m (Ok (tt {0})) (cond o (Err (GivenTwice row.line (group_of row.kind))) (Err (TooMany row.line (group_of row.kind))))) ≡ Ok (tt {0})
      → (n ≡ false) × (m ≡ true)
  fine-by true m o e = absurd (cc)
  fine-by false true o e = (refl, refl)
  fine-by false false true e = absurd (cc)
  fine-by false false false e = absurd (cc)

  fine : fault_of text before row ≡ Ok (tt {0})
      → (is_name_twice text before row ≡ false) × (count_of (group_of row.kind) before < limit_of (group_of row.kind))
  unfolding fault_of
  fine e =
      let w = fine-by (is_name_twice text before row) (ltb (count_of (group_of row.kind) before) (limit_of (group_of row.kind))) (eqb (limit_of (group_of row.kind)) 1) e in
      (w.0, ltb-true _ _ w.1)

module _ (text : List ℕ) (rows : List Row) (clean : fault_from text [] rows ≡ Ok (tt {0})) (d : Row) where
  left-clean : (i : ℕ) → i ≤ length rows → fault_from text (take i rows) (drop i rows) ≡ Ok (tt {0})
  left-clean zero h = clean
  left-clean (suc i) h =
      let rest : fault_from text (take (i + 1) rows) (drop (i + 1) rows) ≡ Ok (tt {0}) = (fault-none text rows i d (omega arith) (left-clean i (omega arith))).1 in
      rw (← add-one i) rest

  row-fine : (i : ℕ) → i < length rows
      → (is_name_twice text (take i rows) (get_or rows i d) ≡ false) × (count_of (group_of (get_or rows i d).kind) (take i rows) < limit_of (group_of (get_or rows i d).kind))
  row-fine i h = fine text (take i rows) (get_or rows i d) (fault-none text rows i d h (left-clean i (omega arith))).0

  within-next : (group : Group) (m : ℕ) (b : Bool) → is_of group (get_or rows m d) ≡ b → m < length rows → count_of group (take m rows) ≤ limit_of group
      → count_of group (take m rows) + cond b 1 0 ≤ limit_of group
  within-next group m true e h l =
      let same : group_of (get_or rows m d).kind ≡ group = same_true groups.the_type tt (group_of (get_or rows m d).kind) group e in
      let less : count_of group (take m rows) < limit_of group = rw same at (row-fine m h).1 in
      omega arith
  within-next group m false e h l = omega arith

  within : (group : Group) (m : ℕ) → m ≤ length rows → count_of group (take m rows) ≤ limit_of group
  within group zero h = omega arith
  within group (suc m) h =
      let low : m < length rows = omega arith in
      let more = sum_by_more (λ (row : Row). cond (is_of group row) 1 0) rows m d low in
      let next = within-next group m (is_of group (get_or rows m d)) refl low (within group m (omega arith)) in
      let fits : count_of group (take (m + 1) rows) ≤ limit_of group = omega (arith, more, next) in
      rw (← add-one m) fits

  other-name : (i j : ℕ) (a b : Row) → j < i → slice_get rows i ≡ Some a → slice_get rows j ≡ Some b → is_of Strand a ≡ true → is_of Strand b ≡ true
      → same_word text (name_of a) (name_of b) ≡ false
  unfolding is_name_twice
  other-name i j a b h e f s t =
      let low : i < length rows = slice_get_within rows i a e in
      let here : get_or rows i d ≡ a = get_or_from_slice_get rows i a d e in
      let there : get_or (take i rows) j d ≡ b = get_or-take i rows j d h ∙ get_or_from_slice_get rows j b d f in
      let once : is_name_twice text (take i rows) a ≡ false = rw here at (row-fine i low).0 in
      let none : list_any (has_name text (name_of a)) (take i rows) ≡ false = rw s at once in
      let short : j < length (take i rows) = rw (length-take-le i rows (omega arith)) h in
      named (same_word text (name_of a) (name_of b)) refl (λ met. list_any_at (has_name text (name_of a)) (take i rows) j d short (rw there (rw t met))) none
    where
      named : (b' : Bool) → same_word text (name_of a) (name_of b) ≡ b' → (same_word text (name_of a) (name_of b) ≡ true → list_any (has_name text (name_of a)) (take i rows) ≡ true)
          → list_any (has_name text (name_of a)) (take i rows) ≡ false → same_word text (name_of a) (name_of b) ≡ false
      named true q r none = let w = r q in absurd (cc)
      named false q r none = q

-- ---- sound rows

answered : (r : Result Unit SheetFault) (o : Option Row) (rows : List Row) (counts : Counts) → and_then r (counts_if o rows) ≡ Ok counts
    → (r ≡ Ok (tt {0})) × IsSome o × (counts ≡ counts_of rows)
answered (Ok done) None rows counts e = absurd (cc)
answered (Ok done) (Some row) rows counts e = (refl, refl, cc)
answered (Err fault) o rows counts e = absurd (cc)

any-row : Row
any-row = record { kind = Kelvin; concentration = false; line = 0; words = []; numbers = [] }

pub counted : (text : List ℕ) (rows : List Row) (counts : Counts) → sheet_answer text rows ≡ Ok counts → counts ≡ counts_of rows
unfolding sheet_answer
counted text rows counts e = (answered (fault_from text [] rows) (first_of Ambient rows) rows counts e).2

pub sound : (text : List ℕ) (rows : List Row) (counts : Counts) → sheet_answer text rows ≡ Ok counts → Sound text rows counts
unfolding sheet_answer
sound text rows counts e =
    let w = answered (fault_from text [] rows) (first_of Ambient rows) rows counts e in
    let few : (group : Group) → count_of group rows ≤ limit_of group =
    λ group. rw (take_all (length rows) rows (omega arith)) at (within text rows w.0 any-row group (length rows) (omega arith)) in
    record {
      strands = rw w.2 (refl, few Strand);
      positions = rw w.2 (refl, few Position);
      entries = rw w.2 (refl, few Entry);
      few = few;
      ambient = w.1;
      names = other-name text rows w.0 any-row;
    }

-- ---- lists of rows

places-counted : (group : Group) (at : ℕ) (rows : List Row) → length (places_from group at rows) ≡ count_of group rows
unfolding places_from
places-counted group at [] = refl
places-counted group at (row ∷ rest) =
    go (is_of group row) (places-counted group (at + 1) rest) ∙ sym (sum_by-cons (λ (r : Row). cond (is_of group r) 1 0) row rest)
  where
    go : (b : Bool) → length (places_from group (at + 1) rest) ≡ count_of group rest
        → length (cond b (at ∷ places_from group (at + 1) rest) (places_from group (at + 1) rest)) ≡ cond b 1 0 + count_of group rest
    go true e = omega (arith, e)
    go false e = omega (arith, e)

pub laid_whole : (group : Group) (rows : List Row) (lent : List ℕ) → length lent ≡ count_of group rows → laid group rows lent ≡ rows_of group rows
unfolding laid over
laid_whole group rows lent e =
    let many = places-counted group 0 rows in
    let all : take (length lent) (rows_of group rows) ≡ rows_of group rows = take_all (length lent) (rows_of group rows) (omega arith) in
    let none : drop (length (rows_of group rows)) lent ≡ [] = drop_of_length-le lent {i = length (rows_of group rows)} (omega arith) in
    rw (all, none) (append-nil (rows_of group rows))

pub sheets : Sheets
sheets =
    record {
      words = λ rows chosen k row j e. rw e;
      numbers = λ rows chosen k row j e. rw e;
      sound = sound;
      counted = λ group rows. places-counted group 0 rows;
    }
