-- What the checks leave of lent names. Assumes nothing.
use mathlib.Core.Path.{◌≡◌, refl, sym, ap, ap₂, ◌∙◌}
use mathlib.Core.Bool.{Bool, true, false, not, ◌||◌}
use mathlib.Core.List.{List, [], ◌∷◌, map}
use Prim.Native.Nat.{ℕ, suc, ◌*◌, ◌/◌, ◌%◌, ◌<◌, ◌≤◌}
use native.Mathlib.Omega.{arith}
use lib.Dec.{eqb}
use lib.ListN.{length, get_or}
use borrow.Author.Tests.{ltb-false, eqb-true, not-false}
use Rattle.lists.specs.Find.{any}
use Rattle.lists.specs.Build.{tabulate}
use Rattle.lists.proofs.Tests.{neither}
use Rattle.lists.proofs.Build.{length-tabulate}
use Rattle.lists.proofs.Counted.{any-fails, map-tabulate, stored, stored-whole}
use Rattle.sdc_common.specs.Names.{Name}
use Rattle.sdc_common.specs.Numbers.{glue_number}
use Rattle.sdc_common.specs.Lent.{Names, Glue, name_at, names_of, glue_of, glues_of, unfit_glue, unfit_names}
use Rattle.sdc_common.specs.inner.Fit.{FitNames}
use Rattle.sdc_common.specs.Calls.{too_many_strands, unfit_strands}

-- the glues of rows, by their places
abbrev pub glue_at : List ℕ → List ℕ → ℕ → Glue
glue_at text rows i = glue_of text (name_at rows i)

pub glues-listed : (text rows : List ℕ) → glues_of text (names_of rows) ≡ tabulate (length rows / 3) (glue_at text rows)
unfolding glues_of
glues-listed text rows = map-tabulate (glue_of text) (length rows / 3) (name_at rows)

module _ (n : ℕ) (text : List ℕ) (names : Names) (e : unfit_names n text names ≡ false) where
  halves : ((names.ragged || not (eqb (length names.each) n)) ≡ false) × (any (unfit_glue text) names.each ≡ false)
  unfolding unfit_names
  halves = neither (names.ragged || not (eqb (length names.each) n)) (any (unfit_glue text) names.each) e

  pub as_many : length names.each ≡ n
  as_many = eqb-true _ _ (not-false _ (neither names.ragged (not (eqb (length names.each) n)) halves.0).1)

  pub none-unfit : any (unfit_glue text) names.each ≡ false
  none-unfit = halves.1

module _ (n : ℕ) (text rows : List ℕ) (e : unfit_names n text (names_of rows) ≡ false) where
  pub rows-many : length rows / 3 ≡ n
  rows-many = sym (length-tabulate (length rows / 3) (name_at rows)) ∙ as_many n text (names_of rows) e

  pub fit-names : FitNames text rows
  fit-names = any-fails (unfit_glue text) (length rows / 3) (name_at rows) (none-unfit n text (names_of rows) e)

module _ (users : ℕ) (text : List ℕ) (strands : Names) (e : unfit_strands users text strands ≡ false) where
  strand-halves : (too_many_strands users ≡ false) × (unfit_names (3 * users) text strands ≡ false)
  strand-halves = neither (too_many_strands users) (unfit_names (3 * users) text strands) e

  pub few-strands : users ≤ 61
  few-strands = ltb-false 61 users strand-halves.0

  pub fit-glues : unfit_names (3 * users) text strands ≡ false
  fit-glues = strand-halves.1

  pub strand-glues : length strands.each ≡ 3 * users
  strand-glues = as_many (3 * users) text strands fit-glues

module _ (users : ℕ) (text rows : List ℕ) (e : unfit_strands users text (names_of rows) ≡ false) where
  -- the names of the strands, which have passed the check: as many as there are glues, each of them fit, and few enough for a table of bases
  pub strands-many : length rows / 3 ≡ 3 * users
  strands-many = rows-many (3 * users) text rows (fit-glues users text (names_of rows) e)

  pub strands-fit : FitNames text rows
  strands-fit = fit-names (3 * users) text rows (fit-glues users text (names_of rows) e)

  pub strands-few : length rows / 3 ≤ 183
  strands-few = omega (arith, strands-many, few-strands users text (names_of rows) e)

-- the numbers of the names, stored one after the other
module _ (bases : List Name) (text rows : List ℕ) where
  abbrev pub number_of_row : ℕ → ℕ
  number_of_row k = glue_number bases (glue_at text rows k)

  pub numbers-stored : (lent : List ℕ) → length lent ≡ length rows / 3 → stored number_of_row (length rows / 3) lent ≡ map (glue_number bases) (glues_of text (names_of rows))
  numbers-stored lent e =
      stored-whole number_of_row (length rows / 3) lent (omega arith) ∙ ap (λ (k : ℕ). tabulate k number_of_row) e
      ∙ sym (ap (map (glue_number bases)) (glues-listed text rows) ∙ map-tabulate (glue_number bases) (length rows / 3) (glue_at text rows))

-- ---- tests of rows

any-same : {A B : Type 0} (p : A → Bool) (q : B → Bool) (d : A) (xs : List A) (f : ℕ → B) → ((k : ℕ) → k < length xs → p (get_or xs k d) ≡ q (f k)) → any p xs ≡ any q (tabulate (length xs) f)
unfolding any tabulate
any-same p q d [] f h = refl
any-same p q d (x ∷ xs) f h = ap₂ (λ a b. a || b) (h 0 (omega arith)) (any-same p q d xs (λ k. f (suc k)) (λ k l. h (suc k) (omega (arith, l))))

-- a test of each row, as the code has it, is one of what the row stands for
pub any-rows : {A B : Type 0} (p : A → Bool) (q : B → Bool) (d : A) (xs : List A) (n : ℕ) (f : ℕ → B) → length xs ≡ n → ((k : ℕ) → k < n → p (get_or xs k d) ≡ q (f k)) → any p xs ≡ any q (tabulate n f)
any-rows p q d xs n f e h = any-same p q d xs f (λ k l. h k (omega (arith, l, e))) ∙ ap (λ (m : ℕ). any q (tabulate m f)) e

-- as many names as asked for, in whole rows, or not
module _ (n : ℕ) (text rows : List ℕ) (t : Bool) (e : t ≡ (not (eqb (length rows % 3) 0) || not (eqb (length rows / 3) n))) where
  by-rows : (t || any (unfit_glue text) (tabulate (length rows / 3) (name_at rows))) ≡ unfit_names n text (names_of rows)
  unfolding unfit_names
  by-rows = rw (length-tabulate (length rows / 3) (name_at rows)) (ap (λ s. s || any (unfit_glue text) (tabulate (length rows / 3) (name_at rows))) e)

  pub unfit-sizes : t ≡ true → t ≡ unfit_names n text (names_of rows)
  unfit-sizes h = h ∙ ap (λ s. s || any (unfit_glue text) (tabulate (length rows / 3) (name_at rows))) (sym h) ∙ by-rows

  pub unfit-rows : t ≡ false → any (unfit_glue text) (tabulate (length rows / 3) (name_at rows)) ≡ unfit_names n text (names_of rows)
  unfit-rows h = ap (λ s. s || any (unfit_glue text) (tabulate (length rows / 3) (name_at rows))) (sym h) ∙ by-rows
