-- Parts of the text, and what is learnt and numbered. Assumes nothing.
use mathlib.Core.Path.{◌≡◌, refl, ap}
use mathlib.Core.Bool.{Bool, true, false, not, ◌&&◌, ◌||◌}
use mathlib.Core.List.{List, [], ◌∷◌, ◌++◌}
use mathlib.Core.Option.{none, some}
use Prim.Native.Nat.{ℕ, ◌+◌, ◌-◌, ◌%◌, ◌≤◌}
use native.Mathlib.Omega.{arith}
use lib.Dec.{eqb, ltb}
use lib.ListN.{length, take, drop, length-drop}
use lib.Seq.{length-take-le}
use borrow.Author.Tests.{ltb-false, eq-eqb, ne_eqb}
use Rattle.lists.specs.Find.{first_index}
use Rattle.lists.proofs.Tests.{neither}
use Rattle.sdc_common.specs.Names.{Name, base_length, base_of, stars_of, is_from, same_name}
use Rattle.sdc_common.specs.Lent.{part_of, leaves, unfit_name, unfit_glue, is_absent, is_present, glue_of}
use Rattle.sdc_common.specs.declared.names.LentName.{LentName}
use Rattle.sdc_common.specs.inner.Fit.{Fit}
use Rattle.sdc_common.specs.Numbers.{is_known, learn, number_at, base_number, name_number, glue_number}
use Rattle.sdc_common.specs.Calls.{self_and_inverse, given_name}
use Rattle.sdc_common.proofs.Bases.{base-le}

-- a fit name ends within the text
pub within : (text : List ℕ) (start size : ℕ) → unfit_name text start size ≡ false → leaves text start size ≡ false
within text start size e = (neither (ltb 64 size) (leaves text start size) e).1

pub fits : (text : List ℕ) (start size : ℕ) → unfit_name text start size ≡ false → start + size ≤ length text
fits text start size e = ltb-false (length text) (start + size) (within text start size e)

-- a part by its start and its end
pub part-is : (text : List ℕ) (start size : ℕ) → take (start + size - start) (drop start text) ≡ part_of text start size
unfolding part_of
part-is text start size = let e : start + size - start ≡ size = omega arith in rw e

pub part_length : (text : List ℕ) (start size : ℕ) → start + size ≤ length text → length (part_of text start size) ≡ size
unfolding part_of
part_length text start size h = length-take-le size (drop start text) (simp length-drop (omega arith))

-- what a name's base is read off, as the code counts its stars
pub named :
    (text : List ℕ) (start size stars : ℕ)
    → unfit_name text start size ≡ false
    → stars ≡ stars_of (part_of text start size)
    → given_name start (size - stars) (eqb (stars % 2) 0) ≡ self_and_inverse text start size
unfolding self_and_inverse is_from stars_of
named text start size stars fit e =
    let l : length (part_of text start size) ≡ size = part_length text start size (fits text start size fit) in
    let s : stars ≡ length (part_of text start size) - base_length (part_of text start size) = e in
    let b : size - stars ≡ base_length (part_of text start size) = omega (arith, base-le (part_of text start size)) in
    rw fit (rw (b, s))

pub stars-within : (text : List ℕ) (start size stars : ℕ) → unfit_name text start size ≡ false → stars ≡ stars_of (part_of text start size) → stars ≤ size
unfolding stars_of
stars-within text start size stars fit e =
    let s : stars ≡ length (part_of text start size) - base_length (part_of text start size) = e in
    omega (arith, part_length text start size (fits text start size fit))

-- ---- one glue

present-step : (absent present unfit : Bool) → absent ≡ false → (not absent && (not present || unfit)) ≡ false → unfit ≡ false
present-step true present unfit a e = absurd (let z : ◌≡◌ {A = ℕ} 0 1 = cc in omega arith)
present-step false present unfit a e = (neither (not present) unfit e).1

module _ (text : List ℕ) (name : LentName) where
  abbrev pub spelled : Name
  spelled = part_of text name.part.start name.part.size

  pub present-fit : (name.mark ≡ 0 → ⊥) → Fit text name → unfit_name text name.part.start name.part.size ≡ false
  unfolding unfit_glue
  present-fit h e = present-step (is_absent name.mark) (is_present name.mark) (unfit_name text name.part.start name.part.size) (ne_eqb name.mark 0 h) e

  pub glue-absent : name.mark ≡ 0 → glue_of text name ≡ none
  unfolding glue_of
  glue-absent h = rw (eq-eqb name.mark 0 h)

  pub glue-present : (name.mark ≡ 0 → ⊥) → glue_of text name ≡ some spelled
  unfolding glue_of
  glue-present h = rw (ne_eqb name.mark 0 h)

-- a name without its stars
pub base-size : (name : Name) → length (base_of name) ≡ base_length name
unfolding base_of
base-size name = length-take-le (base_length name) name (base-le name)

pub base-within : (name : Name) → length (base_of name) ≤ length name
base-within name = rw (base-size name) (base-le name)

-- what a base lacks of its name is the stars
pub stars-left : (name : Name) → length name - length (base_of name) ≡ stars_of name
unfolding stars_of
stars-left name = ap (λ (n : ℕ). length name - n) (base-size name)

pub base-is : (name : Name) (n : ℕ) → base_length name ≡ n → take n name ≡ base_of name
unfolding base_of
base-is name n e = rw e

-- ---- the table

-- what is learnt of no name
pub learn-none : (bases : List Name) → bases ≡ learn bases none
unfolding learn
learn-none bases = refl

pub learn-known : (bases : List Name) (name : Name) → is_known bases (base_of name) ≡ true → bases ≡ learn bases (some name)
unfolding learn
learn-known bases name e = rw e

pub learn-new : (bases : List Name) (name : Name) → is_known bases (base_of name) ≡ false → bases ++ (base_of name ∷ []) ≡ learn bases (some name)
unfolding learn
learn-new bases name e = rw e

pub number-known : (bases : List Name) (name : Name) → is_known bases (base_of name) ≡ true → number_at (first_index (same_name (base_of name)) bases) (stars_of name) ≡ name_number bases name
unfolding base_number
number-known bases name e = rw e

pub number-unknown : (bases : List Name) (name : Name) → is_known bases (base_of name) ≡ false → 0 ≡ name_number bases name
unfolding base_number
number-unknown bases name e = rw e

pub number-none : (bases : List Name) → 0 ≡ glue_number bases none
unfolding glue_number
number-none bases = refl

pub number-some : (bases : List Name) (name : Name) → name_number bases name ≡ glue_number bases (some name)
unfolding glue_number
number-some bases name = refl
