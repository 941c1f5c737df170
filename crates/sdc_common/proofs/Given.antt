-- What the calls give, once the table has the bases of the strands. Assumes nothing.
use mathlib.Core.Path.{◌≡◌, ap, ◌∙◌}
use mathlib.Core.Bool.{true, false}
use mathlib.Core.List.{List, map}
use Prim.Native.Nat.{ℕ, ◌*◌, ◌<◌, ◌≤◌}
use lib.ListN.{length}
use borrow.Author.Tests.{lt-ltb, le-ltb, eq-eqb}
use Rattle.reply.specs.Number.{number_of, answered}
use Rattle.reply.specs.declared.Refusal.TheVariants.{TooManyGlues}
use Rattle.sdc_common.specs.Names.{Name}
use Rattle.sdc_common.specs.Lent.{Names, glues_of, unfit_names}
use Rattle.sdc_common.specs.Numbers.{bases_of, glue_number, numbers_among}
use Rattle.sdc_common.specs.Calls.{unfit_strands, too_many_bases, given_numbers, name_numbers, numbers_after, strand_glues, glues_after}

module _ (users : ℕ) (text : List ℕ) (strands : Names) (bases : List Name) (fit : unfit_strands users text strands ≡ false) (h : bases ≡ bases_of (glues_of text strands)) where
  counted : length bases ≡ length (bases_of (glues_of text strands))
  counted = ap length h

  numbered : (names : Names) → map (glue_number bases) (glues_of text names) ≡ numbers_among (glues_of text strands) (glues_of text names)
  unfolding numbers_among
  numbered names = ap (λ (bs : List Name). map (glue_number bs) (glues_of text names)) h

  pub numbers-given :
      (names : Names) (lent out : List ℕ)
      → unfit_names (length lent) text names ≡ false
      → out ≡ map (glue_number bases) (glues_of text names)
      → (given_numbers (length bases) ≡ name_numbers users text strands names (length lent)) × (out ≡ numbers_after users text strands names lent)
  unfolding name_numbers numbers_after
  numbers-given names lent out good e = (simp (fit, good) (ap given_numbers counted), simp (fit, good) (e ∙ numbered names))

  pub glues-many : (lent : List ℕ) → length lent ≡ 3 * users → 31 < length bases → (number_of TooManyGlues ≡ strand_glues users text strands (length lent)) × (lent ≡ glues_after users text strands lent)
  unfolding strand_glues glues_after
  glues-many lent l many =
      let k = eq-eqb _ _ l in
      let over : too_many_bases (glues_of text strands) ≡ true = lt-ltb _ _ (rw counted at many) in
      (simp (fit, k, over), simp (fit, k, over))

  pub glues-given :
      (lent out : List ℕ)
      → length lent ≡ 3 * users
      → length bases ≤ 31
      → out ≡ map (glue_number bases) (glues_of text strands)
      → (answered ≡ strand_glues users text strands (length lent)) × (out ≡ glues_after users text strands lent)
  unfolding strand_glues glues_after
  glues-given lent out l few e =
      let k = eq-eqb _ _ l in
      let under : too_many_bases (glues_of text strands) ≡ false = le-ltb _ _ (rw counted at few) in
      (simp (fit, k, under), simp (fit, k, under) (e ∙ numbered strands))
