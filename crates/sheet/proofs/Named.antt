-- The number of the strand with a name, out of its place. Assumes nothing.
use mathlib.Core.Path.{◌≡◌, refl, sym, ◌∙◌}
use mathlib.Core.List.{List}
use mathlib.Core.Bool.{Bool, true, false, cond}
use Prim.Native.Nat.{ℕ, suc, ◌+◌}
use native.Mathlib.Omega.{arith}
use Rattle.std.specs.Prelude.{MatchOption, Option, Some, None, position, ltb, length}
use Rattle.lists.specs.Find.{first_index}
use Rattle.lists.proofs.Searches.{first_is}
use Rattle.statements.specs.declared.statement.Row.{Row}
use Rattle.statements.specs.declared.words.Word.{Word}
use Rattle.sheet.specs.Once.{is_named, strand_named}

module _ (text : List ℕ) (rows : List Row) (chosen : List ℕ) (name : Word) where
  at_first : cond (ltb (first_index (is_named text rows name) chosen) (length chosen)) (Some (first_index (is_named text rows name) chosen)) None
      ≡ position (is_named text rows name) chosen
  at_first = rw (first_is (is_named text rows name) chosen) refl

  chosen_at : (b : Bool) (n : ℕ) {k : ℕ} → cond b (Some n) None ≡ Some k → cond b (suc n) 0 ≡ suc k
  chosen_at true n e = cc
  chosen_at false n e = cc

  chosen_not : (b : Bool) (n : ℕ) → ◌≡◌ {A = Option ℕ} (cond b (Some n) None) None → cond b (suc n) 0 ≡ 0
  chosen_not true n e = cc
  chosen_not false n e = refl

  named_at : {k : ℕ} → position (is_named text rows name) chosen ≡ Some k → strand_named text rows chosen name ≡ k + 1
  unfolding strand_named
  named_at {k} e =
      let next : suc k ≡ k + 1 = omega arith in
      chosen_at (ltb (first_index (is_named text rows name) chosen) (length chosen)) (first_index (is_named text rows name) chosen) (at_first ∙ e) ∙ next

  not_named : position (is_named text rows name) chosen ≡ None → strand_named text rows chosen name ≡ 0
  unfolding strand_named
  not_named e = chosen_not (ltb (first_index (is_named text rows name) chosen) (length chosen)) (first_index (is_named text rows name) chosen) (at_first ∙ e)

  -- it is counted from 1, and 0 where none has the name
  pub numbered : {Q : ℕ → Type 0} (place : Option ℕ) {n : ℕ} → place ≡ position (is_named text rows name) chosen → MatchOption place (n ≡ 0) Q → ((k : ℕ) → Q k → n ≡ k + 1) → n ≡ strand_named text rows chosen name
  numbered None e h next = h ∙ sym (not_named (sym e))
  numbered (Some k) e h next = next k h ∙ sym (named_at (sym e))
