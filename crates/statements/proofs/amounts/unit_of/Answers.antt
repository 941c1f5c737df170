-- `statements::amounts::unit_of` meets its contract: the table is that of the definition. Assumes nothing.
use mathlib.Core.Path.{◌≡◌, refl, ap, ◌∙◌}
use mathlib.Core.Bool.{Bool, true, false, cond}
use mathlib.Core.List.{List, [], ◌∷◌, map}
use Prim.Native.Nat.{ℕ}
use lib.Dec.{eqb}
use lib.ListN.{length}
use borrow.Author.Rules.{rules}
use borrow.Author.Tests.{tests}
use denote.Ref.{Bor}
use Rattle.std.specs.List.{find, ends_with}
use Rattle.std.specs.Prelude.{Option, Some}
use Rattle.std.specs.Option.{option_map}
use Rattle.std.proofs.lemmas.Iterator.{YieldsList-from_slice}
use Rattle.std.proofs.lemmas.Iterator.Search.{find_from_yields_List}
use Rattle.statements.specs.Amounts.{units, unit_of}
use Rattle.statements.proofs.amounts.unit_of.Goals as goal

abbrev Lent : Type 0
Lent = Bor (List ℕ) × ℕ

abbrev Spelled : Type 0
Spelled = List ℕ × ℕ

abbrev lent_size : Lent → ℕ × ℕ
lent_size entry = (length entry.0.now, entry.1)

abbrev size : Spelled → ℕ × ℕ
size unit = (length unit.0, unit.1)

abbrev spelled_entry : Lent → Spelled
spelled_entry entry = (entry.0.now, entry.1)

-- the unit that a table gives a word
unit_from : (word : List ℕ) (table : List Lent)
    → option_map lent_size (find (λ (k : Lent). ends_with eqb word k.0.now) table)
    ≡ option_map size (find (λ (k : Spelled). ends_with eqb word k.0) (map spelled_entry table))
unit_from word [] = refl
unit_from word (entry ∷ rest) = here (ends_with eqb word entry.0.now) _ _ (unit_from word rest)
  where
    here : (b : Bool) (x : Option Lent) (y : Option Spelled) → option_map lent_size x ≡ option_map size y
        → option_map lent_size (cond b (Some entry) x) ≡ option_map size (cond b (Some (entry.0.now, entry.1)) y)
    here true x y e = refl
    here false x y e = e

same_unit : (word : List ℕ) (table : List Lent) (words : List Spelled) → map spelled_entry table ≡ words
    → option_map lent_size (find (λ (k : Lent). ends_with eqb word k.0.now) table)
    ≡ option_map size (find (λ (k : Spelled). ends_with eqb word k.0) words)
same_unit word table words e = rw (← e) (unit_from word table)

pub returns : goal.returns
unfolding unit_of
returns c =
    let word = c.args.word.now in
    let entries = c.iter.result.rest.now in
    let found : option_map (λ (y : Bor Lent). y.now) c.find.result ≡ find (λ (k : Lent). ends_with eqb word k.0.now) entries =
    find_from_yields_List (λ (k : Lent). ends_with eqb word k.0.now) _ _ c.find.result c.find.ensures.ran (YieldsList-from_slice entries refl) (λ x b q k. search (rules, tests)) in
    let mapped : c.map.result ≡ option_map lent_size (option_map (λ (y : Bor Lent). y.now) c.find.result) = search rules in
    mapped ∙ ap (option_map lent_size) found ∙ same_unit word entries units (ap (map spelled_entry) c.iter.ensures.rest)
