-- `statements::grammar::Kind::of` meets its contract: the table is that of the definition. Assumes nothing.
use mathlib.Core.Path.{◌≡◌, refl, ap, ◌∙◌}
use mathlib.Core.Bool.{Bool, true, false, cond}
use mathlib.Core.List.{List, [], ◌∷◌, map}
use Prim.Native.Nat.{ℕ}
use borrow.Author.Rules.{rules}
use borrow.Author.Tests.{tests}
use denote.Ref.{Bor}
use Rattle.std.specs.List.{find}
use Rattle.std.specs.Prelude.{Option, Some}
use Rattle.std.specs.Option.{option_map}
use Rattle.std.proofs.lemmas.Iterator.{YieldsList-from_slice}
use Rattle.std.proofs.lemmas.Iterator.Search.{find_from_yields_List}
use Rattle.statements.specs.Words.{spells}
use Rattle.statements.specs.Grammar.{kind_of, keywords}
use Rattle.statements.specs.declared.grammar.Kind.{Kind}
use Rattle.statements.proofs.grammar.Kind.of.Goals as goal

abbrev Entry : Type 0
Entry = Bor (List ℕ) × Kind

abbrev kind_in : Entry → Kind
kind_in entry = entry.1

abbrev spelled_entry : Entry → List ℕ × Kind
spelled_entry entry = (entry.0.now, entry.1)

-- the kind that a table gives a word
kind_from : (word : List ℕ) (table : List Entry)
    → option_map kind_in (find (λ (k : Entry). spells word k.0.now) table)
    ≡ option_map (λ (k : List ℕ × Kind). k.1) (find (λ (k : List ℕ × Kind). spells word k.0) (map spelled_entry table))
kind_from word [] = refl
kind_from word (entry ∷ rest) = here (spells word entry.0.now) _ _ (kind_from word rest)
  where
    here : (b : Bool) (x : Option Entry) (y : Option (List ℕ × Kind)) → option_map kind_in x ≡ option_map (λ (k : List ℕ × Kind). k.1) y
        → option_map kind_in (cond b (Some entry) x) ≡ option_map (λ (k : List ℕ × Kind). k.1) (cond b (Some (entry.0.now, entry.1)) y)
    here true x y e = refl
    here false x y e = e

same_kind : (word : List ℕ) (table : List Entry) (words : List (List ℕ × Kind)) → map spelled_entry table ≡ words
    → option_map kind_in (find (λ (k : Entry). spells word k.0.now) table)
    ≡ option_map (λ (k : List ℕ × Kind). k.1) (find (λ (k : List ℕ × Kind). spells word k.0) words)
same_kind word table words e = rw (← e) (kind_from word table)

pub returns : goal.returns
unfolding kind_of
returns c =
    let word = c.args.word.now in
    let entries = c.iter.result.rest.now in
    let found : option_map (λ (y : Bor Entry). y.now) c.find.result ≡ find (λ (k : Entry). spells word k.0.now) entries =
    find_from_yields_List (λ (k : Entry). spells word k.0.now) _ _ c.find.result c.find.ensures.ran (YieldsList-from_slice entries refl) (λ x b q k. search (rules, tests)) in
    let mapped : c.map.result ≡ option_map kind_in (option_map (λ (y : Bor Entry). y.now) c.find.result) = search rules in
    mapped ∙ ap (option_map kind_in) found ∙ same_kind word entries keywords (ap (map spelled_entry) c.iter.ensures.rest)
