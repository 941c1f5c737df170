use mathlib.Core.Path.{◌≡◌, sym, ◌∙◌}
use Prim.Native.Nat.{◌/◌}
use lib.ListN.{length}
use lib.Ieee.{neg}
use Rattle.std.proofs.Common.{rules, tests}
use Rattle.std.proofs.lemmas.Iterator.{YieldsList-from_slice}
use Rattle.std.proofs.lemmas.Iterator.Search.{any_from_yields_List}
use Rattle.lists.specs.Find.{any}
use Rattle.lists.proofs.Searches.{any_is}
use Rattle.design.specs.Checks.{outside}
use Rattle.design.proofs.Chunks.{any-by-chunks}
use Rattle.design.proofs.ranges.some_beyond.Goals as goal

pub returns-then-any : goal.returns-then-any
returns-then-any c =
    let p = outside (neg c.args.most) c.args.most in
    let xs = c.args.numbers.now in
    let chunks = c.as_chunks.ensures in
    let found : c.any.result ≡ any (any p) c.as_chunks.result.0.now =
    any_from_yields_List (any p) _ _ c.any.result c.any.ensures.ran (YieldsList-from_slice c.as_chunks.result.0.now cc) (λ x b q k. search (rules, tests)) ∙ any_is (any p) c.as_chunks.result.0.now in
    let some = sym found ∙ c.if-any.true in
    sym (any-by-chunks p 16 (length xs / 16) xs ∙ rw (sym chunks.front, some) (sym c.if-any.true))

pub returns-else-any : goal.returns-else-any
returns-else-any c =
    let p = outside (neg c.args.most) c.args.most in
    let xs = c.args.numbers.now in
    let chunks = c.as_chunks.ensures in
    let found : c.any.result ≡ any (any p) c.as_chunks.result.0.now =
    any_from_yields_List (any p) _ _ c.any.result c.any.ensures.ran (YieldsList-from_slice c.as_chunks.result.0.now cc) (λ x b q k. search (rules, tests)) ∙ any_is (any p) c.as_chunks.result.0.now in
    let none = sym found ∙ c.if-any.false in
    sym (any-by-chunks p 16 (length xs / 16) xs ∙ rw (sym chunks.front, none, sym chunks.back) (sym c.one_beyond.ensures))
