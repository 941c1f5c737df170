-- `utils::Dna::self_complementary` meets its contract: each letter pairs with the one as far from the other end. Assumes nothing.
use Rattle.std.proofs.Common.{◌∙◌, rules, tests}
use Rattle.std.proofs.lemmas.Iterator.{YieldsList-from_slice, YieldsList-from_zip}
use Rattle.std.proofs.lemmas.Iterator.Adapters.{YieldsList-from_rev_slice, serves_from_places}
use Rattle.std.proofs.lemmas.Iterator.Search.{all_from_yields_List}
use Rattle.utils.proofs.Terms.{pairs, all_symmetric, both-bases}
use Rattle.utils.proofs.dna.Dna.self_complementary.Goals as goal

pub all-requires-clause-callable : goal.all-requires-clause-callable
all-requires-clause-callable c =
    let s = c.args.self.now.letters.now in
    serves_from_places (YieldsList-from_zip (YieldsList-from_rev_slice s cc) (YieldsList-from_slice s cc)) (λ x q k. search rules)
    (λ x k h e. let b = both-bases s k (x.0.now, x.1.now) c.args.self.now.bases h e in search (rules, b.0, b.1))

pub returns : goal.returns
returns c =
    let s = c.args.self.now.letters.now in
    all_from_yields_List pairs c.all.new.self _ _ c.all.ensures.ran (YieldsList-from_zip (YieldsList-from_rev_slice s cc) (YieldsList-from_slice s cc)) (λ x b q k. search (rules, tests)) ∙ all_symmetric s
