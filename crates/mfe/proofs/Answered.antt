-- The search's answer, of every design and all that is lent. Assumes nothing.
use mathlib.Core.Path.{◌≡◌, refl, sym, ap, ap₂}
use mathlib.Core.Bool.{Bool, not}
use mathlib.Core.List.{List, []}
use Prim.Native.Nat.{ℕ}
use lib.Dec.{eqb}
use lib.ListN.{length}
use lib.Ieee.{binary64}
use borrow.Author.Tests.{eq-eqb, eqb-true, not-false}
use Rattle.doubles.specs.Decimal.{zero}
use Rattle.doubles.specs.Size.{Within}
use Rattle.reply.specs.First.{Check, first_of}
use Rattle.reply.specs.Figures.{figures_of, entries_of}
use Rattle.reply.proofs.Figures.{by-reply, number-admitted}
use Rattle.model.specs.Search as Search
use Rattle.model.specs.LowestConfiguration.{LowestConfiguration}
use Rattle.model.proofs.Bounds.{chain-product-within}
use Rattle.model.proofs.Search.{search-lowest}
use Rattle.design.specs.Design.{Design, positions, strands, model_of}
use Rattle.design.specs.Checks.{Admitted}
use Rattle.design.specs.Laws.{Doubles}
use Rattle.design.specs.Unread.{with_amounts}
use Rattle.design.proofs.Replies.{Passed, passed, own-decide}
use Rattle.design.proofs.BoundLaws.{bounds-right}
use Rattle.design.proofs.Finite.{zero_in}
use Rattle.design.proofs.Unread.{same-design-reply, same-models}
use Rattle.mfe.specs.Answers.{search_checks, search_answer, search_entries}
use Rattle.std.specs.Prelude.{Ok}
use Rattle.mfe.specs.Answered.{SearchAnswers, UnreadBySearch}

module _ (d : Design) (entries : List ℕ) where
  abbrev own_size : Bool
  own_size = not (eqb (length entries) (positions d))

  -- number 0 is that of a call that no check refuses
  pub number_passed : (search_answer d entries).number ≡ 0 → Passed own_size d [] []
  number_passed e =
      passed own_size d [] [] (number-admitted (first_of (search_checks d entries)) zero (Search.search (model_of d)).energy e)

  pub lent-right : Passed own_size d [] [] → length entries ≡ positions d
  lent-right p = eqb-true _ _ (not-false _ p.size)

  module _ (a : Admitted d) (l : length entries ≡ positions d) where
    pub reply : first_of (search_checks d entries) ≡ Ok tt
    reply = own-decide own_size d [] [] (ap not (eq-eqb _ _ l)) a refl

    number : (search_answer d entries).number ≡ 0
    number = rw reply refl

    shown : Doubles d → LowestConfiguration (model_of d) (search_entries d entries) (search_answer d entries).figure
    shown doubles = rw reply (search-lowest (model_of d) (strands d) (bounds-right d doubles a))

  energy-within : Doubles d → Within binary64 245760000 (search_answer d entries).figure
  energy-within doubles =
      by-reply (first_of (search_checks d entries)) (Within binary64 245760000) zero (Search.search (model_of d)).energy (zero_in 245760000)
      (λ e. let b = bounds-right d doubles (passed own_size d [] [] e).design in
      let l = search-lowest (model_of d) (strands d) b in
      rw l.energy (chain-product-within (model_of d) (strands d) b (Search.search (model_of d)).configuration l.places))

pub search-answered : SearchAnswers
search-answered d entries doubles = record {
  exactly = (λ e. let p = number_passed d entries e in (p.design, lent-right d entries p), λ w. number d entries w.0 w.1);
  lowest = λ e. let p = number_passed d entries e in shown d entries p.design (lent-right d entries p) doubles;
  finite = energy-within d entries doubles;
}

-- ---- amounts that are not read

pub unread-by-search : UnreadBySearch
unread-by-search d amounts given entries r =
    let other = with_amounts d amounts given in
    let checks : search_checks other entries ≡ search_checks d entries = same-design-reply d amounts given r (own_size d entries) [] [] in
    let found : Search.search (model_of d) ≡ Search.search (model_of other) = (same-models d amounts given r).searched in
    record {
      answer = ap₂ (λ (cs : List Check) (r : Search.SearchResult). figures_of (first_of cs) zero r.energy) (sym checks) found;
      written = ap₂ (λ (cs : List Check) (r : Search.SearchResult). entries_of (first_of cs) entries r.configuration) (sym checks) found;
    }
