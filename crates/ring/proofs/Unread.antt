-- Rings of designs whose amounts read alike are answered alike. Assumes nothing.
use mathlib.Core.Path.{◌≡◌, sym, ap, ap₂, ◌∙◌}
use mathlib.Core.Bool.{Bool, not}
use mathlib.Core.List.{List, [], ◌∷◌}
use Prim.Native.Nat.{ℕ}
use lib.Dec.{eqb}
use lib.ListN.{length}
use lib.Ieee.{Float}
use borrow.Author.Tests.{eqb-true, not-false}
use Rattle.doubles.specs.Decimal.{zero}
use Rattle.reply.specs.First.{Check, ◌if◌, first_of}
use Rattle.reply.specs.Figures.{figures_of, entries_of}
use Rattle.reply.specs.declared.Refusal.TheVariants.{NotAFriend}
use Rattle.reply.proofs.First.{passes}
use Rattle.reply.proofs.Figures.{same-figures}
use Rattle.model.specs.Model.{State}
use Rattle.model.specs.Search.{SearchResult}
use Rattle.model.specs.Ring.{ring_energy}
use Rattle.model.specs.Read.{RingAlike}
use Rattle.model.proofs.Read.{rings-read}
use Rattle.design.specs.declared.Amounts.{Amounts}
use Rattle.design.specs.Design.{Design, positions, model_of}
use Rattle.design.specs.Checks.{not_all_friends, design_checks, own_energy_checks}
use Rattle.design.specs.Unread.{with_amounts, ReadAlike}
use Rattle.design.proofs.FriendLaws.{friends-right}
use Rattle.design.proofs.Replies.{passed}
use Rattle.design.proofs.Unread.{same_read, all-friends-same, same-design-reply}
use Rattle.std.specs.Prelude.{Ok}
use Rattle.ring.specs.Answers.{own_ring_checks, ring_energy_checks, ring_search_checks}
use Rattle.ring.specs.Unread.{UnreadByRings}

module _ (d : Design) (amounts : List Float) (given : Amounts) (r : ReadAlike d amounts given) where
  abbrev other : Design
  other = with_amounts d amounts given

  alike : RingAlike (model_of d) (model_of other)
  alike = rings-read (model_of d) (model_of other) (same_read d amounts given r)

  abbrev many : List ℕ → Bool
  many s = not (eqb (length s) (positions d))

  energy-same : (s : List ℕ) → ring_energy_checks d s ≡ ring_energy_checks other s
  energy-same s =
      sym (same-design-reply d amounts given r (many s) (own_energy_checks d s) (own_ring_checks d))
      ∙ ap (λ (b : Bool). design_checks (many s) other (NotAFriend if b ∷ []) (own_ring_checks d)) (sym (all-friends-same d amounts given r s))

  search-same : (s : List ℕ) → ring_search_checks d s ≡ ring_search_checks other s
  search-same s = sym (same-design-reply d amounts given r (many s) [] (own_ring_checks d))

  -- a configuration that no check refuses is a state
  taken : (s : List ℕ) → first_of (ring_energy_checks d s) ≡ Ok tt → State (model_of d) s
  taken s e =
      let p = passed (many s) d (own_energy_checks d s) (own_ring_checks d) e in
      ((friends-right d).states s (eqb-true _ _ (not-false _ p.size))).0 (passes (NotAFriend if not_all_friends d s) [] p.own).0

pub unread-by-rings : UnreadByRings
unread-by-rings d amounts given r =
    let other = with_amounts d amounts given in
    record {
      energies = λ s.
          same-figures (first_of (ring_energy_checks d s)) zero _ _ (λ e. (alike d amounts given r).energies s (taken d amounts given r s e))
          ∙ ap (λ (cs : List Check). figures_of (first_of cs) zero (ring_energy (model_of other) s)) (energy-same d amounts given r s);
      searches = λ entries. ap₂ (λ (cs : List Check) (found : SearchResult). figures_of (first_of cs) zero found.energy) (search-same d amounts given r entries) (alike d amounts given r).searched;
      searched_entries = λ entries. ap₂ (λ (cs : List Check) (found : SearchResult). entries_of (first_of cs) entries found.configuration) (search-same d amounts given r entries) (alike d amounts given r).searched;
    }
