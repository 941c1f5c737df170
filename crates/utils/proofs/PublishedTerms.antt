-- The published mode's terms are the paper's, and those of a self-complementary sequence are there exactly where it is one. Assumes nothing.
use mathlib.Core.Path.{◌≡◌, refl, ap, ap₂, sym, ◌∙◌}
use mathlib.Core.Bool.{true, false, false≢true}
use mathlib.Core.List.{List, [], ◌∷◌, map}
use Prim.Native.Nat.{ℕ}
use borrow.Author.Tests.{eqb-true, eq-eqb}
use Rattle.lists.proofs.Tests.{both, and_both}
use Rattle.doubles.specs.Decimal.{nearest}
use Rattle.doubles.specs.Sum.{sum_from}
use Rattle.reply.specs.First.{first_of}
use Rattle.utils.specs.Answers.{given_dg_ds}
use Rattle.utils.specs.Bases.{Base, bases, index_of, same}
use Rattle.utils.specs.Paper.{initiation_dg, initiation_ds, terminal_dg, terminal_ds, symmetry_dg, symmetry_ds, kilo}
use Rattle.utils.specs.Figures.{stack_dg, stack_ds, start_dg, printed_start_ds, end_dg, end_ds, symmetric_dg, symmetric_ds}
use Rattle.utils.specs.Single.{stack_sum, sequence_checks}
use Rattle.utils.specs.Terms.{is_a_or_t, first_base, last_base, reverse_complement, same_bases, self_complementary, terms_after, published_dg, published_ds, published_dna_dg_ds}
use Rattle.utils.specs.Published.{PublishedTerms}
use Rattle.utils.proofs.Letters.{numbered, numbered-index}
use Rattle.std.specs.Prelude.{Ok}
use Rattle.utils.proofs.Exact.{terms, terms-mapped}

one-base : (a b : Base) → same a b ≡ true → a ≡ b
one-base a b e = sym (numbered-index a) ∙ ap numbered (eqb-true (index_of a) (index_of b) e) ∙ numbered-index b

one-sequence : (s t : List Base) → same_bases s t ≡ true → s ≡ t
unfolding same_bases
one-sequence [] [] e = refl
one-sequence [] (b ∷ t) e = absurd (false≢true e)
one-sequence (a ∷ s) [] e = absurd (false≢true e)
one-sequence (a ∷ s) (b ∷ t) e =
    let halves = both (same a b) (same_bases s t) e in
    let first : a ≡ b = one-base a b halves.0 in
    let rest : s ≡ t = one-sequence s t halves.1 in
    cc

itself : (s : List Base) → same_bases s s ≡ true
unfolding same_bases
itself [] = refl
itself (a ∷ s) = and_both (eq-eqb (index_of a) (index_of a) refl) (itself s)

symmetric : (s : List Base) → self_complementary s ≡ true → reverse_complement s ≡ s
unfolding self_complementary
symmetric s e = one-sequence (reverse_complement s) s e

unsymmetric : (s : List Base) → self_complementary s ≡ false → reverse_complement s ≡ s → ⊥
unfolding self_complementary
unsymmetric s e same = false≢true (sym e ∙ ap (λ t. same_bases t s) same ∙ itself s)

answer : (s : List ℕ) → first_of (sequence_checks s) ≡ Ok tt
    → published_dna_dg_ds s ≡ given_dg_ds (published_dg (bases s)) (published_ds (bases s))
unfolding published_dna_dg_ds
answer s e = rw e

module _ (s : List Base) where
  dg-terms : published_dg s ≡ sum_from (stack_sum stack_dg s) (map nearest (terms_after initiation_dg terminal_dg symmetry_dg s))
  unfolding published_dg terms_after terms start_dg end_dg symmetric_dg initiation_dg terminal_dg symmetry_dg
  dg-terms = ap (sum_from (stack_sum stack_dg s)) (sym (terms-mapped initiation_dg terminal_dg symmetry_dg (is_a_or_t (first_base s)) (is_a_or_t (last_base s)) (self_complementary s)))

  ds-terms : published_ds s ≡ sum_from (stack_sum stack_ds s) (map nearest (terms_after (kilo initiation_ds) (kilo terminal_ds) (kilo symmetry_ds) s))
  unfolding published_ds terms_after terms printed_start_ds end_ds symmetric_ds initiation_ds terminal_ds symmetry_ds
  ds-terms = ap (sum_from (stack_sum stack_ds s)) (sym (terms-mapped (kilo initiation_ds) (kilo terminal_ds) (kilo symmetry_ds) (is_a_or_t (first_base s)) (is_a_or_t (last_base s)) (self_complementary s)))

pub published-terms : PublishedTerms
unfolding start_dg printed_start_ds end_dg end_ds symmetric_dg symmetric_ds
published-terms =
    record {
      initiation = (refl, refl);
      terminal = (refl, refl);
      symmetry = (refl, refl);
      symmetric = symmetric;
      unsymmetric = unsymmetric;
      answer = λ s e. answer s e ∙ ap₂ given_dg_ds (dg-terms (bases s)) (ds-terms (bases s));
    }
