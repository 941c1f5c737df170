-- Two sequences (`sequence_pair_dg_ds`), both read by index: windows of two neighbouring places, left to right.
use Rattle.std.specs.Prelude.{◌≡◌, Bool, cond, not, ◌&&◌, ◌||◌, List, [], ◌∷◌, ◌++◌, ℕ, ◌+◌, ◌-◌, eqb, ltb, Float, length}
use Rattle.std.specs.Float.{binary64}
use Rattle.std.specs.Float.Ieee.{add}
use Rattle.lists.specs.Find.{any}
use Rattle.lists.specs.Fold.{foldl}
use Rattle.doubles.specs.Decimal.{plus, nearest, zero}
use Rattle.reply.specs.First.{Check, ◌if◌, first_of, answer}
use Rattle.reply.specs.declared.Refusal.TheVariants.{WrongSize, NotABase, UnequalLengths, NoSuchLoop}
use Rattle.utils.specs.Answers.{DgDsFigures, refused_dg_ds, given_dg_ds}
use Rattle.utils.specs.Bases.{Base, bases, not_a_base, complementary}
use Rattle.utils.specs.Figures.{stack_dg, stack_ds, mismatch_dg, admitted_length, loop_energy}
use Rattle.utils.specs.Single.{too_long}
use Rattle.utils.specs.declared.bases.DnaNucleotideBase.TheVariants.{A, T}
use Rattle.utils.specs.declared.tables.LoopKind.TheVariants.{Internal}

-- two neighbouring places: a1 a2 of one strand over b1 b2 of the other
pub record Window : Type 0 where
  pub a1 : Base
  pub a2 : Base
  pub b1 : Base
  pub b2 : Base

-- a window out of its four bases
abbrev pub window : Base → Base → Base → Base → Window
window a1 a2 b1 b2 = record { a1 = a1; a2 = a2; b1 = b1; b2 = b2 }

-- the windows of two strands, left to right; none where a strand has fewer than 2 places
unfoldable pub windows : List Base → List Base → List Window
windows [] b = []
windows (a1 ∷ []) b = []
windows (a1 ∷ a2 ∷ a) [] = []
windows (a1 ∷ a2 ∷ a) (b1 ∷ []) = []
windows (a1 ∷ a2 ∷ a) (b1 ∷ b2 ∷ b) = window a1 a2 b1 b2 ∷ windows (a2 ∷ a) (b2 ∷ b)

-- "good if both places are complementary"
abbrev pub good : Window → Bool
good w = complementary w.a1 w.b1 && complementary w.a2 w.b2

-- the sums so far, and how many bad windows stand in a row up to here
pub record Sums : Type 0 where
  pub dg : Float
  pub ds : Float
  pub bad : ℕ

-- a good window after k bad ones ends a loop of length k − 1, if k > 2
abbrev pub ends_loop : ℕ → Bool
ends_loop k = ltb 2 k

-- over the loop energy of a length, and whether a length is admitted
module _ (loop_energy : ℕ → Float) (admitted : ℕ → Bool) where
  -- the energy of the loop that ends here is added; a loop that is not admitted adds none, and is refused
  abbrev pub with_loop : ℕ → Float → Float
  with_loop k dg = cond (ends_loop k && admitted (k - 1)) (add binary64 dg (loop_energy (k - 1))) dg

  -- the pair energy, then the loop's; any good window starts the count anew
  abbrev pub after_good : Sums → Base → Base → Sums
  after_good s a1 a2 =
      record {
        dg = with_loop s.bad (add binary64 s.dg (stack_dg a1 a2));
        ds = add binary64 s.ds (stack_ds a1 a2);
        bad = 0;
      }

  -- the mismatch energy, and no entropy
  abbrev pub after_bad : Sums → Window → Sums
  after_bad s w =
      record {
        dg = add binary64 s.dg (mismatch_dg w.a1 w.a2 w.b1 w.b2);
        ds = s.ds;
        bad = s.bad + 1;
      }

  -- the sums after one window more
  abbrev pub after_window : Sums → Window → Sums
  after_window s w = cond (good w) (after_good s w.a1 w.a2) (after_bad s w)

-- the sums before the first window
abbrev pub no_sums : Sums
no_sums = record { dg = zero; ds = zero; bad = 0 }

-- internal loops, of 3 to 254
unfoldable pub step : Sums → Window → Sums
step = after_window (loop_energy Internal) admitted_length

-- the sums over all windows of two strands
unfoldable pub pair_sums : List Base → List Base → Sums
pair_sums a b = foldl step no_sums (windows a b)

-- bad windows at the end add no loop: AAAAA over TAAAA ends in four, of which the first alone has a mismatch next to a pair
abbrev pub NoLoopAtTheEnd : Type 0
NoLoopAtTheEnd = (pair_sums (A ∷ A ∷ A ∷ A ∷ A ∷ []) (T ∷ A ∷ A ∷ A ∷ A ∷ [])).dg ≡ nearest (plus 61 2)

-- the lengths of the loops that windows need after k bad ones: k − 1 at each good window after k > 2 bad ones
unfoldable pub needed_after : ℕ → List Window → List ℕ
needed_after k [] = []
needed_after k (w ∷ ws) = cond (good w) (cond (ends_loop k) ((k - 1) ∷ needed_after 0 ws) (needed_after 0 ws)) (needed_after (k + 1) ws)

-- the lengths of the loops that two strands need
abbrev pub needed_loops : List Base → List Base → List ℕ
needed_loops a b = needed_after 0 (windows a b)

-- a length that has no energy
abbrev pub lacking : ℕ → Bool
lacking n = not (admitted_length n)

-- a needed loop length has no energy
unfoldable pub lacks_loop : List ℕ → List ℕ → Bool
lacks_loop a b = any lacking (needed_loops (bases a) (bases b))

-- what is refused of two strands before their loops are looked at
abbrev pub strand_checks : List ℕ → List ℕ → List Check
strand_checks a b =
    WrongSize if (too_long a || too_long b)
    ∷ NotABase if (any not_a_base a || any not_a_base b)
    ∷ UnequalLengths if not (eqb (length a) (length b))
    ∷ []

-- what is refused of two strands, refusal 5 included
abbrev pub pair_checks : List ℕ → List ℕ → List Check
pair_checks a b = strand_checks a b ++ (NoSuchLoop if lacks_loop a b ∷ [])

-- the answer of `sequence_pair_dg_ds`; no initiation is added
unfoldable pub sequence_pair_dg_ds : List ℕ → List ℕ → DgDsFigures
sequence_pair_dg_ds a b =
    let sums = pair_sums (bases a) (bases b) in
    answer (first_of (pair_checks a b)) refused_dg_ds (given_dg_ds sums.dg sums.ds)
