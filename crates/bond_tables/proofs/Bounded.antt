-- A design with lent bonds is within the bounds under which the laws of energies and the search hold, where its checks pass. Assumes nothing.
use mathlib.Core.Path.{◌≡◌, subst}
use mathlib.Core.Bool.{false, not}
use mathlib.Core.List.{List}
use mathlib.Core.Logic.{◌⊎◌, inl, inr}
use Prim.Native.Nat.{ℕ, ◌+◌, ◌*◌, ◌<◌}
use lib.Dec.{T, lit≤, eqb}
use lib.ListN.{length, get_or}
use lib.Ieee.{Float, nan, binary64, fits}
use borrow.Author.Tests.{not-false, eq-eqb, eqb-true}
use Rattle.lists.specs.Find.{any}
use Rattle.lists.proofs.Places.{get_or-default}
use Rattle.lists.proofs.Tests.{neither}
use Rattle.lists.proofs.Any.{none_passes}
use Rattle.lists.proofs.Grid.{cell_in}
use Rattle.doubles.specs.Decimal.{plus, minus, nearest, zero}
use Rattle.doubles.specs.Range.{within, in_range}
use Rattle.doubles.specs.Size.{Within}
use Rattle.doubles.proofs.Bounds.{in-range-within}
use Rattle.model.specs.Model.{Friend}
use Rattle.model.specs.Bounds.{Bounded}
use Rattle.model.specs.LowestConfiguration.{LowestConfiguration}
use Rattle.model.proofs.Search.{own, search-lowest}
use Rattle.ensemble.specs.Layout.{BondCells, Found}
use Rattle.design.specs.Design.{Design, positions, strands, model_of}
use Rattle.design.specs.Checks.{beyond, Admitted}
use Rattle.design.specs.Unread.{PotentialsOf}
use Rattle.design.proofs.Cells.{potential-lent}
use Rattle.design.specs.Laws.{Doubles}
use Rattle.design.proofs.Sizes.{sized}
use Rattle.design.proofs.FriendLaws.{friends-right, friend-tested}
use Rattle.design.proofs.BoundLaws.{bounds-right}
use Rattle.bond_tables.specs.Tables.{wrong_tables, bonds_out, CellDoubles, model_over}

bond-within : (x : Float) → T (fits binary64 x) → beyond 80000 x ≡ false → Within binary64 80000 x
unfolding in_range
bond-within x t e = in-range-within 80000 (lit≤ tt) x t (not-false (within (nearest (minus 80000 0)) (nearest (plus 80000 0)) x) e)

cell-within : (cells : List Float) → CellDoubles cells → any (beyond 80000) cells ≡ false → (k : ℕ) → k < length cells → Within binary64 80000 (get_or cells k zero)
cell-within cells doubles none k h =
    let fit : T (fits binary64 (get_or cells k zero)) = subst (λ (y : Float). T (fits binary64 y)) (get_or-default cells k nan zero h) (doubles k h) in
    bond-within (get_or cells k zero) fit (none_passes (beyond 80000) zero cells none k h)

pub tables-fit : (d : Design) (t u : List Float) → length t ≡ strands d * strands d → length u ≡ positions d * strands d → wrong_tables d t u ≡ false
tables-fit d t u e f = simp (eq-eqb _ _ e, eq-eqb _ _ f)

module _ (d : Design) (t u : List Float) (sizes : wrong_tables d t u ≡ false) where
  pub table-sizes : (length t ≡ strands d * strands d) × (length u ≡ positions d * strands d)
  table-sizes =
      let w = neither (not (eqb (length t) (strands d * strands d))) (not (eqb (length u) (positions d * strands d))) sizes in
      (eqb-true _ _ (not-false _ w.0), eqb-true _ _ (not-false _ w.1))

  pub pair_place : (x y : ℕ) → x < strands d → y < strands d → x * strands d + y < length t
  pair_place x y h k = rw table-sizes.0 (cell_in (strands d) h k)

  pub site-place : (i x : ℕ) → i < positions d → x < strands d → i * strands d + x < length u
  site-place i x h k = rw table-sizes.1 (cell_in (strands d) h k)

  module _ (a : Admitted d) where
    -- an option is one of the strands
    option-known : (i x : ℕ) → (x ≡ 0) ⊎ Friend (model_of d) i x → x < strands d
    option-known i x (inl e) = rw e (sized d a.sizes).null
    option-known i x (inr f) = (friend-tested d i x f).1

    -- the cells are those that a search over the model reads
    pub cells-lent : (potentials : List Float) → PotentialsOf d potentials → BondCells (model_over d t u) (strands d) t u potentials
    unfolding model_over
    cells-lent potentials lent = record {
      not_null = (friends-right d).not_null a;
      pairs = λ i x y h o f. get_or-default t (x * strands d + y) nan zero (pair_place x y (option-known i x (own (model_of d) i x o)) (friend-tested d (i + 1) y f).1);
      sites = λ i y h f. let w = friend-tested d i y f in get_or-default u (i * strands d + y) nan zero (site-place i y w.0 w.1);
      logs = λ i y h f. potential-lent d potentials lent i y f;
    }

    pub bounded-over : Doubles d → CellDoubles t → CellDoubles u → bonds_out t u ≡ false → Bounded (model_over d t u) (strands d)
    unfolding model_over bonds_out
    bounded-over doubles dt du out =
        let b = bounds-right d doubles a in
        let each = neither (any (beyond 80000) t) (any (beyond 80000) u) out in
        record {
          short = b.short;
          null = b.null;
          few = b.few;
          order = record { rising = b.order.rising; not_null = b.order.not_null };
          known = b.known;
          sites = λ i x f. let w = friend-tested d i x f in cell-within u du each.1 (i * strands d + x) (site-place i x w.0 w.1);
          pairs = λ x y h k. cell-within t dt each.0 (x * strands d + y) (pair_place x y h k);
          potentials = b.potentials;
          rt-double = b.rt-double;
          rt-range = b.rt-range;
        }

    -- demand 3
    pub lowest-over : Doubles d → CellDoubles t → CellDoubles u → bonds_out t u ≡ false → {written : List ℕ} {energy : Float} → Found (model_over d t u) written energy → LowestConfiguration (model_over d t u) written energy
    lowest-over doubles dt du out w = rw (w.shown, w.least) (search-lowest (model_over d t u) (strands d) (bounded-over doubles dt du out))
