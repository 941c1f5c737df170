-- The model of an admitted design is bounded: each bond is finite, and at most 73,728 in size. Assumes nothing.
use mathlib.Core.Path.{◌≡◌}
use mathlib.Core.Bool.{true, false, ◌||◌}
use Prim.Native.Nat.{ℕ, ◌+◌, ◌*◌, ◌<◌}
use native.Mathlib.Omega.{arith}
use lib.Dec.{T, lit≤}
use lib.ListN.{length}
use lib.Ieee.{Float, binary64, fits, sub, mul}
use borrow.Author.Tests.{not-false}
use Rattle.lists.specs.Find.{any}
use Rattle.lists.proofs.Tests.{neither}
use Rattle.lists.proofs.Any.{none_passes, none_below}
use Rattle.lists.proofs.Build.{length-tabulate}
use Rattle.doubles.specs.Decimal.{plus, nearest, zero}
use Rattle.doubles.specs.Range.{within, in_range}
use Rattle.doubles.specs.Size.{Within}
use Rattle.doubles.proofs.Sums.{weaken, sub_within}
use Rattle.doubles.proofs.Products.{mul-within, div-within}
use Rattle.doubles.proofs.Bounds.{rt-range}
use Rattle.model.specs.Model.{Friend}
use Rattle.design.specs.Design.{Design, positions, strands, scaffold_glue, west, bottom, east, potential, cell, bond_of, strand_bond, scaffold_bond, strand_bond_in, scaffold_bond_in, friends_of, model_of}
use Rattle.design.specs.Checks.{outside, beyond, somewhere, unfit, cells_out, ambient_out, potentials_out, Admitted}
use Rattle.design.specs.Laws.{Doubles, BoundsRight}
use Rattle.design.proofs.Sizes.{Sized, sized}
use Rattle.design.proofs.FriendLaws.{friends-right, friend-tested}
use Rattle.design.proofs.Concentrations.{held, not_beyond, read-passes, friend-looked-at, potential-double}

-- (dG − excess × dS) / RT is at most (1,024 + 1,024 × 8) × 8 in size
bond-tight : (dg ds excess rt : Float) → Within binary64 1024 dg → Within binary64 8 ds → Within binary64 1024 excess → T (fits binary64 rt) → in_range (plus 125 3) (plus 8 0) rt ≡ true
    → Within binary64 73728 (bond_of dg ds excess rt)
bond-tight dg ds excess rt p q e t r =
    let heat = mul-within binary64 1024 8 excess ds e q (lit≤ tt) in
    let energy = sub_within binary64 1024 8192 dg (mul binary64 excess ds) p heat (lit≤ tt) in
    let w = rt-range rt t r in
    div-within binary64 9216 8 (sub binary64 dg (mul binary64 excess ds)) rt energy w.size.real w.eighths (lit≤ tt)

module _ (d : Design) (doubles : Doubles d) (a : Admitted d) where
  z : Sized d
  z = sized d a.sizes

  cells_in : (any (beyond 1024) d.dg ≡ false) × (any (beyond 8) d.ds ≡ false)
  cells_in = unfold cells_out in neither (any (beyond 1024) d.dg) (any (beyond 8) d.ds) a.cells

  index : (row column : ℕ) → row < 64 → column < 64 → row * 64 + column < 4096
  index row column h k = omega arith

  pub dg-in : (row column : ℕ) → row < 64 → column < 64 → Within binary64 1024 (cell d.dg row column)
  dg-in row column h k =
      let i : row * 64 + column < length d.dg = rw z.dg-cells (index row column h k) in
      not_beyond 1024 (lit≤ tt) (cell d.dg row column) (held d.dg (row * 64 + column) i (doubles.dg (row * 64 + column) i)) (none_passes (beyond 1024) zero d.dg cells_in.0 (row * 64 + column) i)

  pub ds-in : (row column : ℕ) → row < 64 → column < 64 → Within binary64 8 (cell d.ds row column)
  ds-in row column h k =
      let i : row * 64 + column < length d.ds = rw z.ds-cells (index row column h k) in
      not_beyond 8 (lit≤ tt) (cell d.ds row column) (held d.ds (row * 64 + column) i (doubles.ds (row * 64 + column) i)) (none_passes (beyond 8) zero d.ds cells_in.1 (row * 64 + column) i)

  pub rt-in : in_range (plus 125 3) (plus 8 0) d.ambient.rt.0 ≡ true
  unfolding ambient_out in_range
  rt-in =
      let w = neither (outside (nearest (plus 125 3)) (nearest (plus 8 0)) d.ambient.rt.0) (beyond 1024 d.ambient.strand_excess.0 || beyond 1024 d.ambient.scaffold_excess.0) a.ambient in
      not-false (within (nearest (plus 125 3)) (nearest (plus 8 0)) d.ambient.rt.0) w.0

  pub excesses-in : (beyond 1024 d.ambient.strand_excess.0 ≡ false) × (beyond 1024 d.ambient.scaffold_excess.0 ≡ false)
  unfolding ambient_out
  excesses-in =
      neither (beyond 1024 d.ambient.strand_excess.0) (beyond 1024 d.ambient.scaffold_excess.0)
      (neither (outside (nearest (plus 125 3)) (nearest (plus 8 0)) d.ambient.rt.0) (beyond 1024 d.ambient.strand_excess.0 || beyond 1024 d.ambient.scaffold_excess.0) a.ambient).1

  pub strand-bond-tight : (x y : ℕ) → x < strands d → y < strands d → Within binary64 73728 (strand_bond_in d x y)
  unfolding strand_bond
  strand-bond-tight x y h k =
      let e : east d.glues x < 64 = z.glues-low _ (omega arith) in
      let w : west d.glues y < 64 = z.glues-low _ (omega arith) in
      bond-tight (cell d.dg (east d.glues x) (west d.glues y)) (cell d.ds (east d.glues x) (west d.glues y)) _ _ (dg-in (east d.glues x) (west d.glues y) e w) (ds-in (east d.glues x) (west d.glues y) e w)
      (not_beyond 1024 (lit≤ tt) _ doubles.strand-excess excesses-in.0) doubles.rt rt-in

  pub scaffold-bond-tight : (i x : ℕ) → i < positions d → x < strands d → Within binary64 73728 (scaffold_bond_in d i x)
  unfolding scaffold_bond
  scaffold-bond-tight i x h k =
      let g : scaffold_glue d i < 64 = z.scaffold-low i h in
      let b : bottom d.glues x < 64 = z.glues-low _ (omega arith) in
      bond-tight (cell d.dg (scaffold_glue d i) (bottom d.glues x)) (cell d.ds (scaffold_glue d i) (bottom d.glues x)) _ _ (dg-in (scaffold_glue d i) (bottom d.glues x) g b) (ds-in (scaffold_glue d i) (bottom d.glues x) g b)
      (not_beyond 1024 (lit≤ tt) _ doubles.scaffold-excess excesses-in.1) doubles.rt rt-in

  -- the laws of models ask for 80,000
  pub strand-bond-within : (x y : ℕ) → x < strands d → y < strands d → Within binary64 80000 (strand_bond_in d x y)
  strand-bond-within x y h k = weaken 80000 (lit≤ tt) (strand-bond-tight x y h k)

  pub scaffold-bond-within : (i x : ℕ) → i < positions d → x < strands d → Within binary64 80000 (scaffold_bond_in d i x)
  scaffold-bond-within i x h k = weaken 80000 (lit≤ tt) (scaffold-bond-tight i x h k)

  -- a friend's potential was looked at
  potential-in : (i x : ℕ) → Friend (model_of d) i x → Within binary64 1024 (potential d x)
  potential-in i x f =
      let known = (friend-tested d i x f).1 in
      let seen = friend-looked-at d i x f in
      not_beyond 1024 (lit≤ tt) (potential d x) (potential-double d doubles a.concentrations x known seen)
      (read-passes (somewhere d.scaffold d.marks d.glues d.dg d.ds x) (beyond 1024 (potential d x)) seen (unfold potentials_out in none_below (unfit d) (strands d) a.potentials x known))

pub bounds-right : (d : Design) → BoundsRight d
unfolding model_of
bounds-right d doubles a =
    let s = sized d a.sizes in
    record {
      short = rw (length-tabulate (positions d) (friends_of d)) s.short;
      null = s.null;
      few = s.few;
      order = record { rising = (friends-right d).rising; not_null = (friends-right d).not_null a };
      known = λ i x f. (friend-tested d i x f).1;
      sites = λ i x f. let w = friend-tested d i x f in scaffold-bond-within d doubles a i x w.0 w.1;
      pairs = strand-bond-within d doubles a;
      potentials = potential-in d doubles a;
      rt-double = doubles.rt;
      rt-range = rt-in d doubles a;
    }
