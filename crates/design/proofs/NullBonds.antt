-- A strand bond with an empty place is a zero in an admitted design, so that both energies of a state lie near each other. Assumes nothing.
use mathlib.Core.Path.{◌≡◌, refl, sym, ap, ap₂, ◌∙◌, subst}
use mathlib.Core.Bool.{Bool, true, false, not, ◌||◌}
use Prim.Native.Nat.{ℕ, ◌+◌, ◌-◌, ◌*◌, ◌^◌, ◌<◌, ◌≤◌}
use native.Mathlib.Nat.{mul-zero, mul-pos}
use native.Mathlib.Omega.{arith}
use lib.Dec.{T, eqb, lit≤}
use lib.Pow.{pow_pos}
use lib.Ieee as Ieee
use lib.Ieee.{Float, Format, binary64, low, ne, sub, mul}
use borrow.Author.Tests.{eqb-true, not-false}
use Rattle.lists.specs.Build.{up_to}
use Rattle.lists.specs.Find.{any}
use Rattle.lists.proofs.Tests.{neither}
use Rattle.lists.proofs.Any.{none_below}
use Rattle.doubles.specs.Decimal as Decimal
use Rattle.doubles.specs.Size.{Real, Within, mag, sgn}
use Rattle.doubles.specs.Order.{over, under}
use Rattle.doubles.specs.Near.{two_to_minus, Near}
use Rattle.doubles.proofs.Size.{grid, grid-zero}
use Rattle.doubles.proofs.Order.{Le-antisymm}
use Rattle.doubles.proofs.Sums.{Rounds, sub-rounds, sub_within}
use Rattle.doubles.proofs.Products.{mul-rounds, mul-within, div-rounds}
use Rattle.doubles.proofs.Bounds.{Rt, rt-range, zero-within}
use Rattle.model.specs.TwoEnergies.{NullBonds}
use Rattle.model.proofs.TwoEnergies.{zero-parts, two-energies}
use Rattle.reply.specs.First.{first_of}
use Rattle.design.specs.Design.{Design, strands, west, bottom, east, cell, binding, bond_of, strand_bond, strand_bond_in, model_of}
use Rattle.design.specs.Checks.{Admitted, null_glued, null_cells, null_binds, energy_checks}
use Rattle.design.specs.Answers.{state_energy_answer, chain_energy_answer}
use Rattle.design.specs.Laws.{Doubles}
use Rattle.design.specs.TwoEnergies.{AdmittedNear, FiguresNear}
use Rattle.design.proofs.Sizes.{Sized, sized}
use Rattle.design.proofs.Concentrations.{not_beyond}
use Rattle.design.proofs.BoundLaws.{dg-in, ds-in, rt-in, excesses-in, strand-bond-within, bounds-right}
use Rattle.std.specs.Prelude.{Ok, Err}
use Rattle.reply.specs.Number.{Reply}
use Rattle.design.proofs.Finite.{taken}

-- nothing over zero, and nothing under it
abbrev Null : Float → Type 0
Null x = (over binary64 x ≡ 0) × (under binary64 x ≡ 0)

-- what is not unlike 0.0 is a zero of either sign
not-unlike : (x : Float) → Real binary64 x → ne x Decimal.zero ≡ false → Null x
unfolding ne
not-unlike x r e = zero-parts x r (not-false (Ieee.eq x Decimal.zero) e)

-- and such a zero equals 0.0
null-eq : (x : Float) → Real binary64 x → Null x → Ieee.eq x Decimal.zero ≡ true
unfolding over under mag sgn
null-eq x r z = holds (Ieee.eq x Decimal.zero) (Le-antisymm binary64 x Decimal.zero r zero-within.real (record { rise = omega (arith, z.0); fall = omega arith }) (record { rise = omega arith; fall = omega (arith, z.1) }))
  where
    holds : (t : Bool) → T t → t ≡ true
    holds true h = refl
    holds false h = absurd h

-- what is rounded from nothing is nothing
rounds-null : (f : Format) (z : Float) (p n c : ℕ) → 0 < c → p ≡ 0 → n ≡ 0 → Rounds f z p n c → (over f z ≡ 0) × (under f z ≡ 0)
rounds-null f z p n c C h k r = (
  r.0 ∙ ap (λ (a : ℕ). grid f a c) (let e : p - n ≡ 0 = omega arith in e) ∙ grid-zero f c C,
  r.1 ∙ ap (λ (a : ℕ). grid f a c) (let e : n - p ≡ 0 = omega arith in e) ∙ grid-zero f c C,
)

times-null : (a b c d : ℕ) → c ≡ 0 → d ≡ 0 → (a * c + b * d ≡ 0) × (a * d + b * c ≡ 0)
times-null a b c d h k = (
  ap₂ (λ (x y : ℕ). a * x + b * y) h k ∙ ap₂ ◌+◌ (mul-zero a) (mul-zero b),
  ap₂ (λ (x y : ℕ). a * x + b * y) k h ∙ ap₂ ◌+◌ (mul-zero a) (mul-zero b),
)

-- the bond of two zeros
bond-null : (dg ds excess rt : Float) → Within binary64 1024 dg → Within binary64 8 ds → Within binary64 1024 excess → Rt rt → Null dg → Null ds → Null (bond_of dg ds excess rt)
bond-null dg ds excess rt p q e w z y =
    let f = binary64 in
    let U : 0 < 2 ^ low f = pow_pos (low f) in
    let heat = mul-within f 1024 8 excess ds e q (lit≤ tt) in
    let energy = sub_within f 1024 8192 dg (mul f excess ds) p heat (lit≤ tt) in
    let t = times-null (over f excess) (under f excess) (over f ds) (under f ds) y.0 y.1 in
    let h = rounds-null f (mul f excess ds) _ _ (2 ^ low f * 2 ^ low f) (mul-pos U U) t.0 t.1 (mul-rounds f excess ds e.real q.real) in
    let s = rounds-null f (sub f dg (mul f excess ds)) _ _ (2 ^ low f) U (both-null _ _ z.0 h.1) (both-null _ _ z.1 h.0) (sub-rounds f dg (mul f excess ds) p.real heat.real) in
    let R : 0 < over f rt = above _ _ U w.eighths in
    rounds-null f (bond_of dg ds excess rt) _ _ (over f rt) R s.0 s.1 (div-rounds f (sub f dg (mul f excess ds)) rt energy.real w.size.real R)
  where
    above : (unit size : ℕ) → 0 < unit → unit ≤ 8 * size → 0 < size
    above unit size h k = omega arith

    both-null : (a b : ℕ) → a ≡ 0 → b ≡ 0 → a + b ≡ 0
    both-null a b h k = omega arith

module _ (d : Design) (doubles : Doubles d) (a : Admitted d) where
  z : Sized d
  z = sized d a.sizes

  nulls : (null_glued d.glues ≡ false) × (any (null_cells d.dg d.ds) (up_to 64) ≡ false)
  unfolding null_binds
  nulls = neither (null_glued d.glues) (any (null_cells d.dg d.ds) (up_to 64)) a.null

  -- strand 0 has no glue to its west and none to its east
  glues-null : (west d.glues 0 ≡ 0) × (east d.glues 0 ≡ 0)
  glues-null =
      let g = neither (not (eqb (west d.glues 0) 0)) (not (eqb (bottom d.glues 0) 0) || not (eqb (east d.glues 0) 0)) nulls.0 in
      let b = neither (not (eqb (bottom d.glues 0) 0)) (not (eqb (east d.glues 0) 0)) g.1 in
      (eqb-true (west d.glues 0) 0 (not-false _ g.0), eqb-true (east d.glues 0) 0 (not-false _ b.1))

  -- row 0 and column 0 are zeros
  lines : (glue : ℕ) → glue < 64 → (binding d.dg d.ds 0 glue ≡ false) × (binding d.dg d.ds glue 0 ≡ false)
  lines glue h = neither (binding d.dg d.ds 0 glue) (binding d.dg d.ds glue 0) (none_below (null_cells d.dg d.ds) 64 nulls.1 glue h)

  null-at : (row column : ℕ) → row < 64 → column < 64 → binding d.dg d.ds row column ≡ false
      → Null (bond_of (cell d.dg row column) (cell d.ds row column) d.ambient.strand_excess.0 d.ambient.rt.0)
  null-at row column h k e =
      let n = neither (ne (cell d.dg row column) Decimal.zero) (ne (cell d.ds row column) Decimal.zero) e in
      let dg = dg-in d doubles a row column h k in
      let ds = ds-in d doubles a row column h k in
      bond-null _ _ _ _ dg ds (not_beyond 1024 (lit≤ tt) _ doubles.strand-excess (excesses-in d doubles a).0)
      (rt-range d.ambient.rt.0 doubles.rt (rt-in d doubles a)) (not-unlike _ dg.real n.0) (not-unlike _ ds.real n.1)

  module _ (x : ℕ) (h : x < strands d) where
    from-empty : Null (strand_bond_in d 0 x)
    unfolding strand_bond
    from-empty =
        let w = west d.glues x in
        let low : w < 64 = z.glues-low _ (omega arith) in
        subst (λ (e : ℕ). Null (bond_of (cell d.dg e w) (cell d.ds e w) d.ambient.strand_excess.0 d.ambient.rt.0)) (sym glues-null.1)
        (null-at 0 w (omega arith) low (lines w low).0)

    to-empty : Null (strand_bond_in d x 0)
    unfolding strand_bond
    to-empty =
        let e = east d.glues x in
        let low : e < 64 = z.glues-low _ (omega arith) in
        subst (λ (w : ℕ). Null (bond_of (cell d.dg e w) (cell d.ds e w) d.ambient.strand_excess.0 d.ambient.rt.0)) (sym glues-null.0)
        (null-at e 0 low (omega arith) (lines e low).1)

  pub null-bonds : NullBonds (model_of d) (strands d)
  unfolding model_of
  null-bonds = record {
    from_empty = λ x h. null-eq (strand_bond_in d 0 x) (strand-bond-within d doubles a 0 x z.null h).real (from-empty x h);
    to_empty = λ x h. null-eq (strand_bond_in d x 0) (strand-bond-within d doubles a x 0 h z.null).real (to-empty x h);
  }

pub admitted-near : AdmittedNear
admitted-near d doubles a =
    let null = null-bonds d doubles a in
    record { null = null; states = (two-energies (model_of d) (strands d) (bounds-right d doubles a) null).each }

-- ---- what the calls answer

-- 0.0 is near 0.0
zeros-near : (k : ℕ) → Near binary64 k Decimal.zero Decimal.zero
zeros-near k = record { left = zero-within.real; right = zero-within.real; above = omega arith; below = omega arith }

pub figures-near : FiguresNear
figures-near d doubles s = go (first_of (energy_checks d s)) refl
  where
    go : (reply : Reply) → first_of (energy_checks d s) ≡ reply → Near binary64 (two_to_minus binary64 16) (state_energy_answer d s).figure (chain_energy_answer d s).figure.times_rt
    go (Ok u) e = let t = taken d s e in rw e ((admitted-near d doubles t.admitted).states s t.state)
    go (Err refused) e = rw e (zeros-near (two_to_minus binary64 16))
