-- What `from_params` writes passes a design's size, cell and null checks, and its tables are symmetric. Assumes nothing.
use mathlib.Core.Path.{◌≡◌, refl, sym, subst, ◌∙◌}
use mathlib.Core.Bool.{Bool, true, false, ◌||◌}
use mathlib.Core.List.{List, ◌++◌}
use Prim.Native.Nat.{ℕ, ◌+◌, ◌*◌, ◌≤◌}
use native.Mathlib.Omega.{arith}
use lib.ListN.{length}
use lib.Ieee.{Float, eq, ne}
use borrow.Author.Tests.{le-ltb, eq-eqb}
use Rattle.doubles.specs.Decimal.{zero}
use Rattle.lists.specs.Find.{any}
use Rattle.lists.proofs.Any.{all-below}
use Rattle.lists.proofs.Each.{each_none}
use Rattle.reply.specs.First.{first_of, refused_if}
use Rattle.reply.specs.declared.Refusal.TheVariants.{WrongSize, OutOfRange, NullBinds}
use Rattle.units.specs.declared.Ambient.{Ambient}
use Rattle.sdc1d_params.specs.Params.{Params, Outcome, writes_of, strand_glues_of, built_from}
use Rattle.design.specs.Design.{Design}
use Rattle.design.specs.Checks.{high_glue, beyond, wrong_marks, wrong_sizes, sizes_out, cells_out, bad_cell, null_glued, null_cells, null_binds, number_checks}
use Rattle.sdc1d_params.specs.declared.Build.{Build}
use Rattle.design.specs.declared.Amounts.{Amounts}
use Rattle.built.specs.Fits.{Fits, design_of, WrittenFits, Symmetric, WrittenSymmetric}
use Rattle.built.proofs.Passed.{Passed, answered-as, few-users, strands-many, scaffold-short, writes-small}
use Rattle.std.specs.Prelude.{None, Some}
use Rattle.reply.specs.Number.{Reply}
use Rattle.built.proofs.Written.{strand-glues-many, scaffold-many, strand-glues-low, scaffold-low, dg-mirrored, ds-mirrored, NullZero, dg-null, ds-null, dg-ranged, ds-ranged}

left-of :
    (own sizes cells null : Bool) (cell : ℕ) (rest : Reply)
    → sizes ≡ false
    → cells ≡ false
    → null ≡ false
    → refused_if (own || sizes) WrongSize None (refused_if cells OutOfRange (Some cell) (refused_if null NullBinds None rest)) ≡ refused_if own WrongSize None rest
left-of true sizes cells null cell rest s c n = refl
left-of false sizes cells null cell rest s c n = rw (s, c, n)

-- where the three checks pass, the rest follows
fits : (d : Design) → sizes_out d ≡ false → cells_out d.dg d.ds ≡ false → null_binds d.glues d.dg d.ds ≡ false → Fits d
fits d s c n =
    record {
      sizes = s;
      cells = c;
      null = n;
      left = λ own_size between after. left-of own_size (sizes_out d) (cells_out d.dg d.ds) (null_binds d.glues d.dg d.ds) (bad_cell d.dg d.ds) (first_of (between ++ (number_checks d ++ after))) s c n;
      admitted = λ concentrations a q. record { sizes = s; cells = c; concentrations = concentrations; ambient = a; potentials = q; null = n };
    }

-- ---- the three checks, from what they look at

module _ (scaffold marks glues : List ℕ) (dg ds amounts : List Float) where
  sizes-in :
      length scaffold ≤ 128
      → 1 ≤ length amounts
      → length amounts ≤ 64
      → length glues ≡ 3 * length amounts
      → length dg ≡ 4096
      → length ds ≡ 4096
      → wrong_marks scaffold marks ≡ false
      → any high_glue scaffold ≡ false
      → any high_glue glues ≡ false
      → wrong_sizes scaffold marks glues dg ds amounts ≡ false
  unfolding wrong_sizes
  sizes-in short null few three dg-cells ds-cells marked low glues-low =
      simp (le-ltb _ _ short, le-ltb _ _ null, le-ltb _ _ few, eq-eqb _ _ three, eq-eqb _ _ dg-cells, eq-eqb _ _ ds-cells, marked, low, glues-low)

cells_in : (dg ds : List Float) → any (beyond 1024) dg ≡ false → any (beyond 8) ds ≡ false → cells_out dg ds ≡ false
unfolding cells_out
cells_in dg ds e f = rw (e, f)

zero-unbound : ne zero zero ≡ false
unfolding ne eq
zero-unbound = refl

null-in : (glues : List ℕ) (dg ds : List Float) → null_glued glues ≡ false → NullZero dg → NullZero ds → null_binds glues dg ds ≡ false
unfolding null_binds
null-in glues dg ds e n m = rw (e, all-below (null_cells dg ds) 64 (λ g h. simp (n.row g h, m.row g h, n.column g h, m.column g h, zero-unbound)))

module _ (p : Params) (lent : Outcome) (passed : Passed p lent) where
  null-glued : null_glued (strand_glues_of p) ≡ false
  unfolding strand_glues_of
  null-glued = refl

  outcome_fits : (marks : List ℕ) (amounts : List Float) (given : Amounts) (ambient : Ambient) → wrong_marks (built_from p).scaffold_glues marks ≡ false → length amounts ≡ p.users + 3 → Fits (design_of (built_from p) marks amounts given ambient)
  outcome_fits marks amounts given ambient marked many =
      let small = writes-small p passed.few in
      let users = few-users p lent passed.size in
      fits (design_of (built_from p) marks amounts given ambient)
      (sizes-in (built_from p).scaffold_glues marks (built_from p).strand_glues (built_from p).dg (built_from p).ds amounts
      (rw (scaffold-many p) (scaffold-short p lent passed.size))
      (omega arith)
      (omega arith)
      (strand-glues-many p (strands-many p lent passed.size) ∙ omega arith)
      (dg-mirrored (writes_of p) small).many
      (ds-mirrored (writes_of p) small).many
      marked
      (each_none high_glue (built_from p).scaffold_glues (scaffold-low p passed.few passed.known))
      (each_none high_glue (built_from p).strand_glues (strand-glues-low p passed.few)))
      (cells_in (built_from p).dg (built_from p).ds (dg-ranged (writes_of p) passed.ranged) (ds-ranged (writes_of p) passed.ranged))
      (null-in (built_from p).strand_glues (built_from p).dg (built_from p).ds null-glued (dg-null (writes_of p) small) (ds-null (writes_of p) small))

pub written-fits : (build : Build) (p : Params) (lent : Outcome) → WrittenFits build p lent
written-fits build p lent e marks amounts given ambient marked many =
    let a = answered-as p lent build e in
    let same : wrong_marks (built_from p).scaffold_glues marks ≡ false = subst (λ (o : Outcome). wrong_marks o.scaffold_glues marks ≡ false) a.1 marked in
    subst (λ (o : Outcome). Fits (design_of o marks amounts given ambient)) (sym a.1) (outcome_fits p lent a.0 marks amounts given ambient same many)

pub written-symmetric : (build : Build) (p : Params) (lent : Outcome) → WrittenSymmetric build p lent
written-symmetric build p lent =
    record {
      dg = λ e. let a = answered-as p lent build e in subst (λ (o : Outcome). Symmetric o.dg) (sym a.1) (dg-mirrored (writes_of p) (writes-small p a.0.few)).same;
      ds = λ e. let a = answered-as p lent build e in subst (λ (o : Outcome). Symmetric o.ds) (sym a.1) (ds-mirrored (writes_of p) (writes-small p a.0.few)).same;
    }
