-- The potentials of a design: doubles, and where they are logarithms of concentrations that are not dilute, in range. Assumes nothing.
use mathlib.Core.Path.{◌≡◌, refl, sym, ap, subst, ◌∙◌}
use mathlib.Core.Bool.{Bool, true, false, not, cond, ◌&&◌}
use mathlib.Core.List.{List}
use Prim.Native.Nat.{ℕ, ◌<◌, ◌≤◌}
use native.Mathlib.Omega.{arith}
use lib.Dec.{T, lit≤}
use lib.ListN.{length, get_or}
use lib.Ieee.{Float, nan, binary64, fits}
use borrow.Author.Tests.{not-false}
use Rattle.lists.specs.Build.{up_to}
use Rattle.lists.specs.Find.{any}
use Rattle.lists.proofs.Places.{get_or-default}
use Rattle.lists.proofs.Build.{length-tabulate, get_or-tabulate}
use Rattle.lists.proofs.Any.{none_below, all-below}
use Rattle.doubles.specs.Decimal.{plus, minus, nearest, zero}
use Rattle.doubles.specs.Range.{within, in_range}
use Rattle.doubles.specs.Size.{Within}
use Rattle.doubles.proofs.Sums.{weaken}
use Rattle.doubles.proofs.Bounds.{in-range-within}
use Rattle.logarithm.specs.Figure.{ln_of}
use Rattle.logarithm.specs.Near.{has_logarithm}
use Rattle.logarithm.proofs.Sized.{small}
use Rattle.model.specs.Model.{Friend}
use Rattle.design.specs.declared.Amounts.{Amounts}
use Rattle.design.specs.declared.Amounts.TheVariants.{Potentials, Concentrations}
use Rattle.design.specs.Design.{Design, positions, strands, amount, potential_by, potential, is_friend, model_of}
use Rattle.design.specs.Checks.{beyond, friend_at, somewhere, by_concentration, thin, dilute, unfit, potentials_out}
use Rattle.design.specs.Laws.{Doubles}
use Rattle.design.specs.Concentrations.{NeverOut, HasPotentials}
use Rattle.design.proofs.FriendLaws.{friend-tested}
use Rattle.design.proofs.Range.{not-out}

-- a number that is not beyond a limit is within it
pub not_beyond : (A : ℕ) → A ≤ 1024 → (x : Float) → T (fits binary64 x) → beyond A x ≡ false → Within binary64 A x
not_beyond A h x t e = in-range-within A (omega arith) x t (unfold in_range in not-false (within (nearest (minus A 0)) (nearest (plus A 0)) x) e)

-- a number of a list is a double, whatever would stand past the list's end
pub held : (xs : List Float) (k : ℕ) → k < length xs → T (fits binary64 (get_or xs k nan)) → T (fits binary64 (get_or xs k zero))
held xs k h t = subst (λ (x : Float). T (fits binary64 x)) (get_or-default xs k nan zero h) t

-- of a strand that is somewhere a friend the second test fails, where both together do
pub read-passes : (s b : Bool) → s ≡ true → (s && b) ≡ false → b ≡ false
read-passes true b p q = q
read-passes false b p q = absurd (let y : ◌≡◌ {A = ℕ} 0 1 = cc in omega arith)

-- a friend is somewhere one
pub looked-at : (d : Design) (i x : ℕ) → i < positions d → is_friend d i x ≡ true → somewhere d.scaffold d.marks d.glues d.dg d.ds x ≡ true
looked-at d i x h e = go (somewhere d.scaffold d.marks d.glues d.dg d.ds x) refl
  where
    go : (t : Bool) → somewhere d.scaffold d.marks d.glues d.dg d.ds x ≡ t → t ≡ true
    go true p = refl
    go false p = let n : is_friend d i x ≡ false = unfold somewhere in none_below (friend_at d.scaffold d.marks d.glues d.dg d.ds x) (positions d) p i h in sym n ∙ e

pub friend-looked-at : (d : Design) (i x : ℕ) → Friend (model_of d) i x → somewhere d.scaffold d.marks d.glues d.dg d.ds x ≡ true
friend-looked-at d i x f = let w = friend-tested d i x f in looked-at d i x w.0 w.2

-- where concentrations are lent and none is dilute, a strand that is somewhere a friend has one with a logarithm
pub has-one : (d : Design) → by_concentration d.given ≡ true → dilute d ≡ false → (x : ℕ) → x < strands d → somewhere d.scaffold d.marks d.glues d.dg d.ds x ≡ true → has_logarithm (amount d x) ≡ true
unfolding dilute
has-one d g n x h e =
    let none : any (thin d) (up_to (strands d)) ≡ false = rw g at n in
    not-false (has_logarithm (amount d x)) (read-passes (somewhere d.scaffold d.marks d.glues d.dg d.ds x) (not (has_logarithm (amount d x))) e (none_below (thin d) (strands d) none x h))

module _ (d : Design) (doubles : Doubles d) (n : dilute d ≡ false) where
  amount-double : (x : ℕ) → x < strands d → T (fits binary64 (amount d x))
  amount-double x h = held d.amounts x h (doubles.amounts x h)

  logarithm-small : by_concentration d.given ≡ true → (x : ℕ) → x < strands d → somewhere d.scaffold d.marks d.glues d.dg d.ds x ≡ true → Within binary64 128 (ln_of (amount d x))
  logarithm-small g x h e = small (amount d x) (amount-double x h) (has-one d g n x h e)

  -- a potential that is read is a double
  pub potential-double : (x : ℕ) → x < strands d → somewhere d.scaffold d.marks d.glues d.dg d.ds x ≡ true → T (fits binary64 (potential d x))
  potential-double x h e = go d.given refl
    where
      go : (g : Amounts) → d.given ≡ g → T (fits binary64 (potential_by g (amount d x)))
      go Potentials p = amount-double x h
      go Concentrations p = (logarithm-small (ap by_concentration p) x h e).real.fit

  never-out : by_concentration d.given ≡ true → potentials_out d ≡ false
  unfolding potentials_out
  never-out g = all-below (unfit d) (strands d) each
    where
      within-128 : (given : Amounts) → by_concentration given ≡ true → (y : Float) → Within binary64 128 (ln_of y) → beyond 1024 (potential_by given y) ≡ false
      within-128 Potentials b y w = absurd (let z : ◌≡◌ {A = ℕ} 0 1 = cc in omega arith)
      within-128 Concentrations b y w = not-out 1024 (lit≤ tt) (ln_of y) (weaken 1024 (lit≤ tt) w)

      go : (x : ℕ) → x < strands d → (s : Bool) → somewhere d.scaffold d.marks d.glues d.dg d.ds x ≡ s → (s && beyond 1024 (potential d x)) ≡ false
      go x h true e = within-128 d.given g (amount d x) (logarithm-small g x h e)
      go x h false e = refl

      each : (x : ℕ) → x < strands d → unfit d x ≡ false
      each x h = go x h (somewhere d.scaffold d.marks d.glues d.dg d.ds x) refl

pub never_out : NeverOut
never_out d doubles g n = never-out d doubles n g

pub has-potentials : HasPotentials
has-potentials d = record {
  many = length-tabulate (strands d) _;
  friends = λ i x f.
      let w = friend-tested d i x f in
      sym (get_or-tabulate (strands d) (λ strand. cond (somewhere d.scaffold d.marks d.glues d.dg d.ds strand) (potential d strand) zero) zero x w.1 ∙ rw (friend-looked-at d i x f) refl);
}
