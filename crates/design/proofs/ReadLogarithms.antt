-- What is read off concentrations, strand by strand. Assumes nothing.
use mathlib.Core.Path.{◌≡◌, refl, sym, ap, ◌∙◌}
use mathlib.Core.Bool.{Bool, true, false, cond, not, ◌&&◌}
use mathlib.Core.List.{List}
use Prim.Native.Nat.{ℕ, ◌<◌}
use lib.ListN.{length}
use lib.Ieee.{Float}
use Rattle.std.specs.Prelude.{Result, Ok, Err, is_err}
use Rattle.lists.specs.Build.{up_to}
use Rattle.lists.specs.Find.{any}
use Rattle.lists.proofs.Any.{none_below, all-below}
use Rattle.doubles.specs.Decimal.{zero}
use Rattle.reply.specs.declared.Refusal.{Refusal}
use Rattle.reply.specs.declared.Refusal.TheVariants.{TooDilute}
use Rattle.logarithm.specs.Figure.{ln_of}
use Rattle.logarithm.specs.Near.{has_logarithm}
use Rattle.logarithm.specs.Answer.{ln_figures, ln_answer}
use Rattle.logarithm.proofs.Told.{told}
use Rattle.design.specs.declared.Amounts.TheVariants.{Concentrations}
use Rattle.design.specs.Design.{Design, strands, amount}
use Rattle.design.specs.Checks.{by_concentration, thin, dilute}
use Rattle.design.specs.Unread.{PotentialsOf}
use Rattle.design.specs.Filling.{logarithm_read, LogarithmsRead}
use Rattle.design.proofs.FriendLaws.{friend-tested}
use Rattle.design.proofs.Concentrations.{has-one, friend-looked-at}

-- ---- of one strand

module _ (r : Result Float Refusal) (x : Float) (friend : Bool) (e : ln_figures r ≡ ln_answer x) where
  -- no logarithm, and no friend
  pub unread : is_err r ≡ true → friend ≡ false → Ok zero ≡ logarithm_read friend x
  unread h f = go (has_logarithm x) (ap is_err (sym (told r x e)) ∙ h)
    where
      go : (has : Bool) → is_err (cond has (Ok (ln_of x)) (Err TooDilute)) ≡ true → Ok zero ≡ cond has (Ok (ln_of x)) (cond friend (Err TooDilute) (Ok zero))
      go true h = cc
      go false h = rw f refl

  -- a logarithm
  pub read-logarithm : is_err r ≡ false → r ≡ logarithm_read friend x
  read-logarithm h = told r x e ∙ go (has_logarithm x) (ap is_err (sym (told r x e)) ∙ h)
    where
      go : (has : Bool) → is_err (cond has (Ok (ln_of x)) (Err TooDilute)) ≡ false → cond has (Ok (ln_of x)) (Err TooDilute) ≡ cond has (Ok (ln_of x)) (cond friend (Err TooDilute) (Ok zero))
      go true h = refl
      go false h = cc

  -- a friend
  pub read-friend : friend ≡ true → r ≡ logarithm_read friend x
  read-friend f = rw f (told r x e)

-- what is read of a strand that is not thin
module _ (friend has : Bool) (figure : Float) where
  pub admits-thin : (y : Float) → ◌≡◌ {A = Result Float Refusal} (Ok y) (cond has (Ok figure) (cond friend (Err TooDilute) (Ok zero))) → ((friend && not has) ≡ false) × (y ≡ cond has figure zero)
  admits-thin y e = go friend has e
    where
      go : (friend has : Bool) → ◌≡◌ {A = Result Float Refusal} (Ok y) (cond has (Ok figure) (cond friend (Err TooDilute) (Ok zero))) → ((friend && not has) ≡ false) × (y ≡ cond has figure zero)
      go true true e = (refl, cc)
      go true false e = (cc, cc)
      go false true e = (refl, cc)
      go false false e = (refl, cc)

  pub refuses-thin : (why : Refusal) → ◌≡◌ {A = Result Float Refusal} (Err why) (cond has (Ok figure) (cond friend (Err TooDilute) (Ok zero))) → ((friend && not has) ≡ true) × (why ≡ TooDilute)
  refuses-thin why e = go friend has e
    where
      go : (friend has : Bool) → ◌≡◌ {A = Result Float Refusal} (Err why) (cond has (Ok figure) (cond friend (Err TooDilute) (Ok zero))) → ((friend && not has) ≡ true) × (why ≡ TooDilute)
      go true true e = (cc, cc)
      go true false e = (refl, cc)
      go false true e = (cc, cc)
      go false false e = (cc, cc)

-- ---- of a design

module _ (d : Design) (g : d.given ≡ Concentrations) where
  -- one strand is thin
  pub dilute-at : (x : ℕ) → x < strands d → thin d x ≡ true → dilute d ≡ true
  unfolding dilute
  dilute-at x h e = rw g (some (any (thin d) (up_to (strands d))) refl)
    where
      some : (t : Bool) → any (thin d) (up_to (strands d)) ≡ t → t ≡ true
      some true p = refl
      some false p = sym (none_below (thin d) (strands d) p x h) ∙ e

  -- none is
  pub not-dilute : ((x : ℕ) → x < strands d → thin d x ≡ false) → dilute d ≡ false
  unfolding dilute
  not-dilute none = rw g (all-below (thin d) (strands d) none)

  -- the logarithms are the potentials of the strands that are read
  pub logarithms-are : (logarithms : List Float) → length logarithms ≡ strands d → dilute d ≡ false → LogarithmsRead d logarithms → PotentialsOf d logarithms
  logarithms-are logarithms many none read = record {
    many = many;
    friends = λ i x f.
        let known = (friend-tested d i x f).1 in
        let has : has_logarithm (amount d x) ≡ true = has-one d (ap by_concentration g) none x known (friend-looked-at d i x f) in
        sym (read x known ∙ rw (has, g) refl);
  }
