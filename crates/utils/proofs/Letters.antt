-- A function of a byte at a letter, in one of its two cases, and at no letter; the letters of the bases, and the bits that tell them. Assumes nothing.
use mathlib.Core.Path.{◌≡◌, refl, subst, sym, ap}
use mathlib.Core.Bool.{Bool, true, false, cond, ◌||◌}
use mathlib.Core.List.{List, [], ◌∷◌}
use Prim.Native.Nat.{ℕ, zero, suc, ◌<◌, ◌/◌, ◌^◌}
use lib.Bits.{bit_and}
use lib.Dec.{eqb, lit<}
use lib.ListN.{length, get_or, drop, take}
use borrow.Author.Tests.{eqb-true, not-false}
use Rattle.std.specs.List.{list_any}
use Rattle.lists.specs.Find.{any}
use Rattle.lists.proofs.Any.{none_passes}
use Rattle.lists.proofs.Tests.{neither}
use Rattle.utils.specs.Bases.{Base, is_letter, is_base, not_a_base, base_of, index_of}
use Rattle.utils.specs.declared.bases.DnaNucleotideBase.TheVariants.{A, T, G, C}

-- the library's test of a list and that of the definitions are one
pub some_any : {X : Type 0} (p : X → Bool) (xs : List X) → list_any p xs ≡ any p xs
unfolding any
some_any p [] = refl
some_any p (x ∷ xs) = ap (λ (b : Bool). p x || b) (some_any p xs)

-- each byte of a sequence without wrong letters is a base
pub base-in : (s : List ℕ) (i d : ℕ) → any not_a_base s ≡ false → i < length s → is_base (get_or s i d) ≡ true
base-in s i d e h = not-false _ (none_passes not_a_base d s e i h)

pub base-here : (s : List ℕ) (i : ℕ) → any not_a_base s ≡ false → i < length s → is_base (get_or s i 0) ≡ true
base-here s i = base-in s i 0

-- and what is left after the first has none either
pub later-bases : (s : List ℕ) → any not_a_base s ≡ false → any not_a_base (drop 1 s) ≡ false
unfolding any
later-bases [] e = e
later-bases (x ∷ s) e = (neither (not_a_base x) (any not_a_base s) e).1

-- nor has what stands in front
pub front-bases : (n : ℕ) (s : List ℕ) → any not_a_base s ≡ false → any not_a_base (take n s) ≡ false
unfolding any
front-bases zero s e = refl
front-bases (suc n) [] e = refl
front-bases (suc n) (x ∷ s) e =
    let both = neither (not_a_base x) (any not_a_base s) e in
    rw both.0 (front-bases n s both.1)

either : {P : Type 0} (x y : Bool) → (x || y) ≡ true → (x ≡ true → P) → (y ≡ true → P) → P
either true y e f g = f refl
either false y e f g = g e

module _ (P : ℕ → Type 0) (b : ℕ) where
  one-letter : (lower upper : ℕ) → P lower → P upper → is_letter lower upper b ≡ true → P b
  one-letter lower upper p q e =
      either (eqb b lower) (eqb b upper) e (λ t. subst P (sym (eqb-true b lower t)) p) (λ t. subst P (sym (eqb-true b upper t)) q)

  -- what holds at the eight letters holds at a byte that is one of them
  each-letter : P 97 → P 65 → P 99 → P 67 → P 103 → P 71 → P 116 → P 84 → is_base b ≡ true → P b
  unfolding is_base
  each-letter a1 a2 c1 c2 g1 g2 t1 t2 e =
      either _ _ e
      (λ e. either _ _ e (λ e. either _ _ e (one-letter 97 65 a1 a2) (one-letter 99 67 c1 c2)) (one-letter 103 71 g1 g2))
      (one-letter 116 84 t1 t2)

-- the base's number, read off the byte that has the four of them, and how far that byte is shifted
pub number-told : (b : ℕ) → is_base b ≡ true → bit_and (156 / 2 ^ bit_and b 6) 3 ≡ index_of (base_of b)
unfolding base_of
number-told b = each-letter (λ x. bit_and (156 / 2 ^ bit_and x 6) 3 ≡ index_of (base_of x)) b refl refl refl refl refl refl refl refl

pub number-under : (a : Base) → index_of a < 4
number-under A = lit< tt
number-under T = lit< tt
number-under G = lit< tt
number-under C = lit< tt

-- the base that has a number
unfoldable pub numbered : ℕ → Base
numbered k = cond (eqb k 0) A (cond (eqb k 1) T (cond (eqb k 2) G C))

pub numbered-index : (a : Base) → numbered (index_of a) ≡ a
unfolding numbered
numbered-index A = refl
numbered-index T = refl
numbered-index G = refl
numbered-index C = refl
