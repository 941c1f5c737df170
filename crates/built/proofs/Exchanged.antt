-- Tables and pairs that stand twice, of writes in another order. Assumes nothing.
use mathlib.Core.Path.{◌≡◌, refl, ap, ap₂, sym, ◌∙◌}
use mathlib.Core.Bool.{Bool, true, false, cond, ◌&&◌, ◌||◌, or-true}
use mathlib.Core.List.{List, Permᴰ}
use Prim.Native.Nat.{ℕ}
use native.Mathlib.Omega.{arith}
use lib.Dec.{eqb}
use lib.ListN.{set}
use lib.Seq.{set_comm}
use lib.Ieee.{Float}
use borrow.Author.Tests.{eq-eqb}
use Rattle.lists.specs.Find.{any}
use Rattle.lists.specs.Fold.{foldl}
use Rattle.lists.specs.Each.{Each}
use Rattle.lists.proofs.Tests.{clash, neither, or-exchange}
use Rattle.lists.proofs.Permuted.{any-permuted, each-permuted, map-permuted}
use Rattle.sdc1d_params.specs.Entries.{Cell, is_written, same_pair}
use Rattle.sdc1d_params.specs.Tables.{Write, cells_of, duplicated, set_both}
use Rattle.sdc1d_params.proofs.Pairs.{same-pair-comm}
use Rattle.built.proofs.Numbers.{Small}
use Rattle.built.proofs.Tables.{there, back, twice}

-- ---- pairs

pub duplicated-permuted : {cs ds : List Cell} → Permᴰ cs ds → duplicated cs ≡ duplicated ds
unfolding duplicated any
duplicated-permuted Permᴰ.nil = refl
duplicated-permuted (Permᴰ.cons {a = a} {b = b} {l₁ = cs} {l₂ = ds} e p) =
    ap₂ (λ (s t : Bool). s || t) (any-permuted (same_pair a) p ∙ ap (λ (c : Cell). any (same_pair c) ds) e) (duplicated-permuted p)
duplicated-permuted (Permᴰ.swap {a = a} {b = b} {l = l} e f) =
    or-exchange (same_pair a b) (any (same_pair a) l) (any (same_pair b) l) (duplicated l)
    ∙ ap (λ (t : Bool). (t || any (same_pair b) l) || (any (same_pair a) l || duplicated l)) (same-pair-comm a b)
    ∙ ap₂ (λ (x y : Cell). (same_pair x y || any (same_pair x) l) || (any (same_pair y) l || duplicated l)) f e
duplicated-permuted (Permᴰ.trans p q) = duplicated-permuted p ∙ duplicated-permuted q

-- ---- cells

-- two cells set at places that are none of two others
four : (table : List Float) (i j k l : ℕ) (v w : Float) → (i ≡ k → ⊥) → (i ≡ l → ⊥) → (j ≡ k → ⊥) → (j ≡ l → ⊥) → set (set (set (set table i v) j v) k w) l w ≡ set (set (set (set table k w) l w) i v) j v
four table i j k l v w ik il jk jl =
    ap (λ (t : List Float). set t l w) (set_comm (set table i v) j k v w jk ∙ ap (λ (t : List Float). set t j v) (set_comm table i k v w ik))
    ∙ set_comm (set (set table k w) i v) j l v w jl
    ∙ ap (λ (t : List Float). set t j v) (set_comm (set table k w) i l v w il)

module _ (c d : Cell) (small : Small c) (low : Small d) (apart : same_pair c d ≡ false) where
  module _ (wc : is_written c ≡ true) (wd : is_written d ≡ true) where
    same_way : c.row ≡ d.row → c.column ≡ d.column → ⊥
    unfolding same_pair
    same_way e f = clash apart (simp (wc, wd, eq-eqb _ _ e, eq-eqb _ _ f))

    other_way : c.row ≡ d.column → c.column ≡ d.row → ⊥
    unfolding same_pair
    other_way e f = clash apart (simp (wc, wd, eq-eqb _ _ e, eq-eqb _ _ f) (or-true (eqb c.row d.row && eqb c.column d.column)))

    twice-exchanged : (v w : Float) (table : List Float) → twice d w (twice c v table) ≡ twice c v (twice d w table)
    twice-exchanged v w table =
        four table (there c) (back c) (there d) (back d) v w
        (λ e. same_way (omega (arith, small, low)) (omega (arith, small, low)))
        (λ e. other_way (omega (arith, small, low)) (omega (arith, small, low)))
        (λ e. other_way (omega (arith, small, low)) (omega (arith, small, low)))
        (λ e. same_way (omega (arith, small, low)) (omega (arith, small, low)))

  pub exchanged : (v w : Float) (table : List Float) → set_both d w (set_both c v table) ≡ set_both c v (set_both d w table)
  unfolding set_both
  exchanged v w table = go (is_written c) (is_written d) refl refl
    where
      go : (a b : Bool) → is_written c ≡ a → is_written d ≡ b
          → cond b (twice d w (cond a (twice c v table) table)) (cond a (twice c v table) table)
          ≡ cond a (twice c v (cond b (twice d w table) table)) (cond b (twice d w table) table)
      go true true p q = twice-exchanged p q v w table
      go true false p q = refl
      go false b p q = refl

-- ---- tables

module _ (value : Write → Float) where
  abbrev put : List Float → Write → List Float
  put table w = set_both w.at (value w) table

  abbrev at : Write → Cell
  at w = w.at

  -- where no pair stands twice the table is the same
  pub table-permuted : {ws vs : List Write} → Permᴰ ws vs → Each (λ w. Small w.at) ws → duplicated (cells_of ws) ≡ false → (table : List Float) → foldl put table ws ≡ foldl put table vs
  unfolding duplicated any foldl
  table-permuted Permᴰ.nil each once table = refl
  table-permuted (Permᴰ.cons {a = a} {b = b} {l₁ = ws} {l₂ = vs} e p) each once table =
      table-permuted p each.1 (neither (any (same_pair a.at) (cells_of ws)) (duplicated (cells_of ws)) once).1 (put table a)
      ∙ ap (λ (w : Write). foldl put (put table w) vs) e
  table-permuted (Permᴰ.swap {a = a} {b = b} {l = l} e f) each once table =
      let first = neither (same_pair a.at b.at || any (same_pair a.at) (cells_of l)) (any (same_pair b.at) (cells_of l) || duplicated (cells_of l)) once in
      let apart = neither (same_pair a.at b.at) (any (same_pair a.at) (cells_of l)) first.0 in
      ap (λ (t : List Float). foldl put t l) (exchanged a.at b.at each.0 each.1.0 apart.0 (value a) (value b) table)
      ∙ ap₂ (λ (x y : Write). foldl put (put (put table x) y) l) f e
  table-permuted (Permᴰ.trans p q) each once table =
      table-permuted p each once table
      ∙ table-permuted q (each-permuted (λ w. Small w.at) p each) (sym (duplicated-permuted (map-permuted at p)) ∙ once) table
