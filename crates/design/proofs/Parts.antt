-- Lists that are filled through parts of them that are lent, and by storing. Assumes nothing.
use mathlib.Core.Path.{◌≡◌, sym, ap, ◌∙◌}
use mathlib.Core.List.{List, ◌++◌}
use Prim.Native.Nat.{ℕ, ◌+◌, ◌*◌, ◌<◌, ◌≤◌}
use native.Mathlib.Omega.{arith}
use lib.ListN.{length, get_or, set, take, drop, length-append, length-take, length-drop, get_or-append}
use lib.Seq.{length-take-le, take_at, drop_at, get_or-append-add, get_or-take, get_or-drop, get_or-set_same, get_or-set_other, ext_get_or}
use borrow.Author.Count.{below_more}
use Rattle.lists.specs.Build.{tabulate}
use Rattle.lists.specs.Grid.{Grid}
use Rattle.lists.proofs.Build.{length-tabulate, get_or-tabulate}
use Rattle.lists.proofs.Grid.{row-end}

module _ {A : Type 0} where
  -- one place more that holds what it should
  pub places_more : (f : ℕ → A) (xs : List A) (d : A) (i : ℕ) {v : A} → i < length xs → v ≡ f i → ((k : ℕ) → k < i → get_or xs k d ≡ f k) → (k : ℕ) → k < i + 1 → get_or (set xs i v) k d ≡ f k
  places_more f xs d i {v} h e before =
      below_more (λ (k : ℕ). get_or (set xs i v) k d ≡ f k) i (λ k l. get_or-set_other xs i k v d (λ same. omega arith) ∙ before k l) (get_or-set_same xs i v d h ∙ e)

  -- a list whose elements from `start` on, `size` of them, are those of a part that was lent
  abbrev pub with_part : List A → ℕ → ℕ → List A → List A
  with_part xs start size part = take start xs ++ (part ++ drop size (drop start xs))

  module _ (xs : List A) (start size : ℕ) (part : List A) (inside : start + size ≤ length xs) (full : length part ≡ size) where
    before-length : length (take start xs) ≡ start
    before-length = length-take-le start xs (omega arith)

    pub part_length : length (with_part xs start size part) ≡ length xs
    part_length = simp (length-append, length-drop, before-length, full) (omega arith)

    -- the part itself
    pub part-is : take size (drop start (with_part xs start size part)) ≡ part
    part-is = rw (drop_at (take start xs) (part ++ drop size (drop start xs)) start before-length) (take_at part (drop size (drop start xs)) size full)

    pub part_at : (d : A) (k : ℕ) → k < size → get_or (with_part xs start size part) (start + k) d ≡ get_or part k d
    part_at d k h =
        ap (λ (n : ℕ). get_or (with_part xs start size part) (n + k) d) (sym before-length)
        ∙ get_or-append-add (take start xs) (part ++ drop size (drop start xs)) k d
        ∙ get_or-append part (drop size (drop start xs)) d k (rw full h)

    -- what stands before it stays
    pub before-part : (d : A) (k : ℕ) → k < start → get_or (with_part xs start size part) k d ≡ get_or xs k d
    before-part d k h = get_or-append (take start xs) (part ++ drop size (drop start xs)) d k (rw before-length h) ∙ get_or-take start xs k d h

    pub part-before : (d : A) (at n : ℕ) → at + n ≤ start → take n (drop at (with_part xs start size part)) ≡ take n (drop at xs)
    part-before d at n h =
        ext_get_or d (take n (drop at (with_part xs start size part))) (take n (drop at xs)) (simp (length-take, length-drop, part_length))
        (λ k l.
        let low : k < n = omega (arith, length-take n (drop at (with_part xs start size part))) in
        get_or-take n (drop at (with_part xs start size part)) k d low ∙ get_or-drop at (with_part xs start size part) k d ∙ before-part d (at + k) (omega arith)
        ∙ sym (get_or-take n (drop at xs) k d low ∙ get_or-drop at xs k d))

  -- one row more of a table
  pub grid-row : {f : ℕ → ℕ → A} {d : A} {width size rows : ℕ} {t row : List A} → Grid f d width size rows 0 t → rows * width + width ≤ size → row ≡ tabulate (length (take width (drop (rows * width) t))) (f rows) → Grid f d width size (rows + 1) 0 (with_part t (rows * width) width row)
  grid-row {f} {d} {width} {size} {rows} {t} {row} w h filled =
      let inside : rows * width + width ≤ length t = rw w.sized h in
      let lent : length (take width (drop (rows * width) t)) ≡ width = simp (length-take, length-drop) (omega arith) in
      let e : row ≡ tabulate width (f rows) = filled ∙ ap (λ (n : ℕ). tabulate n (f rows)) lent in
      let full : length row ≡ width = ap length e ∙ length-tabulate width (f rows) in
      record {
        sized = part_length t (rows * width) width row inside full ∙ w.sized;
        above = λ r column k l.
            below_more (λ (r : ℕ). get_or (with_part t (rows * width) width row) (r * width + column) d ≡ f r column) rows
            (λ r b. before-part t (rows * width) width row inside full d (r * width + column) (omega (arith, row-end width b)) ∙ w.above r column b l)
            (part_at t (rows * width) width row inside full d column l ∙ ap (λ (xs : List A). get_or xs column d) e ∙ get_or-tabulate width (f rows) d column l) r k;
        here = λ column k. absurd (omega arith);
      }
