-- The options that a constraint leaves, as they are written into rows. Assumes nothing.
use mathlib.Core.Path.{◌≡◌, refl, sym, ap, ◌∙◌}
use mathlib.Core.Bool.{Bool, true, false, ◌||◌}
use mathlib.Core.List.{List, [], ◌∷◌, ◌++◌, map}
use Prim.Native.Nat.{ℕ, zero, suc, ◌+◌, ◌*◌, ◌≤◌, ◌<◌}
use native.Mathlib.Nat.{ne_of_lt, suc-ne-zero}
use native.Mathlib.Numerals.{add-one}
use native.Mathlib.Omega.{arith}
use borrow.Author.Count.{below_more}
use borrow.Author.Tests.{eqb-false, ne_eqb}
use lib.Dec.{eqb}
use lib.ListN.{length, get_or, take, drop, set, length-append, length-take, length-drop, drop_of_length-le, get_or-append}
use lib.Seq.{drop-cons, get_or-take, get_or-drop, get_or-set_same, get_or-set_other, take-take, take_at, drop_at, length-take-le, ext_get_or}
use Rattle.lists.specs.Build.{tabulate, keep}
use Rattle.lists.specs.Find.{any}
use Rattle.lists.proofs.Any.{none_passes}
use Rattle.lists.proofs.Counted.{tabulate-same, map-tabulate}
use Rattle.lists.proofs.Keep.{of-keep}
use Rattle.lists.proofs.Places.{tabulate-get_or, mem-get_or}
use Rattle.ensemble.specs.Layout.{Searchable, option_in}
use Rattle.fractions.specs.declared.Weight.{Weight}
use Rattle.partition.specs.Constraint.{allows}
use Rattle.partition.specs.Pass.{allowed, none_left}
use Rattle.partition.specs.Sum.{zero_weight}
use Rattle.partition.specs.Summed.{summed}
use Rattle.partition_sums.specs.Layout.{options_at, options_in}
use Rattle.partition_sums.specs.inner.Kept.{Kept, KeptRows}
use Rattle.partition_sums.proofs.Positions.{known_of}

-- ---- a list and an occupant, and the options kept, from place k on

module _ {A : Type 0} (p : A → Bool) (xs : List A) (k : ℕ) where
  pub keep-here : (d : A) → k < length xs → p (get_or xs k d) ≡ true → keep p (drop k xs) ≡ get_or xs k d ∷ keep p (drop (k + 1) xs)
  unfolding keep
  keep-here d h e = rw (add-one, drop-cons xs k d) (simp e)

  pub keep-later : (d : A) → k < length xs → p (get_or xs k d) ≡ false → keep p (drop k xs) ≡ keep p (drop (k + 1) xs)
  unfolding keep
  keep-later d h e = rw (add-one, drop-cons xs k d) (simp e)

  pub keep-past : length xs ≤ k → keep p (drop k xs) ≡ []
  unfolding keep
  keep-past h = rw (drop_of_length-le xs h)

-- ---- rows through parts that are lent

-- a list whose elements from `start` on, `size` of them, are those of a part
abbrev with_part : List ℕ → ℕ → ℕ → List ℕ → List ℕ
with_part xs start size part = take start xs ++ (part ++ drop size (drop start xs))

module _ (xs : List ℕ) (start size : ℕ) (part : List ℕ) (inside : start + size ≤ length xs) (full : length part ≡ size) where
  before-length : length (take start xs) ≡ start
  before-length = length-take-le start xs (omega arith)

  pub part_length : length (with_part xs start size part) ≡ length xs
  part_length = simp (length-append, length-drop, before-length, full) (omega arith)

  part-self : take size (drop start (with_part xs start size part)) ≡ part
  part-self = rw (drop_at (take start xs) (part ++ drop size (drop start xs)) start before-length) (take_at part (drop size (drop start xs)) size full)

  before-part : (k : ℕ) → k < start → get_or (with_part xs start size part) k 0 ≡ get_or xs k 0
  before-part k h = get_or-append (take start xs) (part ++ drop size (drop start xs)) 0 k (rw before-length h) ∙ get_or-take start xs k 0 h

  part-before : (at n : ℕ) → at + n ≤ start → take n (drop at (with_part xs start size part)) ≡ take n (drop at xs)
  part-before at n h =
      ext_get_or 0 (take n (drop at (with_part xs start size part))) (take n (drop at xs)) (simp (length-take, length-drop, part_length))
      (λ k l.
      let low : k < n = omega (arith, length-take n (drop at (with_part xs start size part))) in
      get_or-take n (drop at (with_part xs start size part)) k 0 low ∙ get_or-drop at (with_part xs start size part) k 0 ∙ before-part (at + k) (omega arith)
      ∙ sym (get_or-take n (drop at xs) k 0 low ∙ get_or-drop at xs k 0))

-- the row of a position holds what its list allows
abbrev pub KeptAt : (ℕ → List ℕ) → (ℕ → List ℕ) → List ℕ → List ℕ → ℕ → Type 0
KeptAt lists options rows counts i = Kept (lists i) (options i) (take 64 (drop (64 * i) rows)) (get_or counts i 0)

pub kept_more : (lists options : ℕ → List ℕ) (rows counts : List ℕ) (i : ℕ) (row : List ℕ) (n : ℕ) → 64 * i + 64 ≤ length rows → i < length counts → length row ≡ 64 → ((k : ℕ) → k < i → KeptAt lists options rows counts k)
    → Kept (lists i) (options i) row n → (k : ℕ) → k < i + 1 → KeptAt lists options (with_part rows (64 * i) 64 row) (set counts i n) k
kept_more lists options rows counts i row n inside here full old new =
    below_more (KeptAt lists options (with_part rows (64 * i) 64 row) (set counts i n)) i
    (λ k h. rw (part-before rows (64 * i) 64 row inside full (64 * k) 64 (omega arith), get_or-set_other counts i k n 0 (ne_of_lt h)) (old k h))
    (rw (part-self rows (64 * i) 64 row inside full, get_or-set_same counts i n 0 here) new)

-- ---- all rows

allowed-tabulate : (n : ℕ) (f g : ℕ → List ℕ) → allowed (tabulate n f) (tabulate n g) ≡ tabulate n (λ i. keep (allows (f i)) (g i))
unfolding allowed tabulate
allowed-tabulate zero f g = refl
allowed-tabulate (suc n) f g = ap (keep (allows (f 0)) (g 0) ∷◌) (allowed-tabulate n (λ k. f (suc k)) (λ k. g (suc k)))

none-left-any : (options : List (List ℕ)) → none_left options ≡ any (eqb 0) (map length options)
unfolding none_left any
none-left-any [] = refl
none-left-any ([] ∷ options) = refl
none-left-any ((x ∷ here) ∷ options) =
    none-left-any options ∙ sym (ap (λ (b : Bool). b || any (eqb 0) (map length options)) (ne_eqb 0 (suc (length here)) (λ e. suc-ne-zero (length here) (sym e))))

module _ {rows counts : List ℕ} {lists : List (List ℕ)} {kept_rows kept_counts : List ℕ} (w : KeptRows rows counts lists kept_rows kept_counts) where
  kept-is : (i : ℕ) → i < length counts → options_at kept_rows kept_counts i ≡ keep (allows (get_or lists i [])) (options_at rows counts i)
  kept-is i h = sym (take-take (get_or kept_counts i 0) 64 (drop (64 * i) kept_rows) (w.kept i h).few) ∙ (w.kept i h).holds

  -- the options kept are those that the constraint allows
  pub kept-options : length lists ≡ length counts → options_in kept_rows kept_counts ≡ allowed lists (options_in rows counts)
  unfolding options_in
  kept-options e =
      ap (λ (n : ℕ). tabulate n (options_at kept_rows kept_counts)) w.positions
      ∙ tabulate-same (length counts) (options_at kept_rows kept_counts) (λ i. keep (allows (get_or lists i [])) (options_at rows counts i)) kept-is
      ∙ sym (ap (λ (all : List (List ℕ)). allowed all (tabulate (length counts) (options_at rows counts))) (sym (tabulate-get_or [] (length counts) lists e))
      ∙ allowed-tabulate (length counts) (λ i. get_or lists i []) (options_at rows counts))

  -- none is left where a count is 0
  pub none-left-is : none_left (options_in kept_rows kept_counts) ≡ any (eqb 0) kept_counts
  unfolding options_in
  none-left-is =
      none-left-any (tabulate (length kept_counts) (options_at kept_rows kept_counts))
      ∙ ap (any (eqb 0)) (map-tabulate length (length kept_counts) (options_at kept_rows kept_counts)
      ∙ tabulate-same (length kept_counts) (λ i. length (options_at kept_rows kept_counts i)) (λ i. get_or kept_counts i 0) (λ i h. let l : i < length counts = rw (← w.positions) h in ap length (kept-is i l) ∙ sym (w.kept i l).number)
      ∙ tabulate-get_or 0 (length kept_counts) kept_counts refl)

  -- what the pass relies on
  pub kept-searchable : {strands : ℕ} → Searchable strands rows counts → any (eqb 0) kept_counts ≡ false → Searchable strands kept_rows kept_counts
  kept-searchable {strands} s none = record {
    readable = record { sized = rw w.positions w.sized; few = λ i h. (w.kept i (rw (← w.positions) h)).few };
    short = rw w.positions s.short;
    few = s.few;
    some = λ i h. let z = eqb-false 0 (get_or kept_counts i 0) (none_passes (eqb 0) 0 kept_counts none i h) in positive (get_or kept_counts i 0) z;
    known = λ i k h l.
        let g : i < length counts = rw (← w.positions) h in
        let sized = (w.kept i g).number in
        let inside : k < length (keep (allows (get_or lists i [])) (options_at rows counts i)) = omega arith in
        let at : option_in kept_rows i k ≡ get_or (keep (allows (get_or lists i [])) (options_at rows counts i)) k 0 =
        sym (get_or-take (get_or kept_counts i 0) (drop (64 * i) kept_rows) k 0 l ∙ get_or-drop (64 * i) kept_rows k 0) ∙ ap (λ (xs : List ℕ). get_or xs k 0) (kept-is i g) in
        rw at (known_of s i _ g (of-keep (allows (get_or lists i [])) (mem-get_or 0 (keep (allows (get_or lists i [])) (options_at rows counts i)) k inside)).1);
  }
    where
      positive : (n : ℕ) → (0 ≡ n → ⊥) → 0 < n
      positive zero f = absurd (f refl)
      positive (suc n) f = omega arith

-- ---- the sum where none is left

pub zero-sum : (bias : ℕ) (place pair : ℕ → ℕ → Weight) (options : List (List ℕ)) → none_left options ≡ true → zero_weight ≡ summed bias place pair options
unfolding summed
zero-sum bias place pair options e = rw e refl
