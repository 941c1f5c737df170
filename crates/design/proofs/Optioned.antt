-- The rows of options: one more, and what they are of a model of these friends. Assumes nothing.
use mathlib.Core.Path.{◌≡◌, sym, ap, ◌∙◌}
use mathlib.Core.Logic.{inl, inr}
use mathlib.Core.Bool.{Bool, false, true, cond}
use mathlib.Core.List.Memᴰ
use mathlib.Core.List.{List, [], ◌∷◌, ◌++◌}
use Prim.Native.Nat.{ℕ, zero, suc, ◌+◌, ◌*◌, ◌<◌, ◌≤◌}
use native.Mathlib.Nat.{ne_of_lt}
use native.Mathlib.Omega.{arith}
use lib.ListN.{length, get_or, take, drop, set, length-append, length-drop}
use lib.Seq.{get_or-set_same, get_or-set_other, get_or-take, get_or-drop, take-append-add, drop-cons, set_at}
use lib.Ieee.{Float}
use borrow.Author.Count.{below_more}
use Rattle.lists.specs.Build.{up_to, keep}
use Rattle.lists.proofs.Build.{length-tabulate, get_or-tabulate, keep-later}
use Rattle.lists.proofs.Keep.{kept-below}
use Rattle.lists.proofs.Places.{mem-get_or}
use Rattle.model.specs.Model as Model
use Rattle.model.specs.Model.{Model, options_of}
use Rattle.ensemble.specs.Layout.{Searchable, OptionRows}
use Rattle.design.specs.Design.{blocked_at, befriends, friends_to, friends_in, friend_lists}
use Rattle.design.specs.Filling.{Optioned}
use Rattle.design.proofs.Parts.{with_part, part-is, part-before}

-- ---- one row

length-keep : {A : Type 0} (p : A → Bool) (xs : List A) → length (keep p xs) ≤ length xs
unfolding keep
length-keep p [] = omega arith
length-keep p (x ∷ xs) = go (p x) (length-keep p xs)
  where
    go : (b : Bool) → length (keep p xs) ≤ length xs → length (cond b (x ∷ keep p xs) (keep p xs)) ≤ suc (length xs)
    go true h = omega arith
    go false h = omega arith

-- where strand 0 is no friend there is room for one more
pub friends-few : (glue : ℕ) (glues : List ℕ) (dg ds : List Float) (strands : ℕ) → 0 < strands → befriends glue glues dg ds 0 ≡ false → length (friends_to glue glues dg ds strands) < strands
unfolding friends_to
friends-few glue glues dg ds strands some null =
    let test = befriends glue glues dg ds in
    let rest : List ℕ = drop 1 (up_to strands) in
    let shorter : length rest + 1 ≡ strands = simp (length-drop, length-tabulate) (omega arith) in
    let later : keep test (up_to strands) ≡ keep test rest = keep-later test strands 0 some null in
    omega (arith, ap length later, length-keep test rest)

-- the friends with 0 stored behind them
pub optioned : (friends row : List ℕ) (count : ℕ) → length row ≡ 64 → count ≡ length friends → count < 64 → Optioned friends (set (friends ++ drop (length friends) row) count 0) (count + 1)
optioned friends row count sized e h =
    let inside : length friends < length row = omega arith in
    record {
      number = ap (λ (n : ℕ). n + 1) e;
      few = omega arith;
      options =
          rw (drop-cons row (length friends) 0 inside, set_at friends (get_or row (length friends) 0) (drop (suc (length friends)) row) 0 count (sym e), e)
          (take-append-add friends (0 ∷ drop (suc (length friends)) row) 1);
    }

-- ---- all rows

-- the row of a position holds its options
abbrev pub RowAt : (ℕ → List ℕ) → List ℕ → List ℕ → ℕ → Type 0
RowAt friends rows counts i = Optioned (friends i) (take 64 (drop (64 * i) rows)) (get_or counts i 0)

pub rows_more : (friends : ℕ → List ℕ) (rows counts : List ℕ) (i : ℕ) (row : List ℕ) (n : ℕ) → 64 * i + 64 ≤ length rows → i < length counts → length row ≡ 64 → ((k : ℕ) → k < i → RowAt friends rows counts k)
    → Optioned (friends i) row n → (k : ℕ) → k < i + 1 → RowAt friends (with_part rows (64 * i) 64 row) (set counts i n) k
rows_more friends rows counts i row n inside here full old new =
    below_more (RowAt friends (with_part rows (64 * i) 64 row) (set counts i n)) i
    (λ k h. rw (part-before rows (64 * i) 64 row inside full 0 (64 * k) 64 (omega arith), get_or-set_other counts i k n 0 (ne_of_lt h)) (old k h))
    (rw (part-is rows (64 * i) 64 row inside full, get_or-set_same counts i n 0 here) new)

-- the friends of a position that is blocked or not
abbrev listed_at : Bool → ℕ → List ℕ → List Float → List Float → ℕ → List ℕ
listed_at blocked glue glues dg ds strands = cond blocked [] (friends_to glue glues dg ds strands)

-- there is room for one more at each position
pub listed-few : (blocked : Bool) (glue : ℕ) (glues : List ℕ) (dg ds : List Float) (strands : ℕ) → 0 < strands → befriends glue glues dg ds 0 ≡ false → length (listed_at blocked glue glues dg ds strands) < strands
listed-few true glue glues dg ds strands some null = some
listed-few false glue glues dg ds strands some null = friends-few glue glues dg ds strands some null

-- each option is one of the strands
option-low : (glue : ℕ) (glues : List ℕ) (dg ds : List Float) (strands k : ℕ) → 0 < strands → k < length (options_of (friends_to glue glues dg ds strands)) → get_or (options_of (friends_to glue glues dg ds strands)) k 0 < strands
unfolding friends_to
option-low glue glues dg ds strands k some h =
    let friends = keep (befriends glue glues dg ds) (up_to strands) in
    elim (Memᴰ.append_cases friends (mem-get_or 0 (options_of friends) k h)) [
      | inl m ↦ kept-below (befriends glue glues dg ds) strands m
      | inr m ↦ let e = Memᴰ.eq_of_singleton m in omega (arith, e)
    ]

listed-low : (blocked : Bool) (glue : ℕ) (glues : List ℕ) (dg ds : List Float) (strands k : ℕ) → 0 < strands → k < length (options_of (listed_at blocked glue glues dg ds strands)) → get_or (options_of (listed_at blocked glue glues dg ds strands)) k 0 < strands
listed-low true glue glues dg ds strands zero some h = some
listed-low true glue glues dg ds strands (suc k) some h = absurd (omega arith)
listed-low false glue glues dg ds strands k some h = option-low glue glues dg ds strands k some h

module _ (scaffold marks glues : List ℕ) (dg ds : List Float) (strands : ℕ) (rows counts : List ℕ) (rooms : 64 * length scaffold ≤ length rows) (places : length counts ≡ length scaffold)
    (w : (i : ℕ) → i < length scaffold → RowAt (friends_in scaffold marks glues dg ds strands) rows counts i) where
  pub all-searchable : 0 < strands → strands ≤ 64 → length scaffold ≤ 128 → Searchable strands rows counts
  all-searchable some few short = record {
    readable = record { sized = rw places rooms; few = λ i h. (w i (rw places at h)).few };
    short = rw places short;
    few = few;
    some = λ i h. omega (arith, (w i (rw places at h)).number);
    known = λ i k h l.
        let v = w i (rw places at h) in
        let friends = friends_in scaffold marks glues dg ds strands i in
        let at_row : get_or (take (get_or counts i 0) (take 64 (drop (64 * i) rows))) k 0 ≡ get_or rows (64 * i + k) 0 =
        get_or-take (get_or counts i 0) (take 64 (drop (64 * i) rows)) k 0 l ∙ get_or-take 64 (drop (64 * i) rows) k 0 (omega (arith, v.few)) ∙ get_or-drop (64 * i) rows k 0 in
        let e : get_or rows (64 * i + k) 0 ≡ get_or (options_of friends) k 0 = sym at_row ∙ ap (λ (xs : List ℕ). get_or xs k 0) v.options in
        rw e (listed-low (blocked_at marks i) (get_or scaffold i 0) glues dg ds strands k some (rw (length-append friends (0 ∷ [])) (omega (arith, v.number))));
  }

  pub all-options : (m : Model) → m.friends ≡ friend_lists scaffold marks glues dg ds strands → OptionRows m rows counts
  all-options m e =
      let number : Model.positions m ≡ length scaffold = ap length e ∙ length-tabulate (length scaffold) (friends_in scaffold marks glues dg ds strands) in
      record {
        positions = places ∙ sym number;
        sized = rw number rooms;
        few = λ i h. (w i (rw number at h)).few;
        options = λ i h.
            let l : i < length scaffold = rw number at h in
            (w i l).options ∙ ap options_of (sym (ap (λ (xs : List (List ℕ)). get_or xs i []) e ∙ get_or-tabulate (length scaffold) (friends_in scaffold marks glues dg ds strands) [] i l));
      }
