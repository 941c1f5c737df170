-- The options of a model in rows that are lent: how many ways they give, and which stand where. Assumes nothing.
use mathlib.Core.Path.{◌≡◌, refl, sym, ap, ◌∙◌}
use mathlib.Core.Logic.{◌⊎◌, inl, inr}
use mathlib.Core.List.Memᴰ
use mathlib.Core.List.{List, [], ◌∷◌, map, Memᴰ}
use Prim.Native.Nat.{ℕ, ◌+◌, ◌*◌, ◌-◌, ◌/◌, ◌%◌, ◌<◌, ◌≤◌}
use native.Mathlib.Numerals.{add-one}
use native.Mathlib.Omega.{arith}
use lib.ListN.{length, get_or, take, drop, length-append, length-drop, length-map, drop_of_length-le}
use lib.Seq.{drop-cons, get_or-take, get_or-drop, take-take, take_at, length-take-le, ext_get_or}
use Rattle.lists.specs.Build.{product}
use Rattle.lists.proofs.Places.{drop-map, get_or-map-lt}
use Rattle.lists.proofs.Places.{mem-get_or}
use Rattle.model.specs.Model as Model
use Rattle.model.specs.Model.{Model, Friend, friends_at, options, options_of}
use Rattle.model.specs.States.{choices, choice_at, count}
use Rattle.model.specs.Search.{options_at}
use Rattle.model.proofs.Count.{count-choices}
use Rattle.ensemble.specs.Layout.{Readable, Searchable, OptionRows, option_in}

-- a row of 64 ends where the next begins
pub row_inside : (i n : ℕ) → i < n → 64 * i + 64 ≤ 64 * n
row_inside i n h = omega arith

module _ {m : Model} {rows counts : List ℕ} (w : OptionRows m rows counts) where
  -- what the code relies on
  pub readable : Readable rows counts
  readable = record { sized = rw w.positions w.sized; few = λ i h. w.few i (rw (← w.positions) h) }

  -- a position's row
  pub options-are : (i : ℕ) → i < Model.positions m → take (get_or counts i 0) (drop (64 * i) rows) ≡ options_at m i
  options-are i h = sym (take-take (get_or counts i 0) 64 (drop (64 * i) rows) (w.few i h)) ∙ w.options i h

  row_room : (i : ℕ) → i < Model.positions m → get_or counts i 0 ≤ length (drop (64 * i) rows)
  row_room i h =
      let few = w.few i h in
      let sized = w.sized in
      rw (length-drop (64 * i) rows) (omega arith)

  pub count-is : (i : ℕ) → i < Model.positions m → get_or counts i 0 ≡ length (options_at m i)
  count-is i h = sym (length-take-le (get_or counts i 0) (drop (64 * i) rows) (row_room i h)) ∙ ap length (options-are i h)

  pub option_is : (i k : ℕ) → i < Model.positions m → k < get_or counts i 0 → option_in rows i k ≡ get_or (options_at m i) k 0
  option_is i k h l =
      sym (get_or-drop (64 * i) rows k 0) ∙ sym (get_or-take (get_or counts i 0) (drop (64 * i) rows) k 0 l) ∙ ap (λ (xs : List ℕ). get_or xs k 0) (options-are i h)

  -- one less for the friends
  pub friends-are : (i : ℕ) → i < Model.positions m → take (get_or counts i 0 - 1) (drop (64 * i) rows) ≡ friends_at m i
  friends-are i h =
      let friends = friends_at m i in
      let number : get_or counts i 0 ≡ length friends + 1 = count-is i h ∙ length-append friends (0 ∷ []) in
      let fewer : get_or counts i 0 - 1 ≡ length friends = omega arith in
      let less : get_or counts i 0 - 1 ≤ get_or counts i 0 = omega arith in
      sym (take-take (get_or counts i 0 - 1) (get_or counts i 0) (drop (64 * i) rows) less) ∙ ap (take (get_or counts i 0 - 1)) (options-are i h) ∙ take_at friends (0 ∷ []) (get_or counts i 0 - 1) (sym fewer)

  counts-are : counts ≡ map length (options m)
  counts-are =
      ext_get_or 0 counts (map length (options m)) (w.positions ∙ sym (length-map (options m) length ∙ length-map m.friends options_of))
      (λ i l.
      let h : i < Model.positions m = rw (← w.positions) l in
      count-is i h ∙ sym (get_or-map-lt length (options m) i [] 0 (rw (length-map m.friends options_of) h) ∙ ap length (get_or-map-lt options_of m.friends i [] [] h)))

  -- the product of the counts is the number of states
  pub product_is : product counts ≡ count m
  unfolding choices
  product_is = ap product counts-are ∙ count-choices m

  -- ---- the state at a rank, one position after the other

  later-ways : (i : ℕ) → product (drop i counts) ≡ choices (drop i (options m))
  unfolding choices
  later-ways i = ap (λ (xs : List ℕ). product (drop i xs)) counts-are ∙ ap product (drop-map length (options m) i)

  pub choice-more : (i rank : ℕ) → i < Model.positions m → rank / product (drop (i + 1) counts) < get_or counts i 0
      → choice_at (drop i (options m)) rank ≡ option_in rows i (rank / product (drop (i + 1) counts)) ∷ choice_at (drop (i + 1) (options m)) (rank % product (drop (i + 1) counts))
  unfolding choice_at
  choice-more i rank h l =
      let inside : i < length (options m) = rw (length-map m.friends options_of) h in
      let here : get_or (options m) i [] ≡ options_at m i = get_or-map-lt options_of m.friends i [] [] h in
      rw (option_is i (rank / product (drop (i + 1) counts)) h l, later-ways (i + 1), add-one, drop-cons (options m) i [] inside, here) refl

  pub choice-past : (i rank : ℕ) → Model.positions m ≤ i → choice_at (drop i (options m)) rank ≡ []
  unfolding choice_at
  choice-past i rank h = rw (drop_of_length-le (options m) (let l : length (options m) ≤ i = rw (length-map m.friends options_of) h in l)) refl

-- what the search relies on, too
pub searchable : {m : Model} {rows counts : List ℕ} (strands : ℕ) → OptionRows m rows counts → Model.positions m ≤ 128 → 0 < strands → strands ≤ 64 → ((i strand : ℕ) → Friend m i strand → strand < strands) → Searchable strands rows counts
searchable {m} {rows} {counts} strands w short null few friends = record {
  readable = readable w;
  short = rw w.positions short;
  few = few;
  some = λ i h. let e = count-is w i (in-model i h) ∙ length-append (friends_at m i) (0 ∷ []) in omega arith;
  known = λ i k h l. rw (option_is w i k (in-model i h) l) (below i (get_or (options_at m i) k 0) (mem-get_or 0 (options_at m i) k (rw (← count-is w i (in-model i h)) l)));
}
  where
    in-model : (i : ℕ) → i < length counts → i < Model.positions m
    in-model i h = rw (← w.positions) h

    below : (i x : ℕ) → Memᴰ x (options_at m i) → x < strands
    below i x o = go (Memᴰ.append_cases (friends_at m i) o)
      where
        go : Friend m i x ⊎ Memᴰ x (0 ∷ []) → x < strands
        go (inl f) = friends i x f
        go (inr z) = rw (Memᴰ.eq_of_singleton z) null
