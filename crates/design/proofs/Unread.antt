-- Designs whose amounts read alike are checked alike, and their models differ in nothing that is read.
-- Assumes nothing.
use mathlib.Core.Path.{◌≡◌, refl, sym, ap, ap₂, ◌∙◌}
use mathlib.Core.Bool.{Bool, true, false, not, ◌&&◌, ◌||◌}
use mathlib.Core.List.{List, [], ◌∷◌, ◌++◌}
use Prim.Native.Nat as Nat
use Prim.Native.Nat.{ℕ, suc, ◌<◌}
use native.Mathlib.Omega.{arith}
use lib.Dec.{leb, ltb, eqb}
use lib.ListN.{length, get_or, drop}
use lib.Ieee.{Float}
use borrow.Author.Tests.{ltb-true}
use Rattle.lists.specs.Build.{tabulate, up_to}
use Rattle.lists.specs.Find.{any, first_index}
use Rattle.lists.proofs.Build.{length-tabulate, get_or-tabulate}
use Rattle.lists.proofs.Find.{first_any, passes-first}
use Rattle.lists.proofs.Any.{none_below, all-below}
use Rattle.doubles.specs.Decimal.{zero}
use Rattle.reply.specs.First.{Check, ◌if◌, first_of}
use Rattle.reply.specs.Figures.{figures_of, entries_of}
use Rattle.reply.specs.declared.Refusal.TheVariants.{NotAFriend, TooManyStates, RankTooHigh}
use Rattle.reply.proofs.Figures.{same-figures, same_entries}
use Rattle.logarithm.specs.Near.{has_logarithm}
use Rattle.model.specs.Model.{Friend}
use Rattle.model.specs.Read.{SameRead, Alike}
use Rattle.model.proofs.Read.{only-friends-read}
use Rattle.design.specs.Design.{Design, positions, strands, amount, potential_by, potential, friends_of, model_of}
use Rattle.design.specs.Checks.{beyond, friend_at, somewhere, by_concentration, thin, dilute, unfit, wrong_sizes, sizes_out, potentials_out, bad_potential, not_all_friends, no_strand, no_position, table_checks, number_checks, design_checks, own_count_checks, own_rank_checks, own_energy_checks, strand_bond_checks, scaffold_bond_checks, friends_checks, count_checks, rank_checks, energy_checks}
use Rattle.design.specs.Answers.{no_chain}
use Rattle.design.specs.declared.Amounts.{Amounts}
use Rattle.design.specs.Unread.{with_amounts, ReadAlike, ReadsAlike, AnswersAlike, UnreadAmounts}
use Rattle.design.proofs.FriendLaws.{tested-friend}
use Rattle.std.specs.Prelude.{Ok}
use Rattle.design.proofs.Finite.{taken}

-- ---- tests of the numbers below n that agree

same_false : (a b : Bool) → (a ≡ false → b ≡ false) → (b ≡ false → a ≡ false) → a ≡ b
same_false true true f g = refl
same_false true false f g = g refl
same_false false true f g = sym (f refl)
same_false false false f g = refl

any-agree : (p q : ℕ → Bool) (n : ℕ) → ((k : ℕ) → k < n → p k ≡ q k) → any p (up_to n) ≡ any q (up_to n)
any-agree p q n h =
    same_false (any p (up_to n)) (any q (up_to n)) (λ e. all-below q n (λ k l. sym (h k l) ∙ none_below p n e k l)) (λ e. all-below p n (λ k l. h k l ∙ none_below q n e k l))

first-agree : (p q : ℕ → Bool) (n : ℕ) (f : ℕ → ℕ) → ((k : ℕ) → k < n → p (f k) ≡ q (f k)) → first_index p (tabulate n f) ≡ first_index q (tabulate n f)
unfolding first_index tabulate
first-agree p q Nat.zero f h = refl
first-agree p q (suc n) f h = rw (h 0 (omega arith), first-agree p q n (λ k. f (suc k)) (λ k l. h (suc k) (omega arith)))

-- the first number below n that passes
record Below (p : ℕ → Bool) (n : ℕ) : Type 0 where
  at : ℕ
  below : at < n
  passes : p at ≡ true

some_below : (p : ℕ → Bool) (n : ℕ) → any p (up_to n) ≡ true → Below p n
some_below p n e =
    let first = first_index p (up_to n) in
    let l : first < length (up_to n) = ltb-true _ _ (first_any p (up_to n) ∙ e) in
    let k : first < n = rw (length-tabulate n (λ i. i)) at l in
    record { at = first; below = k; passes = rw (get_or-tabulate n (λ i. i) 0 first k) at (passes-first p 0 (up_to n) l) }

-- ---- the checks

-- a strand that is somewhere a friend is one at some position
found-at : (d : Design) (x : ℕ) → x < strands d → somewhere d.scaffold d.marks d.glues d.dg d.ds x ≡ true → (i : ℕ) × Friend (model_of d) i x
unfolding somewhere
found-at d x h e =
    let at = some_below (friend_at d.scaffold d.marks d.glues d.dg d.ds x) (positions d) e in
    (at.at, tested-friend d at.at x at.below h at.passes)

-- a test of the strands that are somewhere friends, in two ways that agree on these
pub tested-alike : (d : Design) (p q : ℕ → Bool) → ((i x : ℕ) → Friend (model_of d) i x → p x ≡ q x) → (x : ℕ) → x < strands d
    → (somewhere d.scaffold d.marks d.glues d.dg d.ds x && p x) ≡ (somewhere d.scaffold d.marks d.glues d.dg d.ds x && q x)
tested-alike d p q same x h = go (somewhere d.scaffold d.marks d.glues d.dg d.ds x) (found-at d x h)
  where
    go : (t : Bool) → (t ≡ true → (i : ℕ) × Friend (model_of d) i x) → (t && p x) ≡ (t && q x)
    go true f = let w = f refl in same w.0 x w.1
    go false f = refl

-- where as many amounts are the same of strands that are somewhere friends, the same are dilute
pub thin-same : (d : Design) (amounts : List Float) → length amounts ≡ strands d → ((i x : ℕ) → Friend (model_of d) i x → amount d x ≡ get_or amounts x zero) → dilute (with_amounts d amounts d.given) ≡ dilute d
unfolding dilute
thin-same d amounts many same =
    let other = with_amounts d amounts d.given in
    rw many
    (ap (λ (t : Bool). by_concentration d.given && t)
    (any-agree (thin other) (thin d) (strands d)
    (tested-alike d (λ x. not (has_logarithm (get_or amounts x zero))) (λ x. not (has_logarithm (amount d x))) (λ i x f. ap (λ (c : Float). not (has_logarithm c)) (sym (same i x f))))))

pub reads-alike : (d : Design) (amounts : List Float) → ReadsAlike d amounts
reads-alike d amounts = record {
  others = λ many same. record { many = many; dilute = thin-same d amounts many same; friends = λ i x f. ap (potential_by d.given) (same i x f) };
  logarithms = λ none own. record { many = own.many; dilute = unfold dilute in sym none; friends = own.friends };
}

module _ (d : Design) (amounts : List Float) (given : Amounts) (r : ReadAlike d amounts given) where
  abbrev other : Design
  other = with_amounts d amounts given

  pub sizes-same : sizes_out other ≡ sizes_out d
  unfolding wrong_sizes
  sizes-same = rw r.many refl

  unfit-same : (x : ℕ) → x < strands d → unfit other x ≡ unfit d x
  unfit-same = tested-alike d (λ x. beyond 1024 (potential other x)) (λ x. beyond 1024 (potential d x)) (λ i x f. ap (beyond 1024) (sym (r.friends i x f)))

  potentials-same : potentials_out other ≡ potentials_out d
  unfolding potentials_out
  potentials-same = rw r.many (any-agree (unfit other) (unfit d) (strands d) unfit-same)

  place_same : bad_potential other ≡ bad_potential d
  unfolding bad_potential
  place_same = rw r.many (first-agree (unfit other) (unfit d) (strands d) (λ k. k) unfit-same)

  -- ---- the models

  pub same_read : SameRead (model_of d) (model_of other)
  unfolding model_of
  same_read = record { friends = rw r.many refl; site = refl; pair = refl; rt = refl; potential = r.friends }

  pub same-models : Alike (model_of d) (model_of other)
  same-models = only-friends-read (model_of d) (model_of other) same_read

  friends-same : (i : ℕ) → friends_of other i ≡ friends_of d i
  friends-same i = rw r.many refl

  pub all-friends-same : (s : List ℕ) → not_all_friends other s ≡ not_all_friends d s
  unfolding not_all_friends
  all-friends-same s = rw r.many refl

  -- ---- the replies

  pub tables-same : (own_size : Bool) → table_checks own_size d.scaffold d.marks d.glues d.dg d.ds amounts ≡ table_checks own_size d.scaffold d.marks d.glues d.dg d.ds d.amounts
  tables-same own_size = rw sizes-same refl

  pub numbers-same : number_checks other ≡ number_checks d
  numbers-same = rw (r.dilute, potentials-same, place_same) refl

  -- of a call that asks nothing else of the potentials
  pub same-design-reply : (own_size : Bool) (between after : List Check) → design_checks own_size other between after ≡ design_checks own_size d between after
  same-design-reply own_size between after = ap₂ (λ (t n : List Check). t ++ (between ++ (n ++ after))) (tables-same own_size) numbers-same

  strand-bond-reply : (x y : ℕ) → strand_bond_checks other x y ≡ strand_bond_checks d x y
  strand-bond-reply x y = ap (λ (n : ℕ). design_checks (leb n x || leb n y) other [] []) r.many ∙ same-design-reply (no_strand d x || no_strand d y) [] []

  scaffold-bond-reply : (i x : ℕ) → scaffold_bond_checks other i x ≡ scaffold_bond_checks d i x
  scaffold-bond-reply i x = ap (λ (n : ℕ). design_checks (no_position d i || leb n x) other [] []) r.many ∙ same-design-reply (no_position d i || no_strand d x) [] []

  friends-reply : (i : ℕ) (entries : List ℕ) → friends_checks other i entries ≡ friends_checks d i entries
  friends-reply i entries = same-design-reply (no_position d i || not (eqb (length entries) 64)) [] []

  count-reply : count_checks other ≡ count_checks d
  count-reply = ap (λ (n : ℕ). design_checks false other (TooManyStates if ltb 1048576 n ∷ []) []) (sym same-models.counted) ∙ same-design-reply false (own_count_checks d) []

  rank-reply : (rank : ℕ) (entries : List ℕ) → rank_checks other rank entries ≡ rank_checks d rank entries
  rank-reply rank entries =
      let size = not (eqb (length entries) (positions d)) in
      ap (λ (n : ℕ). design_checks size other (TooManyStates if ltb 1048576 n ∷ RankTooHigh if leb n rank ∷ []) []) (sym same-models.counted)
      ∙ same-design-reply size (own_rank_checks d rank) []

  energy-reply : (s : List ℕ) → energy_checks other s ≡ energy_checks d s
  energy-reply s =
      let size = not (eqb (length s) (positions d)) in
      ap (λ (t : Bool). design_checks size other (NotAFriend if t ∷ []) []) (all-friends-same s) ∙ same-design-reply size (own_energy_checks d s) []

  -- ---- the answers

  answered : {A : Type 0} (xs ys : List Check) (blank x y : A) → xs ≡ ys → (first_of ys ≡ Ok tt → y ≡ x) → figures_of (first_of ys) blank y ≡ figures_of (first_of xs) blank x
  answered xs ys blank x y e h = same-figures (first_of ys) blank y x h ∙ ap (λ (cs : List Check). figures_of (first_of cs) blank x) (sym e)

  written : {A : Type 0} (xs ys : List Check) (before x y : A) → xs ≡ ys → (first_of ys ≡ Ok tt → y ≡ x) → entries_of (first_of ys) before y ≡ entries_of (first_of xs) before x
  written xs ys before x y e h = same_entries (first_of ys) before y x h ∙ ap (λ (cs : List Check). entries_of (first_of cs) before x) (sym e)

  alike : AnswersAlike d other
  alike = record {
    strand_bonds = λ x y. answered (strand_bond_checks other x y) (strand_bond_checks d x y) zero _ _ (strand-bond-reply x y) (λ _. refl);
    scaffold_bonds = λ i x. answered (scaffold_bond_checks other i x) (scaffold_bond_checks d i x) zero _ _ (scaffold-bond-reply i x) (λ _. refl);
    friends = λ i entries. answered (friends_checks other i entries) (friends_checks d i entries) 0 _ _ (friends-reply i entries) (λ _. ap (λ (l : List ℕ). length l) (sym (friends-same i)));
    friend_entries = λ i entries. written (friends_checks other i entries) (friends_checks d i entries) entries _ _ (friends-reply i entries) (λ _. ap (λ (l : List ℕ). l ++ drop (length l) entries) (sym (friends-same i)));
    counts = answered (count_checks other) (count_checks d) 0 _ _ count-reply (λ _. same-models.counted);
    ranks = λ rank entries. answered (rank_checks other rank entries) (rank_checks d rank entries) tt tt tt (rank-reply rank entries) (λ _. refl);
    ranked_entries = λ rank entries. written (rank_checks other rank entries) (rank_checks d rank entries) entries _ _ (rank-reply rank entries) (λ _. same-models.ranked rank);
    state_energies = λ s. answered (energy_checks other s) (energy_checks d s) zero _ _ (energy-reply s) (λ e. same-models.state_energies s (taken d s e).state);
    chain_energies = λ s.
        answered (energy_checks other s) (energy_checks d s) no_chain _ _ (energy-reply s)
        (λ e. let w = (taken d s e).state in ap₂ (λ (bare product : Float). record { bare = bare; times_rt = product }) (same-models.chain_energies s w) (same-models.products s w));
  }

pub unread-amounts : UnreadAmounts
unread-amounts = record { reads = reads-alike; answers = alike }
