-- The exact sums read the potentials of friends alone, so designs whose amounts read alike have the same answers. Assumes nothing.
use mathlib.Core.Path.{◌≡◌, refl, sym, ap, ap₂, subst, ◌∙◌}
use mathlib.Core.Logic.{◌⊎◌, inl, inr}
use mathlib.Core.Bool.{Bool, false, cond, not, ◌||◌}
use mathlib.Core.List.Memᴰ
use mathlib.Core.List.{List, [], ◌∷◌, Memᴰ}
use Prim.Native.Nat.{ℕ, suc, ◌*◌, ◌/◌, ◌%◌, ◌<◌}
use lib.Dec.{eqb}
use lib.IntN.{ℤ}
use lib.ListN.{length, get_or}
use lib.Ieee.{Float, binary64, neg, sub}
use borrow.Author.Tests.{eq-eqb}
use Rattle.std.specs.Prelude.{Result, Ok, Err}
use Rattle.lists.specs.Build.{keep}
use Rattle.lists.proofs.Keep.{of-keep}
use Rattle.reply.specs.First.{first_of}
use Rattle.reply.specs.Number.{Reply}
use Rattle.reply.specs.declared.Refused.{Refused}
use Rattle.fractions.specs.Frac.{one}
use Rattle.fractions.specs.Number.{Number, exactly, sum_of, product_of, quotient_of}
use Rattle.fractions.specs.declared.Weight.{Weight}
use Rattle.model.specs.Model.{Model, State, Friend}
use Rattle.model.specs.States.{states}
use Rattle.model.specs.Read.{SameRead}
use Rattle.model.proofs.Bounds.{Occupants, occupants}
use Rattle.model.proofs.Listing.{listed}
use Rattle.model.proofs.Read.{only-friends-read}
use Rattle.design.specs.declared.Amounts.{Amounts}
use Rattle.design.specs.Design.{Design, positions, strands, model_of}
use Rattle.design.specs.Unread.{with_amounts, ReadAlike}
use Rattle.design.proofs.Unread.{same_read, same-design-reply}
use Rattle.partition.specs.Constraint.{meets}
use Rattle.partition.specs.Sum.{SumAnswered}
use Rattle.partition.specs.Weights.{weight_at}
use Rattle.state_sums.specs.Sizes.{wrong_lists}
use Rattle.state_sums.specs.Answers.{constraint_of}
use Rattle.probabilities.specs.Numbers.{number_place, number_pair, number_from, number_sum, place_argument, pair_argument, exp_of, exact_sum, FreeEnergySum, ConstrainedEnergySum, Probability}
use Rattle.probabilities.specs.Answers.{bare_checks, energy_checks, Said}
use Rattle.probabilities.specs.Occupants.{only_here, wrong_entries, OccupantsFilled}
use Rattle.probabilities.specs.Unread.{UnreadByEnergies}

-- ---- sums over states, of weights that agree on friends

module _ (m : Model) (place other pair : ℕ → ℕ → Number) (same : (i x : ℕ) → Friend m i x → place i x ≡ other i x) where
  place-same : (i x : ℕ) → (x ≡ 0) ⊎ Friend m i x → number_place place pair i x ≡ number_place other pair i x
  place-same i x (inl e) = rw (eq-eqb x 0 e) refl
  place-same i x (inr f) = ap (λ (w : Number). cond (eqb x 0) (exactly one) w) (same i x f)

  from-same : (i : ℕ) (s : List ℕ) → Occupants m i s → number_from place pair i s ≡ number_from other pair i s
  unfolding number_from
  from-same i [] o = refl
  from-same i (x ∷ []) o = place-same i x o.0
  from-same i (x ∷ y ∷ s) o =
      ap₂ (λ (here later : Number). product_of here (product_of (number_pair place pair x y) later)) (place-same i x o.0) (from-same (suc i) (y ∷ s) o.1)

  sum-same : (several : List (List ℕ)) → ((s : List ℕ) → Memᴰ s several → State m s) → number_sum place pair several ≡ number_sum other pair several
  unfolding number_sum
  sum-same [] h = refl
  sum-same (s ∷ several) h =
      ap₂ (λ (here later : Number). sum_of here later) (from-same 0 s (occupants m s (h s (Memᴰ.head refl)))) (sum-same several (λ t k. h t (Memᴰ.tail k)))

-- ---- of two models that are read alike

module _ (m n : Model) (r : SameRead m n) where
  -- the argument of a friend
  argument-same : (i x : ℕ) → Friend m i x → exp_of (place_argument m i x) ≡ exp_of (place_argument n i x)
  argument-same i x f = ap₂ (λ (site : ℕ → ℕ → Float) (p : Float). exp_of (neg (sub binary64 (site i x) p))) r.site (r.potential i x f)

  exact-same : (several : List (List ℕ)) → ((s : List ℕ) → Memᴰ s several → State m s) → exact_sum m several ≡ exact_sum n several
  exact-same several h =
      sum-same m (λ i x. exp_of (place_argument m i x)) (λ i x. exp_of (place_argument n i x)) (λ x y. exp_of (pair_argument m x y)) argument-same several h
      ∙ ap (λ (pair : ℕ → ℕ → Float). number_sum (λ i x. exp_of (place_argument n i x)) (λ x y. exp_of (neg (pair x y))) several) r.pair

  listed-same : states m ≡ states n
  listed-same = (only-friends-read m n r).listed

  all-same : exact_sum m (states m) ≡ exact_sum n (states n)
  all-same = exact-same (states m) (listed m).only ∙ ap (exact_sum n) listed-same

  abbrev kept : Model → List (List ℕ) → List (List ℕ)
  kept k lists = keep (meets lists) (states k)

  kept-same : (lists : List (List ℕ)) → exact_sum m (kept m lists) ≡ exact_sum n (kept n lists)
  kept-same lists =
      exact-same (kept m lists) (λ s k. (listed m).only s (of-keep (meets lists) k).1) ∙ ap (λ (ss : List (List ℕ)). exact_sum n (keep (meets lists) ss)) listed-same

  -- what is answered by one is answered by the other
  moved : (k : ℕ) {several another : List (List ℕ)} {x y : Number} → several ≡ another → x ≡ y → (w : Weight) → SumAnswered k 80001 several x w → SumAnswered k 80001 another y w
  moved k {several} {another} {x} {y} e f w h = subst (λ (l : List (List ℕ)). SumAnswered k 80001 l y w) e (subst (λ (z : Number). SumAnswered k 80001 several z w) f h)

  free-moved : (w : Weight) → FreeEnergySum m w → FreeEnergySum n w
  free-moved = moved 14 listed-same all-same

  constrained-moved : (lists : List (List ℕ)) (w : Weight) → ConstrainedEnergySum m lists w → ConstrainedEnergySum n lists w
  constrained-moved lists = moved 14 (ap (keep (meets lists)) listed-same) (kept-same lists)

  probability-moved : (lists : List (List ℕ)) (w : Weight) → Probability m lists w → Probability n lists w
  probability-moved lists = moved 12 (ap (keep (meets lists)) listed-same) (ap₂ quotient_of (kept-same lists) all-same)

-- ---- and the other way round

back : (m n : Model) → SameRead m n → SameRead n m
back m n r = record {
  friends = sym r.friends;
  site = sym r.site;
  pair = sym r.pair;
  rt = sym r.rt;
  potential = λ i x f. sym (r.potential i x (subst (λ (l : List (List ℕ)). Memᴰ x (get_or l i [])) (sym r.friends) f));
}

-- an answer, by its reply and by what holds of its figure
said-moved : {first second : Reply} {One Other : Weight → Type 0} → first ≡ second → ((w : Weight) → One w → Other w) → (r : Result Weight Refused) → Said first One r → Said second Other r
said-moved e f (Ok w) h = (sym e ∙ h.0, f w h.1)
said-moved e f (Err refused) h = sym e ∙ h

-- ---- of two designs

module _ (d : Design) (amounts : List Float) (given : Amounts) (r : ReadAlike d amounts given) where
  abbrev other : Design
  other = with_amounts d amounts given

  there : SameRead (model_of d) (model_of other)
  there = same_read d amounts given r

  home : SameRead (model_of other) (model_of d)
  home = back (model_of d) (model_of other) there

  replies-same : (own_size : Bool) → first_of (energy_checks own_size d) ≡ first_of (energy_checks own_size other)
  replies-same own_size = ap first_of (sym (same-design-reply d amounts given r own_size [] (bare_checks d)))

  tables-same : (digits : List ℕ) (powers : List ℤ) → wrong_entries d digits powers ≡ wrong_entries other digits powers
  tables-same digits powers =
      ap (λ (n : ℕ). not (eqb (length digits) (positions d * n)) || not (eqb (length powers) (positions d * n))) (sym r.many)

  abbrev Cells : Model → ℕ → List ℕ → List ℤ → Type 0
  Cells m n digits powers = (cell : ℕ) → cell < positions d * n → Probability m (only_here (positions d) (cell / n) (cell % n)) (weight_at digits powers cell)

  filled-there : (digits : List ℕ) (powers : List ℤ) → OccupantsFilled d digits powers → OccupantsFilled other digits powers
  filled-there digits powers h =
      subst (λ (n : ℕ). Cells (model_of other) n digits powers) (sym r.many) (λ cell l. probability-moved (model_of d) (model_of other) there (only_here (positions d) (cell / strands d) (cell % strands d)) (weight_at digits powers cell) (h cell l))

  filled-home : (digits : List ℕ) (powers : List ℤ) → OccupantsFilled other digits powers → OccupantsFilled d digits powers
  filled-home digits powers h =
      subst (λ (n : ℕ). Cells (model_of d) n digits powers) r.many (λ cell l. probability-moved (model_of other) (model_of d) home (only_here (positions d) (cell / strands other) (cell % strands other)) (weight_at digits powers cell) (h cell l))

pub unread-by-energies : UnreadByEnergies
unread-by-energies d amounts given r =
    let m = model_of d in
    let n = model_of (with_amounts d amounts given) in
    let to = there d amounts given r in
    let from = home d amounts given r in
    let e = replies-same d amounts given r in
    record {
      free = λ a. (said-moved (e false) (free-moved m n to) a, said-moved (sym (e false)) (free-moved n m from) a);
      constrained = λ l a.
          let lists = constraint_of l in
          let size = wrong_lists (positions d) l in
          (said-moved (e size) (constrained-moved m n to lists) a, said-moved (sym (e size)) (constrained-moved n m from lists) a);
      probabilities = λ l a.
          let lists = constraint_of l in
          let size = wrong_lists (positions d) l in
          (said-moved (e size) (probability-moved m n to lists) a, said-moved (sym (e size)) (probability-moved n m from lists) a);
      replies = λ digits powers.
          e (wrong_entries d digits powers) ∙ ap (λ (b : Bool). first_of (energy_checks b (with_amounts d amounts given))) (tables-same d amounts given r digits powers);
      occupants = λ digits powers. (filled-there d amounts given r digits powers, filled-home d amounts given r digits powers);
      exact = all-same m n to;
      exact_constrained = kept-same m n to;
    }
