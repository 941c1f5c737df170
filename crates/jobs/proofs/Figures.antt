-- The figures of a job on a design that is admitted, and on one that is not. Assumes nothing.
use mathlib.Core.Path.{◌≡◌, refl, sym, ap, ◌∙◌}
use mathlib.Core.Bool.{Bool, true, false, not, cond}
use mathlib.Core.Logic.{◌⊎◌, inl, inr}
use mathlib.Core.List.{List, [], ◌∷◌, map}
use Prim.Native.Nat.{ℕ, min}
use lib.Dec.{leb, ltb, eqb}
use lib.ListN.{length, replicate}
use lib.Ieee.{Float}
use borrow.Author.Tests.{eq-eqb, ltb-false}
use Rattle.doubles.specs.Decimal.{zero}
use Rattle.reply.specs.Number.{Reply}
use Rattle.reply.specs.First.{Check, first_of, refused_if, ◌or_else◌, refuses}
use Rattle.reply.specs.Figures.{figures_of, entries_of}
use Rattle.reply.specs.declared.Refusal.{Refusal}
use Rattle.reply.specs.declared.Refusal.TheVariants.{TooManyStates, RankTooHigh}
use Rattle.model.specs.States.{count, state_at}
use Rattle.model.specs.Energy.{state_energy}
use Rattle.model.specs.Search as Search
use Rattle.design.specs.Design.{Design, positions, model_of}
use Rattle.design.specs.Checks.{table_checks, number_checks, design_checks, own_rank_checks, own_count_checks, Admitted}
use Rattle.design.proofs.Replies.{after-tables, tables-refuse}
use Rattle.prepared.proofs.Counted.{many-told, counted}
use Rattle.jobs.specs.Word.{job_of}
use Rattle.jobs.specs.Job.{places, energy_for, count_for, stretch_for, job_energy, job_count}
use Rattle.jobs.specs.inner.Settled.{energy_in, energy_of_word, count_held, count_of_word, stretch_in}
use Rattle.jobs.specs.declared.job.Job.{Job}
use Rattle.jobs.specs.declared.job.Job.TheVariants.{EnergyAt, Search, Count}
use Rattle.std.specs.Prelude.{Option, None, Some, Ok, Err}
use Rattle.jobs.proofs.Numbers.{own-size}

-- ---- an admitted design

module _ (d : Design) (a : Admitted d) where
  -- its tables and its numbers pass, so that a call's own checks decide
  own_alone : (own : Bool) (between : List Check) → own ≡ false → first_of (design_checks own d between []) ≡ first_of between or_else (Ok tt)
  own_alone own between e =
      let tables : first_of (table_checks own d.scaffold d.marks d.glues d.dg d.ds d.amounts) ≡ Ok tt = simp (e, a.sizes, a.cells, a.null) in
      let numbers : first_of (number_checks d) ≡ Ok tt = simp (a.concentrations, a.ambient, a.potentials) in
      after-tables own d between tables ∙ ap (λ (r : Reply). first_of between or_else r) numbers

  pub energy-admitted : (job : Option Job) → energy_in (model_of d) (Search.search (model_of d)).energy job ≡ energy_for d job
  energy-admitted (Some (EnergyAt rank)) =
      let energy = state_energy (model_of d) (state_at (model_of d) rank) in
      go (ltb 1048576 (count (model_of d))) (leb (count (model_of d)) rank) energy
      ∙ sym (ap (λ (r : Reply). (figures_of r zero energy).figure) (own_alone (not (eqb (length (places d)) (positions d))) (own_rank_checks d rank) (own-size d)))
    where
      go : (many high : Bool) (energy : Float) → cond many zero (cond high zero energy) ≡ (figures_of (refused_if many TooManyStates None (refused_if high RankTooHigh None (Ok tt)) or_else (Ok tt)) zero energy).figure
      go true high energy = refl
      go false true energy = refl
      go false false energy = refl
  energy-admitted (Some Search) =
      sym (ap (λ (r : Reply). (figures_of r zero (Search.search (model_of d)).energy).figure) (own_alone (not (eqb (length (places d)) (positions d))) [] (own-size d)))
  energy-admitted (Some Count) = refl
  energy-admitted None = refl

  pub count-admitted : {states : ℕ} → states ≡ min (count (model_of d)) 1048577 → (job : Option Job) → count_held states job ≡ count_for d job
  count-admitted held (Some (EnergyAt rank)) = refl
  count-admitted held (Some Search) = refl
  count-admitted {states} held (Some Count) =
      ap (λ (many : Bool). cond many 0 states) (many-told (count (model_of d)) held)
      ∙ go (ltb 1048576 (count (model_of d))) refl
      ∙ sym (ap (λ (r : Reply). (figures_of r 0 (count (model_of d))).figure) (own_alone false (own_count_checks d) refl))
    where
      go : (many : Bool) → ltb 1048576 (count (model_of d)) ≡ many → cond many 0 states ≡ (figures_of (refused_if many TooManyStates None (Ok tt) or_else (Ok tt)) 0 (count (model_of d))).figure
      go true e = refl
      go false e = counted (count (model_of d)) held (ltb-false _ _ e)
  count-admitted held None = refl

  pub stretch-admitted : (job : Option Job) (stretch : List ℕ) → length stretch ≡ positions d → stretch_in (Search.search (model_of d)).configuration job stretch ≡ stretch_for d job stretch
  stretch-admitted (Some (EnergyAt rank)) stretch e = refl
  stretch-admitted (Some Search) stretch e =
      sym (ap (λ (r : Reply). entries_of r stretch (Search.search (model_of d)).configuration) (own_alone (not (eqb (length stretch) (positions d))) [] (ap not (eq-eqb _ _ e))))
  stretch-admitted (Some Count) stretch e = refl
  stretch-admitted None stretch e = refl

-- ---- a design that is not

-- its tables refuse it, or its numbers do
abbrev pub Unfit : Design → Type 0
Unfit d =
    (why : Refusal) × (place : Option ℕ)
    × ((first_of (table_checks false d.scaffold d.marks d.glues d.dg d.ds d.amounts) ≡ refuses why place)
    ⊎ ((first_of (table_checks false d.scaffold d.marks d.glues d.dg d.ds d.amounts) ≡ Ok tt) × (first_of (number_checks d) ≡ refuses why place)))

module _ {A : Type 0} where
  blank-figure : (r : Reply) (why : Refusal) (place : Option ℕ) (blank figure : A) → (figures_of (r or_else refuses why place) blank figure).figure ≡ blank
  blank-figure (Ok u) why place blank figure = refl
  blank-figure (Err refused) why place blank figure = refl

  kept-entries : (r : Reply) (why : Refusal) (place : Option ℕ) (before written : A) → entries_of (r or_else refuses why place) before written ≡ before
  kept-entries (Ok u) why place before written = refl
  kept-entries (Err refused) why place before written = refl

module _ (d : Design) (u : Unfit d) (own : Bool) (e : own ≡ false) (between : List Check) where
  -- a call on it is refused
  refused-reply : (r : Reply) × (first_of (design_checks own d between []) ≡ r or_else refuses u.0 u.1)
  refused-reply = rw e (go u.2)
    where
      go : (first_of (table_checks false d.scaffold d.marks d.glues d.dg d.ds d.amounts) ≡ refuses u.0 u.1)
          ⊎ ((first_of (table_checks false d.scaffold d.marks d.glues d.dg d.ds d.amounts) ≡ Ok tt) × (first_of (number_checks d) ≡ refuses u.0 u.1))
          → (r : Reply) × (first_of (design_checks false d between []) ≡ r or_else refuses u.0 u.1)
      go (inl t) = (Ok tt, tables-refuse false d between [] t)
      go (inr t) = (first_of between, after-tables false d between t.0 ∙ ap (λ (r : Reply). first_of between or_else r) t.1)

  unfit-figure : {A : Type 0} (blank figure : A) → (figures_of (first_of (design_checks own d between [])) blank figure).figure ≡ blank
  unfit-figure blank figure = rw refused-reply.1 (blank-figure refused-reply.0 u.0 u.1 blank figure)

  unfit-entries : {A : Type 0} (before written : A) → entries_of (first_of (design_checks own d between [])) before written ≡ before
  unfit-entries before written = rw refused-reply.1 (kept-entries refused-reply.0 u.0 u.1 before written)

module _ (d : Design) (u : Unfit d) where
  energy-unfit : (job : Option Job) → energy_for d job ≡ zero
  energy-unfit (Some (EnergyAt rank)) = unfit-figure d u _ (own-size d) (own_rank_checks d rank) zero _
  energy-unfit (Some Search) = unfit-figure d u _ (own-size d) [] zero _
  energy-unfit (Some Count) = refl
  energy-unfit None = refl

  count-unfit : (job : Option Job) → count_for d job ≡ 0
  count-unfit (Some (EnergyAt rank)) = refl
  count-unfit (Some Search) = refl
  count-unfit (Some Count) = unfit-figure d u false refl (own_count_checks d) 0 _
  count-unfit None = refl

  pub stretch-unfit : (job : Option Job) (stretch : List ℕ) → length stretch ≡ positions d → stretch_for d job stretch ≡ stretch
  stretch-unfit (Some (EnergyAt rank)) stretch e = refl
  stretch-unfit (Some Search) stretch e = unfit-entries d u _ (ap not (eq-eqb _ _ e)) [] stretch _
  stretch-unfit (Some Count) stretch e = refl
  stretch-unfit None stretch e = refl

-- ---- of all words

each_same : {A B : Type 0} (f g : A → B) → ((x : A) → f x ≡ g x) → (xs : List A) → map f xs ≡ map g xs
each_same f g e [] = refl
each_same f g e (x ∷ xs) = rw (e x, each_same f g e xs) refl

each-one : {A B : Type 0} (f : A → B) (b : B) → ((x : A) → f x ≡ b) → (xs : List A) → replicate (length xs) b ≡ map f xs
each-one f b e [] = refl
each-one f b e (x ∷ xs) = rw (e x, each-one f b e xs) refl

module _ (d : Design) (a : Admitted d) (jobs : List ℕ) where
  pub energies-admitted : map (energy_of_word (model_of d) (Search.search (model_of d)).energy) jobs ≡ map (job_energy d) jobs
  unfolding energy_of_word job_energy
  energies-admitted = each_same (energy_of_word (model_of d) (Search.search (model_of d)).energy) (job_energy d) (λ word. energy-admitted d a (job_of word)) jobs

  pub counts-admitted : {states : ℕ} → states ≡ min (count (model_of d)) 1048577 → map (count_of_word states) jobs ≡ map (job_count d) jobs
  unfolding count_of_word job_count
  counts-admitted {states} held = each_same (count_of_word states) (job_count d) (λ word. count-admitted d a held (job_of word)) jobs

module _ (d : Design) (u : Unfit d) (jobs : List ℕ) where
  pub energies-unfit : replicate (length jobs) zero ≡ map (job_energy d) jobs
  unfolding job_energy
  energies-unfit = each-one (job_energy d) zero (λ word. energy-unfit d u (job_of word)) jobs

  pub counts-unfit : replicate (length jobs) 0 ≡ map (job_count d) jobs
  unfolding job_count
  counts-unfit = each-one (job_count d) 0 (λ word. count-unfit d u (job_of word)) jobs
