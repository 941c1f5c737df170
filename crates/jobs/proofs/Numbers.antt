-- The number of a job by what its design was judged for once. Assumes nothing.
use mathlib.Core.Path.{◌≡◌, refl, sym, ap, ap₂, ◌∙◌}
use mathlib.Core.Bool.{Bool, false, not}
use mathlib.Core.List.{List, [], ◌∷◌, ◌++◌}
use Prim.Native.Nat.{ℕ, ◌<◌, min}
use native.Mathlib.Decide.{ℕ_discrete, dec_lt}
use native.Mathlib.Omega.{arith}
use lib.Dec.{leb, ltb, eqb}
use lib.ListN.{length, length-replicate}
use borrow.Author.Tests.{lt-ltb, eq-eqb, ne_eqb}
use Rattle.reply.specs.Number.{number_of, reply_number, answer_number, Reply}
use Rattle.reply.specs.First.{Check, bare, first_of, ◌if◌, ◌or_else◌}
use Rattle.reply.specs.Figures.{figures_of}
use Rattle.reply.specs.declared.Refusal.{Refusal}
use Rattle.reply.specs.declared.Refusal.TheVariants.{TooManyStates, RankTooHigh}
use Rattle.reply.proofs.First.{joined}
use Rattle.reply.proofs.Answer.{number-positive}
use Rattle.model.specs.States.{count}
use Rattle.design.specs.Design.{Design, positions, model_of}
use Rattle.design.specs.Checks.{table_checks, number_checks, design_checks, own_rank_checks, own_count_checks}
use Rattle.jobs.specs.Job.{places, number_for}
use Rattle.jobs.specs.inner.Judged.{◌or_next◌, reply_of, states_of, numbers_of, judged_reply, JudgedRight}
use Rattle.jobs.specs.declared.job.Job.TheVariants.{EnergyAt, Search, Count}
use Rattle.jobs.specs.declared.job.Job.{Job}
use Rattle.std.specs.Prelude.{cond, Option, None, Some, Result, Ok, Err}
use Rattle.jobs.specs.declared.judge.Judged.{Judged}

-- ---- numbers of replies

-- the first of two numbers that is not 0
abbrev first_number : ℕ → ℕ → ℕ
first_number number next = cond (eqb number 0) next number

pub number-or : (r s : Reply) → reply_number (r or_else s) ≡ first_number (reply_number r) (reply_number s)
number-or (Ok u) s = refl
number-or (Err refused) s =
    let not-zero : number_of refused.refusal ≡ 0 → ⊥ = λ e. omega (arith, number-positive refused.refusal) in
    rw (ne_eqb (number_of refused.refusal) 0 not-zero) refl

number-joined : (xs ys : List Check) → reply_number (first_of (xs ++ ys)) ≡ first_number (reply_number (first_of xs)) (reply_number (first_of ys))
number-joined xs ys = ap reply_number (sym (joined xs ys)) ∙ number-or (first_of xs) (first_of ys)

figures-number : {A : Type 0} (r : Reply) (blank figure : A) → (figures_of r blank figure).number ≡ reply_number r
figures-number (Ok u) blank figure = refl
figures-number (Err refused) blank figure = refl

bare-number : (r : Reply) → answer_number (bare r) ≡ reply_number r
bare-number (Ok u) = refl
bare-number (Err refused) = refl

bare-or : (r s : Result Unit Refusal) → answer_number (r or_next s) ≡ first_number (answer_number r) (answer_number s)
bare-or (Ok u) s = refl
bare-or (Err refusal) s =
    let not-zero : number_of refusal ≡ 0 → ⊥ = λ e. omega (arith, number-positive refusal) in
    rw (ne_eqb (number_of refusal) 0 not-zero) refl

passed : (r : Result Unit Refusal) → answer_number r ≡ 0 → r ≡ Ok tt
passed (Ok u) e = refl
passed (Err refusal) e = absurd (omega (arith, number-positive refusal))

-- an entry is lent for each position
pub own-size : (d : Design) → not (eqb (length (places d)) (positions d)) ≡ false
own-size d = ap not (eq-eqb _ _ (length-replicate (positions d) 0))

-- ---- the number of states and a rank

-- whether there are too many states, as a number
abbrev many_of : ℕ → ℕ
many_of states = reply_number (first_of (TooManyStates if ltb 1048576 states ∷ []))

-- whether a rank is too high
abbrev high_of : ℕ → ℕ → ℕ
high_of states rank = reply_number (first_of (RankTooHigh if leb states rank ∷ []))

module _ (n : ℕ) {states : ℕ} (held : states ≡ min n 1048577) where
  many-number : (rest : ℕ) → first_number (many_of states) rest ≡ first_number (many_of n) rest
  many-number rest = go (dec_lt 1048576 n)
    where
      go : Dec (1048576 < n) → first_number (many_of states) rest ≡ first_number (many_of n) rest
      go (yes h) = let l : 1048576 < states = omega arith in rw (lt-ltb 1048576 states l, lt-ltb 1048576 n h) refl
      go (no h) = let same : states ≡ n = omega arith in ap (λ (k : ℕ). first_number (many_of k) rest) same

  rank-number : (rank rest : ℕ) → first_number (many_of states) (first_number (high_of states rank) rest) ≡ first_number (many_of n) (first_number (high_of n rank) rest)
  rank-number rank rest = go (dec_lt 1048576 n)
    where
      go : Dec (1048576 < n) → first_number (many_of states) (first_number (high_of states rank) rest) ≡ first_number (many_of n) (first_number (high_of n rank) rest)
      go (yes h) = let l : 1048576 < states = omega arith in rw (lt-ltb 1048576 states l, lt-ltb 1048576 n h) refl
      go (no h) = let same : states ≡ n = omega arith in ap (λ (k : ℕ). first_number (many_of k) (first_number (high_of k rank) rest)) same

-- ---- of a design

module _ (d : Design) {j : Result Judged Refusal} (w : JudgedRight d j) where
  abbrev tables : List Check
  tables = table_checks false d.scaffold d.marks d.glues d.dg d.ds d.amounts

  abbrev numbers : ℕ
  numbers = reply_number (first_of (number_checks d))

  -- the judged replies as numbers
  abbrev told : ℕ
  told = answer_number (reply_of j)

  told-is : told ≡ reply_number (first_of tables)
  told-is = ap answer_number w.tables ∙ bare-number (first_of tables)

  numbers-are : told ≡ 0 → answer_number (numbers_of j) ≡ numbers
  numbers-are z = ap answer_number (w.numbers (passed (reply_of j) z)) ∙ bare-number (first_of (number_checks d))

  -- where the tables refuse, what comes after is not looked at
  after : (x y : ℕ) → (told ≡ 0 → x ≡ y) → first_number told x ≡ first_number (reply_number (first_of tables)) y
  after x y h = go (ℕ_discrete told 0)
    where
      go : Dec (told ≡ 0) → first_number told x ≡ first_number (reply_number (first_of tables)) y
      go (yes e) = rw (← told-is, eq-eqb told 0 e) (h e)
      go (no n) = rw (← told-is, ne_eqb told 0 n) refl

  -- the number of a direct call, its own checks between the tables and the numbers
  whole : {A : Type 0} (own : Bool) (between : List Check) (blank figure : A) → own ≡ false → (x : ℕ) → (told ≡ 0 → x ≡ reply_number (first_of (between ++ number_checks d)))
      → first_number told x ≡ (figures_of (first_of (design_checks own d between [])) blank figure).number
  whole own between blank figure e x h =
      after x _ h
      ∙ sym (number-joined tables (between ++ number_checks d))
      ∙ sym (ap (λ (b : Bool). reply_number (first_of (design_checks b d between []))) e)
      ∙ sym (figures-number (first_of (design_checks own d between [])) blank figure)

  search-told : first_number told (answer_number (numbers_of j)) ≡ number_for d (Some Search)
  search-told = whole _ [] _ _ (own-size d) (answer_number (numbers_of j)) numbers-are

  count-told : first_number told (first_number (many_of (states_of j)) (answer_number (numbers_of j))) ≡ number_for d (Some Count)
  count-told = whole false (own_count_checks d) _ _ refl _ (λ z. rw (numbers-are z) (many-number (count (model_of d)) (w.states (passed (reply_of j) z)) numbers ∙ sym (number-joined (own_count_checks d) (number_checks d))))

  rank-told : (rank : ℕ) → first_number told (first_number (many_of (states_of j)) (first_number (high_of (states_of j) rank) (answer_number (numbers_of j)))) ≡ number_for d (Some (EnergyAt rank))
  rank-told rank = whole _ (own_rank_checks d rank) _ _ (own-size d) _ (λ z. rw (numbers-are z) (rank-number (count (model_of d)) (w.states (passed (reply_of j) z)) rank numbers ∙ sym listed))
    where
      listed : reply_number (first_of (own_rank_checks d rank ++ number_checks d)) ≡ first_number (many_of (count (model_of d))) (first_number (high_of (count (model_of d)) rank) numbers)
      listed =
          number-joined (TooManyStates if ltb 1048576 (count (model_of d)) ∷ []) (RankTooHigh if leb (count (model_of d)) rank ∷ number_checks d)
          ∙ ap (first_number (many_of (count (model_of d)))) (number-joined (RankTooHigh if leb (count (model_of d)) rank ∷ []) (number_checks d))

  -- the number of what a job replies
  pub job-told : (job : Option Job) → answer_number (judged_reply j job) ≡ number_for d job
  job-told (Some (EnergyAt rank)) =
      let many = first_of (TooManyStates if ltb 1048576 (states_of j) ∷ []) in
      let high = first_of (RankTooHigh if leb (states_of j) rank ∷ []) in
      bare-or (reply_of j) (bare many or_next (bare high or_next (numbers_of j)))
      ∙ ap (first_number told) (bare-or (bare many) (bare high or_next (numbers_of j)) ∙ ap₂ first_number (bare-number many) (bare-or (bare high) (numbers_of j) ∙ ap (λ (n : ℕ). first_number n (answer_number (numbers_of j))) (bare-number high)))
      ∙ rank-told rank
  job-told (Some Search) = bare-or (reply_of j) (numbers_of j) ∙ search-told
  job-told (Some Count) =
      let many = first_of (TooManyStates if ltb 1048576 (states_of j) ∷ []) in
      bare-or (reply_of j) (bare many or_next (numbers_of j))
      ∙ ap (first_number told) (bare-or (bare many) (numbers_of j) ∙ ap (λ (n : ℕ). first_number n (answer_number (numbers_of j))) (bare-number many))
      ∙ count-told
  job-told None = refl
