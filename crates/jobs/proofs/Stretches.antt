-- The stretches of all jobs, one after the other, as a loop fills them. Assumes nothing.
use mathlib.Core.Path.{◌≡◌, refl, sym, ap, ◌∙◌}
use mathlib.Core.List.{List, [], ◌∷◌, ◌++◌, append_assoc, append-nil}
use Prim.Native.Nat.{ℕ, suc, ◌+◌, ◌*◌, ◌<◌, ◌≤◌}
use native.Mathlib.Numerals.{add-one}
use native.Mathlib.Omega.{arith}
use native.Mathlib.Nat.{suc-mul, zero-mul, mul-le-mul}
use lib.ListN.{length, get_or, take, drop, length-append, length-drop, drop_of_length-le, take-append-drop}
use lib.Seq.{drop-cons, take_all, take_at, drop_at, drop-drop, length-take-le}
use Rattle.lists.proofs.Grid.{row-end}
use Rattle.std.specs.Prelude.{Option}
use Rattle.design.specs.Design.{Design, positions}
use Rattle.jobs.specs.Word.{job_of}
use Rattle.jobs.specs.Job.{stretch_for}
use Rattle.jobs.specs.Sheet.{stretches_of}
use Rattle.jobs.specs.inner.Settled.{stretch_in, stretches_in}
use Rattle.jobs.specs.declared.job.Job.{Job}

-- so far: what is left of the stretches is as it was, and what is filled goes before what is left to fill
pub record Filled (configuration jobs before : List ℕ) (k : ℕ) (stretches : List ℕ) : Type 0 where
  pub sized : length stretches ≡ length before
  pub rest : drop (k * length configuration) stretches ≡ drop (k * length configuration) before
  pub so_far : stretches_in configuration jobs before ≡ take (k * length configuration) stretches ++ stretches_in configuration (drop k jobs) (drop (k * length configuration) before)

module _ (configuration jobs before : List ℕ) where
  abbrev n : ℕ
  n = length configuration

  pub filled_none : Filled configuration jobs before 0 before
  filled_none = record { sized = refl; rest = refl; so_far = rw (zero-mul n) refl }

  module _ (k : ℕ) {stretches : List ℕ} (w : Filled configuration jobs before k stretches) (here : k < length jobs) where
    next : (k + 1) * n ≡ k * n + n
    next = omega (arith, suc-mul k n)

    step : {after piece : List ℕ} → length after ≡ length before → piece ≡ stretch_in configuration (job_of (get_or jobs k 0)) (take n (drop (k * n) before)) → take (k * n + n) after ≡ take (k * n) stretches ++ piece → drop (k * n + n) after ≡ drop (k * n + n) before
        → Filled configuration jobs before (k + 1) after
    unfolding stretches_in
    step {after} {piece} size is taken left = record {
      sized = size;
      rest = rw next left;
      so_far = rw next (w.so_far ∙ opened ∙ sym (append_assoc (take (k * n) stretches) front behind) ∙ ap (λ (s : List ℕ). s ++ behind) (ap (λ (s : List ℕ). take (k * n) stretches ++ s) (sym is) ∙ sym taken) ∙ later);
    }
      where
        front : List ℕ
        front = stretch_in configuration (job_of (get_or jobs k 0)) (take n (drop (k * n) before))

        behind : List ℕ
        behind = stretches_in configuration (drop (suc k) jobs) (drop n (drop (k * n) before))

        opened : take (k * n) stretches ++ stretches_in configuration (drop k jobs) (drop (k * n) before) ≡ take (k * n) stretches ++ (front ++ behind)
        opened = ap (λ (js : List ℕ). take (k * n) stretches ++ stretches_in configuration js (drop (k * n) before)) (drop-cons jobs k 0 here)

        later : take (k * n + n) after ++ behind ≡ take (k * n + n) after ++ stretches_in configuration (drop (k + 1) jobs) (drop (k * n + n) before)
        later = rw (add-one, drop-drop n (k * n) before) refl

    room : k * n + n ≤ length jobs * n
    room = row-end n here

    -- the next stretch lies within them; so many jobs and positions have no more than 8192 entries
    pub within : length jobs ≤ 64 → n ≤ 128 → length before ≡ length jobs * n → (k * n + n ≤ length stretches) × (length stretches ≤ 8192)
    within few short size = let most = mul-le-mul few short in (omega (arith, room, w.sized, size), omega (arith, most, w.sized, size))

    pub filled_more : {part : List ℕ} → length before ≡ length jobs * n → length part ≡ n → part ≡ stretch_in configuration (job_of (get_or jobs k 0)) (take n (drop (k * n) stretches)) → Filled configuration jobs before (k + 1) (take (k * n) stretches ++ (part ++ drop n (drop (k * n) stretches)))
    filled_more {part} size full is =
        let inside : k * n + n ≤ length stretches = omega (arith, w.sized, size, room) in
        let front : length (take (k * n) stretches) ≡ k * n = length-take-le (k * n) stretches (omega arith) in
        let both : length (take (k * n) stretches ++ part) ≡ k * n + n = length-append (take (k * n) stretches) part ∙ (omega (arith, front, full)) in
        let left : drop n (drop (k * n) stretches) ≡ drop (k * n + n) before = ap (drop n) w.rest ∙ drop-drop n (k * n) before in
        rw (← append_assoc)
        (step
        (length-append (take (k * n) stretches ++ part) (drop n (drop (k * n) stretches)) ∙ simp (both, length-drop) (omega (arith, w.sized)))
        (is ∙ ap (λ (s : List ℕ). stretch_in configuration (job_of (get_or jobs k 0)) (take n s)) w.rest)
        (take_at (take (k * n) stretches ++ part) (drop n (drop (k * n) stretches)) (k * n + n) both)
        (drop_at (take (k * n) stretches ++ part) (drop n (drop (k * n) stretches)) (k * n + n) both ∙ left))

  pub filled-done : (k : ℕ) {stretches : List ℕ} → Filled configuration jobs before k stretches → k ≡ length jobs → length before ≡ length jobs * n → stretches ≡ stretches_in configuration jobs before
  unfolding stretches_in
  filled-done k {stretches} w e size =
      let past : length jobs ≤ k = omega arith in
      let all : length stretches ≤ k * n = rw e (omega (arith, w.sized, size)) in
      sym (w.so_far ∙ rw (drop_of_length-le jobs past, take_all (k * n) stretches all) (append-nil stretches))

-- ---- of a design

module _ (d : Design) where
  front_length : (k : ℕ) (s : List ℕ) → length s ≡ suc k * positions d → length (take (positions d) s) ≡ positions d
  front_length k s e = length-take-le (positions d) s (omega (arith, e, suc-mul k (positions d)))

  rest-length : (k : ℕ) (s : List ℕ) → length s ≡ suc k * positions d → length (drop (positions d) s) ≡ k * positions d
  rest-length k s e = length-drop (positions d) s ∙ (omega (arith, e, suc-mul k (positions d)))

  pub stretches-same : (configuration : List ℕ) → length configuration ≡ positions d → ((job : Option Job) (s : List ℕ) → length s ≡ positions d → stretch_in configuration job s ≡ stretch_for d job s)
      → (jobs s : List ℕ) → length s ≡ length jobs * positions d → stretches_in configuration jobs s ≡ stretches_of d jobs s
  unfolding stretches_in stretches_of
  stretches-same configuration size same [] s e = refl
  stretches-same configuration size same (word ∷ jobs) s e =
      rw (size, same (job_of word) (take (positions d) s) (front_length (length jobs) s e), stretches-same configuration size same jobs (drop (positions d) s) (rest-length (length jobs) s e)) refl

  pub stretches-kept : ((job : Option Job) (s : List ℕ) → length s ≡ positions d → stretch_for d job s ≡ s) → (jobs s : List ℕ) → length s ≡ length jobs * positions d → s ≡ stretches_of d jobs s
  unfolding stretches_of
  stretches-kept kept [] s e = empty s (e ∙ zero-mul (positions d))
    where
      empty : (s : List ℕ) → length s ≡ 0 → s ≡ []
      empty [] e = refl
      empty (x ∷ s) e = absurd (omega arith)
  stretches-kept kept (word ∷ jobs) s e =
      rw (kept (job_of word) (take (positions d) s) (front_length (length jobs) s e), ← stretches-kept kept jobs (drop (positions d) s) (rest-length (length jobs) s e)) (sym (take-append-drop (positions d) s))
