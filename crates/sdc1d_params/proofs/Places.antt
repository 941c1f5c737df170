-- The place of each reply of a build is that of the first fault of its number. Assumes nothing.
use mathlib.Core.Path.{◌≡◌, refl, sym, ap, ◌∙◌}
use mathlib.Core.Bool.{Bool, true, false, ◌&&◌}
use mathlib.Core.List.{List, [], ◌∷◌, map}
use Prim.Native.Nat.{ℕ, zero, suc, ◌+◌, ◌/◌, ◌<◌}
use native.Mathlib.Omega.{arith}
use lib.ListN.{length, take}
use lib.Seq.{take_all}
use borrow.Author.Tests.{ltb-true}
use Rattle.std.specs.Prelude.{Option, None, position, Ok, Err}
use Rattle.std.specs.Option.{option_map}
use Rattle.lists.specs.Find.{any, first_index}
use Rattle.lists.specs.Build.{up_to}
use Rattle.lists.specs.Fold.{foldl}
use Rattle.lists.proofs.Build.{length-tabulate, get_or-tabulate}
use Rattle.lists.proofs.Counted.{any_found}
use Rattle.lists.proofs.Find.{passes-first, fails-before, first_any}
use Rattle.lists.proofs.Searches.{position_is}
use Rattle.lists.proofs.Tests.{clash}
use Rattle.reply.specs.Number.{Reply, reply_number}
use Rattle.reply.specs.First.{◌if◌, refused_if, first_of, answer, refuses}
use Rattle.reply.specs.declared.Refusal.{Refusal}
use Rattle.reply.specs.declared.Refused.{Refused}
use Rattle.reply.specs.declared.Refusal.TheVariants.{WrongSize, NotABase, TooShort, UnknownName, TooManyGlues, DuplicatePair, OutOfRange, TwoStars}
use Rattle.sdc_common.specs.Lent.{Glue, glues_of}
use Rattle.sdc_common.specs.Numbers.{bases_of, crowds}
use Rattle.sdc_common.specs.Spelled.{is_unknown}
use Rattle.sdc_common.specs.Calls.{too_many_bases}
use Rattle.sdc1d_params.specs.Entries.{Cell, has_bad_base, is_short}
use Rattle.sdc1d_params.specs.Tables.{cells_of, duplicated, out_of_range}
use Rattle.sdc1d_params.specs.Params.{Params, Outcome, energies_of, strand_names, bases, writes_of, wrong_size, is_ordinary, any_retired, build_checks, left_as_lent, built_from, from_params}
use Rattle.sdc1d_params.specs.Places.{repeats, crowding_strand, refusal_place, placed, build_reply, FirstFault, at_fault, PlacesRight}
use Rattle.sdc1d_params.specs.declared.Build.{Build}
use Rattle.sdc1d_params.proofs.Placed.{once_only}

-- ---- the first of a list, and of the numbers below n

first-of-list : {A : Type 0} (test : A → Bool) (other : A) (xs : List A) (place : Option ℕ) → place ≡ position test xs → any test xs ≡ true → FirstFault (at_fault test other xs) (length xs) place
first-of-list test other xs place e some =
    let inside : first_index test xs < length xs = ltb-true _ _ (first_any test xs ∙ some) in
    record {
      at = first_index test xs;
      is = e ∙ position_is test xs ∙ rw some refl;
      known = inside;
      here = passes-first test other xs inside;
      before = λ k h. fails-before test other xs k h;
    }

first-below : (fault : ℕ → Bool) (n : ℕ) (place : Option ℕ) → place ≡ position fault (up_to n) → any fault (up_to n) ≡ true → FirstFault fault n place
first-below fault n place e some =
    let first = first-of-list fault 0 (up_to n) place e some in
    let many : length (up_to n) ≡ n = length-tabulate n (λ k. k) in
    let here = first.known in
    let inside : first.at < n = omega (arith, many, here) in
    record {
      at = first.at;
      is = first.is;
      known = inside;
      here = rw (get_or-tabulate n (λ k. k) 0 first.at inside) at first.here;
      before = λ k h. (let low : k < n = omega (arith, h, inside) in rw (get_or-tabulate n (λ j. j) 0 k low) at (first.before k h));
    }

-- ---- where a reply refuses, its condition holds

-- a refusal of a reply; of one that admits, another
told-of : Refused → Reply → Refused
told-of other (Ok u) = other
told-of other (Err e) = e

same-told : (a b : Refused) → ◌≡◌ {A = Reply} (Err a) (Err b) → a ≡ b
unfolding told-of
same-told a b e = ap (told-of a) e

same-refusal : (q r : Refusal) (o p : Option ℕ) → refuses q o ≡ refuses r p → (q ≡ r) × (o ≡ p)
same-refusal q r o p e =
    let same = same-told (record { refusal = q; place = o }) (record { refusal = r; place = p }) e in
    (ap (λ (x : Refused). x.refusal) same, ap (λ (x : Refused). x.place) same)

-- over any conditions
module _ (holds : Refusal → Bool) (refusal : Refusal) (place : Option ℕ) where
  holding-step : (r : Refusal) (rest : Reply) (t : Bool) → holds r ≡ t → (rest ≡ refuses refusal place → holds refusal ≡ true) → refused_if t r None rest ≡ refuses refusal place → holds refusal ≡ true
  holding-step r rest true h later e = let same = same-refusal r refusal None place e in ap holds (sym same.0) ∙ h
  holding-step r rest false h later e = later e

  holding : (rs : List Refusal) → first_of (map (λ (r : Refusal). r if holds r) rs) ≡ refuses refusal place → holds refusal ≡ true
  holding [] e = cc
  holding (r ∷ rs) e = holding-step r (first_of (map (λ (q : Refusal). q if holds q) rs)) (holds r) refl (holding rs) e

-- the conditions of a build
conditions : Build → Params → Outcome → Refusal → Bool
conditions build p lent WrongSize = wrong_size p lent
conditions build p lent NotABase = any (has_bad_base p.text) (energies_of p)
conditions build p lent TooShort = any (is_short p.text) (energies_of p)
conditions build p lent UnknownName = any (is_unknown (bases p)) (glues_of p.text p.scaffold)
conditions build p lent TooManyGlues = too_many_bases (strand_names p)
conditions build p lent DuplicatePair = duplicated (cells_of (writes_of p))
conditions build p lent OutOfRange = any out_of_range (writes_of p)
conditions build p lent TwoStars = is_ordinary build && any_retired p
conditions build p lent other = false

-- ---- the place in a reply

at-place : (p : Params) (reply : Reply) (refusal : Refusal) (place : Option ℕ) → placed p reply ≡ refuses refusal place → (before : Option ℕ) × (reply ≡ refuses refusal before) × (place ≡ refusal_place p refusal)
at-place p (Ok u) refusal place e = (None, cc, cc)
at-place p (Err other) refusal place e =
    let same = same-refusal other.refusal refusal (refusal_place p other.refusal) place e in
    (other.place, ap (λ (r : Refusal). refuses r other.place) same.0, sym same.1 ∙ ap (refusal_place p) same.0)

-- of a pair that stands twice, some entry names it again
named-again : (cells : List Cell) → duplicated cells ≡ true → any (repeats cells) (up_to (length cells)) ≡ true
named-again cells h = go (any (repeats cells) (up_to (length cells))) refl
  where
    go : (t : Bool) → any (repeats cells) (up_to (length cells)) ≡ t → any (repeats cells) (up_to (length cells)) ≡ true
    go true e = e
    go false e = absurd (clash (once_only cells (position_is (repeats cells) (up_to (length cells)) ∙ rw e refl)) h)

-- of too many bases, some glue is the first
no-bases : (glues : List Glue) → length glues ≡ 0 → too_many_bases glues ≡ false
unfolding bases_of foldl
no-bases [] e = refl
no-bases (g ∷ gs) e = absurd (omega (arith, e))

glue-too-many : (glues : List Glue) → too_many_bases glues ≡ true → any (crowds 31 glues) (up_to (length glues)) ≡ true
glue-too-many glues h = go (length glues) refl
  where
    go : (n : ℕ) → length glues ≡ n → any (crowds 31 glues) (up_to n) ≡ true
    go zero e = absurd (clash (no-bases glues e) h)
    go (suc n) e =
        let all : take (n + 1) glues ≡ glues = take_all (n + 1) glues (omega (arith, e)) in
        any_found (crowds 31 glues) (suc n) (λ k. k) n (omega arith) (ap too_many_bases all ∙ h)

module _ (build : Build) (p : Params) (lent : Outcome) where
  -- where a build refuses, its condition holds, and the place is that of the refusal
  said : (refusal : Refusal) (place : Option ℕ) → build_reply build p lent ≡ refuses refusal place → (conditions build p lent refusal ≡ true) × (place ≡ refusal_place p refusal)
  unfolding build_reply conditions wrong_size
  said refusal place e =
      let at = at-place p (first_of (build_checks build p lent)) refusal place e in
      (holding (conditions build p lent) refusal at.0 (WrongSize ∷ NotABase ∷ TooShort ∷ UnknownName ∷ TooManyGlues ∷ DuplicatePair ∷ OutOfRange ∷ TwoStars ∷ []) at.1, at.2)

  numbered : (reply : Reply) → reply_number (placed p reply) ≡ (answer reply (left_as_lent lent) (built_from p)).number
  numbered (Ok u) = refl
  numbered (Err e) = refl

  glue-placed : (place : Option ℕ) → too_many_bases (strand_names p) ≡ true → place ≡ crowding_strand (strand_names p)
      → (glue : Option ℕ) × FirstFault (crowds 31 (strand_names p)) (length (strand_names p)) glue × (place ≡ option_map (λ (k : ℕ). k / 3) glue)
  unfolding crowding_strand
  glue-placed place many e =
      let glues = strand_names p in
      let glue = position (crowds 31 glues) (up_to (length glues)) in
      (glue, first-below (crowds 31 glues) (length glues) glue refl (glue-too-many glues many), e)

  pub places-right : PlacesRight build p lent
  unfolding refusal_place build_reply from_params any conditions
  places-right = record {
    base = λ place other e. let s = said NotABase place e in first-of-list (has_bad_base p.text) other (energies_of p) place s.1 s.0;
    short = λ place other e. let s = said TooShort place e in first-of-list (is_short p.text) other (energies_of p) place s.1 s.0;
    unknown = λ place other e. let s = said UnknownName place e in first-of-list (is_unknown (bases p)) other (glues_of p.text p.scaffold) place s.1 s.0;
    glues = λ place e. let s = said TooManyGlues place e in glue-placed place s.0 s.1;
    twice = λ place e. (let s = said DuplicatePair place e in let cells = cells_of (writes_of p) in first-below (repeats cells) (length cells) place s.1 (named-again cells s.0));
    range = λ place other e. let s = said OutOfRange place e in first-of-list out_of_range other (writes_of p) place s.1 s.0;
    elsewhere = λ place. (λ e. (said WrongSize place e).1, λ e. (said TwoStars place e).1);
    number = numbered (first_of (build_checks build p lent));
  }
