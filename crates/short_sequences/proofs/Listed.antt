-- The sequences by their ranks are what specs/Listed.antt asks: all of 2 to 8 bases, each once, in order. Assumes nothing.
use mathlib.Core.Path.{◌≡◌, refl, sym, ap, ◌∙◌}
use mathlib.Core.Logic.{◌⊎◌, inl, inr}
use mathlib.Core.List.Memᴰ
use mathlib.Core.List.{List, [], ◌∷◌, ◌++◌, Memᴰ}
use Prim.Native.Nat.{ℕ, zero, suc, ◌+◌, ◌-◌, ◌^◌, ◌<◌, ◌≤◌}
use native.Mathlib.Nat.{suc_inj}
use native.Mathlib.Decide.{dec_lt}
use native.Mathlib.Omega.{arith}
use lib.ListN.{length, get_or, replicate}
use Rattle.lists.specs.Each.{Each}
use Rattle.lists.specs.Order.{Rising}
use Rattle.lists.proofs.Places.{mem-get_or}
use Rattle.model.specs.States.{choice_at}
use Rattle.model.proofs.Choices.{Chosen, listing-all, listing-only}
use Rattle.short_sequences.specs.Sequences.{letters, of_length, of_lengths, sequences, sequence_count, sequence_at}
use Rattle.short_sequences.specs.Listed.{Letter, Alphabetical, Earlier, AllListed}
use Rattle.short_sequences.proofs.Order.{in_order}
use Rattle.short_sequences.proofs.Lengths.{count-letters, powers, length-of_length, of-length-at, length-of_lengths, shortest-at, longer-at}

-- ---- one letter at each place

chosen : (n : ℕ) (s : List ℕ) → length s ≡ n → Each Letter s → Chosen (replicate n letters) s
chosen zero [] e w = tt
chosen zero (x ∷ s) e w = absurd (omega arith)
chosen (suc n) [] e w = absurd (omega arith)
chosen (suc n) (x ∷ s) e w = (w.0, chosen n s (suc_inj e) w.1)

-- letters alone, and so many
pub record Spelled (n : ℕ) (s : List ℕ) : Type 0 where
  pub long : length s ≡ n
  pub bases : Each Letter s

spelled : (n : ℕ) (s : List ℕ) → Chosen (replicate n letters) s → Spelled n s
spelled zero [] c = record { long = refl; bases = tt }
spelled zero (x ∷ s) c = absurd c
spelled (suc n) [] c = absurd c
spelled (suc n) (x ∷ s) c =
    let w = spelled n s c.1 in
    record { long = ap suc w.long; bases = (c.0, w.bases) }

spelled_at : (n rank : ℕ) → rank < 4 ^ n → Spelled n (choice_at (replicate n letters) rank)
spelled_at n rank h =
    let inside : rank < length (of_length n) = rw (length-of_length n) h in
    let m = mem-get_or [] (of_length n) rank inside in
    rw (of-length-at n rank h) at (spelled n (get_or (of_length n) rank []) (listing-only (replicate n letters) (get_or (of_length n) rank []) m))

-- ---- the letters rise

rising-one : (x : ℕ) → Rising (x ∷ [])
rising-one x i j h k = absurd (omega arith)

rising-cons : (x y : ℕ) (xs : List ℕ) → x < y → Rising (y ∷ xs) → Rising (x ∷ y ∷ xs)
rising-cons x y xs l r i zero h k = absurd (omega arith)
rising-cons x y xs l r zero (suc zero) h k = l
rising-cons x y xs l r zero (suc (suc j)) h k = let m : y < get_or (y ∷ xs) (suc j) 0 = r 0 (suc j) (omega arith) (omega arith) in omega arith
rising-cons x y xs l r (suc i) (suc j) h k = r i j (omega arith) (omega arith)

rising : Rising letters
rising = rising-cons 97 99 (103 ∷ 116 ∷ []) (omega arith) (rising-cons 99 103 (116 ∷ []) (omega arith) (rising-cons 103 116 [] (omega arith) (rising-one 116)))

all-rising : (n : ℕ) → Each Rising (replicate n letters)
all-rising zero = tt
all-rising (suc n) = (rising, all-rising n)

-- ---- at a rank among several lengths

-- one of those lengths, and a rank among its sequences
record Located (more n rank : ℕ) : Type 0 where
  bases : ℕ
  within : ℕ
  not-shorter : n ≤ bases
  not-longer : bases < n + more
  inside : within < 4 ^ bases
  is : get_or (of_lengths more n) rank [] ≡ choice_at (replicate bases letters) within

located : (more n rank : ℕ) → rank < powers more n → Located more n rank
located zero n rank h = absurd (omega arith)
located (suc more) n rank h = go (dec_lt rank (4 ^ n)) (λ l. located more (suc n) (rank - 4 ^ n) l)
  where
    go : Dec (rank < 4 ^ n) → (rank - 4 ^ n < powers more (suc n) → Located more (suc n) (rank - 4 ^ n)) → Located (suc more) n rank
    go (yes l) rest = record { bases = n; within = rank; not-shorter = omega arith; not-longer = omega arith; inside = l; is = shortest-at more n rank l }
    go (no l) rest =
        let w = rest (omega arith) in
        record {
          bases = w.bases;
          within = w.within;
          not-shorter = omega (arith, w.not-shorter);
          not-longer = omega (arith, w.not-longer);
          inside = w.inside;
          is = longer-at more n rank (omega arith) ∙ w.is;
        }

spelled-there : (more n rank : ℕ) (w : Located more n rank) → Spelled w.bases (get_or (of_lengths more n) rank [])
spelled-there more n rank w = rw w.is (spelled_at w.bases w.within w.inside)

-- ---- in order

earlier : (more n i j : ℕ) → i < j → j < powers more n → Earlier (get_or (of_lengths more n) i []) (get_or (of_lengths more n) j [])
earlier zero n i j h k = absurd (omega arith)
earlier (suc more) n i j h k = go (dec_lt i (4 ^ n)) (dec_lt j (4 ^ n)) (λ l m. earlier more (suc n) (i - 4 ^ n) (j - 4 ^ n) l m)
  where
    go : Dec (i < 4 ^ n) → Dec (j < 4 ^ n)
        → (i - 4 ^ n < j - 4 ^ n → j - 4 ^ n < powers more (suc n) → Earlier (get_or (of_lengths more (suc n)) (i - 4 ^ n) []) (get_or (of_lengths more (suc n)) (j - 4 ^ n) []))
        → Earlier (get_or (of_lengths (suc more) n) i []) (get_or (of_lengths (suc more) n) j [])
    go (yes a) (yes b) rest =
        rw (shortest-at more n i a, shortest-at more n j b)
        (inr ((spelled_at n i a).long ∙ sym (spelled_at n j b).long, in_order (replicate n letters) (all-rising n) i j h (rw (count-letters n) b)))
    go (yes a) (no b) rest =
        let w = located more (suc n) (j - 4 ^ n) (omega arith) in
        rw (shortest-at more n i a, longer-at more n j (omega arith))
        (inl (rw ((spelled_at n i a).long, (spelled-there more (suc n) (j - 4 ^ n) w).long) w.not-shorter))
    go (no a) (yes b) rest = absurd (omega arith)
    go (no a) (no b) rest = rw (longer-at more n i (omega arith), longer-at more n j (omega arith)) (rest (omega arith) (omega arith))

not-before-itself : (s : List ℕ) → Alphabetical s s → ⊥
not-before-itself [] a = a
not-before-itself (x ∷ s) a = go a (λ l. not-before-itself s l)
  where
    go : (x < x) ⊎ ((x ≡ x) × Alphabetical s s) → (Alphabetical s s → ⊥) → ⊥
    go (inl l) rest = omega arith
    go (inr w) rest = rest w.1

not_earlier : (s t : List ℕ) → s ≡ t → Earlier s t → ⊥
not_earlier s t e (inl l) = let m : length s ≡ length t = ap length e in omega arith
not_earlier s t e (inr w) = not-before-itself s (rw (← e) at w.1)

-- ---- all come

rank-of : (xs : List (List ℕ)) (s : List ℕ) → Memᴰ s xs → (rank : ℕ) × (rank < length xs) × (get_or xs rank [] ≡ s)
rank-of [] s m = elim m [ ]
rank-of (x ∷ xs) s (Memᴰ.head e) = (0, omega arith, sym e)
rank-of (x ∷ xs) s (Memᴰ.tail m) = let w = rank-of xs s m in (suc w.0, omega (arith, w.1), w.2)

among : (more n : ℕ) (s : List ℕ) → n ≤ length s → length s < n + more → Each Letter s → Memᴰ s (of_lengths more n)
unfolding of_lengths
among zero n s l h w = absurd (omega arith)
among (suc more) n s l h w = go (dec_lt n (length s)) (λ a. among more (suc n) s a (omega arith) w)
  where
    go : Dec (n < length s) → (suc n ≤ length s → Memᴰ s (of_lengths more (suc n))) → Memᴰ s (of_length n ++ of_lengths more (suc n))
    go (yes a) rest = Memᴰ.append_right (of_length n) (rest a)
    go (no a) rest = Memᴰ.append_left (of_lengths more (suc n)) (listing-all (replicate n letters) s (chosen n s (omega arith) w))

pub all_listed : AllListed
all_listed =
    let size : length sequences ≡ sequence_count = length-of_lengths 7 2 in
    record {
      size = size;
      only = λ rank h.
          let w = located 7 2 rank h in
          let s = spelled-there 7 2 rank w in
          record { not-shorter = rw s.long w.not-shorter; not-longer = omega (arith, s.long, w.not-longer); bases = s.bases };
      all = λ s w.
          let r = rank-of sequences s (among 7 2 s w.not-shorter (omega (arith, w.not-longer)) w.bases) in
          record { rank = r.0; inside = rw size at r.1; is = r.2 };
      once = λ i j h k e. same i j h k e (dec_lt i j) (dec_lt j i);
      order = λ i j h k. earlier 7 2 i j h k;
    }
  where
    same : (i j : ℕ) → i < sequence_count → j < sequence_count → sequence_at i ≡ sequence_at j → Dec (i < j) → Dec (j < i) → i ≡ j
    same i j h k e (yes a) b = absurd (not_earlier (sequence_at i) (sequence_at j) e (earlier 7 2 i j a k))
    same i j h k e (no a) (yes b) = absurd (not_earlier (sequence_at j) (sequence_at i) (sym e) (earlier 7 2 j i b h))
    same i j h k e (no a) (no b) = omega arith
