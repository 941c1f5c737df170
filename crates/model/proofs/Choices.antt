-- Every way to take one option at each position: how many there are, which stands at a rank, which they are, and that none stands twice.
-- Assumes nothing.
use mathlib.Core.Path.{◌≡◌, refl, sym, ap, ap₂, ◌∙◌}
use mathlib.Core.Logic.{◌⊎◌, inl, inr}
use mathlib.Core.List.Memᴰ
use mathlib.Core.List.{List, [], ◌∷◌, ◌++◌, map, Memᴰ, head-eq_of_cons-eq, tail-eq_of_cons-eq, nil≢cons}
use Prim.Native.Nat.{ℕ, zero, suc, ◌+◌, ◌-◌, ◌*◌, ◌/◌, ◌%◌, ◌<◌}
use native.Mathlib.Nat.{not-suc-le-zero, zero-mul, mul-zero, suc-mul, le_of_suc-le-suc, div-eq_of_lt, mod-eq_of_lt, add-div_left, add-mod_left, mod-lt, div-lt_iff_lt-mul, div-add-mod', add_comm}
use native.Mathlib.Decide.{dec_lt}
use native.Mathlib.Omega.{arith}
use native.Mathlib.Numerals.{add-one}
use lib.ListN.{length, get_or, length-append, length-map, get_or-append}
use lib.Seq.{get_or-append-add}
use Rattle.lists.specs.Build.{product}
use Rattle.lists.specs.Order.{Distinct}
use Rattle.model.specs.States.{each_before, listing, choices, choice_at}

-- ---- how many

length-each_before : (heads : List ℕ) (tails : List (List ℕ)) → length (each_before heads tails) ≡ length heads * length tails
unfolding each_before
length-each_before [] tails = sym (zero-mul (length tails))
length-each_before (x ∷ heads) tails =
    simp (length-append, length-map, length-each_before heads tails, suc-mul) (add_comm (length tails) (length heads * length tails))

pub length-listing : (each : List (List ℕ)) → length (listing each) ≡ choices each
unfolding listing choices product
length-listing [] = refl
length-listing (here ∷ later) = length-each_before here (listing later) ∙ ap (λ (n : ℕ). length here * n) (length-listing later)

-- ---- which stands at a rank

get_or-map-cons : (x : ℕ) (tails : List (List ℕ)) (r : ℕ) → r < length tails → get_or (map (x ∷◌) tails) r [] ≡ x ∷ get_or tails r []
get_or-map-cons x [] r h = absurd (not-suc-le-zero h)
get_or-map-cons x (t ∷ tails) zero h = refl
get_or-map-cons x (t ∷ tails) (suc r) h = get_or-map-cons x tails r (le_of_suc-le-suc h)

-- a factor of a product above a number is not 0
positive : (n q k : ℕ) → k < q * n → 0 < n
positive zero q k l = absurd (not-suc-le-zero (rw (mul-zero q) at l))
positive (suc n) q k l = omega arith

each_before-at : (heads : List ℕ) (tails : List (List ℕ)) (n r : ℕ) → length tails ≡ n → r < length heads * n
    → get_or (each_before heads tails) r [] ≡ get_or heads (r / n) 0 ∷ get_or tails (r % n) []
unfolding each_before
each_before-at [] tails n r e h = absurd (not-suc-le-zero (rw zero-mul at h))
each_before-at (x ∷ heads) tails n r e h = go (dec_lt r n) (λ k l. each_before-at heads tails n k e l)
  where
    front : length (map (x ∷◌) tails) ≡ n
    front = length-map tails (x ∷◌) ∙ e

    go : Dec (r < n) → ((k : ℕ) → k < length heads * n → get_or (each_before heads tails) k [] ≡ get_or heads (k / n) 0 ∷ get_or tails (k % n) [])
        → get_or (map (x ∷◌) tails ++ each_before heads tails) r [] ≡ get_or (x ∷ heads) (r / n) 0 ∷ get_or tails (r % n) []
    go (yes l) rest =
        let m : r < length (map (x ∷◌) tails) = omega (arith, front) in
        let t : r < length tails = omega arith in
        rw (get_or-append (map (x ∷◌) tails) (each_before heads tails) [] r m, div-eq_of_lt l, mod-eq_of_lt l) (get_or-map-cons x tails r t)
    go (no l) rest = later (r - n) (omega arith) (rest (r - n) (omega (arith, rw suc-mul at h)))
      where
        later : (k : ℕ) → r ≡ n + k → get_or (each_before heads tails) k [] ≡ get_or heads (k / n) 0 ∷ get_or tails (k % n) []
            → get_or (map (x ∷◌) tails ++ each_before heads tails) r [] ≡ get_or (x ∷ heads) (r / n) 0 ∷ get_or tails (r % n) []
        later k is back =
            let p : 0 < n = positive n (suc (length heads)) r h in
            rw (is, add-div_left k p, add-one, add-mod_left n k)
            (ap (λ (i : ℕ). get_or (map (x ∷◌) tails ++ each_before heads tails) (i + k) []) (sym front)
            ∙ get_or-append-add (map (x ∷◌) tails) (each_before heads tails) k []
            ∙ back)

pub listing-at : (each : List (List ℕ)) (r : ℕ) → r < choices each → get_or (listing each) r [] ≡ choice_at each r
unfolding listing choices product choice_at
listing-at [] r h = let z : r ≡ 0 = omega arith in rw z
listing-at (here ∷ later) r h =
    let p : 0 < choices later = positive (choices later) (length here) r h in
    each_before-at here (listing later) (choices later) r (length-listing later) h
    ∙ ap (λ (s : List ℕ). get_or here (r / choices later) 0 ∷ s) (listing-at later (r % choices later) (mod-lt r p))

-- ---- which they are

-- an option for each position
abbrev pub Chosen : List (List ℕ) → List ℕ → Type 0
Chosen [] [] = Unit
Chosen [] (x ∷ s) = ⊥
Chosen (here ∷ later) [] = ⊥
Chosen (here ∷ later) (x ∷ s) = Memᴰ x here × Chosen later s

mem-map-cons : (x : ℕ) {t : List ℕ} {tails : List (List ℕ)} → Memᴰ t tails → Memᴰ (x ∷ t) (map (x ∷◌) tails)
mem-map-cons x (Memᴰ.head e) = Memᴰ.head (ap (x ∷◌) e)
mem-map-cons x (Memᴰ.tail m) = Memᴰ.tail (mem-map-cons x m)

mem-each_before : {x : ℕ} {t : List ℕ} {heads : List ℕ} {tails : List (List ℕ)} → Memᴰ x heads → Memᴰ t tails → Memᴰ (x ∷ t) (each_before heads tails)
unfolding each_before
mem-each_before {x} {t} {tails = tails} (Memᴰ.head {x = y} {xs = heads} e) n =
    rw e (Memᴰ.append_left (each_before heads tails) (mem-map-cons y n))
mem-each_before {tails = tails} (Memᴰ.tail {x = y} m) n = Memᴰ.append_right (map (y ∷◌) tails) (mem-each_before m n)

pub listing-all : (each : List (List ℕ)) (s : List ℕ) → Chosen each s → Memᴰ s (listing each)
unfolding listing
listing-all [] [] c = Memᴰ.head refl
listing-all [] (x ∷ s) c = absurd c
listing-all (here ∷ later) [] c = absurd c
listing-all (here ∷ later) (x ∷ s) c = mem-each_before c.0 (listing-all later s c.1)

of-map-cons : (x : ℕ) {s : List ℕ} {tails : List (List ℕ)} → Memᴰ s (map (x ∷◌) tails) → (t : List ℕ) × (s ≡ x ∷ t) × Memᴰ t tails
of-map-cons x {s} {tails = []} m = absurd (Memᴰ.not-nil m)
of-map-cons x {s} {tails = t ∷ tails} m = go (Memᴰ.cases_cons m) (λ l. of-map-cons x {s = s} {tails = tails} l)
  where
    go : (s ≡ x ∷ t) ⊎ Memᴰ s (map (x ∷◌) tails) → (Memᴰ s (map (x ∷◌) tails) → (r : List ℕ) × (s ≡ x ∷ r) × Memᴰ r tails)
        → (r : List ℕ) × (s ≡ x ∷ r) × Memᴰ r (t ∷ tails)
    go (inl e) rest = (t, e, Memᴰ.head refl)
    go (inr l) rest = let w = rest l in (w.0, w.1, Memᴰ.tail w.2)

of-each_before : (heads : List ℕ) (tails : List (List ℕ)) {s : List ℕ} → Memᴰ s (each_before heads tails)
    → (x : ℕ) × (t : List ℕ) × (s ≡ x ∷ t) × Memᴰ x heads × Memᴰ t tails
unfolding each_before
of-each_before [] tails m = absurd (Memᴰ.not-nil m)
of-each_before (x ∷ heads) tails {s} m = go (Memᴰ.append_cases (map (x ∷◌) tails) m) (λ l. of-each_before heads tails l)
  where
    go : Memᴰ s (map (x ∷◌) tails) ⊎ Memᴰ s (each_before heads tails)
        → (Memᴰ s (each_before heads tails) → (y : ℕ) × (t : List ℕ) × (s ≡ y ∷ t) × Memᴰ y heads × Memᴰ t tails)
        → (y : ℕ) × (t : List ℕ) × (s ≡ y ∷ t) × Memᴰ y (x ∷ heads) × Memᴰ t tails
    go (inl l) rest = let w = of-map-cons x l in (x, w.0, w.1, Memᴰ.head refl, w.2)
    go (inr l) rest = let w = rest l in (w.0, w.1, w.2, Memᴰ.tail w.3, w.4)

pub listing-only : (each : List (List ℕ)) (s : List ℕ) → Memᴰ s (listing each) → Chosen each s
unfolding listing
listing-only [] [] m = tt
listing-only [] (x ∷ s) m = go (Memᴰ.cases_cons m)
  where
    go : (x ∷ s ≡ []) ⊎ Memᴰ (x ∷ s) [] → ⊥
    go (inl e) = nil≢cons (sym e)
    go (inr l) = Memᴰ.not-nil l
listing-only (here ∷ later) [] m = nil≢cons (of-each_before here (listing later) m).2
listing-only (here ∷ later) (x ∷ s) m =
    let w = of-each_before here (listing later) m in (
      rw (head-eq_of_cons-eq w.2) w.3,
      listing-only later s (rw (tail-eq_of_cons-eq w.2) w.4),
    )

-- ---- none stands twice

-- two ranks with the same choice are one rank, where no list of options has anything twice
abbrev pub AllDistinct : List (List ℕ) → Type 0
AllDistinct [] = Unit
AllDistinct (here ∷ later) = Distinct 0 here × AllDistinct later

choice_at-once : (each : List (List ℕ)) → AllDistinct each → (r q : ℕ) → r < choices each → q < choices each → choice_at each r ≡ choice_at each q → r ≡ q
unfolding choices product choice_at
choice_at-once [] d r q h k e = omega arith
choice_at-once (here ∷ later) d r q h k e =
    let n = choices later in
    let p : 0 < n = positive n (length here) r h in
    let heads = d.0 (r / n) (q / n) ((div-lt_iff_lt-mul p).1 h) ((div-lt_iff_lt-mul p).1 k) (head-eq_of_cons-eq e) in
    let tails = choice_at-once later d.1 (r % n) (q % n) (mod-lt r p) (mod-lt q p) (tail-eq_of_cons-eq e) in
    sym (div-add-mod' r n) ∙ ap₂ (λ (a b : ℕ). a * n + b) heads tails ∙ div-add-mod' q n

pub listing-once : (each : List (List ℕ)) → AllDistinct each → Distinct [] (listing each)
listing-once each d r q h k e =
    let size = length-listing each in
    let h' : r < choices each = rw size at h in
    let k' : q < choices each = rw size at k in
    choice_at-once each d r q h' k' (sym (listing-at each r h') ∙ e ∙ listing-at each q k')
