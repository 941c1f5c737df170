-- Cells that hold their bonds: a cell that is stored, and what a search reads of them. Assumes nothing.
use mathlib.Core.Path.{◌≡◌, refl, sym, ◌∙◌}
use mathlib.Core.List.{List}
use Prim.Native.Nat.{ℕ, ◌+◌, ◌*◌, ◌-◌, ◌<◌, ◌≤◌}
use native.Mathlib.Decide.{ℕ_discrete, dec_lt}
use native.Mathlib.Omega.{arith}
use lib.ListN.{length, get_or, take, drop, set, length-set, length-take, length-drop}
use lib.Seq.{get_or-set_same, get_or-set_other, get_or-take, get_or-drop}
use lib.Ieee.{Float, nan}
use borrow.Author.Count.{below_more}
use Rattle.lists.proofs.Grid.{row-end}
use Rattle.ensemble.specs.Layout.{Searchable, option_in}
use Rattle.design.specs.Filling.{Among, Holds, Kept, HeldAt, PairsHeld, ClosingHeld, SitesHeld}

-- two cells at one place are one cell
same-cell : (width : ℕ) {row column row' column' : ℕ} → column < width → column' < width → row * width + column ≡ row' * width + column' → (row ≡ row') × (column ≡ column')
same-cell width {row} {column} {row'} {column'} h h' e = go (dec_lt row row') (dec_lt row' row)
  where
    go : Dec (row < row') → Dec (row' < row) → (row ≡ row') × (column ≡ column')
    go (yes l) _ = absurd (omega (arith, row-end width l))
    go (no _) (yes l) = absurd (omega (arith, row-end width l))
    go (no a) (no b) = let same : row ≡ row' = omega arith in (same, let e' : row' * width + column ≡ row' * width + column' = rw same at e in omega arith)

module _ (bond : ℕ → ℕ → Float) (strands : ℕ) where
  pub kept-none : {t : List Float} → Kept bond strands t t
  kept-none = record { sized = refl; still = λ row column h e. e }

  pub kept_then : {s t u : List Float} → Kept bond strands s t → Kept bond strands t u → Kept bond strands s u
  kept_then v w = record { sized = w.sized ∙ v.sized; still = λ row column h e. w.still row column h (v.still row column h e) }

  -- a bond that is stored at its cell
  module _ (t : List Float) (row column : ℕ) {v : Float} (low : column < strands) (inside : row * strands + column < length t) (is : v ≡ bond row column) where
    stored-holds : Holds bond strands (set t (row * strands + column) v) row column
    stored-holds = get_or-set_same t (row * strands + column) v nan inside ∙ is

    pub stored-kept : Kept bond strands t (set t (row * strands + column) v)
    stored-kept = record { sized = length-set t (row * strands + column) v; still = λ r c h e. go r c h e (ℕ_discrete (r * strands + c) (row * strands + column)) }
      where
        go : (r c : ℕ) → c < strands → Holds bond strands t r c → Dec (r * strands + c ≡ row * strands + column) → Holds bond strands (set t (row * strands + column) v) r c
        go r c h e (yes s) = let same = same-cell strands h low s in rw (same.0, same.1) stored-holds
        go r c h e (no s) = get_or-set_other t (row * strands + column) (r * strands + c) v nan s ∙ e

  -- what was held is held still
  pub held_kept : {t u : List Float} (row : ℕ) (columns : List ℕ) → Among strands columns → Kept bond strands t u → HeldAt bond strands t row columns (length columns) → HeldAt bond strands u row columns (length columns)
  held_kept row columns among w h k l = w.still row (get_or columns k 0) (among k l) (h k l)

  -- one cell more of a row
  pub held_more : (t : List Float) (row : ℕ) (columns : List ℕ) (k : ℕ) {v : Float} → Among strands columns → k < length columns → row * strands + get_or columns k 0 < length t → v ≡ bond row (get_or columns k 0) → HeldAt bond strands t row columns k
      → HeldAt bond strands (set t (row * strands + get_or columns k 0) v) row columns (k + 1)
  held_more t row columns k {v} among here inside is h =
      let low = among k here in
      below_more (λ (j : ℕ). Holds bond strands (set t (row * strands + get_or columns k 0) v) row (get_or columns j 0)) k
      (λ j l. (stored-kept t row (get_or columns k 0) low inside is).still row (get_or columns j 0) (among j (omega arith)) (h j l)) (stored-holds t row (get_or columns k 0) low inside is)

-- ---- rows of options, as parts of what is lent

module _ {strands : ℕ} {rows counts : List ℕ} (w : Searchable strands rows counts) (i : ℕ) (h : i < length counts) (n : ℕ) (few : n ≤ get_or counts i 0) where
  pub option-part : (k : ℕ) → k < n → get_or (take n (drop (64 * i) rows)) k 0 ≡ option_in rows i k
  option-part k l = get_or-take n (drop (64 * i) rows) k 0 l ∙ get_or-drop (64 * i) rows k 0

  pub part-whole : length (take n (drop (64 * i) rows)) ≡ n
  part-whole =
      let sized = w.readable.sized in
      let low = w.readable.few i h in
      simp (length-take, length-drop) (omega arith)

  pub part-among : Among strands (take n (drop (64 * i) rows))
  part-among k l = let inside : k < n = rw part-whole at l in rw (option-part k inside) (w.known i k h (omega arith))

-- ---- what a search reads
module _ (bond : ℕ → ℕ → Float) {strands : ℕ} {rows counts : List ℕ} (w : Searchable strands rows counts) where
  -- from the last position to the first
  pub closing-held : (cells : List Float) → 0 < length counts → (n m : ℕ) → n ≡ get_or counts (length counts - 1) 0 → m + 1 ≡ get_or counts 0 0
      → ((j : ℕ) → j < length (take n (drop (64 * (length counts - 1)) rows)) → HeldAt bond strands cells (get_or (take n (drop (64 * (length counts - 1)) rows)) j 0) (take m (drop (64 * 0) rows)) (length (take m (drop (64 * 0) rows))))
      → ClosingHeld bond strands cells rows counts
  closing-held cells some n m e f held j k l q =
      let last : length counts - 1 < length counts = omega arith in
      let inside : j < n = omega arith in
      let here = held j (rw (part-whole w (length counts - 1) last n (omega arith)) inside) k (rw (part-whole w 0 some m (omega arith)) (omega arith)) in
      rw (option-part w (length counts - 1) last n (omega arith) j inside, option-part w 0 some m (omega arith) k (omega arith)) at here

  -- the neighbours' bonds are held still
  pub pairs-kept : (before after : List Float) → Kept bond strands before after → PairsHeld bond strands before rows counts (length counts - 1) → PairsHeld bond strands after rows counts (length counts - 1)
  pairs-kept before after kept old i j k h l q = kept.still (option_in rows i j) (option_in rows (i + 1) k) (w.known (i + 1) k (omega arith) (omega arith)) (old i j k h l q)

  module _ {before after : List Float} (kept : Kept bond strands before after) (i : ℕ) where
    -- one position more
    pub sites-more : i < length counts → (n : ℕ) → n + 1 ≡ get_or counts i 0 → HeldAt bond strands after i (take n (drop (64 * i) rows)) (length (take n (drop (64 * i) rows))) → SitesHeld bond strands before rows counts i → SitesHeld bond strands after rows counts (i + 1)
    sites-more here n e new old p k h l =
        below_more (λ (p : ℕ). (k : ℕ) → k + 1 < get_or counts p 0 → Holds bond strands after p (option_in rows p k)) i
        (λ p b k l. kept.still p (option_in rows p k) (w.known p k (omega arith) (omega arith)) (old p k b l))
        (λ k l. rw (option-part w i here n (omega arith) k (omega arith)) at (new k (rw (part-whole w i here n (omega arith)) (omega arith)))) p h k l

    -- two neighbouring positions more
    pub pairs-more : i + 1 < length counts → (n m : ℕ) → n ≡ get_or counts i 0 → m + 1 ≡ get_or counts (i + 1) 0
        → ((j : ℕ) → j < length (take n (drop (64 * i) rows)) → HeldAt bond strands after (get_or (take n (drop (64 * i) rows)) j 0) (take m (drop (64 * (i + 1)) rows)) (length (take m (drop (64 * (i + 1)) rows))))
        → PairsHeld bond strands before rows counts i → PairsHeld bond strands after rows counts (i + 1)
    pairs-more next n m e f new old p j k h l q =
        let here : i < length counts = omega arith in
        below_more (λ (p : ℕ). (j k : ℕ) → j < get_or counts p 0 → k + 1 < get_or counts (p + 1) 0 → Holds bond strands after (option_in rows p j) (option_in rows (p + 1) k)) i
        (λ p b j k l q. kept.still (option_in rows p j) (option_in rows (p + 1) k) (w.known (p + 1) k (omega arith) (omega arith)) (old p j k b l q))
        (λ j k l q.
        let inside : j < n = omega arith in
        let held = new j (rw (part-whole w i here n (omega arith)) inside) k (rw (part-whole w (i + 1) next m (omega arith)) (omega arith)) in
        rw (option-part w i here n (omega arith) j inside, option-part w (i + 1) next m (omega arith) k (omega arith)) at held) p h j k l q

    -- the same, by the right one of the two
    pub pairs-next : (right : ℕ) → i + 1 ≡ right → right < length counts → (n m : ℕ) → n ≡ get_or counts i 0 → m + 1 ≡ get_or counts right 0
        → ((j : ℕ) → j < length (take n (drop (64 * i) rows)) → HeldAt bond strands after (get_or (take n (drop (64 * i) rows)) j 0) (take m (drop (64 * right) rows)) (length (take m (drop (64 * right) rows))))
        → PairsHeld bond strands before rows counts i → PairsHeld bond strands after rows counts right
    pairs-next right same = rw (sym same) (pairs-more)
