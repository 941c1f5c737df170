-- Where a line ends, where blanks end and where a word ends, by how many bytes come before, and what is left from there on. Assumes nothing.
use mathlib.Core.Path.{◌≡◌, refl, ◌∙◌}
use mathlib.Core.Bool.{Bool, true, false, cond, not}
use mathlib.Core.List.{List, [], ◌∷◌}
use mathlib.Core.Option.{Option, none, some}
use Prim.Native.Nat.{ℕ, suc, ◌+◌, ◌-◌, ◌≤◌, ◌<◌}
use native.Mathlib.Numerals.{add-one}
use native.Mathlib.Omega.{arith}
use lib.ListN.{length, get_or, take, drop, drop_of_length-le}
use lib.Seq.{drop-cons, get_or-drop, take_all}
use borrow.Author.Tests.{eq-eqb, ne_eqb, lt-ltb, le-ltb}
use Rattle.std.specs.List.{prefix_len}
use Rattle.std.proofs.lemmas.List.{drop-drop, length-drop}
use Rattle.std.proofs.lemmas.List.Sums.{prefix_len_stops}
use Rattle.statements.specs.Words.{is_newline, is_blank, line_of, lines_from, word_at, scan, words_in}
use Rattle.statements.specs.inner.Words.{not_newline, not_blank}

-- the part of a text that is lent from a place on
pub rest_is : (text : List ℕ) (at : ℕ) → take (length text - at) (drop at text) ≡ drop at text
rest_is text at = take_all (length text - at) (drop at text) (omega (arith, length-drop at text))

-- ---- in a list of bytes, the first of which stands at a place

drop-next : (n x : ℕ) (xs : List ℕ) → drop (1 + n) (x ∷ xs) ≡ drop n xs
drop-next n x xs = let e : 1 + n ≡ n + 1 = omega arith in rw (e, add-one n) refl

-- a line that has begun, or begins with a byte, goes up to the first newline, or to the end
line_up_to : (start at : ℕ) (bytes : List ℕ) → start ≤ at → start < at + length bytes
    → lines_from start at bytes
    ≡ line_of start (at + prefix_len not_newline bytes)
    ∷ lines_from (at + prefix_len not_newline bytes + 1) (at + prefix_len not_newline bytes + 1) (drop (prefix_len not_newline bytes + 1) bytes)
unfolding lines_from
line_up_to start at [] s h = let e : at + 0 ≡ at = omega arith in let h : start < at = omega (arith, h) in rw (e, lt-ltb start at h, le-ltb (at + 1) (at + 1) (omega arith)) refl
line_up_to start at (byte ∷ bytes) s h = go (is_newline byte) (line_up_to start (at + 1) bytes (omega arith) (omega arith))
  where
    n : ℕ
    n = prefix_len not_newline bytes

    go : (newline : Bool) → lines_from start (at + 1) bytes ≡ line_of start (at + 1 + n) ∷ lines_from (at + 1 + n + 1) (at + 1 + n + 1) (drop (n + 1) bytes)
        → cond newline (line_of start at ∷ lines_from (at + 1) (at + 1) bytes) (lines_from start (at + 1) bytes)
        ≡ line_of start (at + cond (not newline) (1 + n) 0) ∷ lines_from (at + cond (not newline) (1 + n) 0 + 1) (at + cond (not newline) (1 + n) 0 + 1) (drop (cond (not newline) (1 + n) 0 + 1) (byte ∷ bytes))
    go true later = let e : at + 0 ≡ at = omega arith in rw e refl
    go false later =
        let e : at + (1 + n) ≡ at + 1 + n = omega arith in
        let d : 1 + n + 1 ≡ 1 + (n + 1) = omega arith in
        rw (e, d, drop-next (n + 1) byte bytes) later

-- between words blanks are passed over
blanks_up_to : (at : ℕ) (bytes : List ℕ) → scan none at bytes ≡ scan none (at + prefix_len is_blank bytes) (drop (prefix_len is_blank bytes) bytes)
unfolding scan
blanks_up_to at [] = refl
blanks_up_to at (byte ∷ bytes) = go (is_blank byte) refl (blanks_up_to (at + 1) bytes)
  where
    n : ℕ
    n = prefix_len is_blank bytes

    go : (blank : Bool) → is_blank byte ≡ blank → scan none (at + 1) bytes ≡ scan none (at + 1 + n) (drop n bytes)
        → scan none at (byte ∷ bytes) ≡ scan none (at + cond blank (1 + n) 0) (drop (cond blank (1 + n) 0) (byte ∷ bytes))
    go true e later = let a : at + (1 + n) ≡ at + 1 + n = omega arith in rw (a, drop-next n byte bytes) (simp e later)
    go false e later = let a : at + 0 ≡ at = omega arith in rw a refl

-- a word goes up to the first blank, or to the end
word_up_to : (start at : ℕ) (bytes : List ℕ)
    → scan (some start) at bytes ≡ word_at start (at + prefix_len not_blank bytes - start) ∷ scan none (at + prefix_len not_blank bytes) (drop (prefix_len not_blank bytes) bytes)
unfolding scan
word_up_to start at [] = let a : at + 0 ≡ at = omega arith in rw a refl
word_up_to start at (byte ∷ bytes) = go (is_blank byte) refl (word_up_to start (at + 1) bytes)
  where
    n : ℕ
    n = prefix_len not_blank bytes

    go : (blank : Bool) → is_blank byte ≡ blank → scan (some start) (at + 1) bytes ≡ word_at start (at + 1 + n - start) ∷ scan none (at + 1 + n) (drop n bytes)
        → scan (some start) at (byte ∷ bytes)
        ≡ word_at start (at + cond (not blank) (1 + n) 0 - start) ∷ scan none (at + cond (not blank) (1 + n) 0) (drop (cond (not blank) (1 + n) 0) (byte ∷ bytes))
    go true e later = let a : at + 0 ≡ at = omega arith in rw a (simp e)
    go false e later = let a : at + (1 + n) ≡ at + 1 + n = omega arith in rw (a, drop-next n byte bytes) (simp e later)

-- ---- in a text, from a place on

module _ (text : List ℕ) (at : ℕ) where
  -- the line that begins there ends after n bytes
  pub line_ends : (n : ℕ) → n ≡ prefix_len not_newline (drop at text) → at < length text
      → lines_from at at (drop at text) ≡ line_of at (at + n) ∷ lines_from (at + n + 1) (at + n + 1) (drop (at + n + 1) text)
  line_ends n e h =
      let l = length-drop at text in
      let far : at + (n + 1) ≡ at + n + 1 = omega arith in
      let rest : drop (n + 1) (drop at text) ≡ drop (at + n + 1) text = rw (drop-drop (n + 1) at text, far) refl in
      let whole = line_up_to at at (drop at text) (omega arith) (omega arith) in
      rw rest at (rw (← e) at whole)

  -- past the text's end there is none
  pub lines_past : length text ≤ at → lines_from at at (drop at text) ≡ []
  unfolding lines_from
  lines_past h = rw (drop_of_length-le text h) (simp (le-ltb at at (omega arith)))

  -- after the blanks the words are the same
  pub blanks_on : (n : ℕ) → n ≡ prefix_len is_blank (drop at text) → words_in text at ≡ words_in text (at + n)
  unfolding words_in
  blanks_on n e = rw (← drop-drop n at text) (rw (← e) at (blanks_up_to at (drop at text)))

  -- and no blank follows
  pub blanks_end : (n : ℕ) → n ≡ prefix_len is_blank (drop at text) → at + n < length text → is_blank (get_or text (at + n) 0) ≡ false
  blanks_end n e h =
      let l = length-drop at text in
      let stops = prefix_len_stops is_blank (drop at text) 0 (omega (arith, e, l, h)) in
      rw (← e, get_or-drop) at stops

  -- at the line's end there is no word
  pub words-past : length text ≤ at → words_in text at ≡ []
  unfolding words_in scan
  words-past h = rw (drop_of_length-le text h)

  -- in a comment there is none
  pub comment : at < length text → is_blank (get_or text at 0) ≡ false → get_or text at 0 ≡ 35 → words_in text at ≡ []
  unfolding words_in scan
  comment h e k = rw (drop-cons text at 0 h) (simp (e, eq-eqb _ _ k))

  -- any other byte begins a word, which ends after n bytes
  pub word_begins : (n : ℕ) → n ≡ prefix_len not_blank (drop at text) → at < length text → is_blank (get_or text at 0) ≡ false → (get_or text at 0 ≡ 35 → ⊥)
      → words_in text at ≡ word_at at n ∷ words_in text (at + n)
  unfolding words_in scan
  word_begins n e h b k =
      let goes : words_in text at ≡ scan (some at) at (drop at text) = rw (drop-cons text at 0 h) (simp (b, ne_eqb _ _ k)) in
      let size : at + n - at ≡ n = omega arith in
      let whole : scan (some at) at (drop at text) ≡ word_at at (at + n - at) ∷ words_in text (at + n) = rw (← drop-drop n at text) (rw (← e) at (word_up_to at at (drop at text))) in
      goes ∙ rw size at whole

  -- and has one byte at least
  pub word_size : (n : ℕ) → n ≡ prefix_len not_blank (drop at text) → at < length text → is_blank (get_or text at 0) ≡ false → 0 < n
  word_size n e h b =
      let more : prefix_len not_blank (drop at text) ≡ 1 + prefix_len not_blank (drop (suc at) text) = rw (drop-cons text at 0 h, b) refl in
      omega (arith, e, more)

-- ---- how many words

-- each word has a byte of its own, or was begun before
few_scanned : (word : Option ℕ) (at : ℕ) (bytes : List ℕ) → length (scan word at bytes) ≤ length bytes + 1
unfolding scan
few_scanned none at [] = omega arith
few_scanned (some start) at [] = omega arith
few_scanned none at (byte ∷ bytes) =
    let blank = few_scanned none (at + 1) bytes in
    let begun = few_scanned (some at) (at + 1) bytes in
    grind arith
few_scanned (some start) at (byte ∷ bytes) =
    let blank = few_scanned none (at + 1) bytes in
    let on = few_scanned (some start) (at + 1) bytes in
    grind arith

pub few_words : (line : List ℕ) (at : ℕ) → length (words_in line at) ≤ length line + 1
unfolding words_in
few_words line at = omega (arith, few_scanned none at (drop at line), length-drop at line)
