-- Bytes run by run: a byte, and behind it those that stand for themselves. Assumes nothing.
use mathlib.Core.Path.{◌≡◌, refl, subst, sym, ap, ◌∙◌}
use mathlib.Core.Bool.{Bool, true, false, cond, ◌&&◌, ◌||◌}
use mathlib.Core.List.{List, [], ◌∷◌, ◌++◌, append_assoc}
use Prim.Native.Nat.{ℕ, suc, ◌+◌, ◌<◌}
use native.Mathlib.Numerals.{add-one}
use native.Mathlib.Omega.{arith}
use lib.ListN.{length, get_or, drop}
use lib.Chars.{codes}
use Rattle.std.proofs.Common.{Option, None, Some, Bor}
use Rattle.std.proofs.lemmas.Bool.{false≢true}
use Rattle.std.proofs.lemmas.List.{drop_at}
use Rattle.std.specs.Prelude.{not, MatchOption}
use Rattle.std.specs.List.{IsChunkByPrefix}
use Rattle.std.specs.Fn.{Mut, ComputesOnPairs}
use Rattle.std.specs.Slice.Iter.{chunk_by_rest, chunk_by_callee, chunk_by_steps}
use Rattle.std.specs.declared.slice.ChunkBy.{ChunkBy}
use Rattle.answers.specs.declared.print.Style.{Style}
use Rattle.answers.specs.declared.print.Style.TheVariants.{People, Json, Tsv}
use Rattle.answers.specs.Text.{hex_text, pieces}
use Rattle.answers.specs.Shown.{is_printable, is_quote, is_itself, IsFirstRun, byte_text, byte_piece, run_text}

-- what stands for itself is shown so
shown-itself : (style : Style) (as_text : Bool) (byte : ℕ) → is_itself style as_text byte ≡ true → byte_text style as_text byte ≡ byte ∷ []
unfolding byte_text
shown-itself People as_text byte e = rw e refl
shown-itself Tsv as_text byte e = rw e refl
shown-itself Json as_text byte e = in_json (is_quote byte) (as_text || is_printable byte) e
  where
    in_json : (quote plain : Bool) → (not quote && plain) ≡ true
        → cond quote (92 ∷ byte ∷ []) (cond plain (byte ∷ []) (codes "\\u00" ++ hex_text 2 byte)) ≡ byte ∷ []
    in_json true plain e = absurd (false≢true e)
    in_json false true e = refl
    in_json false false e = absurd (false≢true e)

module _ (style : Style) (as_text : Bool) where
  -- the text of bytes, wherever they stand
  abbrev pub bytes_text : List ℕ → List ℕ
  bytes_text bytes = pieces (byte_piece style as_text) 0 bytes

  elsewhere : (i j : ℕ) (bytes : List ℕ) → pieces (byte_piece style as_text) i bytes ≡ pieces (byte_piece style as_text) j bytes
  unfolding pieces
  elsewhere i j [] = refl
  elsewhere i j (byte ∷ bytes) = ap (byte_text style as_text byte ++◌) (elsewhere (i + 1) (j + 1) bytes)

  plain-first : (i : ℕ) (plain rest : List ℕ) → ((k : ℕ) → k < length plain → is_itself style as_text (get_or (plain ++ rest) k 0) ≡ true)
      → pieces (byte_piece style as_text) i (plain ++ rest) ≡ plain ++ bytes_text rest
  unfolding pieces
  plain-first i [] rest h = elsewhere i 0 rest
  plain-first i (byte ∷ plain) rest h =
      let later = plain-first (i + 1) plain rest (λ k l. h (suc k) (omega arith)) in
      rw (shown-itself style as_text byte (h 0 (omega arith)), later) refl

  -- the first run's text, and that of what is left
  pub run-first : (run rest whole : List ℕ) → whole ≡ run ++ rest → IsChunkByPrefix (λ before byte. is_itself style as_text byte) whole (length run)
      → bytes_text whole ≡ run_text style as_text run ++ bytes_text rest
  unfolding pieces
  run-first [] rest whole e p = ap bytes_text e
  run-first (byte ∷ plain) rest whole e p =
      let p = rw e at p in
      ap bytes_text e
      ∙ ap (byte_text style as_text byte ++◌) (plain-first (0 + 1) plain rest (λ k l. rw add-one at (p.0 k 0 (omega arith))))
      ∙ sym (append_assoc (byte_text style as_text byte) plain (bytes_text rest))

  -- a run as the library's `chunk_by` gives it
  pub run-given : {F : Type 0} (g : Mut F (Bor ℕ × (Bor ℕ × Unit {0})) Bool) (bytes : List ℕ) (s t : ChunkBy ℕ F) (r : Option (Bor (List ℕ)))
      → chunk_by_rest s ≡ bytes → ComputesOnPairs g (λ before byte. is_itself style as_text byte) (chunk_by_callee s) → chunk_by_steps g s r t
      → MatchOption r (length bytes ≡ 0) (λ run. IsFirstRun style as_text bytes run.now)
  run-given g bytes s t None e by step = ap length (sym e) ∙ step.0
  run-given g bytes s t (Some run) e by step =
      let whole : bytes ≡ run.now ++ chunk_by_rest t = sym e ∙ step.0 in
      let left : drop (length run.now) bytes ≡ chunk_by_rest t = ap (drop (length run.now)) whole ∙ drop_at run.now (chunk_by_rest t) (length run.now) refl in
      (step.1, whole ∙ ap (run.now ++◌) (sym left), subst (λ (xs : List ℕ). IsChunkByPrefix (λ before byte. is_itself style as_text byte) xs (length run.now)) e (step.2 (λ before byte. is_itself style as_text byte) by).1)
