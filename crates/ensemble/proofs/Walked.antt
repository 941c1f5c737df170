-- A list that is walked from its second element on, or from the end: what is still to come, and the next. Assumes nothing.
use mathlib.Core.Path.{◌≡◌, refl, sym, ap, ◌∙◌}
use mathlib.Core.List.{List, [], ◌∷◌, ◌++◌}
use mathlib.Core.Logic.{◌⊎◌, inl, inr}
use Prim.Native.Nat.{ℕ, suc, ◌+◌, ◌-◌, ◌<◌, ◌≤◌}
use native.Mathlib.Numerals.{add-one}
use native.Mathlib.Omega.{arith}
use lib.ListN.{length, get_or, take, drop, length-append, length-drop, drop_of_length-le}
use lib.Seq.{drop-cons, take-suc}
use Rattle.std.proofs.lemmas.List.{take_all, take_at, get_or_at, length-take, length-take-le}
use Rattle.std.proofs.lemmas.Bool.{cases_lt}
use Rattle.std.proofs.Math.Nat.{min-le_right}

module _ {A : Type 0} (xs : List A) where
  -- lent as a part
  pub past-first : take (length xs - 1) (drop 1 xs) ≡ drop 1 xs
  past-first = take_all (length xs - 1) (drop 1 xs) (let n = length-drop 1 xs in omega arith)

  -- the next is there, and after it comes the rest
  pub record Next (k : ℕ) (d x : A) (rest : List A) : Type 0 where
    pub inside : k < length xs
    pub next : x ≡ get_or xs k d
    pub later : rest ≡ drop (k + 1) xs

  pub next-of : (k : ℕ) (d : A) {x : A} {rest : List A} → drop k xs ≡ x ∷ rest → Next k d x rest
  next-of k d {x} {rest} e = go (cases_lt k (length xs))
    where
      go : (k < length xs) ⊎ (length xs ≤ k) → Next k d x rest
      go (inl h) =
          let both : get_or xs k d ∷ drop (suc k) xs ≡ x ∷ rest = sym (drop-cons xs k d h) ∙ e in
          record { inside = h; next = cc; later = rw (add-one k) (cc) }
      go (inr h) = let none : ◌≡◌ {A = List A} [] (x ∷ rest) = sym (drop_of_length-le xs h) ∙ e in cc

  -- from the end: the last is there, and before it stand the others
  pub record Last (d x : A) (rest : List A) : Type 0 where
    pub inside : length rest < length xs
    pub last : x ≡ get_or xs (length rest) d
    pub earlier : rest ≡ take (length rest) xs

  pub last-of : (d : A) {x : A} (rest : List A) → rest ++ x ∷ [] ≡ take (length (rest ++ x ∷ [])) xs → Last d x rest
  last-of d {x} rest e = go (cases_lt (length rest) (length xs))
    where
      one : length (rest ++ x ∷ []) ≡ length rest + 1
      one = length-append rest (x ∷ [])

      go : (length rest < length xs) ⊎ (length xs ≤ length rest) → Last d x rest
      go (inl h) =
          let k = length rest in
          let parts : rest ++ x ∷ [] ≡ take k xs ++ get_or xs k d ∷ [] = e ∙ ap (λ (n : ℕ). take n xs) (one ∙ add-one k) ∙ take-suc xs k d h in
          let size : length (take k xs) ≡ k = length-take-le k xs (omega (arith, h)) in
          record {
            inside = h;
            last = sym (get_or_at rest x [] d k refl) ∙ ap (λ (ys : List A). get_or ys k d) parts ∙ get_or_at (take k xs) (get_or xs k d) [] d k size;
            earlier = sym (take_at rest (x ∷ []) k refl) ∙ ap (take k) parts ∙ take_at (take k xs) (get_or xs k d ∷ []) k size;
          }
      go (inr h) =
          let most = ap length e ∙ length-take (length (rest ++ x ∷ [])) xs in
          let less = min-le_right (length (rest ++ x ∷ [])) (length xs) in
          absurd (omega (arith, h, most, less, one))
