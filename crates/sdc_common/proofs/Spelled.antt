-- Names looked up as spelled, told by the number of the reduced name and its stars. Assumes nothing.
use mathlib.Core.Path.{◌≡◌, refl, ap, ap₂, sym, ◌∙◌}
use mathlib.Core.Bool.{Bool, true, false, cond, ◌&&◌}
use mathlib.Core.List.{List, [], ◌∷◌, ◌++◌, append-nil}
use mathlib.Core.Option.{none, some}
use Prim.Native.Nat.{ℕ, zero, suc, ◌+◌, ◌-◌}
use native.Mathlib.Omega.{arith}
use lib.Dec.{eqb}
use lib.ListN.{length, take, replicate, length-append}
use lib.Seq.{take-length, take_at, length-take-le}
use borrow.Author.Tests.{eq-eqb, eqb-true}
use Rattle.lists.specs.Fold.{foldl}
use Rattle.lists.specs.Each.{Each}
use Rattle.lists.proofs.Each.{each_append}
use Rattle.sdc_common.specs.Names.{Name, is_star, base_length, base_of, stars_of, same_name}
use Rattle.sdc_common.specs.Lent.{Glue}
use Rattle.sdc_common.specs.Numbers.{is_known, learn, bases_of}
use Rattle.sdc_common.proofs.Bases.{base-le, base-star}

-- ---- names by their bytes

same_step : (a b : ℕ) (s t : Name) (e : Bool) → eqb a b ≡ e → (e && same_name s t) ≡ true → (same_name s t ≡ true → s ≡ t) → a ∷ s ≡ b ∷ t
same_step a b s t true q p rest = ap₂ ◌∷◌ (eqb-true a b q) (rest p)
same_step a b s t false q p rest = absurd (let z : ◌≡◌ {A = ℕ} 0 1 = cc in omega arith)

pub same_true : (s t : Name) → same_name s t ≡ true → s ≡ t
unfolding same_name
same_true [] [] e = refl
same_true [] (b ∷ t) e = absurd (let z : ◌≡◌ {A = ℕ} 0 1 = cc in omega arith)
same_true (a ∷ s) [] e = absurd (let z : ◌≡◌ {A = ℕ} 0 1 = cc in omega arith)
same_true (a ∷ s) (b ∷ t) e = same_step a b s t (eqb a b) refl e (same_true s t)

pub same_self : (s : Name) → same_name s s ≡ true
unfolding same_name
same_self [] = refl
same_self (a ∷ s) = rw (eq-eqb a a refl, same_self s)

-- ---- a name is its base and its stars

abbrev Parts : Name → ℕ → Type 0
Parts s n = s ≡ take n s ++ replicate (length s - n) 42

kept_byte : (byte : ℕ) (rest : Name) (n : ℕ) → Parts rest n → Parts (byte ∷ rest) (suc n)
kept_byte byte rest n e =
    let same : length rest - n ≡ suc (length rest) - suc n = omega arith in
    ap (byte ∷◌) (e ∙ ap (λ (k : ℕ). take n rest ++ replicate k 42) same)

parts-step : (byte : ℕ) (rest : Name) (star bare : Bool) → is_star byte ≡ star → eqb (base_length rest) 0 ≡ bare → Parts rest (base_length rest) → Parts (byte ∷ rest) (cond (star && bare) 0 (suc (base_length rest)))
parts-step byte rest true true s b e =
    let none : base_length rest ≡ 0 = eqb-true _ _ b in
    let all : Parts rest 0 = rw none at e in
    let more : suc (length rest - 0) ≡ suc (length rest) - 0 = omega arith in
    ap₂ (λ (x : ℕ) (t : Name). x ∷ t) (eqb-true byte 42 s) all ∙ ap (λ (k : ℕ). replicate k 42) more
parts-step byte rest true false s b e = kept_byte byte rest (base_length rest) e
parts-step byte rest false bare s b e = kept_byte byte rest (base_length rest) e

parts : (s : Name) → Parts s (base_length s)
unfolding base_length
parts [] = refl
parts (byte ∷ rest) = parts-step byte rest (is_star byte) (eqb (base_length rest) 0) refl refl (parts rest)

pub name-parts : (s : Name) → s ≡ base_of s ++ replicate (stars_of s) 42
unfolding base_of stars_of
name-parts s = parts s

-- ---- bases have no stars

abbrev pub Bare : Name → Type 0
Bare b = base_length b ≡ length b

module _ (b : Name) (bare : Bare b) where
  base-of-bare : base_of b ≡ b
  unfolding base_of
  base-of-bare = rw bare (take-length b)

  pub stars-of-bare : stars_of b ≡ 0
  unfolding stars_of
  stars-of-bare = rw bare (omega arith)

  starred-length : base_length (b ++ (42 ∷ [])) ≡ length b
  starred-length = base-star b ∙ bare

  base-of-starred : base_of (b ++ (42 ∷ [])) ≡ b
  unfolding base_of
  base-of-starred = take_at b (42 ∷ []) (base_length (b ++ (42 ∷ []))) (sym starred-length)

  stars-of-starred : stars_of (b ++ (42 ∷ [])) ≡ 1
  unfolding stars_of
  stars-of-starred = let l : length (b ++ (42 ∷ [])) ≡ length b + 1 = length-append b (42 ∷ []) in omega (arith, starred-length)

star-step : (byte m n : ℕ) → m ≡ n → cond (is_star byte && eqb m 0) 0 (suc m) ≡ cond (is_star byte && eqb n 0) 0 (suc n)
star-step byte m n e = ap (λ (k : ℕ). cond (is_star byte && eqb k 0) 0 (suc k)) e

only-stars : (k : ℕ) → base_length (replicate k 42) ≡ 0
unfolding base_length
only-stars zero = refl
only-stars (suc k) = rw (only-stars k)

base-stars : (t : Name) (k : ℕ) → base_length (t ++ replicate k 42) ≡ base_length t
unfolding base_length
base-stars [] k = only-stars k
base-stars (byte ∷ t) k = star-step byte _ _ (base-stars t k)

base-size : (name : Name) → length (base_of name) ≡ base_length name
unfolding base_of
base-size name = length-take-le (base_length name) name (base-le name)

pub base-bare : (name : Name) → Bare (base_of name)
base-bare name = sym (ap base_length (name-parts name) ∙ base-stars (base_of name) (stars_of name)) ∙ sym (base-size name)

learn-step : (bases : List Name) (base : Name) (t : Bool) → Each Bare bases → Bare base → Each Bare (cond t bases (bases ++ (base ∷ [])))
learn-step bases base true e b = e
learn-step bases base false e b = each_append Bare bases (base ∷ []) e (b, tt)

learn-bare : (bases : List Name) (glue : Glue) → Each Bare bases → Each Bare (learn bases glue)
unfolding learn
learn-bare bases none e = e
learn-bare bases (some name) e = learn-step bases (base_of name) (is_known bases (base_of name)) e (base-bare name)

fold-bare : (bases : List Name) (glues : List Glue) → Each Bare bases → Each Bare (foldl learn bases glues)
unfolding foldl
fold-bare bases [] e = e
fold-bare bases (glue ∷ glues) e = fold-bare (learn bases glue) glues (learn-bare bases glue e)

-- the base names of strands have no stars at their ends
pub bases-bare : (glues : List Glue) → Each Bare (bases_of glues)
unfolding bases_of
bases-bare glues = fold-bare [] glues tt

-- ---- a name against a base and the base with a star

module _ (name b : Name) (bare : Bare b) where
  unstarred : stars_of name ≡ 0 → base_of name ≡ b → name ≡ b
  unstarred s e = name-parts name ∙ ap₂ (λ (t : Name) (k : ℕ). t ++ replicate k 42) e s ∙ append-nil b

  starred : stars_of name ≡ 1 → base_of name ≡ b → name ≡ b ++ (42 ∷ [])
  starred s e = name-parts name ∙ ap₂ (λ (t : Name) (k : ℕ). t ++ replicate k 42) e s

  pub same-as-base : same_name name b ≡ (same_name (base_of name) b && eqb (stars_of name) 0)
  same-as-base = go (same_name name b) refl (same_name (base_of name) b) refl (eqb (stars_of name) 0) refl
    where
      go : (t : Bool) → same_name name b ≡ t → (u : Bool) → same_name (base_of name) b ≡ u → (v : Bool) → eqb (stars_of name) 0 ≡ v → t ≡ (u && v)
      go true e u f v g =
          let is : name ≡ b = same_true name b e in
          let known : u ≡ true = sym f ∙ ap (λ (s : Name). same_name s b) (ap base_of is ∙ base-of-bare b bare) ∙ same_self b in
          let none : v ≡ true = sym g ∙ eq-eqb _ _ (ap stars_of is ∙ stars-of-bare b bare) in
          rw (known, none)
      go false e true f true g =
          let is : name ≡ b = unstarred (eqb-true _ _ g) (same_true (base_of name) b f) in
          absurd (let same : same_name name b ≡ true = ap (λ (s : Name). same_name s b) is ∙ same_self b in let z : ◌≡◌ {A = ℕ} 0 1 = cc in omega arith)
      go false e true f false g = refl
      go false e false f v g = refl

  pub same-as-starred : same_name name (b ++ (42 ∷ [])) ≡ (same_name (base_of name) b && eqb (stars_of name) 1)
  same-as-starred = go (same_name name (b ++ (42 ∷ []))) refl (same_name (base_of name) b) refl (eqb (stars_of name) 1) refl
    where
      go : (t : Bool) → same_name name (b ++ (42 ∷ [])) ≡ t → (u : Bool) → same_name (base_of name) b ≡ u → (v : Bool) → eqb (stars_of name) 1 ≡ v → t ≡ (u && v)
      go true e u f v g =
          let is : name ≡ b ++ (42 ∷ []) = same_true name (b ++ (42 ∷ [])) e in
          let known : u ≡ true = sym f ∙ ap (λ (s : Name). same_name s b) (ap base_of is ∙ base-of-starred b bare) ∙ same_self b in
          let one : v ≡ true = sym g ∙ eq-eqb _ _ (ap stars_of is ∙ stars-of-starred b bare) in
          rw (known, one)
      go false e true f true g =
          let is : name ≡ b ++ (42 ∷ []) = starred (eqb-true _ _ g) (same_true (base_of name) b f) in
          absurd (let same : same_name name (b ++ (42 ∷ [])) ≡ true = ap (λ (s : Name). same_name s (b ++ (42 ∷ []))) is ∙ same_self (b ++ (42 ∷ [])) in let z : ◌≡◌ {A = ℕ} 0 1 = cc in omega arith)
      go false e true f false g = refl
      go false e false f v g = refl
