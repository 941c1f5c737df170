-- What is written, piece by piece, where some of it is left open. Assumes nothing.
use mathlib.Core.Path.{◌≡◌, subst}
use mathlib.Core.List.{List, [], ◌++◌, append_assoc}
use Prim.Native.Nat.{ℕ}
use Rattle.std.specs.Prelude.{Option, Result, Ok, Err, OnOk}
use Rattle.std.specs.Io.KnownBytes.{Appends}
use Rattle.std.proofs.KnownBytes.{Appends-nil, Appends-trans}
use Rattle.answers.specs.Text.{Grows}

pub grows_none : (a : Option (List ℕ)) → Grows a a
grows_none a = ([], Appends-nil a)

pub grows_on : (a b c : Option (List ℕ)) → Grows a b → Grows b c → Grows a c
grows_on a b c p q = (p.0 ++ q.0, Appends-trans a b c p.0 q.0 p.1 q.1)

pub grows_by : (a b c : Option (List ℕ)) (text : List ℕ) → Grows a b → Appends b c text → Grows a c
grows_by a b c text p q = (p.0 ++ text, Appends-trans a b c p.0 text p.1 q)

-- a write that may fail, after what was written
module _ {T E : Type 0} (a b c : Option (List ℕ)) where
  pub on_ok_grows : (r : Result T E) → Grows a b → OnOk r (Grows b c) → OnOk r (Grows a c)
  on_ok_grows (Ok x) p q = grows_on a b c p q
  on_ok_grows (Err x) p q = tt

  pub on_ok_by : (text : List ℕ) (r : Result T E) → Grows a b → OnOk r (Appends b c text) → OnOk r (Grows a c)
  on_ok_by text (Ok x) p q = grows_by a b c text p q
  on_ok_by text (Err x) p q = tt

  -- the text with something in it that is open, which the write ends with
  pub on_ok_open : (xs : List ℕ) (text : List ℕ → List ℕ) (r : Result T E) → ((more : List ℕ) → xs ++ more ≡ text more) → Appends a b xs
      → OnOk r (Grows b c) → OnOk r ((more : List ℕ) × Appends a c (text more))
  on_ok_open xs text (Ok x) e p q = (q.0, subst (Appends a c) (e q.0) (Appends-trans a b c xs q.0 p q.1))
  on_ok_open xs text (Err x) e p q = tt

  -- the same, where it came before
  pub on_ok_closed : (xs ys more : List ℕ) (text : List ℕ → List ℕ) (r : Result T E) → xs ++ ys ≡ text more → Appends a b xs
      → OnOk r (Appends b c ys) → OnOk r ((m : List ℕ) × Appends a c (text m))
  on_ok_closed xs ys more text (Ok x) e p q = (more, subst (Appends a c) e (Appends-trans a b c xs ys p q))
  on_ok_closed xs ys more text (Err x) e p q = tt

-- some text that is said to be there is
pub on_ok_with : {T E : Type 0} (P : List ℕ → Type 0) (x : List ℕ) (r : Result T E) → OnOk r (P x) → OnOk r ((y : List ℕ) × P y)
on_ok_with P x (Ok t) p = (x, p)
on_ok_with P x (Err e) p = tt

pub on_ok_told : {T E : Type 0} (a b : Option (List ℕ)) (text : List ℕ → List ℕ → List ℕ) (x : List ℕ) (r : Result T E)
    → OnOk r ((z : List ℕ) × Appends a b (text x z)) → OnOk r ((y : List ℕ) × (z : List ℕ) × Appends a b (text y z))
on_ok_told a b text x (Ok t) p = (x, p.0, p.1)
on_ok_told a b text x (Err e) p = tt

pub on_ok_alone : {T E : Type 0} (a b : Option (List ℕ)) (text : List ℕ → List ℕ → List ℕ) (x : List ℕ) (r : Result T E)
    → OnOk r (Appends a b (text x [])) → OnOk r ((y : List ℕ) × (z : List ℕ) × Appends a b (text y z))
on_ok_alone a b text x (Ok t) p = (x, [], p)
on_ok_alone a b text x (Err e) p = tt

-- ---- texts one after the other

pub refused_parts : (a b c d e f g : List ℕ) → (a ++ (b ++ (c ++ (d ++ (e ++ f))))) ++ g ≡ a ++ (b ++ (c ++ (d ++ (e ++ (f ++ g)))))
refused_parts a b c d e f g = simp append_assoc

pub json_refused_parts : (a b c d e f g : List ℕ) → ((a ++ (b ++ (c ++ (d ++ e)))) ++ f) ++ g ≡ a ++ (b ++ (c ++ (d ++ (e ++ (f ++ g)))))
json_refused_parts a b c d e f g = simp append_assoc

pub unreadable_parts : (a b c d : List ℕ) → ((a ++ b) ++ c) ++ d ≡ a ++ (b ++ (c ++ d))
unreadable_parts a b c d = simp append_assoc

pub six : (a b c d e f : List ℕ) → ((((a ++ b) ++ c) ++ d) ++ e) ++ f ≡ a ++ (b ++ (c ++ (d ++ (e ++ f))))
six a b c d e f = simp append_assoc

pub eight : (a b c d e f g h : List ℕ) → ((((((a ++ b) ++ c) ++ d) ++ e) ++ f) ++ g) ++ h ≡ a ++ (b ++ (c ++ (d ++ (e ++ (f ++ (g ++ h))))))
eight a b c d e f g h = simp append_assoc

pub nine : (a b c d e f g h i : List ℕ) → (((((((a ++ b) ++ c) ++ d) ++ e) ++ f) ++ g) ++ h) ++ i ≡ a ++ (b ++ (c ++ (d ++ (e ++ (f ++ (g ++ (h ++ i)))))))
nine a b c d e f g h i = simp append_assoc
