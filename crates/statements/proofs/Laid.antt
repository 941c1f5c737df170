-- Faults laid one by one into what is lent. Assumes nothing.
use mathlib.Core.Path.{◌≡◌, refl, ap, ◌∙◌}
use mathlib.Core.List.{List, [], ◌∷◌}
use Prim.Native.Nat.{ℕ, zero, suc, ◌+◌, ◌-◌, ◌<◌, ◌≤◌}
use native.Mathlib.Numerals.{add-one}
use native.Mathlib.Omega.{arith}
use lib.ListN.{length, set, take}
use lib.Seq.{sets}
use Rattle.std.specs.Prelude.{min}
use Rattle.statements.specs.declared.faults.LineFault.{LineFault}

module _ (n next : ℕ) (fault : LineFault) (faults rest : List LineFault) (first : faults ≡ fault ∷ rest) where
  fewer : next < n → take (n - next) (fault ∷ rest) ≡ fault ∷ take (n - (next + 1)) rest
  fewer h =
      let some : n - next ≡ suc (n - (next + 1)) = omega arith in
      rw some refl

  again : (room later : List LineFault) → sets (set room next fault) (next + 1) later ≡ sets room next (fault ∷ later)
  again room later = rw add-one refl

  -- where there is room for one more
  pub laid : next < n → (room whole : List LineFault) → sets room next (take (n - next) faults) ≡ whole
      → sets (set room next fault) (next + 1) (take (n - (next + 1)) rest) ≡ whole
  laid h room whole e = again room (take (n - (next + 1)) rest) ∙ rw (first, fewer h) at e

  pub laid-count : (m : ℕ) → min n (next + length faults) ≡ m → min n (next + 1 + length rest) ≡ m
  laid-count m e =
      let more : next + 1 + length rest ≡ next + length (fault ∷ rest) = omega arith in
      ap (min n) more ∙ rw first at e

-- where none is left
pub laid-all : (k next : ℕ) (faults : List LineFault) → faults ≡ [] → (room whole : List LineFault) → sets room next (take k faults) ≡ whole → room ≡ whole
laid-all zero next faults none room whole e = e
laid-all (suc k) next faults none room whole e = rw none at e

pub counted-all : (n next : ℕ) (faults : List LineFault) → faults ≡ [] → next ≤ n → (m : ℕ) → min n (next + length faults) ≡ m → next ≡ m
counted-all n next faults none h m e =
    let count = ap length none in
    let all : min n (next + length faults) ≡ next = omega arith in
    rw all at e
