-- Terms, 31 digits and a power of two, with their products and sums, cut to 31 digits. What a cut loses is in proofs/Cuts.antt.
use Rattle.std.specs.Prelude.{Bool, true, false, cond, ℕ, ◌+◌, ◌-◌, ◌*◌, ◌/◌, ◌^◌, ◌≤◌, ◌<◌, ltb}
use Rattle.partition.specs.declared.Term.{Term}

-- a term out of its parts
abbrev pub term : ℕ → ℕ → Term
term digits power = record { digits = digits; power = power }

-- what it is, in whole units
abbrev pub size : Term → ℕ
size t = t.digits * 2 ^ t.power

-- it has 31 digits
pub record Normal (t : Term) : Type 0 where
  pub least : 2 ^ 30 ≤ t.digits
  pub most : t.digits < 2 ^ 31

-- a product of 61 digits loses 30 of them, one of 62 loses 31
abbrev pub shortened : Bool → ℕ → ℕ → Term
shortened true digits power = term (digits / 2 ^ 30) (power + 30)
shortened false digits power = term (digits / 2 ^ 31) (power + 31)

-- the product of two terms
unfoldable pub times : Term → Term → Term
times a b = shortened (ltb (a.digits * b.digits) (2 ^ 61)) (a.digits * b.digits) (a.power + b.power)

-- a sum of 32 digits loses one
abbrev pub carried : Bool → ℕ → ℕ → Term
carried true digits power = term digits power
carried false digits power = term (digits / 2) (power + 1)

-- digits plus those of a term whose power is lower by so much
abbrev pub aligned : ℕ → ℕ → ℕ → ℕ
aligned a b gap = a + b / 2 ^ gap

-- the sum of two terms where the power of the second is not higher
unfoldable pub plus_lower : Term → Term → Term
plus_lower a b =
    carried (ltb (aligned a.digits b.digits (a.power - b.power)) (2 ^ 31)) (aligned a.digits b.digits (a.power - b.power)) a.power

-- the sum of two terms
unfoldable pub plus : Term → Term → Term
unfolding plus_lower
plus a b = cond (ltb a.power b.power) (plus_lower b a) (plus_lower a b)
