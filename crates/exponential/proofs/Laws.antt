-- The exponential has the laws of one. Assumes nothing.
use Rattle.exponential.specs.Exponential.{ExponentialLaws}
use Rattle.exponential.proofs.Bounds.{exp-between, exp-close, exp-least}
use Rattle.exponential.proofs.Sums.{at-most-mono, at-least-mono, at-most-nothing, at-least-nothing, at-most-sum, at-least-sum}
use Rattle.exponential.proofs.Unique.{exp-unique}
use Rattle.exponential.proofs.Inverse.{exp-at-least, exp-at-most}

pub exponential-laws : ExponentialLaws
exponential-laws =
    record {
      ordered = λ p q n m Q. exp-between p q Q n m;
      close = exp-close;
      unique = λ p q v w. exp-unique;
      at_most_mono = λ p q r s w. at-most-mono r s;
      at_least_mono = λ p q r s w. at-least-mono r s;
      at_most_nothing = at-most-nothing;
      at_least_nothing = at-least-nothing;
      least = λ p q n Q. exp-least p q Q n;
      at_most_sum = λ p r q v w Q. at-most-sum q Q p r;
      at_least_sum = λ p r q v w Q. at-least-sum q Q p r;
      of_ln_at_most = λ a b p q B h Q. exp-at-least B h Q;
      of_ln_at_least = λ a b p q B h Q. exp-at-most B h Q;
    }
