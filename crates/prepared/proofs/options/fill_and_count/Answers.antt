-- `fill_and_count` meets its contract. Assumes nothing.
use mathlib.Core.Path.{refl, ap, ◌∙◌}
use Prim.Native.Nat.{ℕ, min}
use Rattle.design.specs.Design.{model_of}
use Rattle.ensemble.proofs.OptionRows.{product_is}
use Rattle.prepared.proofs.options.fill_and_count.Goals as goal

pub returns-clause-value : goal.returns-clause-value
returns-clause-value c = c.state_count.ensures ∙ ap (λ (n : ℕ). min n 1048577) (product_is (c.fill_options.ensures.option_rows (model_of c.args.tabled.now) refl))
