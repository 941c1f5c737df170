-- The exponential of a whole number of units meets its contract. Assumes nothing.
use Rattle.exponential.proofs.Steps.{weighed}
use Rattle.exponential.proofs.exp_up.Goals as goal

pub returns : goal.returns
returns c = weighed c.args.y c.exp_rest-rest.result c.requires c.exp_rest-rest.ensures.exp_at_least c.exp_rest-rest.ensures.exp_at_most c.exp_rest-rest.ensures.lower_bound.0 c.exp_rest-rest.ensures.lower_bound.1 c.exp_rest-rest.ensures.value
