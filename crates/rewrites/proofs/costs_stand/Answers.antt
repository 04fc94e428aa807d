use Rattle.rewrites.proofs.CostLaws.{leaf_cost_holds, rewrite_cost_holds, costs_few}
use Rattle.rewrites.proofs.costs_stand.Goals as goal

pub returns : goal.returns
returns c = record { leaf = leaf_cost_holds; rewrite = rewrite_cost_holds; few = costs_few }
