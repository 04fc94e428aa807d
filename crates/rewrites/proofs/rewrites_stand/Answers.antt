use Rattle.rewrites.proofs.BoundLaws.{rewrite_bounds_hold}
use Rattle.rewrites.proofs.RewriteLaws.{replacements_hold}
use Rattle.rewrites.proofs.TakenLaws.{rewritings_hold}
use Rattle.rewrites.proofs.rewrites_stand.Goals as goal

pub returns : goal.returns
returns c = record { turns = rewritings_hold; replaces = replacements_hold; bounds = rewrite_bounds_hold }
