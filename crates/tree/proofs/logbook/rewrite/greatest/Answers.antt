use Rattle.tree.proofs.RewriteLaws.{last_key_at}
use Rattle.tree.proofs.logbook.rewrite.greatest.Goals as goal

pub returns-in-Some : goal.returns-in-Some
returns-in-Some c some few = last_key_at c.args.pairs.now c.args.share c.in-Some.pair.now some few (rw c.saturating_sub.ensures at c.in-Some.ensures.lookup.1)
