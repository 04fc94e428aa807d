use Rattle.std.proofs.Common.{refl, rules}
use Rattle.memory.proofs.Words.{picked_same}
use Rattle.makes.proofs.Runs.{through_free}
use Rattle.makes.proofs.through.ThroughSettle.settle.Goals as goal

pub returns : goal.returns
returns c = record {
  answer = search rules;
  after = search (rules, picked_same);
  whole = search (rules, picked_same);
  lent = search rules;
  free = through_free c.args.self.now.run.now;
}
