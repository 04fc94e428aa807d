use Rattle.std.proofs.Common.{rules}
use Rattle.memory.proofs.Words.{picked_same}
use Rattle.makes.proofs.through.ThroughMemory.flush.Goals as goal

pub returns : goal.returns
returns c = search (rules, picked_same)
