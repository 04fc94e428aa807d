use Rattle.std.proofs.Common.{rules}
use Rattle.std.proofs.lemmas.List.{get_or-take}
use Rattle.makes.proofs.Runs.{store_after, unshared_set}
use Rattle.makes.proofs.buffered.BufferedMemory.store.Goals as goal

pub returns-then-self-at : goal.returns-then-self-at
returns-then-self-at c = search (rules, get_or-take)

pub returns : goal.returns
returns c = record {
  answer = search (rules, get_or-take);
  after = store_after c.args.self.now.live.now c.args.self.now.firm.now c.args.self.now.steps c.args.at c.args.word (search rules) (search (rules, get_or-take));
  lent = search rules;
  rest = unshared_set c.args.self.now.live.now c.args.self.now.firm.now c.args.at c.args.word (search rules);
}
