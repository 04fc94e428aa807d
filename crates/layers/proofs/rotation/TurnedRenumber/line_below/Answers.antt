use Rattle.std.proofs.Common.{◌/◌, rules}
use native.Mathlib.Nat.{add-mod-mod}
use Rattle.layers.proofs.rotation.TurnedRenumber.line_below.Goals as goal

pub returns : goal.returns
returns c = search (rules, add-mod-mod c.args.line c.args.self.now.by (c.args.size / 8))
