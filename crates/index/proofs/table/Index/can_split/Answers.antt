use Rattle.std.proofs.Common.{◌∙◌, arith}
use Rattle.index.specs.Meaning.{grouped}
use Rattle.index.proofs.ListLaws.{no_split, split_where}
use Rattle.index.proofs.table.Index.can_split.Goals as goal

pub returns-then-self-ge64 : goal.returns-then-self-ge64
unfolding grouped
returns-then-self-ge64 c =
    let x = c.args.self.now in
    no_split (grouped x) c.args.place (omega (arith, x.counted.0, c.if-self-ge64.true))

pub returns : goal.returns
unfolding grouped
returns c =
    let x = c.args.self.now in
    c.has.ensures ∙ split_where (grouped x) c.args.place (omega (arith, x.counted.0, c.if-self-ge64.false))
