use Rattle.std.proofs.Common.{length, ap, ◌∙◌, arith}
use Rattle.index.specs.Shape.{singles}
use Rattle.index.proofs.table.Index.rebuild.Goals as goal

pub fill-requires : goal.fill-requires
fill-requires c =
    let whole = c.as_slice.ensures.value ∙ c.list_with-all.ensures in
    (omega (arith, ap length whole, c.requires.some), omega (arith, ap length whole, c.requires.few))

pub returns : goal.returns
returns c = c.fill.ensures ∙ ap singles (c.as_slice.ensures.value ∙ c.list_with-all.ensures)
