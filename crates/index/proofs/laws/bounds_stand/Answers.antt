use Rattle.index.proofs.KeepingLaws.{split_ascends, merge_ascends, replace_keeps}
use Rattle.index.proofs.laws.bounds_stand.Goals as goal

pub returns : goal.returns
returns c = record { split = split_ascends; merge = merge_ascends; replace = replace_keeps }
