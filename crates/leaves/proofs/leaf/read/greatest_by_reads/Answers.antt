use Rattle.keys.specs.InWords.{in_words}
use Rattle.std.proofs.Common.{◌∙◌}
use Rattle.leaves.proofs.ElementLaws.{greatest_slot}
use Rattle.leaves.proofs.Kept.{live_same}
use Rattle.leaves.proofs.leaf.read.greatest_by_reads.Goals as goal

pub loop-slot-preserved : goal.loop-slot-preserved
loop-slot-preserved g c =
    let l = c.loop-slot in
    (c.key_at-key.ensures.same ∙ l.invariant.0, greatest_slot (in_words g.K.Key.kind) c.args.leaf _ (live_same l.invariant.0) l.invariant.1 c.key_at-key.ensures.value c.greatest_with.ensures)
