-- A node is told into a fresh record.
use Rattle.std.proofs.Common.{◌≡◌, ℕ, [], refl, ap, ◌∙◌}
use Rattle.fixed_vec.specs.Items.{items}
use Rattle.index.specs.Showing.{told}
use Rattle.index.specs.declared.record.Holds.TheVariants.{Nothing as Unused}
use Rattle.index.specs.declared.record.NodeRecord.{NodeRecord}
use Rattle.tree.specs.Telling.{node_after}
use Rattle.tree.specs.declared.logbook.State.{State}
use Rattle.desk.specs.Answering.{unused}

pub fresh : (s : State) (i : ℕ) (node new : NodeRecord) → told new ≡ node_after s i (told node)
    → node.holds ≡ Unused → items node.numbers ≡ [] → items node.bounds ≡ [] → told new ≡ node_after s i unused
fresh s i node new after holds numbers bounds =
    let empty : told node ≡ unused = rw (holds, numbers, bounds) refl in
    after ∙ ap (node_after s i) empty
