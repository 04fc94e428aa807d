-- A node told as a record.
use Rattle.std.proofs.Common.{◌≡◌, ℕ, ◌<◌, leb, length, get_or, sym, ap, ◌∙◌}
use Rattle.index.specs.declared.node.Node.{Node}
use Rattle.index.specs.declared.table.Index.{Index}
use Rattle.index.specs.Nodes.{items}
use Rattle.index.specs.Shape.{lowest}
use Rattle.index.specs.Meaning.{grouped}
use Rattle.index.specs.Showing.{Telling, telling, node_told}
use Rattle.index.proofs.LocateLaws.{length_grouped, node_is}

pub node_telling : (x : Index) (i : ℕ) (d : Node) {low : ℕ} {s : Telling} → i < 91 → low ≡ lowest x.used → s ≡ telling (leb low i) (items (get_or x.nodes i d)) → s ≡ node_told (grouped x) i
node_telling x i d h is e = e ∙ ap (λ n. telling (leb n i) (items (get_or x.nodes i d))) (is ∙ ap lowest (sym (length_grouped x))) ∙ ap (telling (leb (lowest (length (grouped x))) i)) (node_is x i d h)
