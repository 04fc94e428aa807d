use Rattle.std.proofs.Common.{◌∷◌, Some, Ok, Err, refl, sym, ap, ◌∙◌}
use Rattle.std.proofs.lemmas.Bool.{cond-true, cond-false}
use Rattle.refusal.specs.declared.Refusal.TheVariants.{Outside}
use Rattle.index.specs.declared.table.Index.{Index}
use Rattle.index.specs.Meaning.{listed}
use Rattle.index.specs.Nodes.{numbers}
use Rattle.tree.specs.Turning.{has_leaf}
use Rattle.tree.proofs.AnywhereLaws.{taken_is}
use Rattle.tree.proofs.RewriteLaws.{same_index}
use Rattle.tree.proofs.logbook.Logbook.second_leaf.Goals as goal

pub returns-then-not-has_leaf : goal.returns-then-not-has_leaf
returns-then-not-has_leaf g c = λ x open_is.
    let there = same_index c.in_ok-index.index.now x (sym c.in_ok-index.ensures ∙ open_is) in
    let leaf = taken_is c.args.new.now.leaves c.args.new.now.leaves _ (c.args.new.now.leaf ∷ numbers (listed x)) _ (Some c.args.new.now.leaf) c.next_free.result c.unwrap_or-second.result c.next_free.ensures c.unwrap_or-second.ensures refl
    (ap (λ (i : Index). c.args.new.now.leaf ∷ numbers (listed i)) there) refl in
    rw (sym leaf, sym c.size.ensures) (sym (cond-false (has_leaf c.size.result c.unwrap_or-second.result) (Ok c.unwrap_or-second.result) (Err Outside) (sym c.if-not-has_leaf.ensures)))

pub returns : goal.returns
returns g c = λ x open_is.
    let there = same_index c.in_ok-index.index.now x (sym c.in_ok-index.ensures ∙ open_is) in
    let leaf = taken_is c.args.new.now.leaves c.args.new.now.leaves _ (c.args.new.now.leaf ∷ numbers (listed x)) _ (Some c.args.new.now.leaf) c.next_free.result c.unwrap_or-second.result c.next_free.ensures c.unwrap_or-second.ensures refl
    (ap (λ (i : Index). c.args.new.now.leaf ∷ numbers (listed i)) there) refl in
    rw (sym leaf, sym c.size.ensures) (sym (cond-true (has_leaf c.size.result c.unwrap_or-second.result) (Ok c.unwrap_or-second.result) (Err Outside) (sym c.if-not-has_leaf.ensures)))
