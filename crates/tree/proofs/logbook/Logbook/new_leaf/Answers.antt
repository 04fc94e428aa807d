use Rattle.std.proofs.Common.{length, refl, sym, ap, ◌∙◌, subst, ⊎_elim, arith}
use Rattle.std.proofs.lemmas.Bool.{true≢false}
use Rattle.std.proofs.lemmas.List.{length-map}
use Rattle.std.proofs.lemmas.Result.{err_from_is_err_and}
use Rattle.memory.specs.Meaning.{size_of}
use Rattle.leaves.specs.Layout.{word}
use Rattle.index.specs.declared.node.Entry.{Entry}
use Rattle.index.specs.declared.table.Index.{Index}
use Rattle.index.specs.Meaning.{grouped, listed}
use Rattle.index.specs.Nodes.{numbers}
use Rattle.index.specs.Places.{place_before}
use Rattle.tree.specs.Turning.{Links, has_leaf}
use Rattle.tree.specs.Walk.{leaf_of}
use Rattle.tree.proofs.AnywhereLaws.{taken_is, told_err, told_ok}
use Rattle.tree.proofs.RewriteLaws.{same_index}
use Rattle.tree.proofs.logbook.Logbook.new_leaf.Goals as goal

pub returns-in_err-leaves-clause-leaf : goal.returns-in_err-leaves-clause-leaf
returns-in_err-leaves-clause-leaf g c = λ x open_is.
    let p = err_from_is_err_and c.from_residual.result c.from_residual.ensures.1 in
    let no = told_err (g.M.Memory.meaning c.args.self.now.memory) c.in_err-leaves.field-0.0 c.in_err-leaves.ensures.value in
    rw (p.1, p.2) (no.0, λ t. no.1 t.told)

pub returns-then-not-has_leaf-clause-leaf : goal.returns-then-not-has_leaf-clause-leaf
returns-then-not-has_leaf-clause-leaf g c = λ x open_is.
    let m = g.M.Memory.meaning c.args.self.now.memory in
    let told = c.in_ok-leaves.ensures in
    let there = same_index c.in_ok-index.index.now x (sym c.in_ok-index.ensures ∙ told.state ∙ open_is) in
    let leaf = taken_is c.in_ok-leaves.leaves (word m.live 3) _ (numbers (listed x)) _ c.args.self.now.taken c.next_free.result c.unwrap_or-leaf.result c.next_free.ensures c.unwrap_or-leaf.ensures (told_ok m c.in_ok-leaves.leaves told.value)
    (ap (λ (i : Index). numbers (listed i)) there) told.taken in
    let size = c.size-size.ensures ∙ ap size_of told.same in
    let link = subst (λ (i : Index). Links (leaf_of (grouped i) (place_before (grouped i) c.args.place)) c.link_word-at.result) there c.link_word-at.ensures in (
      refl,
      λ t. ⊎_elim
          (λ no. true≢false (sym t.leaf ∙ (sym (ap (λ n. has_leaf n c.unwrap_or-leaf.result) size ∙ ap (has_leaf (size_of m)) leaf) ∙ (sym c.has_leaf.ensures ∙ no))))
          (λ over. let less = t.link c.link_word-at.result link in omega (arith, less, size, over.1))
          c.then-not-has_leaf.either,
    )

pub returns-clause-leaf : goal.returns-clause-leaf
returns-clause-leaf g c = λ x open_is.
    let m = g.M.Memory.meaning c.args.self.now.memory in
    let told = c.in_ok-leaves.ensures in
    let there = same_index c.in_ok-index.index.now x (sym c.in_ok-index.ensures ∙ told.state ∙ open_is) in
    let leaf = taken_is c.in_ok-leaves.leaves (word m.live 3) _ (numbers (listed x)) _ c.args.self.now.taken c.next_free.result c.unwrap_or-leaf.result c.next_free.ensures c.unwrap_or-leaf.ensures (told_ok m c.in_ok-leaves.leaves told.value)
    (ap (λ (i : Index). numbers (listed i)) there) told.taken in
    let size = c.size-size.ensures ∙ ap size_of told.same in
    let link = subst (λ (i : Index). Links (leaf_of (grouped i) (place_before (grouped i) c.args.place)) c.link_word-at.result) there c.link_word-at.ensures in (
      record {
        leaves = told_ok m c.in_ok-leaves.leaves told.value;
        linked = c.len.ensures ∙ ap (λ (i : Index). length (listed i)) there ∙ sym (length-map (listed x) (λ (e : Entry). e.to));
        leaf = leaf;
        at = link;
      },
      record {
        leaf = rw size at (sym c.if-not-has_leaf.ensures);
        link = omega (arith, c.if-size-at.false, size);
        small = omega (arith, c.if-size-at.false, c.size-size.type_inv);
      },
    )
