use Rattle.keys.proofs.WordLaws.{in_words_ordered}
use Rattle.keys.specs.InWords.{in_words}
use Rattle.std.proofs.Common.{◌≡◌, ◌+◌, true, leb, length, sym, ◌∙◌, arith}
use Rattle.std.proofs.lemmas.Bool.{cond-true, le-leb}
use Rattle.fixed_vec.specs.Items.{items}
use Rattle.leaves.proofs.RunLaws.{insert_new, insert_own}
use Rattle.leaves.proofs.leaf.sorted.put_pair.Goals as goal

pub returns-then-is_at : goal.returns-then-is_at
returns-then-is_at g c =
    let o = in_words g.K.Key.kind in
    let ordered = in_words_ordered g.K.Key.kind g.met.K.Key.ordered g.met.K.Key.formed in
    let place = rw c.as_slice.ensures.value at c.place-place.ensures in
    let own = sym (rw c.as_slice-2.ensures.value at c.is_at.ensures) ∙ c.if-is_at.true in
    c.replace.ensures.list ∙ sym (insert_own o ordered c.args.pair (items c.args.run.now) c.place-place.result place own)

pub returns-else-is_at : goal.returns-else-is_at
returns-else-is_at g c =
    let o = in_words g.K.Key.kind in
    let ordered = in_words_ordered g.K.Key.kind g.met.K.Key.ordered g.met.K.Key.formed in
    let ps = items c.args.run.now in
    let place = rw c.as_slice.ensures.value at c.place-place.ensures in
    let own = sym (rw c.as_slice-2.ensures.value at c.is_at.ensures) ∙ c.if-is_at.false in
    let room : leb (length ps + 1) 17 ≡ true = le-leb (length ps + 1) 17 (omega (arith, c.requires.few)) in
    c.insert.ensures.list ∙ cond-true _ _ _ room ∙ sym (insert_new o ordered c.args.pair ps c.place-place.result place own)
