use Rattle.std.proofs.Common.{get_or, take_all, ap, ◌∙◌, arith}
use Rattle.fixed_vec.specs.Items.{items}
use Rattle.fixed_vec.proofs.Rooms.{one_granted}
use Rattle.keys.specs.InWords.{in_words}
use Rattle.tree.specs.Shape.{tops, top_at}
use Rattle.tree.proofs.OpenLaws.{built_is, entries_more, room_left, in_chain, length_tops, shape_built, shape_made, top_is}
use Rattle.tree.proofs.logbook.open.opened.Goals as goal

pub loop-leaf-preserved : goal.loop-leaf-preserved
loop-leaf-preserved g c =
    let o = in_words g.K.Key.kind in
    let m = (g.M.Memory.meaning c.args.memory.now).live in
    let ks = c.args.leaves.now in
    let l = c.loop-leaf in
    let i = l.leaf-index in
    let top = c.top-bound.ensures.value ∙ ap (λ w. top_at o w.live (get_or ks i 0)) l.invariant.0 ∙ top_is o m ks c.requires i c.loop-leaf-test.true in (
      c.top-bound.ensures.same ∙ l.invariant.0,
      entries_more ks (tops o m ks) _ i c.loop-leaf-test.true (length_tops o m ks) (in_chain o m ks c.requires).1 l.invariant.1 _ _ (rw top) c.push.ensures.list,
    )

pub unwrap-requires : goal.unwrap-requires
unwrap-requires g c =
    let o = in_words g.K.Key.kind in
    let m = (g.M.Memory.meaning c.args.memory.now).live in
    let ks = c.args.leaves.now in
    let l = c.loop-leaf in
    one_granted 64 (items l.entries) c.push.ensures.answer (room_left ks (tops o m ks) _ l.leaf-index c.loop-leaf-test.true (length_tops o m ks) (in_chain o m ks c.requires).1 l.invariant.1)

pub returns : goal.returns
returns g c =
    let o = in_words g.K.Key.kind in
    let m = (g.M.Memory.meaning c.args.memory.now).live in
    let ks = c.args.leaves.now in
    let l = c.loop-leaf in
    let i = l.leaf-index in
    let long = length_tops o m ks in
    let whole = take_all i ks c.loop-leaf-test.false in
    let tops-whole = take_all i (tops o m ks) (omega (arith, long, c.loop-leaf-test.false)) in
    let es = c.as_slice.ensures.value ∙ (rw (whole, tops-whole) at l.invariant.1) in
    record {
      same = l.invariant.0;
      shape = shape_made c.build.result c.map_or.result _ (built_is o m ks c.requires _ _ es c.build.ensures) c.map_or.ensures ∙ shape_built o m ks c.requires;
    }
