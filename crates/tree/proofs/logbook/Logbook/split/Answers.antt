use Rattle.std.proofs.Common.{◌∷◌, Some, length, take, drop, refl, sym, ap, ◌∙◌, arith}
use Rattle.fixed_vec.specs.Items.{items}
use Rattle.keys.specs.InWords.{in_words}
use Rattle.keys.proofs.WordLaws.{in_words_ordered}
use Rattle.std.proofs.lemmas.Result.{err_from_is_err_and}
use Rattle.std.proofs.lemmas.Bool.{true≢false}
use Rattle.std.proofs.lemmas.List.{length-take, length-drop}
use Rattle.refusal.specs.declared.Refusal.TheVariants.{NoRoom, Outside}
use Rattle.memory.specs.Meaning.{size_of}
use Rattle.leaves.specs.Layout.{word}
use Rattle.plans.specs.Plan.{taken}
use Rattle.index.specs.Meaning.{listed}
use Rattle.index.specs.Nodes.{numbers}
use Rattle.rewrites.proofs.CallLaws.{shared_of}
use Rattle.tree.specs.declared.logbook.State.TheVariants.{Open}
use Rattle.tree.proofs.AnywhereLaws.{declines, has_parts, leaf_in_err, leaf_in_ok, outside_own, room_own, two_answered}
use Rattle.tree.proofs.RewriteLaws.{right_is, split_crowded, split_ends, takes, takes_two}
use Rattle.tree.proofs.logbook.Logbook.split.Goals as goal

pub returns-in_err-new : goal.returns-in_err-new
returns-in_err-new g c =
    let o = in_words g.K.Key.kind in
    let laws = in_words_ordered g.K.Key.kind g.met.K.Key.ordered g.met.K.Key.formed in
    let m = g.M.Memory.meaning c.args.self.now.memory in
    record {
      done = λ x w open_is work some most part others.
          absurd ((c.in_err-new.ensures.leaf x open_is).1 (takes o laws m x c.args.self.now.taken w c.args.home work));
      any = λ x open_is some most part others.
          let p = err_from_is_err_and c.from_residual.result c.from_residual.ensures.1 in
          let new = c.in_err-new.ensures in
          rw (p.1, p.2, new.same, new.state, new.taken, open_is, (new.leaf x open_is).0) (declines m (Open x) c.args.self.now.taken Outside outside_own);
    }

pub returns-then-saturating_sub-lt2 : goal.returns-then-saturating_sub-lt2
returns-then-saturating_sub-lt2 g c =
    let o = in_words g.K.Key.kind in
    let laws = in_words_ordered g.K.Key.kind g.met.K.Key.ordered g.met.K.Key.formed in
    let m = g.M.Memory.meaning c.args.self.now.memory in
    record {
      done = λ x w open_is work some most part others.
          let new = c.in_ok-new.ensures in
          let take = (new.leaf x open_is).0 in
          let crowd = split_crowded o m x c.args.self.now.taken w (items c.args.pairs.now) c.args.share (omega (arith, take.leaves, take.linked)) in
          rw (c.into.ensures, new.same, new.taken, new.state, open_is) crowd;
      any = λ x open_is some most part others. let new = c.in_ok-new.ensures in rw (c.into.ensures, new.same, new.taken, new.state, open_is) (declines m (Open x) c.args.self.now.taken NoRoom room_own);
    }

pub returns : goal.returns
returns g c =
    let o = in_words g.K.Key.kind in
    let laws = in_words_ordered g.K.Key.kind g.met.K.Key.ordered g.met.K.Key.formed in
    let m = g.M.Memory.meaning c.args.self.now.memory in
    record {
      done = λ x w open_is work some most part others.
          let new = c.in_ok-new.ensures in
          let take = (new.leaf x open_is).0 in
          let end = rw new.taken at (c.conclude.ensures.ending x (new.state ∙ open_is)) in
          split_ends o laws m x c.args.self.now.taken w c.args.home work c.in_ok-new.new.at take.at _ _ _ _ (items c.args.pairs.now) c.args.share c.in_ok-new.new.leaf c.in_ok-right.right c.unwrap_or-next.result c.greatest-bound.result
          (omega (arith, take.leaves, take.linked)) take.leaf (right_is _ _ _ _ _ _ (leaf_in_ok (size_of (g.M.Memory.meaning c.new_leaf.new.self.memory)) (size_of (g.M.Memory.meaning c.new_leaf.new.self.memory)) (taken c.in_ok-new.new.leaves (c.in_ok-new.new.leaf ∷ numbers (listed x)) (Some c.in_ok-new.new.leaf)) c.in_ok-right.right (c.in_ok-right.ensures x (new.state ∙ open_is)) refl).0 take.leaves take.leaf) c.unwrap_or-next.ensures
          ((rw c.as_slice.ensures.value at c.greatest-bound.ensures) some part) most part (omega (arith, ap length c.as_slice.ensures.value, c.as_slice.ensures.fits)) others end
          (λ fit at_most. rw (new.same, c.as_slice-2.ensures.value) at (c.rewrite_two-written.ensures.done (rw c.as_slice-2.ensures.value fit) (omega (arith, at_most)) (omega arith)));
      any = λ x open_is some most part others.
          let new = c.in_ok-new.ensures in
          let has = (new.leaf x open_is).1 in
          let ps = items c.args.pairs.now in
          let second = taken c.in_ok-new.new.leaves (c.in_ok-new.new.leaf ∷ numbers (listed x)) (Some c.in_ok-new.new.leaf) in
          let right = (leaf_in_ok (size_of (g.M.Memory.meaning c.new_leaf.new.self.memory)) (size_of m) second c.in_ok-right.right (c.in_ok-right.ensures x (new.state ∙ open_is)) (ap size_of new.same)).1 in
          let p = has_parts _ c.in_ok-new.new.leaf has.leaf in
          let q = has_parts _ c.in_ok-right.right right in
          let size = ap length c.as_slice-2.ensures.value in
          let fit = shared_of c.in_ok-new.new.leaf c.in_ok-right.right (length ps) c.args.share (record {
            left_some = p.0;
            left_most = p.1;
            right_some = q.0;
            right_most = q.1;
            all = omega (arith, ap length c.as_slice.ensures.value, c.as_slice.ensures.fits);
            part = part;
            first = most;
            others = omega (arith, others);
          }) in
          let end = rw new.taken at (c.conclude.ensures.ending x (new.state ∙ open_is)) in
          rw open_is
          (two_answered m x c.args.self.now.taken c.in_ok-new.new.at c.in_ok-new.new.leaf c.in_ok-right.right c.unwrap_or-next.result (take c.args.share ps) (drop c.args.share ps) _ _ _ _ _ has.leaf right has.link
          (omega (arith, length-take c.args.share ps, most)) (omega (arith, length-drop c.args.share ps, others)) (omega (arith, c.rewrite_two-written.ensures.few))
          (rw (new.same, c.as_slice-2.ensures.value) at (c.rewrite_two-written.ensures.done (rw c.as_slice-2.ensures.value fit) has.small (omega arith))) end);
    }

pub returns-in_err-right : goal.returns-in_err-right
returns-in_err-right g c =
    let o = in_words g.K.Key.kind in
    let laws = in_words_ordered g.K.Key.kind g.met.K.Key.ordered g.met.K.Key.formed in
    let m = g.M.Memory.meaning c.args.self.now.memory in
    let new = c.in_ok-new.ensures in
    record {
      done = λ x w open_is work some most part others.
          let take = (new.leaf x open_is).0 in
          let leaf = ap (λ n. taken n (c.in_ok-new.new.leaf ∷ numbers (listed x)) (Some c.in_ok-new.new.leaf)) take.leaves in
          let no = (leaf_in_err (size_of (g.M.Memory.meaning c.new_leaf.new.self.memory)) (size_of m) (taken c.in_ok-new.new.leaves (c.in_ok-new.new.leaf ∷ numbers (listed x)) (Some c.in_ok-new.new.leaf)) (taken (word m.live 3) (c.in_ok-new.new.leaf ∷ numbers (listed x)) (Some c.in_ok-new.new.leaf)) c.in_err-right.field-0.0 (c.in_err-right.ensures x (new.state ∙ open_is)) (ap size_of new.same) leaf).1 in
          absurd (true≢false (sym (takes_two o laws m x c.args.self.now.taken w c.args.home work c.in_ok-new.new.leaf (omega (arith, take.leaves, take.linked))) ∙ no));
      any = λ x open_is some most part others.
          let p = err_from_is_err_and c.from_residual-in_err-right.result c.from_residual-in_err-right.ensures.1 in
          let second = taken c.in_ok-new.new.leaves (c.in_ok-new.new.leaf ∷ numbers (listed x)) (Some c.in_ok-new.new.leaf) in
          let size = size_of (g.M.Memory.meaning c.new_leaf.new.self.memory) in
          let outside = (leaf_in_err size size second second c.in_err-right.field-0.0 (c.in_err-right.ensures x (new.state ∙ open_is)) refl refl).0 in
          rw (p.1, p.2, new.same, new.state, new.taken, open_is, outside) (declines m (Open x) c.args.self.now.taken Outside outside_own);
    }
