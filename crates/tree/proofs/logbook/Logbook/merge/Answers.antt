use Rattle.std.proofs.Common.{[], ◌++◌, ◌≤◌, length, Ok, Err, sym, ap, ◌∙◌, subst, arith}
use Rattle.std.proofs.lemmas.List.{length-append}
use Rattle.std.specs.Option.{unwrap_or}
use Rattle.fixed_vec.specs.Items.{items}
use Rattle.fixed_vec.proofs.Rooms.{joined_all}
use Rattle.keys.specs.InWords.{in_words}
use Rattle.keys.proofs.WordLaws.{in_words_ordered}
use Rattle.leaves.specs.Layout.{count_of}
use Rattle.leaves.specs.Pairs.{folded}
use Rattle.leaves.proofs.ElementLaws.{pairs_folded}
use Rattle.plans.specs.Plan.{pairs_of}
use Rattle.index.specs.declared.table.Index.{Index}
use Rattle.index.specs.Meaning.{grouped}
use Rattle.index.specs.Places.{place_after}
use Rattle.tree.specs.Turning.{MergesWith}
use Rattle.tree.specs.Walk.{past_of}
use Rattle.tree.proofs.LocatedLaws.{never_ok}
use Rattle.std.proofs.lemmas.Result.{err_from_is_err_and}
use Rattle.refusal.specs.declared.Refusal.TheVariants.{Outside}
use Rattle.tree.specs.declared.logbook.State.TheVariants.{Open}
use Rattle.tree.proofs.AnywhereLaws.{declines, elements_read, has_parts, no_next, one_answered, outside_own, read_own}
use Rattle.tree.proofs.RewriteLaws.{has_next, merge_ends, next_elements, same_index, takes}
use Rattle.tree.proofs.TurnLaws.{same_elements}
use Rattle.tree.proofs.logbook.Logbook.merge.Goals as goal

pub returns-in_err-elements : goal.returns-in_err-elements
returns-in_err-elements g c =
    let o = in_words g.K.Key.kind in
    let laws = in_words_ordered g.K.Key.kind g.met.K.Key.ordered g.met.K.Key.formed in
    let m = g.M.Memory.meaning c.args.self.now.memory in
    record {
      done = λ x w open_is work fits.
          let has = has_next c.args.home.next c.in_ok-merged.merged _ (sym c.ok_or.ensures.value ∙ c.in_ok-merged.was) in
          never_ok c.in_err-elements.field-0.0 (sym (next_elements o laws m.live x w c.args.home work c.in_ok-merged.merged (Err c.in_err-elements.field-0.0) has c.in_err-elements.ensures.value));
      any = λ x open_is fits.
          let p = err_from_is_err_and c.from_residual-in_err-elements.result c.from_residual-in_err-elements.ensures.1 in
          rw (p.1, p.2, c.elements_in.ensures.same, open_is) (declines m (Open x) c.args.self.now.taken c.in_err-elements.field-0.0 (read_own m.live c.in_ok-merged.merged c.in_err-elements.field-0.0 c.in_err-elements.ensures.value));
    }

pub returns-in_err-new : goal.returns-in_err-new
returns-in_err-new g c =
    let o = in_words g.K.Key.kind in
    let laws = in_words_ordered g.K.Key.kind g.met.K.Key.ordered g.met.K.Key.formed in
    let m = g.M.Memory.meaning c.args.self.now.memory in
    record {
      done = λ x w open_is work fits.
          absurd (((rw c.elements_in.ensures.same at c.in_err-new.ensures.leaf) x open_is).1 (takes o laws m x c.args.self.now.taken w c.args.home work));
      any = λ x open_is fits.
          let p = err_from_is_err_and c.from_residual-in_err-new.result c.from_residual-in_err-new.ensures.1 in
          let new = c.in_err-new.ensures in
          rw (p.1, p.2, new.same, c.elements_in.ensures.same, new.state, new.taken, open_is, (new.leaf x open_is).0) (declines m (Open x) c.args.self.now.taken Outside outside_own);
    }

pub returns : goal.returns
returns g c =
    let o = in_words g.K.Key.kind in
    let laws = in_words_ordered g.K.Key.kind g.met.K.Key.ordered g.met.K.Key.formed in
    let m = g.M.Memory.meaning c.args.self.now.memory in
    let k = c.in_ok-merged.merged in
    record {
      done = λ x w open_is work fits.
          let has = has_next c.args.home.next k _ (sym c.ok_or.ensures.value ∙ c.in_ok-merged.was) in
          let new = c.in_ok-new.ensures in
          let take = ((rw c.elements_in.ensures.same at new.leaf) x open_is).0 in
          let read = same_elements c.in_ok-elements.elements _ (next_elements o laws m.live x w c.args.home work k (Ok c.in_ok-elements.elements) has c.in_ok-elements.ensures.value) in
          let more = c.pairs_of.ensures.value ∙ ap (folded o []) read ∙ sym (pairs_folded o m.live k (count_of m.live k)) in
          let room = subst (λ l. MergesWith o m.live l (length (items c.args.pairs.now))) (sym has) fits in
          let all = c.both-all.ensures ∙ joined_all 17 (items c.args.pairs.now) (items c.pairs_of.result) (omega (arith, room, ap length more)) ∙ ap (λ ps. items c.args.pairs.now ++ ps) more in
          let end = rw new.taken at (c.conclude.ensures.ending x (new.state ∙ open_is)) in
          let there = same_index c.in_ok-index.field-0.now x (sym c.in_ok-index.ensures ∙ new.state ∙ open_is) in
          let past = c.unwrap_or-next.ensures ∙ ap (λ l. unwrap_or l 0) (c.leaf_past.ensures ∙ ap (λ (i : Index). past_of (grouped i) (place_after (grouped i) c.args.home.place)) there) in
          merge_ends o laws m x c.args.self.now.taken w c.args.home work c.in_ok-new.new.at take.at _ _ _ _ (items c.args.pairs.now) (items c.both-all.result) k c.in_ok-new.new.leaf c.unwrap_or-next.result has all take.leaf past end
          (λ least most at_most. rw (new.same, c.elements_in.ensures.same, c.as_slice.ensures.value) at (c.rewrite_one-written.ensures.done least most (rw c.as_slice.ensures.value (omega (arith, room, ap length all, length-append (items c.args.pairs.now) (pairs_of o m.live k)))) (omega (arith, at_most)) (omega arith)));
      any = λ x open_is fits.
          let has = has_next c.args.home.next k _ (sym c.ok_or.ensures.value ∙ c.in_ok-merged.was) in
          let new = c.in_ok-new.ensures in
          let there = ((rw c.elements_in.ensures.same at new.leaf) x open_is).1 in
          let parts = has_parts _ c.in_ok-new.new.leaf there.leaf in
          let read = elements_read m.live k c.in_ok-elements.elements c.in_ok-elements.ensures.value in
          let more = c.pairs_of.ensures.value ∙ ap (folded o []) read ∙ sym (pairs_folded o m.live k (count_of m.live k)) in
          let room = subst (λ l. MergesWith o m.live l (length (items c.args.pairs.now))) (sym has) fits in
          let all = c.both-all.ensures ∙ joined_all 17 (items c.args.pairs.now) (items c.pairs_of.result) (omega (arith, room, ap length more)) ∙ ap (λ ps. items c.args.pairs.now ++ ps) more in
          let few : length (items c.both-all.result) ≤ 16 = omega (arith, room, ap length all, length-append (items c.args.pairs.now) (pairs_of o m.live k)) in
          let end = rw new.taken at (c.conclude.ensures.ending x (new.state ∙ open_is)) in
          rw open_is
          (one_answered m x c.args.self.now.taken c.in_ok-new.new.at c.in_ok-new.new.leaf c.unwrap_or-next.result (items c.both-all.result) _ _ _ _ _ there.leaf there.link few (omega (arith, c.rewrite_one-written.ensures.few))
          (rw (new.same, c.elements_in.ensures.same, c.as_slice.ensures.value) at (c.rewrite_one-written.ensures.done parts.0 parts.1 (rw c.as_slice.ensures.value few) there.small (omega arith))) end);
    }

pub returns-in_err-merged-clause-any : goal.returns-in_err-merged-clause-any
returns-in_err-merged-clause-any g c = λ x open_is fits.
    let p = err_from_is_err_and c.from_residual.result c.from_residual.ensures.1 in
    rw (p.1, p.2, open_is, no_next c.args.home.next c.in_err-merged.field-0.0 Outside (sym c.ok_or.ensures.value ∙ c.in_err-merged.was)) (declines (g.M.Memory.meaning c.args.self.now.memory) (Open x) c.args.self.now.taken Outside outside_own)
