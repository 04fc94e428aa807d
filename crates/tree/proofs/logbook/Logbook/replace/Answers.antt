use Rattle.std.proofs.Common.{◌∙◌, arith}
use Rattle.refusal.specs.declared.Refusal.TheVariants.{Outside}
use Rattle.fixed_vec.specs.Items.{items}
use Rattle.keys.specs.InWords.{in_words}
use Rattle.keys.proofs.WordLaws.{in_words_ordered}
use Rattle.std.proofs.lemmas.Result.{err_from_is_err_and}
use Rattle.tree.specs.declared.logbook.State.TheVariants.{Open}
use Rattle.tree.proofs.AnywhereLaws.{declines, has_parts, one_answered, outside_own}
use Rattle.tree.proofs.RewriteLaws.{replace_ends, takes}
use Rattle.tree.proofs.logbook.Logbook.replace.Goals as goal

pub returns : goal.returns
returns g c =
    let o = in_words g.K.Key.kind in
    let laws = in_words_ordered g.K.Key.kind g.met.K.Key.ordered g.met.K.Key.formed in
    let m = g.M.Memory.meaning c.args.self.now.memory in
    record {
      done = λ x w open_is work fits.
          let new = c.in_ok-new.ensures in
          let take = (new.leaf x open_is).0 in
          let end = rw new.taken at (c.conclude.ensures.ending x (new.state ∙ open_is)) in
          replace_ends o laws m x c.args.self.now.taken w c.args.home work c.in_ok-new.new.at take.at _ _ _ _ (items c.args.pairs.now) c.in_ok-new.new.leaf c.unwrap_or-next.result take.leaf c.unwrap_or-next.ensures end
          (λ least most at_most. rw (new.same, c.as_slice.ensures.value) at (c.rewrite_one-written.ensures.done least most (rw c.as_slice.ensures.value (fits)) (omega (arith, at_most)) (omega arith)));
      any = λ x open_is fits.
          let new = c.in_ok-new.ensures in
          let has = (new.leaf x open_is).1 in
          let p = has_parts _ c.in_ok-new.new.leaf has.leaf in
          let end = rw new.taken at (c.conclude.ensures.ending x (new.state ∙ open_is)) in
          rw open_is
          (one_answered m x c.args.self.now.taken c.in_ok-new.new.at c.in_ok-new.new.leaf c.unwrap_or-next.result (items c.args.pairs.now) _ _ _ _ _ has.leaf has.link fits (omega (arith, c.rewrite_one-written.ensures.few))
          (rw (new.same, c.as_slice.ensures.value) at (c.rewrite_one-written.ensures.done p.0 p.1 (rw c.as_slice.ensures.value fits) has.small (omega arith))) end);
    }

pub returns-in_err-new : goal.returns-in_err-new
returns-in_err-new g c =
    let o = in_words g.K.Key.kind in
    let laws = in_words_ordered g.K.Key.kind g.met.K.Key.ordered g.met.K.Key.formed in
    let m = g.M.Memory.meaning c.args.self.now.memory in
    let new = c.in_err-new.ensures in
    record {
      done = λ x w open_is work fits. absurd ((new.leaf x open_is).1 (takes o laws m x c.args.self.now.taken w c.args.home work));
      any = λ x open_is fits.
          let p = err_from_is_err_and c.from_residual.result c.from_residual.ensures.1 in
          rw (p.1, p.2, new.same, new.state, new.taken, open_is, (new.leaf x open_is).0) (declines m (Open x) c.args.self.now.taken Outside outside_own);
    }
