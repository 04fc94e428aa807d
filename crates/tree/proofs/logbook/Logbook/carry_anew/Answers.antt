use Rattle.std.proofs.Common.{[], Ok, Err, sym, ap, ◌∙◌}
use Rattle.keys.specs.InWords.{in_words}
use Rattle.keys.proofs.WordLaws.{in_words_ordered}
use Rattle.leaves.specs.Layout.{count_of}
use Rattle.leaves.proofs.ElementLaws.{pairs_folded}
use Rattle.leaves.specs.Pairs.{folded}
use Rattle.plans.specs.Deeds.{call_of, done, key_of}
use Rattle.tree.specs.Turning.{rewrite_ending}
use Rattle.tree.proofs.TurnLaws.{elements_here, same_elements}
use Rattle.tree.proofs.LocatedLaws.{never_ok}
use Rattle.std.proofs.lemmas.Result.{err_from_is_err_and}
use Rattle.tree.proofs.AnywhereLaws.{declines, read_own}
use Rattle.tree.specs.declared.logbook.State.TheVariants.{Open}
use Rattle.tree.proofs.logbook.Logbook.carry_anew.Goals as goal

pub returns : goal.returns
returns g c =
    let o = in_words g.K.Key.kind in
    let laws = in_words_ordered g.K.Key.kind g.met.K.Key.ordered g.met.K.Key.formed in
    let m = g.M.Memory.meaning c.args.self.now.memory in
    record {
      done = λ x open_is work.
          let got = same_elements c.in_ok-elements.elements _ (elements_here o laws m.live x (key_of c.args.deed) c.args.home work (Ok c.in_ok-elements.elements) c.in_ok-elements.ensures.value) in
          let pairs = c.pairs_after.ensures.value ∙ ap (done o c.args.deed) (ap (folded o []) got ∙ sym (pairs_folded o m.live c.args.home.leaf (count_of m.live c.args.home.leaf))) in
          (rw (c.call.ensures, c.elements_in.ensures.same) at c.rewrite.ensures.done) x (key_of c.args.deed) open_is work (λ e. c.pairs_after.ensures.fits e)
          ∙ ap (rewrite_ending o m x c.args.self.now.taken (key_of c.args.deed) (call_of c.args.deed)) pairs;
      any = λ x open_is. (rw (c.call.ensures, c.elements_in.ensures.same) at c.rewrite.ensures.any) x open_is (λ e. c.pairs_after.ensures.fits e);
    }

pub returns-in_err-elements : goal.returns-in_err-elements
returns-in_err-elements g c =
    let o = in_words g.K.Key.kind in
    let laws = in_words_ordered g.K.Key.kind g.met.K.Key.ordered g.met.K.Key.formed in
    let m = g.M.Memory.meaning c.args.self.now.memory in
    record {
      done = λ x open_is work.
          never_ok c.in_err-elements.field-0.0 (sym (elements_here o laws m.live x (key_of c.args.deed) c.args.home work (Err c.in_err-elements.field-0.0) c.in_err-elements.ensures.value));
      any = λ x open_is.
          let p = err_from_is_err_and c.from_residual.result c.from_residual.ensures.1 in
          rw (p.1, p.2, c.elements_in.ensures.same, open_is) (declines m (Open x) c.args.self.now.taken c.in_err-elements.field-0.0 (read_own m.live c.args.home.leaf c.in_err-elements.field-0.0 c.in_err-elements.ensures.value));
    }
