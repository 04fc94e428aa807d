use Rattle.std.proofs.Common.{sym, ◌∙◌, subst, arith}
use Rattle.fixed_vec.specs.Items.{items}
use Rattle.keys.specs.InWords.{in_words}
use Rattle.keys.proofs.WordLaws.{in_words_ordered}
use Rattle.tree.specs.Turning.{MergesWith}
use Rattle.std.proofs.lemmas.Result.{err_from_is_err_and}
use Rattle.tree.specs.declared.logbook.State.TheVariants.{Open}
use Rattle.tree.proofs.AnywhereLaws.{declines, next_own}
use Rattle.tree.proofs.LocatedLaws.{never_ok}
use Rattle.tree.proofs.RewriteLaws.{count_told, decision_merge, decision_split, merges_with, replaced_few, rule_is}
use Rattle.tree.proofs.logbook.Logbook.rewrite.Goals as goal

pub returns-in_err-count : goal.returns-in_err-count
returns-in_err-count g c =
    let o = in_words g.K.Key.kind in
    let laws = in_words_ordered g.K.Key.kind g.met.K.Key.ordered g.met.K.Key.formed in
    let m = g.M.Memory.meaning c.args.self.now.memory in
    record {
      done = λ x w open_is work small. never_ok c.in_err-count.field-0.0 (sym (count_told o laws m.live x w c.args.home work) ∙ sym c.in_err-count.ensures.value);
      any = λ x open_is small.
          let p = err_from_is_err_and c.from_residual.result c.from_residual.ensures.1 in
          let told = c.in_err-count.ensures in
          rw (p.1, p.2, told.same, told.state, told.taken, open_is) (declines m (Open x) c.args.self.now.taken c.in_err-count.field-0.0 (next_own m.live c.args.home.next c.in_err-count.field-0.0 told.value));
    }

pub returns-in-Split : goal.returns-in-Split
returns-in-Split g c =
    let o = in_words g.K.Key.kind in
    let laws = in_words_ordered g.K.Key.kind g.met.K.Key.ordered g.met.K.Key.formed in
    let m = g.M.Memory.meaning c.args.self.now.memory in
    record {
      done = λ x w open_is work small.
          let told = c.in_ok-count.ensures in
          let is = sym c.in-Split.is ∙ c.decide.ensures in
          let size = c.len.ensures.value in
          let by = decision_split c.may_split.result c.len.result c.in_ok-count.count c.in-Split.left is in
          let few = c.len.ensures.fits in
          let done = (rw (told.same, told.taken) at c.split.ensures.done) x w (told.state ∙ open_is) work (omega (arith, by.0, by.1)) (omega (arith, by.1, few)) (omega (arith, by.1, size)) (omega (arith, by.0, by.1, few, size)) in
          rule_is o laws m x c.args.self.now.taken w c.args.home work c.args.call (items c.args.pairs.now) c.in_ok-count.count c.may_split.result c.len.result _ _ told.value c.may_split.ensures size is done;
      any = λ x open_is small.
          let told = c.in_ok-count.ensures in
          let is = sym c.in-Split.is ∙ c.decide.ensures in
          let size = c.len.ensures.value in
          let by = decision_split c.may_split.result c.len.result c.in_ok-count.count c.in-Split.left is in
          let few = c.len.ensures.fits in
          (rw (told.same, told.taken, told.state) at c.split.ensures.any) x open_is (omega (arith, by.0, by.1)) (omega (arith, by.1, few)) (omega (arith, by.1, size)) (omega (arith, by.0, by.1, few, size));
    }

pub returns-in-Merge : goal.returns-in-Merge
returns-in-Merge g c =
    let o = in_words g.K.Key.kind in
    let laws = in_words_ordered g.K.Key.kind g.met.K.Key.ordered g.met.K.Key.formed in
    let m = g.M.Memory.meaning c.args.self.now.memory in
    record {
      done = λ x w open_is work small.
          let told = c.in_ok-count.ensures in
          let is = sym c.in-Merge.is ∙ c.decide.ensures in
          let size = c.len.ensures.value in
          let by = decision_merge c.may_split.result c.len.result c.in_ok-count.count is in
          let done = (rw (told.same, told.taken) at c.merge.ensures.done) x w (told.state ∙ open_is) work (subst (MergesWith o m.live c.args.home.next) size (merges_with o m.live c.args.home.next c.len.result c.in_ok-count.count told.value by.0 by.1)) in
          rule_is o laws m x c.args.self.now.taken w c.args.home work c.args.call (items c.args.pairs.now) c.in_ok-count.count c.may_split.result c.len.result _ _ told.value c.may_split.ensures size is done;
      any = λ x open_is small.
          let told = c.in_ok-count.ensures in
          let by = decision_merge c.may_split.result c.len.result c.in_ok-count.count (sym c.in-Merge.is ∙ c.decide.ensures) in
          (rw (told.same, told.taken, told.state) at c.merge.ensures.any) x open_is (subst (MergesWith o m.live c.args.home.next) c.len.ensures.value (merges_with o m.live c.args.home.next c.len.result c.in_ok-count.count told.value by.0 by.1));
    }

pub returns-in-Replace : goal.returns-in-Replace
returns-in-Replace g c =
    let o = in_words g.K.Key.kind in
    let laws = in_words_ordered g.K.Key.kind g.met.K.Key.ordered g.met.K.Key.formed in
    let m = g.M.Memory.meaning c.args.self.now.memory in
    record {
      done = λ x w open_is work small.
          let told = c.in_ok-count.ensures in
          let is = sym c.in-Replace.is ∙ c.decide.ensures in
          let size = c.len.ensures.value in
          let done = (rw (told.same, told.taken) at c.replace.ensures.done) x w (told.state ∙ open_is) work (replaced_few c.args.call c.may_split.result c.len.result c.in_ok-count.count (items c.args.pairs.now) is c.may_split.ensures size small) in
          rule_is o laws m x c.args.self.now.taken w c.args.home work c.args.call (items c.args.pairs.now) c.in_ok-count.count c.may_split.result c.len.result _ _ told.value c.may_split.ensures size is done;
      any = λ x open_is small.
          let told = c.in_ok-count.ensures in
          let is = sym c.in-Replace.is ∙ c.decide.ensures in
          (rw (told.same, told.taken, told.state) at c.replace.ensures.any) x open_is (replaced_few c.args.call c.may_split.result c.len.result c.in_ok-count.count (items c.args.pairs.now) is c.may_split.ensures c.len.ensures.value small);
    }
