use Rattle.std.proofs.Common.{None, Some, refl, sym, ap, ◌∙◌}
use Rattle.keys.specs.InWords.{in_words}
use Rattle.keys.proofs.WordLaws.{in_words_ordered, valid_of_keys}
use Rattle.plans.specs.declared.deed.Deed.TheVariants as deed
use Rattle.plans.specs.Told.{by_rule}
use Rattle.histories.specs.PlainBook.{find, next as next_after, pairs as how_many}
use Rattle.histories.specs.Outcome.{outcome, reply}
use Rattle.histories.specs.Histories.{asked, called}
use Rattle.tree.specs.Turning.{call_ending}
use Rattle.session.specs.Hearing.{heard_found, heard_next, heard_number, heard_removed}
use Rattle.session.proofs.CarryLaws.{cut_told, deed_told, either_way, ends_so, find_told, next_told, node_told_in, pairs_told}
use Rattle.session.proofs.play.carry.Goals as goal

pub returns-in-Put : goal.returns-in-Put
returns-in-Put g c s same sound =
    let o = in_words g.K.Key.kind in
    let laws = in_words_ordered g.K.Key.kind g.met.K.Key.ordered g.met.K.Key.formed in
    let d = deed.Put (g.K.Key.kind.form c.in-Put.key) c.in-Put.reading in
    let told = deed_told o laws _ _ _ s d _ _ _ _ same sound (c.put.ensures.ending sound) in
    record {
      event = Some (called d (outcome by_rule o s.state d).answer (outcome by_rule o s.state d).ending);
      rightly = (valid_of_keys g.K.Key.kind g.met.K.Key.formed c.in-Put.key, refl, refl);
      happened = rw c.in-Put.is (refl, c.steps.ensures ∙ sym told.steps_heard);
      same = told.same;
      sound = c.put.ensures.sound sound;
    }

pub returns-in-Change : goal.returns-in-Change
returns-in-Change g c s same sound =
    let o = in_words g.K.Key.kind in
    let laws = in_words_ordered g.K.Key.kind g.met.K.Key.ordered g.met.K.Key.formed in
    let d = deed.Change (g.K.Key.kind.form c.in-Change.key) c.in-Change.reading in
    let told = deed_told o laws _ _ _ s d _ _ _ _ same sound (c.change.ensures.ending sound) in
    record {
      event = Some (called d (outcome by_rule o s.state d).answer (outcome by_rule o s.state d).ending);
      rightly = (valid_of_keys g.K.Key.kind g.met.K.Key.formed c.in-Change.key, refl, refl);
      happened = rw c.in-Change.is (refl, c.steps-in-Change.ensures ∙ sym told.steps_heard);
      same = told.same;
      sound = c.change.ensures.sound sound;
    }

pub returns-in-Remove : goal.returns-in-Remove
returns-in-Remove g c s same sound =
    let o = in_words g.K.Key.kind in
    let laws = in_words_ordered g.K.Key.kind g.met.K.Key.ordered g.met.K.Key.formed in
    let d = deed.Remove (g.K.Key.kind.form c.in-Remove.key) in
    let m = g.M.Memory.meaning c.args.logbook.now.memory in
    let e = call_ending o m c.args.logbook.now.state c.args.logbook.now.taken d in
    let ends = c.remove.ensures.ending sound in
    let told = deed_told o laws m _ _ s d e.answer _ _ _ same sound (ends_so _ _ _ _ _ e ends) in
    record {
      event = Some (called d (outcome by_rule o s.state d).answer (outcome by_rule o s.state d).ending);
      rightly = (valid_of_keys g.K.Key.kind g.met.K.Key.formed c.in-Remove.key, refl, refl);
      happened = rw c.in-Remove.is (refl, c.removed.ensures ∙ ap heard_removed ends.told ∙ sym told.removed_heard);
      same = told.same;
      sound = c.remove.ensures.sound sound;
    }

pub returns-in-Find : goal.returns-in-Find
returns-in-Find g c s same sound =
    let o = in_words g.K.Key.kind in
    let m = g.M.Memory.meaning c.args.logbook.now.memory in
    let q = find (g.K.Key.kind.form c.in-Find.key) in
    record {
      event = Some (asked q (reply o s.state q));
      rightly = refl;
      happened = rw c.in-Find.is (refl, c.found.ensures ∙ ap heard_found (c.find.ensures.answer sound) ∙ find_told o m c.args.logbook.now.state c.args.logbook.now.taken s same (g.K.Key.kind.form c.in-Find.key));
      same = record { memory = same.memory ∙ sym c.find.ensures.same; logbook = rw (c.find.ensures.state, c.find.ensures.taken) same.logbook };
      sound = rw (c.find.ensures.same, c.find.ensures.state) sound;
    }

pub returns-in-Next : goal.returns-in-Next
returns-in-Next g c s same sound =
    let o = in_words g.K.Key.kind in
    let m = g.M.Memory.meaning c.args.logbook.now.memory in
    let q = next_after (g.K.Key.kind.form c.in-Next.key) in
    record {
      event = Some (asked q (reply o s.state q));
      rightly = refl;
      happened = rw c.in-Next.is (refl, c.next-in-Next.ensures ∙ ap heard_next (c.next.ensures.answer sound) ∙ next_told o m c.args.logbook.now.state c.args.logbook.now.taken s same (g.K.Key.kind.form c.in-Next.key));
      same = record { memory = same.memory ∙ sym c.next.ensures.same; logbook = rw (c.next.ensures.state, c.next.ensures.taken) same.logbook };
      sound = rw (c.next.ensures.same, c.next.ensures.state) sound;
    }

pub returns-in-Pairs : goal.returns-in-Pairs
returns-in-Pairs g c s same sound =
    let o = in_words g.K.Key.kind in
    let m = g.M.Memory.meaning c.args.logbook.now.memory in
    let q = how_many in
    record {
      event = Some (asked q (reply o s.state q));
      rightly = refl;
      happened = rw c.in-Pairs.is (refl, c.number.ensures ∙ ap heard_number (c.pairs.ensures.answer sound) ∙ pairs_told o m c.args.logbook.now.state c.args.logbook.now.taken s same);
      same = record { memory = same.memory ∙ sym c.pairs.ensures.same; logbook = rw (c.pairs.ensures.state, c.pairs.ensures.taken) same.logbook };
      sound = rw (c.pairs.ensures.same, c.pairs.ensures.state) sound;
    }

pub returns-in-Node : goal.returns-in-Node
returns-in-Node g c s same sound = record {
  event = None;
  rightly = tt;
  happened = rw c.in-Node.is (node_told_in c.args.logbook.now.state c.args.logbook.now.taken s.state.logbook s.groups c.in-Node.number c.node.result same.logbook c.node.ensures);
  same = same;
  sound = sound;
}

pub returns-in-Cut : goal.returns-in-Cut
returns-in-Cut g c s same sound =
    let m = g.M.Memory.meaning c.args.logbook.now.memory in
    let told = cut_told g.K.Key.kind c.args.choices.now c.in-Cut.from c.in-Cut.steps s m c.args.logbook.now.state c.args.logbook.now.taken same c.cut.result _ _ _
    (rw c.choices_from.ensures at c.cut.ensures.answer) (rw c.choices_from.ensures at c.cut.ensures.memory) (rw c.choices_from.ensures at c.cut.ensures.state) (rw c.choices_from.ensures at c.cut.ensures.taken) c.cut.ensures.free in
    record {
      event = told.event;
      rightly = told.rightly;
      happened = rw (c.in-Cut.is, c.opened.ensures) told.happened;
      same = told.same;
      sound = either_way c.cut.result c.cut.ensures.sound sound;
    }
