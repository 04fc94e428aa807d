use Rattle.std.proofs.Common.{◌+◌, ◌<◌, ◌≤◌, length, refl, sym, ap, ◌∙◌, arith}
use Rattle.std.proofs.lemmas.Bool.Decides.{nat_tests}
use Rattle.std.proofs.lemmas.List.{nil_from_length}
use Rattle.keys.specs.InWords.{in_words}
use Rattle.keys.proofs.WordLaws.{in_words_ordered}
use Rattle.plans.specs.Deeds.{done, key_of}
use Rattle.plans.specs.Plan.{pairs_of}
use Rattle.tree.specs.Halting.{ended, state_after}
use Rattle.tree.specs.Turning.{ending}
use Rattle.tree.specs.Shape.{shape_of}
use Rattle.appends.specs.Append.{append_lines}
use Rattle.writes.specs.Writes.{perform}
use Rattle.tree.proofs.CarryLaws.{appended, nothing_done, rewritten_is}
use Rattle.tree.proofs.TurnLaws.{leaf_within}
use Rattle.tree.proofs.AnywhereLaws.{append_answered, declines, stays}
use Rattle.tree.specs.declared.logbook.State.TheVariants.{Open}
use Rattle.tree.proofs.logbook.Logbook.carry.Goals as goal

pub returns-then-is_empty : goal.returns-then-is_empty
returns-then-is_empty g c =
    let o = in_words g.K.Key.kind in
    let laws = in_words_ordered g.K.Key.kind g.met.K.Key.ordered g.met.K.Key.formed in
    let m = g.M.Memory.meaning c.args.self.now.memory in
    let none = nil_from_length c.args.list.now (grind (arith, nat_tests)) in
    record { done = λ x open_is work read is. nothing_done o laws m x c.args.self.now.taken c.args.deed c.args.home work c.args.list.now is c.args.self.now.state none open_is; any = λ x open_is within. rw open_is (stays m x c.args.self.now.taken) }

pub returns-then-saturating_add-le16 : goal.returns-then-saturating_add-le16
returns-then-saturating_add-le16 g c =
    let o = in_words g.K.Key.kind in
    let laws = in_words_ordered g.K.Key.kind g.met.K.Key.ordered g.met.K.Key.formed in
    let m = g.M.Memory.meaning c.args.self.now.memory in
    let taken = c.args.self.now.taken in
    record {
      done = λ x open_is work read is.
          let within = leaf_within o laws m.live x (key_of c.args.deed) c.args.home work in
          let some : 0 < length c.args.list.now = grind (arith, nat_tests) in
          let ran = c.append.ensures.done within.0 within.1 (grind (arith, nat_tests)) in
          ap (ending c.append.result (g.M.Memory.meaning c.append.new.self.memory) (shape_of c.append.new.self.state)) c.append.ensures.taken
          ∙ appended o laws m x taken c.args.deed c.args.home work c.args.list.now is some c.args.count read (grind (arith, nat_tests)) c.append.result (g.M.Memory.meaning c.append.new.self.memory) c.append.new.self.state
          (ran ∙ ap (λ w. perform m (append_lines c.args.home.leaf c.args.count w c.args.list.now)) c.key.ensures) (c.append.ensures.state ∙ ap (λ s. state_after s (ended c.append.result)) open_is);
      any = λ x open_is within.
          let room : c.args.count + length c.args.list.now ≤ 16 = grind (arith, nat_tests) in
          let ran = c.append.ensures.done within.0 within.1 room in
          rw (open_is, c.append.ensures.taken)
          (append_answered m x taken c.args.home.leaf c.args.count _ c.args.list.now c.append.result (g.M.Memory.meaning c.append.new.self.memory) c.append.new.self.state within room c.append.ensures.few ran
          (c.append.ensures.state ∙ ap (λ s. state_after s (ended c.append.result)) open_is));
    }

pub returns : goal.returns
returns g c =
    let o = in_words g.K.Key.kind in
    let laws = in_words_ordered g.K.Key.kind g.met.K.Key.ordered g.met.K.Key.formed in
    let m = g.M.Memory.meaning c.args.self.now.memory in
    record {
      done = λ x open_is work read is.
          let some : 0 < length c.args.list.now = grind (arith, nat_tests) in
          c.carry_anew.ensures.done x open_is work
          ∙ rewritten_is o laws m x c.args.self.now.taken c.args.deed c.args.home work c.args.list.now is some (grind (arith, nat_tests)) (done o c.args.deed (pairs_of o m.live c.args.home.leaf)) refl;
      any = λ x open_is within. c.carry_anew.ensures.any x open_is;
    }
