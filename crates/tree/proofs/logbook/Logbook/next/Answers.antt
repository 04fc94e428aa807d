use Rattle.std.proofs.Common.{◌≡◌, Some, Ok, Option, Result, refl, sym, ap, ◌∙◌}
use Rattle.keys.specs.InWords.{in_words}
use Rattle.keys.proofs.WordLaws.{in_words_ordered}
use Rattle.memory.specs.Meaning.{Words}
use Rattle.refusal.specs.declared.Refusal.{Refusal}
use Rattle.leaves.specs.declared.leaf.Pair.{Pair}
use Rattle.leaves.specs.Asking.{counted}
use Rattle.leaves.specs.Pairs.{first_after, pairs}
use Rattle.books.specs.Questions.{first_of}
use Rattle.tree.specs.Sound.{Sound}
use Rattle.tree.specs.Telling.{next_answer, paired_or}
use Rattle.tree.specs.Walk.{onwards}
use Rattle.tree.proofs.WalkLaws.{Turn, next_found, next_from, next_past, stands_located, turn, turn_smaller, turn_stands, unsaid}
use Rattle.tree.proofs.logbook.Logbook.next.Given.{Over}
use Rattle.tree.proofs.logbook.Logbook.next.Goals.{After-next_in}
use Rattle.tree.proofs.logbook.Logbook.next.Goals as goal

here : (g : Over) (c : After-next_in g) → Turn c.args.self.now.state c.loop-place.place c.in-Some.at c.in_ok-leaf.leaf c.in_ok-leaf.after
here g c = turn _ _ _ _ _ _ c.loop-place.invariant.1 c.loop-place.invariant.3 c.in-Some.is c.in_ok-leaf.ensures

pub loop-place-init : goal.loop-place-init
loop-place-init g c =
    let o = in_words g.K.Key.kind in
    let laws = in_words_ordered g.K.Key.kind g.met.K.Key.ordered g.met.K.Key.formed in
    let at = rw (sym c.pack-words.ensures) at c.in_ok-place_for.ensures in
    let s = c.args.self.now.state in
    (refl, refl, refl, stands_located o s _ _ at, λ h. next_from o laws _ s _ _ at h)

-- What the leaf of this turn tells, by the words at the entry.
told : (g : Over) (c : After-next_in g) (r : Result (Option Pair) Refusal) → r ≡ c.next_in.result → r ≡ counted (g.M.Memory.meaning c.args.self.now.memory).live c.in_ok-leaf.leaf (λ n. first_after (in_words g.K.Key.kind) c.pack-words.result (pairs (in_words g.K.Key.kind) (g.M.Memory.meaning c.args.self.now.memory).live c.in_ok-leaf.leaf n))
told g c r is =
    let o = in_words g.K.Key.kind in
    is ∙ c.next_in.ensures.value ∙ ap (λ (ws : Words). counted ws.live c.in_ok-leaf.leaf (λ n. first_after o c.pack-words.result (pairs o ws.live c.in_ok-leaf.leaf n))) c.loop-place.invariant.0

left : (g : Over) (c : After-next_in g) → Sound (in_words g.K.Key.kind) (g.M.Memory.meaning c.args.self.now.memory).live c.args.self.now.state
    → paired_or (first_of (in_words g.K.Key.kind) (g.M.Memory.meaning c.args.self.now.memory).live c.pack-words.result (onwards c.args.self.now.state (Some c.in-Some.at)))
    ≡ next_answer (in_words g.K.Key.kind) (g.M.Memory.meaning c.args.self.now.memory).live c.args.self.now.state c.pack-words.result
left g c h =
    ap (λ p. paired_or (first_of (in_words g.K.Key.kind) (g.M.Memory.meaning c.args.self.now.memory).live c.pack-words.result (onwards c.args.self.now.state p))) (sym c.in-Some.is)
    ∙ c.loop-place.invariant.4 h

pub returns-in_err-pair-clause-answer : goal.returns-in_err-pair-clause-answer
returns-in_err-pair-clause-answer g c h =
    let a = (goal.at.returns-in_err-pair-clause-answer g c).After-next_in in
    let t = here g a in
    let o = in_words g.K.Key.kind in
    unsaid o _ _ _ _ _ t.stands t.step _ _ h (told g a _ (sym c.in_err-pair.was))

pub returns-in-Some-2-clause-answer : goal.returns-in-Some-2-clause-answer
returns-in-Some-2-clause-answer g c h =
    let a = (goal.at.returns-in-Some-2-clause-answer g c).After-next_in in
    let t = here g a in
    let o = in_words g.K.Key.kind in
    next_found o _ _ _ _ _ t.stands t.step _ _ _ h (left g a h) (told g a _ (ap Ok (sym c.in-Some-2.is) ∙ sym c.in_ok-pair.was))
    ∙ ap (next_answer o (g.M.Memory.meaning c.args.self.now.memory).live c.args.self.now.state) c.pack-words.ensures

pub loop-place-smaller : goal.loop-place-smaller
loop-place-smaller g c = let t = here g (goal.at.loop-place-smaller g c).After-next_in in turn_smaller _ _ _ _ _ t

pub loop-place-preserved : goal.loop-place-preserved
loop-place-preserved g c =
    let a = (goal.at.loop-place-preserved g c).After-next_in in
    let t = here g a in
    let o = in_words g.K.Key.kind in
    let l = c.loop-place in (
      c.next_in.ensures.same ∙ l.invariant.0,
      l.invariant.1,
      l.invariant.2,
      turn_stands _ _ _ _ _ t,
      λ h. next_past o _ _ _ _ _ t.stands t.step _ _ h (left g a h) (told g a _ (ap Ok (sym c.in_default-2.is) ∙ sym c.in_ok-pair.was)),
    )
