use Rattle.std.proofs.Common.{◌≡◌, ℕ, ◌+◌, length, Some, Ok, Result, refl, sym, ap, ◌∙◌, arith}
use Rattle.keys.specs.InWords.{in_words}
use Rattle.keys.proofs.WordLaws.{in_words_ordered}
use Rattle.memory.specs.Meaning.{Words}
use Rattle.refusal.specs.declared.Refusal.{Refusal}
use Rattle.leaves.specs.Asking.{counted}
use Rattle.leaves.specs.Pairs.{pairs}
use Rattle.books.specs.Questions.{pairs_in_all}
use Rattle.tree.specs.Sound.{Sound}
use Rattle.tree.specs.Telling.{pairs_answer}
use Rattle.tree.specs.Walk.{onwards}
use Rattle.tree.proofs.WalkLaws.{Turn, few_in, few_onwards, pairs_from, pairs_more, stands_first, turn, turn_smaller, turn_stands, unsaid}
use Rattle.tree.proofs.logbook.Logbook.pairs.Given.{Over}
use Rattle.tree.proofs.logbook.Logbook.pairs.Goals.{After-pairs_in}
use Rattle.tree.proofs.logbook.Logbook.pairs.Goals as goal

here : (g : Over) (c : After-pairs_in g) → Turn c.args.self.now.state c.loop-place.place c.in-Some.at c.in_ok-leaf.leaf c.in_ok-leaf.after
here g c = turn _ _ _ _ _ _ c.loop-place.invariant.1 c.loop-place.invariant.3 c.in-Some.is c.in_ok-leaf.ensures

-- What the leaf of this turn tells, by the words at the entry.
told : (g : Over) (c : After-pairs_in g) (r : Result ℕ Refusal) → r ≡ c.pairs_in.result
    → r ≡ counted (g.M.Memory.meaning c.args.self.now.memory).live c.in_ok-leaf.leaf (λ n. length (pairs (in_words g.K.Key.kind) (g.M.Memory.meaning c.args.self.now.memory).live c.in_ok-leaf.leaf n))
told g c r is =
    let o = in_words g.K.Key.kind in
    is ∙ c.pairs_in.ensures.value ∙ ap (λ (ws : Words). counted ws.live c.in_ok-leaf.leaf (λ n. length (pairs o ws.live c.in_ok-leaf.leaf n))) c.loop-place.invariant.0

left : (g : Over) (c : After-pairs_in g) → Sound (in_words g.K.Key.kind) (g.M.Memory.meaning c.args.self.now.memory).live c.args.self.now.state
    → Ok (c.loop-place.all + pairs_in_all (in_words g.K.Key.kind) (g.M.Memory.meaning c.args.self.now.memory).live (onwards c.args.self.now.state (Some c.in-Some.at)))
    ≡ pairs_answer (in_words g.K.Key.kind) (g.M.Memory.meaning c.args.self.now.memory).live c.args.self.now.state
left g c h =
    ap (λ p. Ok (c.loop-place.all + pairs_in_all (in_words g.K.Key.kind) (g.M.Memory.meaning c.args.self.now.memory).live (onwards c.args.self.now.state p))) (sym c.in-Some.is)
    ∙ c.loop-place.invariant.5 h

pub loop-place-init : goal.loop-place-init
loop-place-init g c =
    let o = in_words g.K.Key.kind in
    let laws = in_words_ordered g.K.Key.kind g.met.K.Key.ordered g.met.K.Key.formed in
    let at = c.in_ok-first.ensures in
    let s = c.args.self.now.state in
    let few = few_onwards s (Some c.in_ok-first.field-0) in
    (refl, refl, refl, stands_first s _ at, omega arith, λ h. pairs_from o laws _ s _ at h)

pub returns-in_err-pairs_in-clause-answer : goal.returns-in_err-pairs_in-clause-answer
returns-in_err-pairs_in-clause-answer g c h =
    let a = (goal.at.returns-in_err-pairs_in-clause-answer g c).After-pairs_in in
    let t = here g a in
    unsaid (in_words g.K.Key.kind) _ _ _ _ _ t.stands t.step _ _ h (told g a _ (sym c.in_err-pairs_in.was))

pub loop-place-smaller : goal.loop-place-smaller
loop-place-smaller g c = let t = here g (goal.at.loop-place-smaller g c).After-pairs_in in turn_smaller _ _ _ _ _ t

pub loop-place-preserved : goal.loop-place-preserved
loop-place-preserved g c =
    let a = (goal.at.loop-place-preserved g c).After-pairs_in in
    let t = here g a in
    let o = in_words g.K.Key.kind in
    let l = c.loop-place in
    let got = told g a _ (sym c.in_ok-pairs_in.was) in
    let few = few_in o (g.M.Memory.meaning c.args.self.now.memory).live c.in_ok-leaf.leaf c.in_ok-pairs_in.field-0 _ refl got in
    let less = turn_smaller _ _ _ _ _ t in
    let sum : c.saturating_add-all.result ≡ l.all + c.in_ok-pairs_in.field-0 = omega (arith, l.invariant.4) in (
      c.pairs_in.ensures.same ∙ l.invariant.0,
      l.invariant.1,
      l.invariant.2,
      turn_stands _ _ _ _ _ t,
      omega (arith, sum, few, less, l.invariant.4),
      λ h. rw sum (pairs_more o _ _ _ _ _ t.stands t.step _ _ _ h (left g a h) got),
    )
