use Rattle.std.proofs.Common.{◌+◌, ◌<◌, ◌++◌, [], ◌∷◌, length, take, length-set, sym, ap, ◌∙◌, arith}
use Rattle.std.proofs.lemmas.Grind.{drop_more_same}
use Rattle.std.proofs.lemmas.List.{drop-set-lt, take_more, take_more_set}
use Rattle.session.specs.Sessions.{onward_all}
use Rattle.session.proofs.PlayLaws.{all_more}
use Rattle.session.proofs.play.play_on.Goals as goal

pub loop-i-preserved : goal.loop-i-preserved
loop-i-preserved g c =
    let l = c.loop-i in
    let i = l.i in
    let a = c.index-acts-i.result in
    let here : i < length l.told = omega (arith, c.loop-i-test.true, c.min-i-end.ensures, l.invariant.0) in
    let there : i < length c.args.acts.now = omega (arith, c.loop-i-test.true, c.min-i-end.ensures) in
    let more = take_more c.args.acts.now i a there ∙ ap (λ b. take i c.args.acts.now ++ (b ∷ [])) (sym c.index-acts-i.is) in (
      length-set l.told i c.carry.result ∙ l.invariant.0,
      drop-set-lt (i + 1) l.told i c.carry.result (omega arith) ∙ drop_more_same l.told c.args.told.now i l.invariant.1,
      λ s same sound.
          let all = l.invariant.2 s same sound in
          let one = c.carry.ensures (onward_all g.K.Key.kind s all.happened) all.same all.sound in
          rw (more, take_more_set l.told i c.carry.result here) (all_more g.K.Key.kind c.args.choices.now s _ _ _ _ _ _ _ _ _ _ all one),
    )
