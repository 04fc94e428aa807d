use Rattle.std.proofs.Common.{arith}
use Rattle.std.proofs.lemmas.List.{length-replicate}
use Rattle.session.specs.declared.act.Told.TheVariants.{Nothing}
use Rattle.own_memory.specs.Shadowed.{shadowed_words}
use Rattle.integrator.proofs.Handed.{lawfully, not_formatted}
use Rattle.integrator.proofs.play.play_gps.Goals as goal

pub returns-in-Ok : goal.returns-in-Ok
returns-in-Ok g c =
    let memory = c.new-memory.result in
    let made = c.play-formatted.ensures in
    let places = length-replicate g.row.A Nothing in
    lawfully c.args.steps c.args.leaves (shadowed_words memory.words memory.steps) _ c.new-memory.ensures made.format
    c.args.choices.now c.args.acts.now c.play-formatted.new.told _ _ c.in-Ok.is made.session (omega (arith, places)) (omega (arith, places, made.rest.0))

pub returns-in-Err : goal.returns-in-Err
returns-in-Err g c =
    let memory = c.new-memory.result in
    not_formatted c.args.steps c.args.leaves (shadowed_words memory.words memory.steps) _ c.new-memory.ensures c.play-formatted.ensures.format c.in-Err.refusal c.in-Err.is
