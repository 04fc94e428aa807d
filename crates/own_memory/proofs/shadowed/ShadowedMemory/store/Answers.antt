use Rattle.std.proofs.Common.{sym, ◌∙◌, arith}
use Rattle.own_memory.proofs.Copied.{store_after, store_granted}
use Rattle.own_memory.proofs.shadowed.ShadowedMemory.store.Goals as goal

pub returns-clause-after : goal.returns-clause-after
returns-clause-after g c =
    let words = c.args.self.now.words in
    let level = sym c.live.ensures ∙ c.if-live-firm.false ∙ c.firm.ensures in
    store_after words c.args.self.now.steps c.args.at c.args.word c.stored.result _ c.stored.ensures.live c.stored.ensures.firm
    (store_granted words c.args.self.now.steps c.args.at _ (omega arith) c.if-self-eq0.false level)
