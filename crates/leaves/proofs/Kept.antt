-- What stays of a memory that stays.
use Rattle.std.proofs.Common.{◌≡◌, ap}
use Rattle.memory.specs.Meaning.{Words}

pub live_same : {m n : Words} → m ≡ n → m.live ≡ n.live
live_same e = ap (λ (w : Words). w.live) e
