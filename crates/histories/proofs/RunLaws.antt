-- How line writes end on a settled memory, and the steps that they take.
use Rattle.std.proofs.Common.{◌≡◌, ◌<◌, ◌≤◌, ◌⊎◌, List, Ok, Err, sym, refl, ap, ◌∙◌, inl, inr, ⊎_elim, arith}
use Rattle.refusal.specs.declared.Refusal.TheVariants.{NoPower}
use Rattle.memory.specs.Meaning.{Words, left, size_of, Settled}
use Rattle.writes.specs.Laws.{Enough}
use Rattle.writes.specs.Writes.{LineWrite, Run, perform, cost, finished, fall, Proper}
use Rattle.writes.proofs.Cuts.{whole_holds, short_holds}
use Rattle.turns.proofs.TurnLaws.{enough_or_short}

-- Granted whole.
pub record Granted (m : Words) (ws : List LineWrite) (r : Run) : Type 0 where
  pub ended : r.ended ≡ Ok tt
  pub settled : Settled r.after
  pub words : r.after.live ≡ finished m.live ws
  pub there : Enough m.power r.steps
  pub spent : r.after.power ≡ fall m.power r.steps
  pub few : r.steps ≤ cost ws

-- Refused for power, all of which was used.
pub record Refused (m : Words) (ws : List LineWrite) (r : Run) : Type 0 where
  pub ended : r.ended ≡ Err NoPower
  pub all : m.power ≡ left r.steps
  pub spent : r.after.power ≡ fall m.power r.steps
  pub few : r.steps < cost ws

pub ends : (m : Words) (ws : List LineWrite) → Settled m → Proper (size_of m) ws → Granted m ws (perform m ws) ⊎ Refused m ws (perform m ws)
ends m ws settled proper =
    ⊎_elim
    (λ enough. inl (rw (whole_holds m ws settled proper enough) (record { ended = refl; settled = refl; words = refl; there = enough; spent = refl; few = omega arith })))
    (λ (n, is, short).
    let b = short_holds m ws n settled proper is short in
    let all : m.power ≡ left (perform m ws).steps = is ∙ ap left (sym b.steps) in
    inr (record {
      ended = b.ended;
      all = all;
      spent = b.power ∙ (ap left (omega arith) ∙ sym (ap (λ p. fall p (perform m ws).steps) all));
      few = omega (arith, b.steps, short);
    }))
    (enough_or_short m.power (cost ws))
