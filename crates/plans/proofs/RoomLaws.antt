-- The steps that suffice for a call are never more than 87.
use Rattle.std.proofs.Common.{ℕ, ◌+◌, ◌*◌, ◌≤◌, List, arith}
use Rattle.std.proofs.lemmas.Bool.{cond_both}
use Rattle.keys.specs.InWords.{WordKind}
use Rattle.plans.specs.declared.deed.Call.{Call}
use Rattle.plans.specs.declared.deed.Call.TheVariants.{Put, Change, Remove}
use Rattle.plans.specs.declared.deed.Deed.{Deed}
use Rattle.plans.specs.Deeds.{call_of, elements_of}
use Rattle.plans.specs.Plan.{Tree}
use Rattle.plans.specs.Room.{fits, steps_enough}

append_few : (c : Call) → 5 * elements_of c + 2 ≤ 87
append_few Put = omega arith
append_few Change = omega arith
append_few Remove = omega arith

pub enough_few : (o : WordKind) (m : List ℕ) (t : Tree) (d : Deed) → steps_enough o m t d ≤ 87
enough_few o m t d = cond_both (fits o m t d) (5 * elements_of (call_of d) + 2) 87 (λ n. n ≤ 87) (λ _. append_few (call_of d)) (λ _. omega arith)
