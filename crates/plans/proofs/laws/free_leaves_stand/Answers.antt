use Rattle.plans.proofs.FreeLaws.{takes_free_holds, always_free_holds, all_candidates_hold}
use Rattle.plans.proofs.laws.free_leaves_stand.Goals as goal

pub returns : goal.returns
returns c = record { takes = takes_free_holds; always = always_free_holds; all = all_candidates_hold }
