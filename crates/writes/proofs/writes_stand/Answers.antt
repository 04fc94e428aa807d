use Rattle.writes.proofs.Cuts.{whole_holds, short_holds, power_alone_holds, commit_holds, kept_holds}
use Rattle.writes.proofs.Steps.{more_holds, first_steps_hold}
use Rattle.writes.proofs.Onward.{in_turn_holds}
use Rattle.writes.proofs.writes_stand.Goals as goal

pub returns : goal.returns
returns c = record {
  whole = whole_holds;
  short = short_holds;
  power_alone = power_alone_holds;
  commit = commit_holds;
  kept = kept_holds;
  more = more_holds;
  first_steps = first_steps_hold;
  in_turn = in_turn_holds;
}
