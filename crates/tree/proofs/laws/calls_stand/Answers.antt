use Rattle.tree.proofs.EndingLaws.{call_done_holds, few_steps_hold, one_free_holds, refuses_hold, remove_goes_holds, room_told_holds, stays_settled_holds, stays_sound_holds}
use Rattle.tree.proofs.laws.calls_stand.Goals as goal

pub returns : goal.returns
returns c = record {
  sound = stays_sound_holds;
  done = call_done_holds;
  refuses = refuses_hold;
  room = room_told_holds;
  settled = stays_settled_holds;
  few = few_steps_hold;
  remove = remove_goes_holds;
  free = one_free_holds;
}
