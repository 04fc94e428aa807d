use Rattle.histories.proofs.ListLaws.{every_list_holds}
use Rattle.histories.proofs.histories_stand.Goals as goal

pub returns : goal.returns
returns c = every_list_holds
