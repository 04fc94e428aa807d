use Rattle.histories.proofs.HistoryLaws.{lawful_from_holds}
use Rattle.histories.proofs.ListLaws.{law_of_cuts_holds, law_by_rule_holds, law_of_lists_holds}
use Rattle.histories.proofs.law_of_cuts.Goals as goal

pub returns : goal.returns
returns c = record { from = lawful_from_holds; law = law_of_cuts_holds; rule = law_by_rule_holds; lists = law_of_lists_holds }
