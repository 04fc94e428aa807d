use Rattle.books.proofs.QuestionLaws.{ascends_hold, counts_hold, finds_hold, newest_decides_holds, nexts_hold}
use Rattle.books.proofs.questions_stand.Goals as goal

pub returns : goal.returns
returns c = record { finds = finds_hold; nexts = nexts_hold; counts = counts_hold; ascends = ascends_hold; newest = newest_decides_holds }
