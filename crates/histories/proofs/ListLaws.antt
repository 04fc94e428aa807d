-- From a granted format on; every list has a history; the example, by computation.
use Rattle.std.proofs.Common.{[], ◌∷◌, None, refl, subst, arith}
use Rattle.writes.specs.Writes.{perform, run}
use Rattle.books.proofs.FormatLaws.{formats_hold}
use Rattle.plans.specs.Told.{by_rule}
use Rattle.plans.proofs.DecisionLaws.{decision_lawful}
use Rattle.histories.specs.Histories.{call, ask, cut_power, event, after, played, EveryList}
use Rattle.histories.specs.Law.{HistoryLaw, LawOfCuts, LawByRule, LawOfLists, account_of, after_format}
use Rattle.histories.specs.Example.{Example}
use Rattle.histories.proofs.HistoryLaws.{lawful_from_holds}

pub law_of_cuts_holds : LawOfCuts
law_of_cuts_holds choose lawful o ordered m leaves f es h =
    let made = formats_hold o ordered m leaves f.roomy f.granted in
    subst (λ ps. HistoryLaw choose o (after_format o m leaves) (account_of ps) es) made.empty.none
    (lawful_from_holds choose lawful o ordered (after_format o m leaves).memory (record { leaves = 1 ∷ []; bounds = []; last = None }) (made.settled f.settled) (record { opens = made.empty.opens; bounded = tt }) es h)

pub law_by_rule_holds : LawByRule
law_by_rule_holds = law_of_cuts_holds by_rule decision_lawful

pub every_list_holds : EveryList
every_list_holds choose o s [] keyed = tt
every_list_holds choose o s (call d ∷ acts) keyed = ((keyed.0, refl, refl), every_list_holds choose o (after choose o s (event choose o s (call d))) acts keyed.1)
every_list_holds choose o s (ask q ∷ acts) keyed = (refl, every_list_holds choose o s acts keyed)
every_list_holds choose o s (cut_power keeps power ∷ acts) keyed = ((keeps, refl), every_list_holds choose o (after choose o s (event choose o s (cut_power keeps power))) acts keyed)

pub law_of_lists_holds : LawOfLists
law_of_lists_holds choose lawful o ordered m leaves f acts keyed =
    law_of_cuts_holds choose lawful o ordered m leaves f (played choose o (after_format o m leaves) acts) (every_list_holds choose o (after_format o m leaves) acts keyed)

pub example_holds : Example
unfolding perform run
example_holds = record {
  granted = record { settled = refl; roomy = record { least = omega arith; most = omega arith; fits = omega arith }; granted = refl };
  left_over = refl;
  told = refl;
  kept = refl;
  lost = refl;
  told_fewer = refl;
  fewer_kept = refl;
  fewer_lost = refl;
  told_enough = refl;
  enough = refl;
}
