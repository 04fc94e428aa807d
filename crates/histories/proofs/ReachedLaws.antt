-- A history goes on from the state that it has reached, and what it has reached stands for the account that was fed it.
use Rattle.std.proofs.Common.{◌≡◌, List, [], ◌∷◌, ◌++◌, refl, ap}
use Rattle.keys.specs.InWords.{WordKind}
use Rattle.plans.specs.Told.{Choice}
use Rattle.histories.specs.Outcome.{State}
use Rattle.histories.specs.Histories.{Event, after, History, reached, Act, event, played}
use Rattle.histories.specs.Law.{Account, StandsFor, fed, fed_all, HistoryLaw}

module _ (choose : Choice) (o : WordKind) where
  pub reached_stands : (s : State) (now : Account) (es : List Event) → HistoryLaw choose o s now es → StandsFor o (reached choose o s es) (fed_all choose o s es now)
  reached_stands s now [] law = law
  reached_stands s now (e ∷ es) law = reached_stands (after choose o s e) (fed choose o s e now) es law.2

  pub reached_on : (s : State) (es fs : List Event) → reached choose o s (es ++ fs) ≡ reached choose o (reached choose o s es) fs
  reached_on s [] fs = refl
  reached_on s (e ∷ es) fs = reached_on (after choose o s e) es fs

  pub history_on : (s : State) (es fs : List Event) → History choose o s es → History choose o (reached choose o s es) fs → History choose o s (es ++ fs)
  history_on s [] fs h more = more
  history_on s (e ∷ es) fs h more = (h.0, history_on (after choose o s e) es fs h.1 more)

  pub played_on : (s : State) (acts more : List Act) → played choose o s (acts ++ more) ≡ played choose o s acts ++ played choose o (reached choose o s (played choose o s acts)) more
  played_on s [] more = refl
  played_on s (a ∷ acts) more = ap (λ es. event choose o s a ∷ es) (played_on (after choose o s (event choose o s a)) acts more)
