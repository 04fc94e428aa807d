-- One act more of a list.
use Rattle.std.proofs.Common.{◌≡◌, ℕ, List, [], ◌∷◌, ◌++◌, Ok, Err, Some, None, Option, sym, refl, ap, ◌∙◌, subst, arith}
use Rattle.keys.specs.Kind.{Kind}
use Rattle.std.proofs.lemmas.Bool.Decides.{nat_tests}
use Rattle.keys.specs.InWords.{WordKind, WordOrdered, in_words}
use Rattle.memory.specs.Meaning.{Settled, Words}
use Rattle.plans.specs.Told.{by_rule}
use Rattle.writes.specs.Writes.{Answer, Run}
use Rattle.books.specs.Format.{Roomy, formatted}
use Rattle.histories.specs.Law.{FormatGranted}
use Rattle.histories.proofs.ListLaws.{law_by_rule_holds}
use Rattle.histories.specs.Histories.{Event, History}
use Rattle.index.specs.Nodes.{entry}
use Rattle.tree.specs.declared.logbook.State.{State as Book}
use Rattle.tree.specs.declared.logbook.State.TheVariants.{Blank}
use Rattle.tree.specs.Formatting.{begun, ended_shape, format_run, format_shape, room_for, shape_after, taken_after}
use Rattle.tree.specs.Shape as shape
use Rattle.tree.specs.Shape.{shape_of}
use Rattle.session.proofs.CarryLaws.{like_tree}
use Rattle.session.specs.Grouping.{Indexed, formatted_index}
use Rattle.session.specs.declared.act.Act.{Act}
use Rattle.session.specs.declared.act.Told.{Told}
use Rattle.session.specs.Playing.{Happened, Played, events, onward}
use Rattle.session.specs.Sessions.{Carried, CarriedAll, Rightly, Same, Session, onward_all}

module _ {K : Type 0} (k : Kind K) (choices : List ℕ) where
  played_more : (s : Indexed) (acts : List (Act K)) (es : List (Option Event)) (ts : List Told) (a : Act K) (e : Option Event) (t : Told)
      → Played k choices s acts es ts → Happened k choices (onward_all k s es) a e t → Played k choices s (acts ++ (a ∷ [])) (es ++ (e ∷ [])) (ts ++ (t ∷ []))
  played_more s [] [] [] a e t h g = (g, tt)
  played_more s (b ∷ acts) (f ∷ es) (u ∷ ts) a e t h g = (h.0, played_more (onward k s f) acts es ts a e t h.1 g)
  played_more s [] (f ∷ es) ts a e t h g = absurd h
  played_more s [] [] (u ∷ ts) a e t h g = absurd h
  played_more s (b ∷ acts) [] ts a e t h g = absurd h
  played_more s (b ∷ acts) (f ∷ es) [] a e t h g = absurd h

  history_more : (s : Indexed) (es : List (Option Event)) (e : Option Event) → History by_rule (in_words k) s.state (events es) → Rightly k (onward_all k s es) e → History by_rule (in_words k) s.state (events (es ++ (e ∷ [])))
  history_more s [] None h r = tt
  history_more s [] (Some e) h r = (r, tt)
  history_more s (None ∷ es) e h r = history_more s es e h r
  history_more s (Some f ∷ es) e h r = (h.0, history_more (onward k s (Some f)) es e h.1 r)

  onward_more : (s : Indexed) (es : List (Option Event)) (e : Option Event) → onward_all k s (es ++ (e ∷ [])) ≡ onward k (onward_all k s es) e
  onward_more s [] e = refl
  onward_more s (f ∷ es) e = onward_more (onward k s f) es e

  pub all_more : (s : Indexed) (acts : List (Act K)) (ts : List Told) (m : Words) (b : Book) (tk : Option ℕ) (a : Act K) (t : Told) (m' : Words) (b' : Book) (tk' : Option ℕ)
      → (all : CarriedAll k choices s acts ts m b tk) → Carried k choices (onward_all k s all.happened) a t m' b' tk' → CarriedAll k choices s (acts ++ (a ∷ [])) (ts ++ (t ∷ [])) m' b' tk'
  all_more s acts ts m b tk a t m' b' tk' all one = record {
    happened = all.happened ++ (one.event ∷ []);
    history = history_more s all.happened one.event all.history one.rightly;
    played = played_more s acts all.happened ts a one.event t all.played one.happened;
    same = subst (Same m' b' tk') (sym (onward_more s all.happened one.event)) one.same;
    sound = one.sound;
  }

-- After a granted format the logbook is as the history begins.
room_is : (m : Words) (n : ℕ) → Roomy m n → room_for m n ≡ Ok tt
room_is m n r = grind (arith, nat_tests)

-- A format that is granted had room, and wrote its words.
record Formatted (o : WordKind) (m : Words) (n : ℕ) : Type 0 where
  pub roomy : Roomy m n
  pub granted : (formatted o m n).ended ≡ Ok tt

roomy_so : (m : Words) (n : ℕ) → room_for m n ≡ Ok tt → Roomy m n
roomy_so m n e = record { least = grind (arith, nat_tests); most = grind (arith, nat_tests); fits = grind (arith, nat_tests) }

formatted_so : (o : WordKind) (m : Words) (n : ℕ) → (format_run o Blank m n).ended ≡ Ok tt → Formatted o m n
formatted_so o m n ended = by (room_for m n) refl ended where
  by : (a : Answer) → room_for m n ≡ a → (begun o m n a).ended ≡ Ok tt → Formatted o m n
  by (Ok tt) e h = record { roomy = roomy_so m n e; granted = h }
  by (Err x) e h = let z : ◌≡◌ {A = ℕ} 0 1 = cc in absurd (omega arith)

pub begins : (o : WordKind) (m : Words) (n : ℕ) (m' : Words) (b : Book) (tk : Option ℕ) (r : Answer) → r ≡ Ok tt
    → r ≡ (format_run o Blank m n).ended → m' ≡ (format_run o Blank m n).after → shape_of b ≡ format_shape o Blank m n → tk ≡ taken_after None r
    → Same m' b tk (formatted_index o m n)
begins o m n m' b tk r ok ended memory state last =
    let granted = formatted_so o m n (sym ended ∙ ok) in
    let room = room_is m n granted.roomy in
    let run : format_run o Blank m n ≡ formatted o m n = ap (begun o m n) room in
    let shaped : shape_of b ≡ shape.groups ((entry 1 (0, 0) ∷ []) ∷ []) =
    state ∙ ap (λ a. shape_after shape.blank a (begun o m n a).ended) room ∙ ap ended_shape granted.granted in record {
      memory = sym (memory ∙ ap (λ (y : Run). y.after) run);
      logbook = like_tree b ((entry 1 (0, 0) ∷ []) ∷ []) tk (record { leaves = 1 ∷ []; bounds = []; last = None }) shaped refl refl (last ∙ ap (taken_after None) ok);
    }

granted_so : (o : WordKind) (m : Words) (n : ℕ) → Settled m → (format_run o Blank m n).ended ≡ Ok tt → FormatGranted o m n
granted_so o m n settled ended = let so = formatted_so o m n ended in record { settled = settled; roomy = so.roomy; granted = so.granted }

-- The promise of a list.
pub promised : {K : Type 0} (k : Kind K) → WordOrdered (in_words k) → (m : Words) (n : ℕ) (choices : List ℕ) (acts : List (Act K)) (ts : List Told) (m' : Words) (b : Book) (tk : Option ℕ) (memory : Words)
    → (format_run (in_words k) Blank m n).ended ≡ Ok tt → CarriedAll k choices (formatted_index (in_words k) m n) acts ts m' b tk → m' ≡ memory → Session k m n choices acts ts memory
promised k ordered m n choices acts ts m' b tk memory ended all is = record {
  happened = all.happened;
  played = all.played;
  history = all.history;
  law = λ settled. law_by_rule_holds (in_words k) ordered m n (granted_so (in_words k) m n settled ended) (events all.happened) all.history;
  after = all.same.memory ∙ is;
}
