-- What comes of a list of calls and cuts, and what is told of it.
use Rattle.std.specs.Prelude.{◌≡◌, ℕ, Bool, true, false, List, [], ◌∷◌, drop, Some, None, Ok, Err, Option, Result, nat_lt}
use Rattle.std.specs.Option.{unwrap_or}
use Rattle.refusal.specs.declared.Refusal.{Refusal}
use Rattle.refusal.specs.declared.Refusal.TheVariants.{Blank, NoPower, Outside, WrongLength}
use Rattle.keys.specs.Kind.{Kind}
use Rattle.keys.specs.InWords.{in_words}
use Rattle.memory.specs.Meaning.{Freely, chosen, renewed, settle_answer}
use Rattle.leaves.specs.declared.open.Fault.{Fault}
use Rattle.leaves.specs.Opening.{open_answer}
use Rattle.index.specs.declared.node.Entry.{Entry}
use Rattle.index.specs.declared.record.NodeRecord.{NodeRecord}
use Rattle.index.specs.Nodes.{bounds, numbers}
use Rattle.index.specs.Search.{concat, front}
use Rattle.index.specs.Showing.{node_told, told as shown}
use Rattle.plans.specs.declared.deed.Deed.TheVariants as deed
use Rattle.plans.specs.Told.{by_rule}
use Rattle.histories.specs.PlainBook.{find, next as next_after, pairs, Reply, reading, pair, number, refused}
use Rattle.histories.specs.Outcome.{Logbook, blank, in_use, dark}
use Rattle.histories.specs.Histories.{Event, called, asked, cut, after}
use Rattle.session.specs.Grouping.{Indexed, groups_after}
use Rattle.session.specs.declared.act.Act.{Act}
use Rattle.session.specs.declared.act.Act.TheVariants.{Put, Change, Remove, Find, Next, Pairs, Node, Cut}
use Rattle.session.specs.declared.act.Told.{Told}
use Rattle.session.specs.declared.act.Told.TheVariants as told

-- What is told of a put or change, and of a remove, by its answer.
abbrev pub steps_told : Result (Option ℕ) Refusal → ℕ → Told
steps_told (Ok had) n = told.Steps n
steps_told (Err e) n = told.Halted e n

abbrev pub removed_told : Result (Option ℕ) Refusal → ℕ → Told
removed_told (Ok had) n = told.Removed (unwrap_or had 0) n
removed_told (Err e) n = told.Halted e n

-- What is told of a question, by its reply.
abbrev pub replied : Reply → Told
replied (reading r) = told.Reading r
replied (pair p) = told.Next p
replied (number n) = told.Number n
replied (refused e) = told.Refused e

-- What is told of a cut, by the answer of opening.
abbrev pub opened_told : Result (List ℕ) Fault → Told
opened_told (Ok ks) = told.Opened
opened_told (Err e) = told.NotOpened e

-- What is told of node i of an index of such groups: there is none above 90.
abbrev pub NodeShown : Bool → List (List Entry) → ℕ → Told → Type 0
NodeShown true gs i t = t ≡ told.Refused Outside
NodeShown false gs i t = (r : NodeRecord) × (t ≡ told.Node r) × (shown r ≡ node_told gs i)

-- What is told of node i of a logbook, whose index has these groups: they are its leaves and bounds in their order.
abbrev pub NodeTold : Logbook → List (List Entry) → ℕ → Told → Type 0
NodeTold blank gs i t = t ≡ told.Refused Blank
NodeTold (in_use tree) gs i t =
    (numbers (concat gs) ≡ tree.leaves) × (front (bounds (concat gs)) ≡ tree.bounds) × NodeShown (nat_lt 90 i) gs i t
NodeTold dark gs i t = t ≡ told.Refused NoPower

-- What comes of an act in a state: a call, a question or a cut happens, and this is told of it. A node that is asked for is no event, and a cut with too few choices does not happen.
-- At a cut that happens each word's choice can be any: for every mix of live and firm words there is a choice run that leaves it.
abbrev pub Happened : {K : Type 0} → Kind K → List ℕ → Indexed → Act K → Option Event → Told → Type 0
Happened k choices s (Put key r) (Some (called d a e)) t = (d ≡ deed.Put (k.form key) r) × (t ≡ steps_told a.result a.steps)
Happened k choices s (Change key r) (Some (called d a e)) t = (d ≡ deed.Change (k.form key) r) × (t ≡ steps_told a.result a.steps)
Happened k choices s (Remove key) (Some (called d a e)) t = (d ≡ deed.Remove (k.form key)) × (t ≡ removed_told a.result a.steps)
Happened k choices s (Find key) (Some (asked q r)) t = (q ≡ find (k.form key)) × (t ≡ replied r)
Happened k choices s (Next key) (Some (asked q r)) t = (q ≡ next_after (k.form key)) × (t ≡ replied r)
Happened k choices s Pairs (Some (asked q r)) t = (q ≡ pairs) × (t ≡ replied r)
Happened k choices s (Node i) None t = NodeTold s.state.logbook s.groups i t
Happened k choices s (Cut from steps) (Some (cut words power)) t =
    (settle_answer s.state.memory (drop from choices) ≡ Ok tt) × (words ≡ (chosen s.state.memory (drop from choices) steps).live) × (power ≡ renewed s.state.memory.power steps) × (t ≡ opened_told (open_answer (in_words k) words)) × Freely s.state.memory
Happened k choices s (Cut from steps) None t = (settle_answer s.state.memory (drop from choices) ≡ Err WrongLength) × (t ≡ told.Refused WrongLength)
Happened k choices s _ _ t = ⊥

-- The state after it, and the groups.
abbrev pub onward : {K : Type 0} → Kind K → Indexed → Option Event → Indexed
onward k s None = s
onward k s (Some e) = record { state = after by_rule (in_words k) s.state e; groups = groups_after (in_words k) s e }

-- A list of acts, what came of each, and what was told.
abbrev pub Played : {K : Type 0} → Kind K → List ℕ → Indexed → List (Act K) → List (Option Event) → List Told → Type 0
Played k choices s [] [] [] = Unit {0}
Played k choices s (a ∷ acts) (e ∷ es) (t ∷ ts) = Happened k choices s a e t × Played k choices (onward k s e) acts es ts
Played k choices s _ _ _ = ⊥

-- The events, one after the other.
abbrev pub events : List (Option Event) → List Event
events [] = []
events (None ∷ es) = events es
events (Some e ∷ es) = e ∷ events es
