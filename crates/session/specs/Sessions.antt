-- A logbook and its memory as a state of a history.
use Rattle.std.specs.Prelude.{◌≡◌, ℕ, List, [], ◌∷◌, None, Some, Option}
use Rattle.keys.specs.Kind.{Kind}
use Rattle.keys.specs.InWords.{in_words}
use Rattle.memory.specs.Meaning.{Settled, Words}
use Rattle.plans.specs.Told.{by_rule}
use Rattle.histories.specs.Outcome.{Logbook, blank, in_use, dark}
use Rattle.index.specs.declared.node.Entry.{Entry}
use Rattle.index.specs.Meaning.{grouped}
use Rattle.histories.specs.Histories.{Event, Happens, History}
use Rattle.histories.specs.Law.{HistoryLaw, account_of, after_format}
use Rattle.tree.specs.declared.logbook.State.{State as Book}
use Rattle.tree.specs.declared.logbook.State.TheVariants.{Blank, Open, Dark}
use Rattle.tree.specs.Sound.{Sound}
use Rattle.tree.specs.Turning.{tree_of}
use Rattle.session.specs.Grouping.{Indexed, formatted_index}
use Rattle.session.specs.declared.act.Act.{Act}
use Rattle.session.specs.declared.act.Told.{Told}
use Rattle.session.specs.Playing.{Happened, Played, events, onward}

-- A logbook's state, the leaf that it took last, and the groups of its index, as a history tells them.
abbrev pub Like : Book → Option ℕ → Logbook → List (List Entry) → Type 0
Like Blank taken blank gs = Unit {0}
Like (Open x) taken (in_use t) gs = (tree_of x taken ≡ t) × (grouped x ≡ gs)
Like Dark taken dark gs = Unit {0}
Like _ taken _ gs = ⊥

pub record Same (m : Words) (book : Book) (taken : Option ℕ) (s : Indexed) : Type 0 where
  pub memory : s.state.memory ≡ m
  pub logbook : Like book taken s.state.logbook s.groups

-- What came of an act is an event as the rules have it.
abbrev pub Rightly : {K : Type 0} → Kind K → Indexed → Option Event → Type 0
Rightly k s None = Unit {0}
Rightly k s (Some e) = Happens by_rule (in_words k) s.state e

-- The state after what came of some acts.
abbrev pub onward_all : {K : Type 0} → Kind K → Indexed → List (Option Event) → Indexed
onward_all k s [] = s
onward_all k s (e ∷ es) = onward_all k (onward k s e) es

-- What one act comes to, from a sound logbook: what happens is told, and the logbook is as the history tells it, and sound.
pub record Carried {K : Type 0} (k : Kind K) (choices : List ℕ) (s : Indexed) (act : Act K) (told : Told) (m : Words) (book : Book) (taken : Option ℕ) : Type 0 where
  pub event : Option Event
  pub rightly : Rightly k s event
  pub happened : Happened k choices s act event told
  pub same : Same m book taken (onward k s event)
  pub sound : Sound (in_words k) m.live book

-- What some acts come to, one after the other.
pub record CarriedAll {K : Type 0} (k : Kind K) (choices : List ℕ) (s : Indexed) (acts : List (Act K)) (answers : List Told) (m : Words) (book : Book) (taken : Option ℕ) : Type 0 where
  pub happened : List (Option Event)
  pub history : History by_rule (in_words k) s.state (events happened)
  pub played : Played k choices s acts happened answers
  pub same : Same m book taken (onward_all k s happened)
  pub sound : Sound (in_words k) m.live book

-- THE PROMISE of a list played after a granted format: a history in which each act happened and this was told of it, and, where the
-- memory was settled before, the law of cuts at each event. At each cut every mix of live and firm words could have been chosen.
pub record Session {K : Type 0} (k : Kind K) (m : Words) (leaves : ℕ) (choices : List ℕ) (acts : List (Act K)) (answers : List Told) (memory : Words) : Type 0 where
  pub happened : List (Option Event)
  pub played : Played k choices (formatted_index (in_words k) m leaves) acts happened answers
  pub history : History by_rule (in_words k) (after_format (in_words k) m leaves) (events happened)
  pub law : Settled m → HistoryLaw by_rule (in_words k) (after_format (in_words k) m leaves) (account_of []) (events happened)
  -- The memory that is given back is the one that the history comes to.
  pub after : (onward_all k (formatted_index (in_words k) m leaves) happened).state.memory ≡ memory
