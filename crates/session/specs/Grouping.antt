-- The groups of leaves in a logbook's index, from event to event: they are what `node` tells of.
use Rattle.std.specs.Prelude.{ℕ, List, [], ◌∷◌}
use Rattle.keys.specs.InWords.{WordKind}
use Rattle.memory.specs.Meaning.{Words}
use Rattle.books.specs.Bounds.{locate}
use Rattle.plans.specs.declared.deed.Deed.{Deed}
use Rattle.plans.specs.Deeds.{key_of}
use Rattle.plans.specs.Told.{by_rule}
use Rattle.histories.specs.Outcome.{State, Logbook, in_use}
use Rattle.histories.specs.Histories.{Event, called, asked, cut, after}
use Rattle.histories.specs.Law.{after_format}
use Rattle.index.specs.declared.node.Entry.{Entry}
use Rattle.index.specs.Nodes.{entry}
use Rattle.index.specs.Shape.{singles}
use Rattle.tree.specs.Shape.{paired, tops}
use Rattle.tree.specs.Turning.{regrouped}

-- A state of a history, and the groups in the index of its logbook, where that is open.
pub record Indexed : Type 0 where
  pub state : State
  pub groups : List (List Entry)

-- After a call at leaf number n that leaves the logbook like this. An open one has as many leaves there as a split, a merge, a replacement or an
-- append makes of them.
abbrev pub groups_at : List (List Entry) → ℕ → Logbook → List (List Entry)
groups_at gs n (in_use t) = regrouped gs n t
groups_at gs n _ = gs

-- After a call, from the logbook before it to the one after it.
abbrev pub groups_called : WordKind → List (List Entry) → Logbook → Deed → Logbook → List (List Entry)
groups_called o gs (in_use t) d later = groups_at gs (locate o (key_of d) t.bounds) later
groups_called o gs _ d later = gs

-- Of a logbook opened on these words: each leaf alone, with its greatest key.
abbrev pub groups_opened : WordKind → List ℕ → Logbook → List (List Entry)
groups_opened o words (in_use t) = singles (paired t.leaves (tops o words t.leaves))
groups_opened o words _ = []

-- After an event; a question changes nothing.
abbrev pub groups_after : WordKind → Indexed → Event → List (List Entry)
groups_after o s (called d a e) = groups_called o s.groups s.state.logbook d (after by_rule o s.state (called d a e)).logbook
groups_after o s (asked q r) = s.groups
groups_after o s (cut words power) = groups_opened o words (after by_rule o s.state (cut words power)).logbook

-- After a granted format: leaf 1 alone.
abbrev pub formatted_index : WordKind → Words → ℕ → Indexed
formatted_index o m leaves = record { state = after_format o m leaves; groups = (entry 1 (0, 0) ∷ []) ∷ [] }
