-- What is known of a list of calls and cuts that is played with GPS times as keys, over a new memory of words in two copies.
use Rattle.std.specs.Prelude.{◌≡◌, ℕ, List, [], Ok, Option}
use Rattle.keys.specs.InWords.{in_words}
use Rattle.memory.specs.Meaning.{Words}
use Rattle.plans.specs.Told.{by_rule}
use Rattle.histories.specs.Outcome.{State}
use Rattle.histories.specs.Histories.{Event, History}
use Rattle.histories.specs.Law.{HistoryLaw, account_of, after_format}
use Rattle.writes.specs.Writes.{Answer}
use Rattle.tree.specs.declared.logbook.State.TheVariants.{Blank}
use Rattle.tree.specs.Formatting.{format_run}
use Rattle.session.specs.declared.act.Act.{Act}
use Rattle.session.specs.declared.act.Told.{Told}
use Rattle.session.specs.Grouping.{formatted_index}
use Rattle.session.specs.Playing.{Played, events}
use Rattle.own_key.specs.GpsTimes.{gps_kind}
use Rattle.own_key.specs.declared.gps.GpsTime.{GpsTime}
use Rattle.own_memory.specs.Shadowed.{blank_words}

-- The memory that is played on: 152 words, all 0 and settled, with so many steps.
abbrev pub device : ℕ → Words
device steps = blank_words 152 steps

-- What the format is answered.
abbrev pub format_answer : ℕ → ℕ → Answer
format_answer steps leaves = (format_run (in_words gps_kind) Blank (device steps) leaves).ended

-- The state after it.
abbrev pub formatted : ℕ → ℕ → State
formatted steps leaves = after_format (in_words gps_kind) (device steps) leaves

-- The format is granted, each act happened in a history and this was told of it, and the law of cuts holds at each event.
pub record PlayedLawfully (steps leaves : ℕ) (choices : List ℕ) (acts : List (Act GpsTime)) (told : List Told) : Type 0 where
  pub granted : format_answer steps leaves ≡ Ok tt
  pub happened : List (Option Event)
  pub played : Played gps_kind choices (formatted_index (in_words gps_kind) (device steps) leaves) acts happened told
  pub history : History by_rule (in_words gps_kind) (formatted steps leaves) (events happened)
  pub law : HistoryLaw by_rule (in_words gps_kind) (formatted steps leaves) (account_of []) (events happened)
