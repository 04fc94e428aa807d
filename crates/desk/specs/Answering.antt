-- What a logbook answers to a call of a script, and what the call leaves.
use Rattle.std.specs.Prelude.{◌≡◌, ℕ, cond, [], Ok, Err, Option, Result, nat_lt}
use Rattle.refusal.specs.declared.Refusal.{Refusal}
use Rattle.refusal.specs.declared.Refusal.TheVariants.{Outside}
use Rattle.memory.specs.Meaning.{Words}
use Rattle.keys.specs.InWords.{WordKind, in_words}
use Rattle.keys.specs.Kind.{Kind}
use Rattle.keys.specs.Ports.{port_of}
use Rattle.keys.specs.Stamps.{stamp_of}
use Rattle.keys.specs.declared.port.Port.{Port}
use Rattle.keys.specs.declared.stamp.Stamp.{Stamp}
use Rattle.leaves.specs.Opening.{open_answer, plain}
use Rattle.books.specs.Footprint.{book}
use Rattle.leaves.specs.Pairs.{lookup}
use Rattle.plans.specs.declared.deed.Deed.{Deed}
use Rattle.plans.specs.declared.deed.Deed.TheVariants as deed
use Rattle.leaves.specs.declared.open.Fault.{Fault}
use Rattle.index.specs.Showing.{Telling, told}
use Rattle.index.specs.declared.record.Holds.TheVariants.{Nothing as Unused}
use Rattle.index.specs.declared.record.NodeRecord.{NodeRecord}
use Rattle.tree.specs.Formatting.{format_run, format_shape}
use Rattle.tree.specs.Shape.{Shape, open_shape, open_told, shape_of}
use Rattle.tree.specs.Telling.{asked, find_answer, next_answer, node_after, pairs_answer}
use Rattle.tree.specs.Turning.{Ending, call_ending, ending, removal}
use Rattle.tree.specs.declared.logbook.State.{State}
use Rattle.tree.specs.declared.logbook.State.TheVariants.{Blank, Open as Opened, Dark}
use Rattle.tree.specs.declared.logbook.carry.Halt.{Halt}
use Rattle.desk.specs.declared.answer.Standing.{Standing}
use Rattle.desk.specs.declared.answer.Standing.TheVariants.{Blank as IsBlank, Open as IsOpen, Dark as IsDark}
use Rattle.desk.specs.declared.answer.Told.{Told}
use Rattle.desk.specs.declared.answer.Told.TheVariants.{Nothing, Number, Steps, Removed as TellsRemoved, Pair as TellsPair, Node as TellsNode, State as TellsState}
use Rattle.desk.specs.declared.answer.Trouble.{Trouble}
use Rattle.desk.specs.declared.answer.Trouble.TheVariants.{Refused, Halted, Wrong as IsWrong}
use Rattle.script.specs.declared.line.Call.{Call}
use Rattle.script.specs.declared.line.Call.TheVariants.{Format, Open, Put, Change, Remove, Find, Next, Pairs, Node, State as AskState}
use Rattle.script.specs.declared.line.Fields.{Fields}
use Rattle.script.specs.declared.line.Fields.TheVariants.{Stamp as StampFields, Port as PortFields}
use Rattle.script.specs.declared.wrong.Wrong.TheVariants.{OtherKind}

-- What is granted as it is told, and a refusal with nothing beside it.
abbrev pub granted : {X : Type 0} → (X → Told) → Result X Refusal → Result Told Trouble
granted f (Ok x) = Ok (f x)
granted f (Err e) = Err (Refused (plain e))

abbrev pub opened : Result (Unit {0}) Fault → Result Told Trouble
opened (Ok _) = Ok Nothing
opened (Err fault) = Err (Refused fault)

-- What a put, change or remove tells, and with its refusal the steps.
abbrev pub turned : {X : Type 0} → (X → Told) → Result X Halt → Result Told Trouble
turned f (Ok x) = Ok (f x)
turned f (Err h) = Err (Halted h)

-- The key that fields write, or the trouble with them.
abbrev pub made : {K : Type 0} → Result K Refusal → Result K Trouble
made (Ok k) = Ok k
made (Err e) = Err (Refused (plain e))

abbrev pub stamp_written : Fields → Result Stamp Trouble
stamp_written (StampFields year day ms) = made (stamp_of year day ms)
stamp_written (PortFields identity number) = Err (IsWrong OtherKind)

abbrev pub port_written : Fields → Result Port Trouble
port_written (StampFields year day ms) = Err (IsWrong OtherKind)
port_written (PortFields identity number) = made (port_of identity number)

-- A key that is none is refused before the logbook is asked.
abbrev pub keyed : {K : Type 0} → Result K Trouble → (K → Result Told Trouble) → Result Told Trouble
keyed (Ok k) answer = answer k
keyed (Err t) answer = Err t

abbrev pub standing : State → Standing
standing Blank = IsBlank
standing (Opened x) = IsOpen
standing Dark = IsDark

-- The record of an unused node.
abbrev pub unused : Telling
unused = record { kept = Unused; many = 0; names = []; between = [] }

-- The answer to each call, on words m, in state s and with this leaf taken last.
module _ {K : Type 0} (kind : Kind K) (written : Fields → Result K Trouble) (m : Words) (s : State) (taken : Option ℕ) (r : Result Told Trouble) where
  abbrev pub Answers : Call → Type 0
  Answers (Format leaves) = r ≡ granted (λ _. Nothing) (format_run (in_words kind) s m leaves).ended
  Answers Open = r ≡ opened (open_told s (open_answer (in_words kind) m.live))
  Answers (Put fields reading) = r ≡ keyed (written fields) (λ k. turned Steps (call_ending (in_words kind) m s taken (deed.Put (kind.form k) reading)).answer)
  Answers (Change fields reading) = r ≡ keyed (written fields) (λ k. turned Steps (call_ending (in_words kind) m s taken (deed.Change (kind.form k) reading)).answer)
  Answers (Remove fields) = r ≡ keyed (written fields) (λ k. turned TellsRemoved
      (removal (lookup (kind.form k) (book (in_words kind) m.live)) (call_ending (in_words kind) m s taken (deed.Remove (kind.form k))).answer))
  Answers (Find fields) = r ≡ keyed (written fields) (λ k. granted Number (find_answer (in_words kind) m.live s (kind.form k)))
  Answers (Next fields) = r ≡ keyed (written fields) (λ k. granted TellsPair (next_answer (in_words kind) m.live s (kind.form k)))
  Answers Pairs = r ≡ granted Number (pairs_answer (in_words kind) m.live s)
  Answers (Node i) =
      (node : NodeRecord) × (told node ≡ node_after s i unused)
      × (r ≡ granted {X = Unit {0}} (λ _. TellsNode node) (asked s (cond (nat_lt 90 i) (Err Outside) (Ok tt))))
  Answers AskState = r ≡ Ok (TellsState (standing s))

-- How a put, change or remove leaves all; a key that is none leaves all as it was.
abbrev pub turning : {K : Type 0} → WordKind → Words → State → Option ℕ → Result K Trouble → (K → Deed) → Ending
turning o m s taken (Ok k) d = call_ending o m s taken (d k)
turning o m s taken (Err t) d = ending (Ok 0) m (shape_of s) taken

-- What each call leaves: the words, how the logbook stands, and the leaf taken last.
module _ {K : Type 0} (kind : Kind K) (written : Fields → Result K Trouble) (m : Words) (s : State) (taken : Option ℕ) where
  abbrev pub words_after : Call → Words
  words_after (Format leaves) = (format_run (in_words kind) s m leaves).after
  words_after Open = m
  words_after (Put fields reading) = (turning (in_words kind) m s taken (written fields) (λ k. deed.Put (kind.form k) reading)).memory
  words_after (Change fields reading) = (turning (in_words kind) m s taken (written fields) (λ k. deed.Change (kind.form k) reading)).memory
  words_after (Remove fields) = (turning (in_words kind) m s taken (written fields) (λ k. deed.Remove (kind.form k))).memory
  words_after (Find fields) = m
  words_after (Next fields) = m
  words_after Pairs = m
  words_after (Node i) = m
  words_after AskState = m

  abbrev pub called_shape : Call → Shape
  called_shape (Format leaves) = format_shape (in_words kind) s m leaves
  called_shape Open = open_shape (in_words kind) m.live s
  called_shape (Put fields reading) = (turning (in_words kind) m s taken (written fields) (λ k. deed.Put (kind.form k) reading)).shape
  called_shape (Change fields reading) = (turning (in_words kind) m s taken (written fields) (λ k. deed.Change (kind.form k) reading)).shape
  called_shape (Remove fields) = (turning (in_words kind) m s taken (written fields) (λ k. deed.Remove (kind.form k))).shape
  called_shape (Find fields) = shape_of s
  called_shape (Next fields) = shape_of s
  called_shape Pairs = shape_of s
  called_shape (Node i) = shape_of s
  called_shape AskState = shape_of s
