-- What a cut answers and leaves: the settle's refusal, or what opening the settled words comes to.
use Rattle.std.specs.Prelude.{ℕ, List, None, Ok, Err, Option, Result}
use Rattle.refusal.specs.declared.Refusal.{Refusal}
use Rattle.keys.specs.InWords.{WordKind}
use Rattle.writes.specs.Writes.{Answer}
use Rattle.leaves.specs.declared.open.Fault.{Fault}
use Rattle.leaves.specs.Opening.{open_answer}
use Rattle.tree.specs.Shape.{Shape, found_shape, open_told}
use Rattle.tree.specs.declared.logbook.State.TheVariants.{Blank}

-- What a cut answers.
abbrev pub cut_answer : WordKind → Answer → List ℕ → Result (Result (Unit {0}) Fault) Refusal
cut_answer o (Ok _) words = Ok (open_told Blank (open_answer o words))
cut_answer o (Err e) words = Err e

-- The state after a cut; one that has not happened leaves it.
abbrev pub cut_shape : WordKind → Answer → List ℕ → Shape → Shape
cut_shape o (Ok _) words before = found_shape o words (open_answer o words)
cut_shape o (Err e) words before = before

-- The leaf taken last: none after a cut that has happened.
abbrev pub cut_taken : Answer → Option ℕ → Option ℕ
cut_taken (Ok _) before = None
cut_taken (Err e) before = before
