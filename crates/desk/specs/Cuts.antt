-- What a script's logbook answers to a cut of the supply.
use Rattle.std.specs.Prelude.{◌≡◌, ℕ, List, None, Some, Ok, Err, Result}
use Rattle.refusal.specs.declared.Refusal.{Refusal}
use Rattle.memory.specs.Meaning.{Words, after_settle, settle_answer}
use Rattle.keys.specs.InWords.{WordKind, in_words}
use Rattle.keys.specs.Ports.{port_kind}
use Rattle.keys.specs.Stamps.{stamp_kind}
use Rattle.layers.specs.declared.chosen.Sort.{Sort}
use Rattle.layers.specs.declared.layer.Layer.{Layer}
use Rattle.leaves.specs.Opening.{plain}
use Rattle.leaves.specs.declared.open.Fault.{Fault}
use Rattle.tree.specs.Cutting.{cut_answer, cut_shape}
use Rattle.tree.specs.Shape.{Shape, shape_of}
use Rattle.desk.specs.Books.{pile_of, shape_in}
use Rattle.desk.specs.Answering.{opened}
use Rattle.desk.specs.Piles.{pile_words}
use Rattle.desk.specs.declared.answer.Told.{Told}
use Rattle.desk.specs.declared.answer.Trouble.{Trouble}
use Rattle.desk.specs.declared.answer.Trouble.TheVariants.{Refused, Wrong as IsWrong}
use Rattle.desk.specs.declared.book.Book.{Book}
use Rattle.desk.specs.declared.book.Book.TheVariants.{Unkind, Stamps, Ports}
use Rattle.script.specs.declared.wrong.Wrong.TheVariants.{NoKind}

-- The answer of the opening, or the refusal of the cut.
abbrev pub cut_told : Result (Result (Unit {0}) Fault) Refusal → Result Told Trouble
cut_told (Ok answer) = opened answer
cut_told (Err e) = Err (Refused (plain e))

module _ {B : Type 0} (means : B → Words) where
  -- The pile settled by the choices, with new steps.
  abbrev pub settled : List ℕ → ℕ → Layer Sort (Layer Sort (Layer Sort B)) → Words
  settled choice steps p = after_settle (pile_words means p) choice steps

  -- What a kind of key finds in the settled words.
  abbrev pub cut_open : WordKind → List ℕ → ℕ → Layer Sort (Layer Sort (Layer Sort B)) → Result Told Trouble
  cut_open o choice steps p = cut_told (cut_answer o (settle_answer (pile_words means p) choice) (settled choice steps p).live)

  -- A cut needs a kind of key.
  abbrev pub BookCuts : List ℕ → ℕ → Book B → Result Told Trouble → Type 0
  BookCuts choice steps (Unkind pile) r = r ≡ Err (IsWrong NoKind)
  BookCuts choice steps (Stamps book) r = r ≡ cut_open (in_words stamp_kind) choice steps book.memory
  BookCuts choice steps (Ports book) r = r ≡ cut_open (in_words port_kind) choice steps book.memory

  -- It leaves the settled words, and the logbook as opening them does; without a kind all stays.
  abbrev pub BookSettles : List ℕ → ℕ → Book B → Book B → Type 0
  BookSettles choice steps (Unkind pile) later = pile_words means (pile_of later) ≡ pile_words means pile
  BookSettles choice steps (Stamps book) later = pile_words means (pile_of later) ≡ settled choice steps book.memory
  BookSettles choice steps (Ports book) later = pile_words means (pile_of later) ≡ settled choice steps book.memory

  abbrev pub cut_found : WordKind → List ℕ → ℕ → Layer Sort (Layer Sort (Layer Sort B)) → Shape → Shape
  cut_found o choice steps p before = cut_shape o (settle_answer (pile_words means p) choice) (settled choice steps p).live before

  abbrev pub BookOpens : List ℕ → ℕ → Book B → Book B → Type 0
  BookOpens choice steps (Unkind pile) later = shape_in later ≡ None
  BookOpens choice steps (Stamps book) later = shape_in later ≡ Some (cut_found (in_words stamp_kind) choice steps book.memory (shape_of book.state))
  BookOpens choice steps (Ports book) later = shape_in later ≡ Some (cut_found (in_words port_kind) choice steps book.memory (shape_of book.state))
