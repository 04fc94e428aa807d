-- A script's logbook, for the kind of key that is named, or the pile alone.
use Rattle.std.specs.Prelude.{◌≡◌, Some, None, Option, Err, Result}
use Rattle.memory.specs.Meaning.{Words}
use Rattle.keys.specs.InWords.{in_words}
use Rattle.keys.specs.Ports.{port_kind}
use Rattle.keys.specs.Stamps.{stamp_kind}
use Rattle.layers.specs.declared.chosen.Sort.{Sort}
use Rattle.layers.specs.declared.layer.Layer.{Layer}
use Rattle.tree.specs.Sound.{Sound}
use Rattle.tree.specs.declared.logbook.State.TheVariants.{Blank}
use Rattle.tree.specs.Shape.{Shape, shape_of}
use Rattle.desk.specs.Answering.{Answers, called_shape, port_written, stamp_written, words_after}
use Rattle.desk.specs.Piles.{pile_words}
use Rattle.desk.specs.declared.answer.Told.{Told}
use Rattle.desk.specs.declared.answer.Trouble.{Trouble}
use Rattle.desk.specs.declared.answer.Trouble.TheVariants.{Wrong as IsWrong}
use Rattle.desk.specs.declared.book.Book.{Book}
use Rattle.desk.specs.declared.book.Book.TheVariants.{Unkind, Stamps, Ports}
use Rattle.script.specs.declared.line.Call.{Call}
use Rattle.script.specs.declared.line.Kind.{Kind}
use Rattle.script.specs.declared.line.Kind.TheVariants.{Stamp, Port}
use Rattle.script.specs.declared.wrong.Wrong.TheVariants.{NoKind}

abbrev pub pile_of : {B : Type 0} → Book B → Layer Sort (Layer Sort (Layer Sort B))
pile_of (Unkind pile) = pile
pile_of (Stamps book) = book.memory
pile_of (Ports book) = book.memory

abbrev pub kind_of : {B : Type 0} → Book B → Option Kind
kind_of (Unkind pile) = None
kind_of (Stamps book) = Some Stamp
kind_of (Ports book) = Some Port

-- No logbook is open or dark.
abbrev pub IsNew : {B : Type 0} → Book B → Type 0
IsNew (Unkind pile) = Unit {0}
IsNew (Stamps book) = book.state ≡ Blank
IsNew (Ports book) = book.state ≡ Blank

-- An open logbook fits its words.
abbrev pub IsSound : {B : Type 0} → (B → Words) → Book B → Type 0
IsSound means (Unkind pile) = Unit {0}
IsSound means (Stamps book) = Sound (in_words stamp_kind) (pile_words means book.memory).live book.state
IsSound means (Ports book) = Sound (in_words port_kind) (pile_words means book.memory).live book.state

-- How the logbook stands, where there is one.
abbrev pub shape_in : {B : Type 0} → Book B → Option Shape
shape_in (Unkind pile) = None
shape_in (Stamps book) = Some (shape_of book.state)
shape_in (Ports book) = Some (shape_of book.state)

-- A call needs a kind of key, and is answered then by the logbook.
abbrev pub BookAnswers : {B : Type 0} → (B → Words) → Book B → Result Told Trouble → Call → Type 0
BookAnswers means (Unkind pile) r call = r ≡ Err (IsWrong NoKind)
BookAnswers means (Stamps book) r call = Answers stamp_kind stamp_written (pile_words means book.memory) book.state book.taken r call
BookAnswers means (Ports book) r call = Answers port_kind port_written (pile_words means book.memory) book.state book.taken r call

-- It leaves the words of the pile, and how the logbook stands, as the logbook leaves them; without a kind all stays.
abbrev pub BookLeaves : {B : Type 0} → (B → Words) → Book B → Book B → Call → Type 0
BookLeaves means (Unkind pile) later call = pile_words means (pile_of later) ≡ pile_words means pile
BookLeaves means (Stamps book) later call =
    pile_words means (pile_of later) ≡ words_after stamp_kind stamp_written (pile_words means book.memory) book.state book.taken call
BookLeaves means (Ports book) later call =
    pile_words means (pile_of later) ≡ words_after port_kind port_written (pile_words means book.memory) book.state book.taken call

abbrev pub BookStands : {B : Type 0} → (B → Words) → Book B → Book B → Call → Type 0
BookStands means (Unkind pile) later call = shape_in later ≡ None
BookStands means (Stamps book) later call =
    shape_in later ≡ Some (called_shape stamp_kind stamp_written (pile_words means book.memory) book.state book.taken call)
BookStands means (Ports book) later call =
    shape_in later ≡ Some (called_shape port_kind port_written (pile_words means book.memory) book.state book.taken call)
