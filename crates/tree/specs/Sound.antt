-- When an open logbook's index fits its memory's words: opening establishes it, and every call keeps it.
use Rattle.std.specs.Prelude.{◌≡◌, ℕ, List, Ok}
use Rattle.keys.specs.InWords.{WordKind}
use Rattle.leaves.specs.Opening.{open_answer}
use Rattle.books.specs.Bounds.{Bounded}
use Rattle.index.specs.declared.node.Entry.{Entry}
use Rattle.index.specs.Meaning.{listed}
use Rattle.index.specs.Nodes.{bounds, numbers}
use Rattle.index.specs.Search.{Ascending, front}
use Rattle.tree.specs.declared.logbook.State.{State}
use Rattle.tree.specs.declared.logbook.State.TheVariants.{Blank, Open, Dark}

-- The leaves of the index are those that opening finds, and its bounds part their keys.
pub record Fits (o : WordKind) (m : List ℕ) (es : List Entry) : Type 0 where
  pub opens : open_answer o m ≡ Ok (numbers es)
  pub bounded : Bounded o m (numbers es) (front (bounds es))
  pub ascending : Ascending o (front (bounds es))

abbrev pub Sound : WordKind → List ℕ → State → Type 0
Sound o m Blank = Unit {0}
Sound o m (Open x) = Fits o m (listed x)
Sound o m Dark = Unit {0}
