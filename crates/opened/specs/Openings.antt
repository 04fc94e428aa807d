-- What opening answers to words, with the book that it finds.
use Rattle.std.specs.Prelude.{◌≡◌, ℕ, List, [], Some, None, Ok, Err, Option, Result}
use Rattle.keys.specs.InWords.{WordKind}
use Rattle.leaves.specs.Asking.{count_answer}
use Rattle.leaves.specs.Layout.{count_of}
use Rattle.leaves.specs.Opening.{open_answer}
use Rattle.leaves.specs.declared.leaf.Pair.{Pair}
use Rattle.leaves.specs.declared.open.Fault.{Fault}
use Rattle.books.specs.Footprint.{book}
use Rattle.opened.specs.declared.book.Opened.{Opened}

-- A leaf that can be read: it lies within the words, and counts at most 16 slots.
abbrev pub IsCounted : List ℕ → ℕ → Type 0
IsCounted m leaf = count_answer m leaf ≡ Ok (count_of m leaf)

-- The fault, if opening is refused.
abbrev pub fault_in : Result (List ℕ) Fault → Option Fault
fault_in (Ok leaves) = None
fault_in (Err fault) = Some fault

-- The book, which is none where opening is refused.
abbrev pub book_in : Result (List ℕ) Fault → List Pair → List Pair
book_in (Ok leaves) pairs = pairs
book_in (Err fault) pairs = []

pub record IsOpened (o : WordKind) (m : List ℕ) (x : Opened) : Type 0 where
  pub fault : x.fault ≡ fault_in (open_answer o m)
  pub pairs : x.pairs.items ≡ book_in (open_answer o m) (book o m)

-- The same answer, and the same book.
abbrev pub Same : Opened → Opened → Type 0
Same x y = (x.fault ≡ y.fault) × (x.pairs.items ≡ y.pairs.items)
