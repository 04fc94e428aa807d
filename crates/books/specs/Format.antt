-- What format stores, and what is left of it where the power fails inside it.
use Rattle.std.specs.Prelude.{◌≡◌, ℕ, ◌+◌, ◌*◌, ◌≤◌, ◌⊎◌, List, [], ◌∷◌, Ok, Err}
use Rattle.refusal.specs.declared.Refusal.TheVariants.{WrongMark}
use Rattle.keys.specs.InWords.{WordKind, WordOrdered}
use Rattle.memory.specs.Meaning.{Words, size_of, Settled}
use Rattle.writes.specs.Writes.{LineWrite, Run, perform, row}
use Rattle.writes.specs.Laws.{Cut}
use Rattle.leaves.specs.Opening.{open_answer, plain}
use Rattle.books.specs.Footprint.{book}

-- No mark, and it is flushed; leaf 1 without next, count and form; kind, first leaf and number of leaves; and last the mark.
abbrev pub format_writes : ℕ → ℕ → List LineWrite
format_writes code leaves = row 0 (0 ∷ []) ∷ row 8 (0 ∷ 0 ∷ 0 ∷ []) ∷ row 1 (code ∷ 1 ∷ leaves ∷ []) ∷ row 0 (30366 ∷ []) ∷ []

-- The format of a memory for keys of a kind, until the first refusal.
abbrev pub formatted : WordKind → Words → ℕ → Run
formatted o m leaves = perform m (format_writes o.code leaves)

-- As many leaves as a logbook may have, and a memory with room for them.
pub record Roomy (m : Words) (leaves : ℕ) : Type 0 where
  pub least : 2 ≤ leaves
  pub most : leaves ≤ 64
  pub fits : 8 + 72 * leaves ≤ size_of m

-- The words open to leaf 1 alone, and to no pair.
pub record Empty (o : WordKind) (words : List ℕ) : Type 0 where
  pub opens : open_answer o words ≡ Ok (1 ∷ [])
  pub none : book o words ≡ []

-- A granted format takes twelve steps and makes an empty book, whatever the memory held; a settled memory is settled after it.
pub record Made (o : WordKind) (m : Words) (leaves : ℕ) : Type 0 where
  pub empty : Empty o (formatted o m leaves).after.live
  pub steps : (formatted o m leaves).steps ≡ 12
  pub settled : Settled m → Settled (formatted o m leaves).after

abbrev pub Formats : Type 0
Formats = (o : WordKind) → WordOrdered o → (m : Words) (leaves : ℕ) → Roomy m leaves → (formatted o m leaves).ended ≡ Ok tt → Made o m leaves

-- A cut inside format, or after it, leaves what a cut just before it could leave, or words without a mark, or an empty book.
abbrev pub FormatCut : Type 0
FormatCut =
    (o : WordKind) → WordOrdered o → (m : Words) (leaves : ℕ) → Roomy m leaves → (words : List ℕ) → Cut (formatted o m leaves).after words →
    Cut m words ⊎ ((open_answer o words ≡ Err (plain WrongMark)) ⊎ Empty o words)
