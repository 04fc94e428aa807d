-- A change that turns one book into another, by line writes and one commit word, whatever the change is made for.
use Rattle.std.specs.Prelude.{◌≡◌, ℕ, Bool, cond, ◌⊎◌, List, length, Ok, Err, ◌==◌, slice_index}
use Rattle.refusal.specs.declared.Refusal.TheVariants.{NoPower}
use Rattle.keys.specs.InWords.{WordKind}
use Rattle.memory.specs.Meaning.{Power, Words, Settled}
use Rattle.leaves.specs.declared.leaf.Pair.{Pair}
use Rattle.leaves.specs.Opening.{open_answer}
use Rattle.writes.specs.Writes.{Store, LineWrite, Proper, finished, perform, cost}
use Rattle.writes.specs.Laws.{Enough, Cut, change, New, Guards}
use Rattle.books.specs.Footprint.{book, footprint}

-- The words open to these leaves and this book.
abbrev pub HoldsBook : WordKind → List ℕ → List ℕ → List Pair → Type 0
HoldsBook o words ks ps = (open_answer o words ≡ Ok ks) × (book o words ≡ ps)

-- A turn: the line writes spare what the book rests on, the commit changes its word, and with all of it done the words hold the new book.
pub record Turns (o : WordKind) (m : List ℕ) (before : List LineWrite) (commit : Store) (ks : List ℕ) (ps : List Pair) : Type 0 where
  pub guards : Guards (footprint m) before commit
  pub proper : Proper (length m) (change before commit)
  pub differs : New commit m → ⊥
  pub done : HoldsBook o (finished m (change before commit)) ks ps

-- What a turn does to a settled memory that opens to the old leaves.
pub record Turned (o : WordKind) (m : Words) (before : List LineWrite) (commit : Store) (old ks : List ℕ) (ps : List Pair) : Type 0 where
  -- It is granted whole, or refused for want of power.
  pub ended : ((perform m (change before commit)).ended ≡ Ok tt) ⊎ ((perform m (change before commit)).ended ≡ Err NoPower)
  -- With enough power it is granted, and the memory is settled and holds the new book.
  pub granted : Enough m.power (cost (change before commit)) →
      ((perform m (change before commit)).ended ≡ Ok tt) × Settled (perform m (change before commit)).after × HoldsBook o (perform m (change before commit)).after.live ks ps
  -- After a cut the commit decides: the old book unless it stands new, and then the new one.
  pub unless_new : (words : List ℕ) → Cut (perform m (change before commit)).after words → (New commit words → ⊥) → HoldsBook o words old (book o m.live)
  pub if_new : (words : List ℕ) → Cut (perform m (change before commit)).after words → New commit words → HoldsBook o words ks ps

abbrev pub TurnLaw : Type 0
TurnLaw =
    (o : WordKind) (m : Words) (before : List LineWrite) (commit : Store) (old ks : List ℕ) (ps : List Pair) →
    Settled m → open_answer o m.live ≡ Ok old → Turns o m.live before commit ks ps → Turned o m before commit old ks ps

-- A settled memory that opens to this book.
abbrev pub Honest : WordKind → Words → List Pair → Type 0
Honest o m ps = Settled m × ((ks : List ℕ) × HoldsBook o m.live ks ps)

-- Whether the commit stands new.
abbrev pub stands_new : Store → List ℕ → Bool
stands_new commit words = slice_index words commit.at == commit.word

-- A memory settled on these words, as a cut that left them makes it.
abbrev pub settled_on : Words → List ℕ → Power → Words
settled_on m words power = record { live = words; firm = words; through = m.through; power = power; choosing = m.choosing }

-- One step of a history: a turn that is granted makes its book.
abbrev pub GrantedStep : Type 0
GrantedStep =
    (o : WordKind) (m : Words) (before : List LineWrite) (commit : Store) (ks : List ℕ) (ps new : List Pair) →
    Honest o m ps → Turns o m.live before commit ks new →
    (perform m (change before commit)).ended ≡ Ok tt → Honest o (perform m (change before commit)).after new

-- One step of a history: a cut inside a turn or after it leaves the new book just where the commit stands new, else the old one.
abbrev pub CutStep : Type 0
CutStep =
    (o : WordKind) (m : Words) (before : List LineWrite) (commit : Store) (ks : List ℕ) (ps new : List Pair) →
    Honest o m ps → Turns o m.live before commit ks new →
    (words : List ℕ) → Cut (perform m (change before commit)).after words → (power : Power) →
    Honest o (settled_on m words power) (cond (stands_new commit words) new ps)
