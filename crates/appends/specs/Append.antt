-- Appending elements of one key to a leaf of a book: their line writes, and when they make a turn.
use Rattle.std.specs.Prelude.{◌≡◌, ℕ, ◌+◌, ◌*◌, ◌<◌, ◌≤◌, true, List, [], ◌∷◌, ◌++◌, length}
use Rattle.keys.specs.InWords.{WordKind, WordOrdered}
use Rattle.leaves.specs.declared.leaf.Element.{Element}
use Rattle.leaves.specs.declared.leaf.Pair.{Pair}
use Rattle.leaves.specs.Layout.{leaf_at, slot_at, count_of}
use Rattle.leaves.specs.Pairs.{lookup, applied, pairs}
use Rattle.leaves.specs.Opening.{sign_fits}
use Rattle.writes.specs.Writes.{Store, LineWrite, row, cost, finished}
use Rattle.writes.specs.Laws.{change}
use Rattle.books.specs.Footprint.{book}
use Rattle.books.specs.Bounds.{Bounded, locate}
use Rattle.books.specs.Questions.{Belongs}
use Rattle.turns.specs.Turns.{Turns}

-- A sign and a reading, put to a key.
abbrev pub signed : ℕ × ℕ → ℕ × ℕ → Element
signed w x = record { sign = x.0; key = w; reading = x.1 }

-- The four words of an element.
abbrev pub words_of : Element → List ℕ
words_of e = e.sign ∷ e.key.0 ∷ e.key.1 ∷ e.reading ∷ []

-- Elements of key w into leaf k from slot s on, a line write for each.
abbrev pub slot_lines : ℕ → ℕ → ℕ × ℕ → List (ℕ × ℕ) → List LineWrite
slot_lines k s w [] = []
slot_lines k s w (x ∷ xs) = row (slot_at k s) (words_of (signed w x)) ∷ slot_lines k (s + 1) w xs

-- The count of leaf k, raised from n by all of them together: the commit.
abbrev pub raised : ℕ → ℕ → List (ℕ × ℕ) → Store
raised k n xs = record { at = leaf_at k + 1; word = n + length xs }

-- Elements of key w after the n elements of leaf k.
abbrev pub append_lines : ℕ → ℕ → ℕ × ℕ → List (ℕ × ℕ) → List LineWrite
append_lines k n w xs = change (slot_lines k n w xs) (raised k n xs)

-- The pairs that some pairs come to by the elements, one after the other.
abbrev pub all_applied : WordKind → ℕ × ℕ → List (ℕ × ℕ) → List Pair → List Pair
all_applied o w [] ps = ps
all_applied o w (x ∷ xs) ps = all_applied o w xs (applied o (signed w x) ps)

-- Each sign follows what is held of the key when its element comes.
abbrev pub Follow : WordKind → ℕ × ℕ → List Pair → List (ℕ × ℕ) → Type 0
Follow o w ps [] = Unit {0}
Follow o w ps (x ∷ xs) = (sign_fits x.0 x.1 (lookup w ps) ≡ true) × Follow o w (applied o (signed w x) ps) xs

-- Leaf k of a memory that opens is where key w belongs, and it has room for the elements, which follow its own.
pub record Appendable (o : WordKind) (m pre : List ℕ) (k : ℕ) (post : List ℕ) (w : ℕ × ℕ) (xs : List (ℕ × ℕ)) : Type 0 where
  pub belongs : Belongs o m pre k post w
  pub valid : o.valid w ≡ true
  pub some : 0 < length xs
  pub room : count_of m k + length xs ≤ 16
  pub follow : Follow o w (pairs o m k (count_of m k)) xs

-- An append turns the book into what the elements make of it, in the same leaves.
abbrev pub Appends : Type 0
Appends =
    (o : WordKind) → WordOrdered o → (m pre : List ℕ) (k : ℕ) (post : List ℕ) (w : ℕ × ℕ) (xs : List (ℕ × ℕ)) → Appendable o m pre k post w xs →
    Turns o m (slot_lines k (count_of m k) w xs) (raised k (count_of m k) xs) (pre ++ k ∷ post) (all_applied o w xs (book o m))

-- An append to the leaf where the bounds put the key keeps the bounds.
abbrev pub AppendBounds : Type 0
AppendBounds =
    (o : WordKind) → WordOrdered o → (m pre : List ℕ) (k : ℕ) (post : List ℕ) (w : ℕ × ℕ) (xs : List (ℕ × ℕ)) (bs : List (ℕ × ℕ)) →
    Appendable o m pre k post w xs → length pre ≡ locate o w bs → Bounded o m (pre ++ k ∷ post) bs →
    Bounded o (finished m (append_lines k (count_of m k) w xs)) (pre ++ k ∷ post) bs

-- Five steps for each element, and two for the count.
abbrev pub AppendCost : Type 0
AppendCost = (k n : ℕ) (w : ℕ × ℕ) (xs : List (ℕ × ℕ)) → cost (append_lines k n w xs) ≡ 5 * length xs + 2
