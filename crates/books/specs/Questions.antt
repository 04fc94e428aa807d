-- What find, next and pairs tell of a book, leaf by leaf.
use Rattle.std.specs.Prelude.{◌≡◌, ℕ, ◌+◌, true, List, [], ◌∷◌, ◌++◌, length, Some, None, Ok, Option}
use Rattle.keys.specs.InWords.{WordKind, WordOrdered}
use Rattle.leaves.specs.declared.leaf.Pair.{Pair}
use Rattle.leaves.specs.Layout.{count_of, elements}
use Rattle.leaves.specs.Pairs.{first_after, latest, lookup, pairs}
use Rattle.leaves.specs.Ascent.{Ascending}
use Rattle.leaves.specs.Opening.{open_answer}
use Rattle.books.specs.Bounds.{Keys}
use Rattle.books.specs.Footprint.{book}

-- Leaf k of a memory that opens is where key w belongs.
pub record Belongs (o : WordKind) (m pre : List ℕ) (k : ℕ) (post : List ℕ) (w : ℕ × ℕ) : Type 0 where
  pub opens : open_answer o m ≡ Ok (pre ++ k ∷ post)
  pub above : Keys (λ a. o.before a w ≡ true) m pre
  pub below : Keys (λ a. o.before w a ≡ true) m post

-- The leaf where a key belongs tells what the book tells of the key.
abbrev pub Finds : Type 0
Finds = (o : WordKind) → WordOrdered o → (m pre : List ℕ) (k : ℕ) (post : List ℕ) (w : ℕ × ℕ) → Belongs o m pre k post w → lookup w (book o m) ≡ lookup w (pairs o m k (count_of m k))

abbrev pub or_else : Option Pair → Option Pair → Option Pair
or_else (Some p) rest = Some p
or_else None rest = rest

-- The first pair after w of one leaf after the other.
abbrev pub first_of : WordKind → List ℕ → ℕ × ℕ → List ℕ → Option Pair
first_of o m w [] = None
first_of o m w (k ∷ ks) = or_else (first_after o w (pairs o m k (count_of m k))) (first_of o m w ks)

-- What is next after a key stands in the leaf where the key belongs or in the first later one that has such a pair.
abbrev pub Nexts : Type 0
Nexts = (o : WordKind) → WordOrdered o → (m pre : List ℕ) (k : ℕ) (post : List ℕ) (w : ℕ × ℕ) → Belongs o m pre k post w → first_after o w (book o m) ≡ first_of o m w (k ∷ post)

abbrev pub pairs_in_all : WordKind → List ℕ → List ℕ → ℕ
pairs_in_all o m [] = 0
pairs_in_all o m (k ∷ ks) = length (pairs o m k (count_of m k)) + pairs_in_all o m ks

-- The pairs of a book are those of its leaves.
abbrev pub Counts : Type 0
Counts = (o : WordKind) → WordOrdered o → (m ks : List ℕ) → open_answer o m ≡ Ok ks → length (book o m) ≡ pairs_in_all o m ks

-- A book ascends, so that no key stands twice in it.
abbrev pub Ascends : Type 0
Ascends = (o : WordKind) → WordOrdered o → (m ks : List ℕ) → open_answer o m ≡ Ok ks → Ascending o (book o m)

-- What a leaf has of a key is what the newest of its counted elements says: sign 1 that reading, sign 2 none.
abbrev pub NewestDecides : Type 0
NewestDecides =
    (o : WordKind) → WordOrdered o → (m : List ℕ) (k : ℕ) (w : ℕ × ℕ) → lookup w (pairs o m k (count_of m k)) ≡ latest w (elements m k (count_of m k))
