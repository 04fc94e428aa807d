-- What put, remove and change append, as signs and readings of one key.
use Rattle.std.specs.Prelude.{◌≡◌, ℕ, ◌+◌, ◌≤◌, true, List, [], ◌∷◌, Some, None}
use Rattle.keys.specs.InWords.{WordKind, WordOrdered}
use Rattle.leaves.specs.declared.leaf.Pair.{Pair}
use Rattle.leaves.specs.Layout.{count_of}
use Rattle.leaves.specs.Pairs.{lookup, insert, delete}
use Rattle.books.specs.Footprint.{book}
use Rattle.books.specs.Questions.{Belongs}
use Rattle.appends.specs.Append.{all_applied, Appendable}

abbrev pub put_elements : ℕ → List (ℕ × ℕ)
put_elements r = (1, r) ∷ []

abbrev pub remove_elements : ℕ → List (ℕ × ℕ)
remove_elements old = (2, old) ∷ []

abbrev pub change_elements : ℕ → ℕ → List (ℕ × ℕ)
change_elements old r = (2, old) ∷ (1, r) ∷ []

-- They come to a pair more, a pair less, and a pair in place of another.
abbrev pub CallsAre : Type 0
CallsAre =
    (o : WordKind) (w : ℕ × ℕ) (ps : List Pair) (old r : ℕ) →
    (all_applied o w (put_elements r) ps ≡ insert o (record { key = w; reading = r }) ps)
    × (all_applied o w (remove_elements old) ps ≡ delete w ps)
    × (all_applied o w (change_elements old r) ps ≡ insert o (record { key = w; reading = r }) (delete w ps))

-- Where there is room: a key that the book does not have can be put, and one that it has removed or changed.
pub record Fitting (o : WordKind) (m pre : List ℕ) (k : ℕ) (post : List ℕ) (w : ℕ × ℕ) : Type 0 where
  pub put : (r : ℕ) → lookup w (book o m) ≡ None → count_of m k + 1 ≤ 16 → Appendable o m pre k post w (put_elements r)
  pub remove : (old : ℕ) → lookup w (book o m) ≡ Some old → count_of m k + 1 ≤ 16 → Appendable o m pre k post w (remove_elements old)
  pub change : (old r : ℕ) → lookup w (book o m) ≡ Some old → count_of m k + 2 ≤ 16 → Appendable o m pre k post w (change_elements old r)

-- The leaf where a key belongs takes the elements of each call.
abbrev pub CallsFit : Type 0
CallsFit =
    (o : WordKind) → WordOrdered o → (m pre : List ℕ) (k : ℕ) (post : List ℕ) (w : ℕ × ℕ) →
    o.valid w ≡ true → Belongs o m pre k post w → Fitting o m pre k post w
