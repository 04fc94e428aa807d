-- One removal never takes the last pair of a full leaf, so that no rewrite makes an empty leaf.
use Rattle.std.specs.Prelude.{◌≡◌, ℕ, ◌<◌, Bool, List, length, Some, Option}
use Rattle.keys.specs.InWords.{WordKind, WordOrdered}
use Rattle.leaves.specs.Layout.{count_of}
use Rattle.leaves.specs.Pairs.{lookup, delete, pairs}
use Rattle.books.specs.Opens.{Fine}

-- A leaf of sixteen elements has an even number of pairs: two at least where it has one.
abbrev pub NeverEmpty : Type 0
NeverEmpty =
    (o : WordKind) → WordOrdered o → (m : List ℕ) (alone : Bool) (bound : Option (ℕ × ℕ)) (k : ℕ) (w : ℕ × ℕ) (v : ℕ) →
    Fine o m alone bound k → count_of m k ≡ 16 → lookup w (pairs o m k (count_of m k)) ≡ Some v → 0 < length (delete w (pairs o m k (count_of m k)))
