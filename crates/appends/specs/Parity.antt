-- The signs of a key alternate, so a leaf has as many pairs as elements, less an even number.
use Rattle.std.specs.Prelude.{◌≡◌, ℕ, ◌%◌, ◌<◌, true, List, length, Option}
use Rattle.keys.specs.InWords.{WordKind, WordOrdered}
use Rattle.leaves.specs.Layout.{element}
use Rattle.leaves.specs.Pairs.{pairs}
use Rattle.leaves.specs.Opening.{good}

-- Of good elements, an odd number comes to an odd number of pairs, and an even number to an even one.
abbrev pub Alternates : Type 0
Alternates =
    (o : WordKind) → WordOrdered o → (m : List ℕ) (bound : Option (ℕ × ℕ)) (k n : ℕ) →
    ((s : ℕ) → s < n → good o bound (pairs o m k s) (element m k s) ≡ true) → length (pairs o m k n) % 2 ≡ n % 2
