-- What steps of the code say; no promise of the crate names these.
use Rattle.std.specs.Prelude.{ℕ, Bool, true, false, ◌&&◌, List, Some, None, Option, ◌==◌, slice_get}
use Rattle.std.specs.List.{list_any}
use Rattle.keys.specs.InWords.{WordKind}
use Rattle.leaves.specs.declared.leaf.Element.{Element}
use Rattle.leaves.specs.declared.leaf.Pair.{Pair}
use Rattle.leaves.specs.Pairs.{equal}

-- Whether one of the elements is a key's.
abbrev pub tells : ℕ × ℕ → List Element → Bool
tells w es = list_any (λ e. equal e.key w) es

-- The pair that an element of sign 1 puts.
abbrev pub pair_of : Element → Pair
pair_of e = record { key = e.key; reading = e.reading }

-- Whether a key stands before that of a pair, if there is one.
abbrev pub sooner : WordKind → ℕ × ℕ → Option Pair → Bool
sooner o w None = true
sooner o w (Some p) = o.before w p.key

-- Whether an element puts a pair after a key, and before another one if there is one.
abbrev pub nearer : WordKind → ℕ × ℕ → Element → Option Pair → Bool
nearer o w e best = e.sign == 1 && (o.before w e.key && sooner o e.key best)

-- Whether a pair, if there is one, is a key's.
abbrev pub owns : ℕ × ℕ → Option Pair → Bool
owns w None = false
owns w (Some p) = equal p.key w

-- The same of the pair at a place.
abbrev pub own_at : ℕ × ℕ → ℕ → List Pair → Bool
own_at w at ps = owns w (slice_get ps at)
