-- Pairs of key and reading, ascending by key, and the pairs that a leaf's elements come to; a key is its two words.
use Rattle.std.specs.Prelude.{ℕ, zero, suc, Bool, cond, not, ◌&&◌, List, [], ◌∷◌, reverse, Some, None, Option, option_and_then, ◌==◌}
use Rattle.std.specs.List.{filter, find, fold}
use Rattle.keys.specs.InWords.{WordKind}
use Rattle.leaves.specs.declared.leaf.Element.{Element}
use Rattle.leaves.specs.declared.leaf.Pair.{Pair}
use Rattle.leaves.specs.Layout.{element}

-- The same two words.
abbrev pub equal : ℕ × ℕ → ℕ × ℕ → Bool
equal a b = a.0 == b.0 && a.1 == b.1

-- The reading of a key in some pairs, or none.
abbrev pub lookup : ℕ × ℕ → List Pair → Option ℕ
lookup w [] = None
lookup w (p ∷ ps) = cond (equal p.key w) (Some p.reading) (lookup w ps)

-- Pairs that ascend with one more in its place; it replaces the pair of the same key.
abbrev pub insert : WordKind → Pair → List Pair → List Pair
insert o q [] = q ∷ []
insert o q (p ∷ ps) =
    cond (o.before p.key q.key) (p ∷ insert o q ps) (q ∷ cond (o.before q.key p.key) (p ∷ ps) ps)

-- The pairs without those of a key.
abbrev pub delete : ℕ × ℕ → List Pair → List Pair
delete w ps = filter (λ p. not (equal p.key w)) ps

-- What an element says of its key.
abbrev pub held : Element → Option ℕ
held e = cond (e.sign == 1) (Some e.reading) None

-- One element more: sign 1 puts its pair, any other takes the key's pair out.
abbrev pub applied : WordKind → Element → List Pair → List Pair
applied o e ps = cond (e.sign == 1) (insert o (record { key = e.key; reading = e.reading }) ps) (delete e.key ps)

-- The pairs of the n oldest elements of leaf k.
abbrev pub pairs : WordKind → List ℕ → ℕ → ℕ → List Pair
pairs o m k zero = []
pairs o m k (suc n) = applied o (element m k n) (pairs o m k n)

-- The pair of the smallest key after the given one, of pairs that ascend.
abbrev pub first_after : WordKind → ℕ × ℕ → List Pair → Option Pair
first_after o w ps = find (λ p. o.before w p.key) ps

-- The pairs that elements come to after some pairs, the oldest element first.
abbrev pub folded : WordKind → List Pair → List Element → List Pair
folded o ps es = fold (λ qs e. applied o e qs) ps es

-- What the newest of a key's elements says of it.
abbrev pub latest : ℕ × ℕ → List Element → Option ℕ
latest w es = option_and_then held (find (λ e. equal e.key w) (reverse es))
