-- Rewriting leaves of a book into free ones: the line writes, and when they make a turn.
use Rattle.std.specs.Prelude.{◌≡◌, ℕ, ◌+◌, ◌*◌, ◌/◌, ◌<◌, ◌≤◌, true, false, List, [], ◌∷◌, ◌++◌, length, Ok}
use Rattle.keys.specs.InWords.{WordKind, WordOrdered}
use Rattle.leaves.specs.declared.leaf.Pair.{Pair}
use Rattle.leaves.specs.Layout.{word, leaf_at, slot_at, count_of}
use Rattle.leaves.specs.Pairs.{pairs}
use Rattle.leaves.specs.Opening.{member, open_answer}
use Rattle.leaves.specs.Ascent.{Each, Ascending, all_pairs}
use Rattle.writes.specs.Writes.{Store, LineWrite, row, cost}
use Rattle.writes.specs.Laws.{change}
use Rattle.books.specs.Footprint.{book}
use Rattle.books.specs.Opens.{Distinct}
use Rattle.books.specs.Bounds.{Keys}
use Rattle.books.specs.Questions.{Belongs}
use Rattle.turns.specs.Turns.{Turns}
use Rattle.appends.specs.Append.{signed, words_of, all_applied}

-- A new leaf: its number and the pairs that it takes.
pub record Filling : Type 0 where
  pub leaf : ℕ
  pub content : List Pair

abbrev pub leaf_numbers : List Filling → List ℕ
leaf_numbers [] = []
leaf_numbers (f ∷ fs) = f.leaf ∷ leaf_numbers fs

-- The pairs of new leaves, one leaf after the other.
abbrev pub contents : List Filling → List Pair
contents [] = []
contents (f ∷ fs) = f.content ++ contents fs

-- A pair stands in a new leaf as one element of sign 1.
abbrev pub pair_words : Pair → List ℕ
pair_words p = words_of (signed p.key (1, p.reading))

-- Pairs into leaf k from an even slot on, two to a line.
abbrev pub pair_lines : ℕ → ℕ → List Pair → List LineWrite
pair_lines k s [] = []
pair_lines k s (p ∷ []) = row (slot_at k s) (pair_words p) ∷ []
pair_lines k s (p ∷ q ∷ ps) = row (slot_at k s) (pair_words p ++ pair_words q) ∷ pair_lines k (s + 2) ps

-- A leaf's pairs, and then its next, count and form.
abbrev pub leaf_lines : ℕ → Filling → List LineWrite
leaf_lines next f = pair_lines f.leaf 0 f.content ++ (row (leaf_at f.leaf) (next ∷ length f.content ∷ 0 ∷ []) ∷ [])

-- The first of some leaves, 0 for none.
abbrev pub first_leaf : List ℕ → ℕ
first_leaf [] = 0
first_leaf (k ∷ ks) = k

-- Each new leaf links the next one, and the last links the leaves after them.
abbrev pub leaves_lines : List Filling → List ℕ → List LineWrite
leaves_lines [] post = []
leaves_lines (f ∷ fs) post = leaf_lines (first_leaf (leaf_numbers fs ++ post)) f ++ leaves_lines fs post

-- The word that links what comes after some leaves, where word `at` links the first of them.
abbrev pub link_at : ℕ → List ℕ → ℕ
link_at at [] = at
link_at at (k ∷ ks) = link_at (leaf_at k) ks

-- The commit: the word that linked the old leaves links the new ones. Word 2 links the first leaf of all.
abbrev pub link_commit : List ℕ → List Filling → List ℕ → Store
link_commit pre fs post = record { at = link_at 2 pre; word = first_leaf (leaf_numbers fs ++ post) }

-- New leaves between those before and those after.
abbrev pub rewrite_lines : List ℕ → List Filling → List ℕ → List LineWrite
rewrite_lines pre fs post = change (leaves_lines fs post) (link_commit pre fs post)

-- P holds of each new leaf.
abbrev pub Fillings : (Filling → Type 0) → List Filling → Type 0
Fillings P [] = Unit {0}
Fillings P (f ∷ fs) = P f × Fillings P fs

-- A new leaf has some pairs, and no more than slots.
abbrev pub SomePairs : Filling → Type 0
SomePairs f = (0 < length f.content) × (length f.content ≤ 16)

-- New leaves, one at least, can come between some leaves and others: all were free until now, and one leaf stays free.
pub record Placed (m pre old post : List ℕ) (fs : List Filling) : Type 0 where
  pub some : 0 < length fs
  pub filled : Fillings SomePairs fs
  pub spare : length (pre ++ (leaf_numbers fs ++ post)) < word m 3
  pub within : Fillings (λ f. (1 ≤ f.leaf) × (f.leaf ≤ word m 3)) fs
  pub free : Fillings (λ f. member f.leaf (pre ++ (old ++ post)) ≡ false) fs
  pub distinct : Distinct (leaf_numbers fs)

-- New leaves can take the place of the old ones: their pairs ascend, after all keys of the leaves before and before all of those after.
pub record Replaces (o : WordKind) (m pre old post : List ℕ) (fs : List Filling) : Type 0 where
  pub opens : open_answer o m ≡ Ok (pre ++ (old ++ post))
  pub gone : 0 < length old
  pub placed : Placed m pre old post fs
  pub valid : Each (λ x. o.valid x ≡ true) (contents fs)
  pub ascends : Ascending o (contents fs)
  pub above : Each (λ x. Keys (λ y. o.before y x ≡ true) m pre) (contents fs)
  pub below : Each (λ x. Keys (λ y. o.before x y ≡ true) m post) (contents fs)

-- Such a replacement is a turn: the book has the pairs of the new leaves in place of those of the old ones.
abbrev pub Replacements : Type 0
Replacements =
    (o : WordKind) → WordOrdered o → (m pre old post : List ℕ) (fs : List Filling) → Replaces o m pre old post fs →
    Turns o m (leaves_lines fs post) (link_commit pre fs post) (pre ++ (leaf_numbers fs ++ post)) (all_pairs o m pre ++ (contents fs ++ all_pairs o m post))

-- Leaf k of a memory that opens is where key w belongs; new leaves take its pairs after the elements, and those of the leaves that merge with it.
pub record Rewritable (o : WordKind) (m pre : List ℕ) (k : ℕ) (more post : List ℕ) (w : ℕ × ℕ) (xs : List (ℕ × ℕ)) (fs : List Filling) : Type 0 where
  pub belongs : Belongs o m pre k (more ++ post) w
  pub valid : o.valid w ≡ true
  pub taken : contents fs ≡ all_applied o w xs (pairs o m k (count_of m k)) ++ all_pairs o m more
  pub placed : Placed m pre (k ∷ more) post fs

-- A rewrite turns the book into what the elements make of it: split, merge and replacement alike.
abbrev pub Rewritings : Type 0
Rewritings =
    (o : WordKind) → WordOrdered o → (m pre : List ℕ) (k : ℕ) (more post : List ℕ) (w : ℕ × ℕ) (xs : List (ℕ × ℕ)) (fs : List Filling) →
    Rewritable o m pre k more post w xs fs →
    Turns o m (leaves_lines fs post) (link_commit pre fs post) (pre ++ (leaf_numbers fs ++ post)) (all_applied o w xs (book o m))

-- A leaf of n pairs costs four steps for each, one for each line of two, and four for its first line.
abbrev pub leaf_steps : ℕ → ℕ
leaf_steps n = 4 * n + (n + 1) / 2 + 4

abbrev pub LeafCost : Type 0
LeafCost = (next : ℕ) (f : Filling) → cost (leaf_lines next f) ≡ leaf_steps (length f.content)

-- All leaves, and two steps for the link.
abbrev pub leaves_steps : List Filling → ℕ
leaves_steps [] = 0
leaves_steps (f ∷ fs) = leaf_steps (length f.content) + leaves_steps fs

abbrev pub RewriteCost : Type 0
RewriteCost = (pre : List ℕ) (fs : List Filling) (post : List ℕ) → cost (rewrite_lines pre fs post) ≡ leaves_steps fs + 2

-- No rewrite into one or two leaves with at most 17 pairs in all costs more than 87, and one into leaves of 8 and 9 pairs costs that.
pub record CostsFew : Type 0 where
  pub most : (pre : List ℕ) (fs : List Filling) (post : List ℕ) → length fs ≤ 2 → length (contents fs) ≤ 17 → cost (rewrite_lines pre fs post) ≤ 87
  pub reached : (pre : List ℕ) (f g : Filling) (post : List ℕ) → length f.content ≡ 8 → length g.content ≡ 9 → cost (rewrite_lines pre (f ∷ g ∷ []) post) ≡ 87
