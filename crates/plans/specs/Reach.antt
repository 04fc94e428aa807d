-- Which words a plan may store into. All others it leaves alone, whatever they hold.
use Rattle.std.specs.Prelude.{◌≡◌, ℕ, ◌+◌, ◌<◌, ◌≤◌, true, false, ◌⊎◌, List}
use Rattle.keys.specs.InWords.{WordKind, WordOrdered}
use Rattle.leaves.specs.Layout.{word, leaf_at, slot_at, count_of}
use Rattle.leaves.specs.Opening.{member}
use Rattle.writes.specs.Writes.{Store, LineWrite, Spares}
use Rattle.writes.specs.Laws.{change}
use Rattle.rewrites.specs.Rewrite.{link_at}
use Rattle.plans.specs.declared.deed.Deed.{Deed}
use Rattle.plans.specs.Deeds.{key_of}
use Rattle.plans.specs.Told.{Choice, Lawful}
use Rattle.plans.specs.Plan.{Tree, Site, site, writes, plan_by}
use Rattle.plans.specs.Laws.{Sound}

-- Word i is one of leaf k.
abbrev pub OfLeaf : ℕ → ℕ → Type 0
OfLeaf k i = (leaf_at k ≤ i) × (i < leaf_at k + 72)

-- Word i is in a slot of leaf k that is not counted.
abbrev pub InFreeSlot : List ℕ → ℕ → ℕ → Type 0
InFreeSlot m k i = (slot_at k (count_of m k) ≤ i) × (i < slot_at k 16)

-- Word i is one of a leaf that is not linked.
pub record OfFreeLeaf (m : List ℕ) (t : Tree) (i : ℕ) : Type 0 where
  pub leaf : ℕ
  pub least : 1 ≤ leaf
  pub most : leaf ≤ word m 3
  pub free : member leaf t.leaves ≡ false
  pub within : OfLeaf leaf i

-- A call whose key belongs to this site may store into word i: the word that links its leaf, which is word 2 or the next of the leaf before; the
-- count and the free slots of its leaf; and all of a free leaf.
abbrev pub Reached : List ℕ → Tree → Site → ℕ → Type 0
Reached m t s i = (i ≡ link_at 2 s.before) ⊎ ((i ≡ leaf_at s.leaf + 1) ⊎ (InFreeSlot m s.leaf i ⊎ OfFreeLeaf m t i))

-- What a plan writes goes nowhere else.
abbrev pub ReachesFew : Type 0
ReachesFew =
    (choose : Choice) → Lawful choose → (o : WordKind) → WordOrdered o → (m : List ℕ) (t : Tree) (d : Deed) (before : List LineWrite) (commit : Store) (after : Tree) →
    Sound o m t → o.valid (key_of d) ≡ true → plan_by choose o m t d ≡ writes before commit after →
    (i : ℕ) → (Reached m t (site o t (key_of d)) i → ⊥) → Spares i (change before commit)

-- Word i is word 2, or one of the n leaves.
abbrev pub InArea : ℕ → ℕ → Type 0
InArea n i = (i ≡ 2) ⊎ ((k : ℕ) × (1 ≤ k) × (k ≤ n) × OfLeaf k i)

-- So a plan never stores into the rest of the head, nor past the last leaf.
abbrev pub ReachesInArea : Type 0
ReachesInArea =
    (o : WordKind) → WordOrdered o → (m : List ℕ) (t : Tree) (w : ℕ × ℕ) (i : ℕ) → Sound o m t →
    Reached m t (site o t w) i → InArea (word m 3) i
