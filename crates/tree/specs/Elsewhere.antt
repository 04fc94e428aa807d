-- Which words of the memory a put, change or remove leaves alone, whatever they hold.
use Rattle.std.specs.Prelude.{◌≡◌, ℕ, ◌<◌, List, Option}
use Rattle.keys.specs.InWords.{WordKind}
use Rattle.memory.specs.Meaning.{Words, size_of}
use Rattle.leaves.specs.Layout.{word}
use Rattle.plans.specs.declared.deed.Deed.{Deed}
use Rattle.plans.specs.Deeds.{key_of}
use Rattle.plans.specs.Plan.{site}
use Rattle.plans.specs.Reach.{InArea, Reached}
use Rattle.tree.specs.declared.logbook.State.{State}
use Rattle.tree.specs.declared.logbook.State.TheVariants.{Open}
use Rattle.tree.specs.Calls.{OfCalls}
use Rattle.tree.specs.Turning.{tree_of}

-- Word i stands live as it did, and firm too if it was settled: one that was not may be made firm by a flush of its line.
pub record Untouched (m after : Words) (i : ℕ) : Type 0 where
  pub live : word after.live i ≡ word m.live i
  pub firm : word m.live i ≡ word m.firm i → word after.firm i ≡ word m.firm i

-- A call of this logbook may store into word i.
abbrev pub MayReach : WordKind → List ℕ → State → Option ℕ → Deed → ℕ → Type 0
MayReach o m (Open x) last d i = Reached m (tree_of x last) (site o (tree_of x last) (key_of d)) i
MayReach o m _ last d i = ⊥

-- The link to the key's leaf, its count and free slots, and free leaves are all that a call stores into.
abbrev pub LeavesOthers : Type 0
LeavesOthers = OfCalls (λ o m s last d e. (i : ℕ) → i < size_of m → (MayReach o m.live s last d i → ⊥) → Untouched m e.memory i)

-- So words that are neither word 2 nor in a leaf may hold anything, and go on holding it.
abbrev pub LeavesOutside : Type 0
LeavesOutside = OfCalls (λ o m s last d e. (i : ℕ) → i < size_of m → (InArea (word m.live 3) i → ⊥) → Untouched m e.memory i)
