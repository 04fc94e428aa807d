-- What plans are worth, for every lawful choice how leaves are rewritten.
use Rattle.std.specs.Prelude.{◌≡◌, ℕ, ◌<◌, ◌≤◌, true, ◌⊎◌, List, length, Some, Ok}
use Rattle.std.specs.List.{AllPairs}
use Rattle.refusal.specs.declared.Refusal.TheVariants.{NoRoom}
use Rattle.keys.specs.InWords.{WordKind, WordOrdered}
use Rattle.leaves.specs.Layout.{word}
use Rattle.leaves.specs.Opening.{open_answer}
use Rattle.leaves.specs.Pairs.{lookup}
use Rattle.writes.specs.Writes.{Store, LineWrite, cost, finished}
use Rattle.writes.specs.Laws.{change, New}
use Rattle.books.specs.Bounds.{Bounded}
use Rattle.books.specs.Footprint.{book}
use Rattle.turns.specs.Turns.{Turns}
use Rattle.plans.specs.declared.deed.Deed.{Deed}
use Rattle.plans.specs.declared.deed.Deed.TheVariants.{Remove}
use Rattle.plans.specs.Deeds.{key_of, call_of, may_split, done, Declines, BringsHeld, Goes}
use Rattle.plans.specs.Told.{Choice, Lawful}
use Rattle.plans.specs.Plan.{Tree, Plan, refuse, nothing, writes, plan_by}
use Rattle.plans.specs.Room.{LacksRoom, steps_enough}

-- The words open to the tree's leaves, and its bounds part their keys.
pub record Sound (o : WordKind) (m : List ℕ) (t : Tree) : Type 0 where
  pub opens : open_answer o m ≡ Ok t.leaves
  pub bounded : Bounded o m t.leaves t.bounds

-- What a plan writes turns the book into the one with the call done; the tree after fits it, one leaf stays free, and it takes few steps.
pub record Fulfils (o : WordKind) (m : List ℕ) (t : Tree) (d : Deed) (before : List LineWrite) (commit : Store) (after : Tree) : Type 0 where
  pub turns : Turns o m before commit after.leaves (done o d (book o m))
  pub sound : Sound o (finished m (change before commit)) after
  pub spare : length after.leaves < word m 3
  pub few : cost (change before commit) ≤ steps_enough o m t d

-- A plan refuses as the call must be refused, or where there is something to do and no room, which only a call that may split can lack;
-- or there is nothing to do; or there is something to do and room, and it writes the call.
abbrev pub Holds : Choice → WordKind → List ℕ → Tree → Deed → Plan → Type 0
Holds choose o m t d (refuse e) =
    Declines d (lookup (key_of d) (book o m)) e
    ⊎ ((e ≡ NoRoom) × Goes d (lookup (key_of d) (book o m)) × LacksRoom choose o m t d × (may_split (call_of d) ≡ true))
Holds choose o m t d nothing = BringsHeld d (lookup (key_of d) (book o m))
Holds choose o m t d (writes before commit after) =
    Goes d (lookup (key_of d) (book o m)) × (LacksRoom choose o m t d → ⊥) × Fulfils o m t d before commit after

abbrev pub PlansHold : Type 0
PlansHold =
    (choose : Choice) → Lawful choose → (o : WordKind) → WordOrdered o → (m : List ℕ) (t : Tree) (d : Deed) →
    Sound o m t → o.valid (key_of d) ≡ true → Holds choose o m t d (plan_by choose o m t d)

-- A key that is there can always be removed, as far as the plan goes.
abbrev pub RemovesGo : Type 0
RemovesGo =
    (choose : Choice) → Lawful choose → (o : WordKind) → WordOrdered o → (m : List ℕ) (t : Tree) (w : ℕ × ℕ) (old : ℕ) →
    Sound o m t → o.valid w ≡ true → lookup w (book o m) ≡ Some old →
    (before : List LineWrite) × (commit : Store) × (after : Tree) × (plan_by choose o m t (Remove w) ≡ writes before commit after)

-- The commit brings a word that does not stand there yet.
abbrev pub CommitsChange : Type 0
CommitsChange =
    (choose : Choice) → Lawful choose → (o : WordKind) → WordOrdered o → (m : List ℕ) (t : Tree) (d : Deed) (before : List LineWrite) (commit : Store) (after : Tree) →
    Sound o m t → o.valid (key_of d) ≡ true → plan_by choose o m t d ≡ writes before commit after → New commit m → ⊥

-- The bounds of a sound tree rise: each is before all later ones.
abbrev pub BoundsRise : Type 0
BoundsRise = (o : WordKind) → WordOrdered o → (m : List ℕ) (t : Tree) → Sound o m t → AllPairs (λ b c. o.before b c ≡ true) t.bounds
