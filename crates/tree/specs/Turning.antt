-- What a put, change or remove answers and leaves, from its plan.
use Rattle.std.specs.Prelude.{◌≡◌, ℕ, ◌+◌, ◌-◌, ◌*◌, ◌^◌, ◌<◌, ◌≤◌, Bool, true, cond, ◌&&◌, nat_le, List, [], ◌∷◌, length, None, Some, Ok, Err, Option, Result, ◌==◌, slice_index, slice_index_or}
use Rattle.std.specs.Option.{unwrap_or}
use Rattle.fixed_vec.specs.declared.FixedVec.{FixedVec}
use Rattle.fixed_vec.specs.Items.{items}
use Rattle.refusal.specs.declared.Refusal.{Refusal}
use Rattle.refusal.specs.declared.Refusal.TheVariants.{NoPower, Outside, Blank as NotOpened}
use Rattle.keys.specs.InWords.{WordKind}
use Rattle.memory.specs.Meaning.{Words, size_of}
use Rattle.writes.specs.Writes.{Answer, perform}
use Rattle.writes.specs.Laws.{change}
use Rattle.leaves.specs.declared.leaf.Pair.{Pair}
use Rattle.leaves.specs.Asking.{count_answer}
use Rattle.leaves.specs.Layout.{leaf_at, word}
use Rattle.books.specs.Bounds.{locate}
use Rattle.plans.specs.declared.deed.Deed.{Deed}
use Rattle.plans.specs.declared.deed.Call.{Call}
use Rattle.plans.specs.declared.decision.Decision.{Decision}
use Rattle.plans.specs.Deeds.{key_of}
use Rattle.plans.specs.Told.{by_rule}
use Rattle.plans.specs.Plan.{Plan, Tree, Wish, declined, elements, granted, nothing, pairs_of, plan, refuse, rewritten, site, taken, told_at, writes}
use Rattle.index.specs.declared.node.Entry.{Entry}
use Rattle.index.specs.declared.table.Index.{Index}
use Rattle.index.specs.declared.table.Place.{Place}
use Rattle.index.specs.Meaning.{grouped, listed, merged, merges, replaced, split, splits}
use Rattle.index.specs.Nodes.{bounds, numbers}
use Rattle.index.specs.Places.{place_at, place_before, within}
use Rattle.index.specs.Search.{concat, front}
use Rattle.tree.specs.declared.logbook.carry.Halt.{Halt}
use Rattle.tree.specs.declared.logbook.place.Home.{Home}
use Rattle.tree.specs.declared.logbook.adopt.Regroup.{Regroup}
use Rattle.tree.specs.declared.logbook.adopt.Regroup.TheVariants.{Split, Merge, Replace}
use Rattle.tree.specs.declared.logbook.rewrite.New.{New}
use Rattle.tree.specs.declared.logbook.turn.Done.{Done}
use Rattle.tree.specs.declared.logbook.turn.Removed.{Removed}
use Rattle.tree.specs.declared.logbook.State.{State}
use Rattle.tree.specs.declared.logbook.State.TheVariants.{Blank, Open, Dark}
use Rattle.tree.specs.Halting.{halted}
use Rattle.tree.specs.Shape.{Shape, blank, dark, groups}
use Rattle.tree.specs.Sound.{Fits}
use Rattle.tree.specs.Walk.{HomeIn, leaf_of}

-- An open logbook as plans speak of it: its leaves, the bounds between them, and the leaf taken last.
abbrev pub tree_of : Index → Option ℕ → Tree
tree_of x taken = record { leaves = numbers (listed x); bounds = front (bounds (listed x)); last = taken }

-- The place of leaf number n.
abbrev pub place_of : List (List Entry) → ℕ → Place
place_of gs n = unwrap_or (place_at gs n) (record { group = 0; slot = 0 })

-- The groups after a change at leaf number n: one leaf more is a split, one less a merge, another leaf a replacement.
abbrev pub regrouped : List (List Entry) → ℕ → Tree → List (List Entry)
regrouped gs n t =
    cond (length t.leaves == length (concat gs) + 1)
    (split gs (place_of gs n) (slice_index t.leaves n) (slice_index_or t.bounds n (0, 0)) (slice_index t.leaves (n + 1)))
    (cond (length t.leaves + 1 == length (concat gs)) (merged gs (place_of gs n) (slice_index t.leaves n))
    (cond (slice_index t.leaves n == slice_index (numbers (concat gs)) n) gs (replaced gs (place_of gs n) (slice_index t.leaves n))))

-- How a call ends: its steps or its refusal, the memory, and the logbook's shape and leaf taken last.
pub record Ending : Type 0 where
  pub answer : Result ℕ Halt
  pub memory : Words
  pub shape : Shape
  pub taken : Option ℕ

abbrev pub ending : Result ℕ Halt → Words → Shape → Option ℕ → Ending
ending answer m shape taken = record { answer = answer; memory = m; shape = shape; taken = taken }

-- A call that wrote: granted whole, or broken off and dark.
abbrev pub wrote : Words → ℕ → Answer → Shape → Option ℕ → Option ℕ → Ending
wrote after steps (Ok _) shape old new = ending (Ok steps) after shape new
wrote after steps (Err e) shape old new = ending (Err (halted e steps)) after dark old

-- A call of an open logbook by its plan, where its key belongs to leaf number n.
abbrev pub by_plan : ℕ → Words → Index → Option ℕ → Plan → Ending
by_plan n m x taken (refuse e) = ending (Err (halted e 0)) m (groups (grouped x)) taken
by_plan n m x taken nothing = ending (Ok 0) m (groups (grouped x)) taken
by_plan n m x taken (writes before commit t) =
    wrote (perform m (change before commit)).after (perform m (change before commit)).steps (perform m (change before commit)).ended (groups (regrouped (grouped x) n t)) taken t.last

-- The number of the leaf that a key belongs to.
abbrev pub number_for : WordKind → Index → ℕ × ℕ → ℕ
number_for o x w = locate o w (front (bounds (listed x)))

-- A blank logbook refuses, and a dark one, without a step.
abbrev pub call_ending : WordKind → Words → State → Option ℕ → Deed → Ending
call_ending o m Blank taken d = ending (Err (halted NotOpened 0)) m blank taken
call_ending o m (Open x) taken d = by_plan (number_for o x (key_of d)) m x taken (plan o m.live (tree_of x taken) d)
call_ending o m Dark taken d = ending (Err (halted NoPower 0)) m dark taken

-- What a call comes to, told by its changes: none where there is nothing to do.
abbrev pub changed : List (ℕ × ℕ) → Wish
changed [] = granted
changed (x ∷ xs) = elements (x ∷ xs)

abbrev pub wished : Result (FixedVec (ℕ × ℕ) 2) Refusal → Wish
wished (Ok xs) = changed (items xs)
wished (Err e) = declined e

-- A call at work in a sound open logbook, and where its key belongs.
pub record Working (o : WordKind) (m : List ℕ) (x : Index) (w : ℕ × ℕ) (h : Home) : Type 0 where
  pub fits : Fits o m (listed x)
  pub home : HomeIn o (Open x) w h

-- What a rewrite by a decision comes to, with these pairs after the call.
abbrev pub decided_ending : WordKind → Words → Index → Option ℕ → ℕ × ℕ → List Pair → Decision → Ending
decided_ending o m x taken w ps d = by_plan (number_for o x w) m x taken (rewritten o m.live (tree_of x taken) (site o (tree_of x taken) w) ps d)

-- What a rewrite by the rule comes to.
abbrev pub rewrite_ending : WordKind → Words → Index → Option ℕ → ℕ × ℕ → Call → List Pair → Ending
rewrite_ending o m x taken w c ps =
    decided_ending o m x taken w ps
    (by_rule (told_at o m.live (tree_of x taken) (site o (tree_of x taken) w) c (length ps)))

-- A call's ending, as its answer tells it.
abbrev pub told : Result Done Halt → Result ℕ Halt
told (Ok d) = Ok d.steps
told (Err h) = Err h

-- A remove ends as a call does, and tells the reading that it took out.
abbrev pub removal : Option ℕ → Result ℕ Halt → Result Removed Halt
removal held (Ok n) = Ok (record { reading = unwrap_or held 0; steps = n })
removal held (Err h) = Err h

pub record RemovalEnds (m : Words) (shape : Shape) (taken : Option ℕ) (answer : Result Removed Halt) (held : Option ℕ) (e : Ending) : Type 0 where
  pub told : answer ≡ removal held e.answer
  pub memory : m ≡ e.memory
  pub state : shape ≡ e.shape
  pub last : taken ≡ e.taken

-- What a rewrite does to the groups of leaves, and which new leaf it took last.
abbrev pub regroup_to : List (List Entry) → Place → Regroup → List (List Entry)
regroup_to gs p (Split left right) = cond (splits gs p) (split gs p left.to left.bound right) gs
regroup_to gs p (Merge leaf) = cond (merges gs p) (merged gs p leaf) gs
regroup_to gs p (Replace leaf) = cond (within gs p) (replaced gs p leaf) gs

abbrev pub last_taken : Regroup → ℕ
last_taken (Split left right) = right
last_taken (Merge leaf) = leaf
last_taken (Replace leaf) = leaf

-- The word that links a leaf: word 2 the first, and the first word of a leaf the next one.
abbrev pub Links : Option ℕ → ℕ → Type 0
Links None at = at ≡ 2
Links (Some k) at = k ≤ 64 → at ≡ leaf_at k

-- There is a next leaf, and its pairs fit beside so many in one leaf.
abbrev pub MergesWith : WordKind → List ℕ → Option ℕ → ℕ → Type 0
MergesWith o m None n = ⊥
MergesWith o m (Some k) n = n + length (pairs_of o m k) ≤ 16

-- A new leaf is taken in the place of one: how many leaves there are and are linked, the free one that comes next, and the word that will link it.
pub record Taking (m : List ℕ) (x : Index) (last : Option ℕ) (p : Place) (new : New) : Type 0 where
  pub leaves : new.leaves ≡ word m 3
  pub linked : new.linked ≡ length (numbers (listed x))
  pub leaf : new.leaf ≡ taken (word m 3) (numbers (listed x)) last
  pub at : Links (leaf_of (grouped x) (place_before (grouped x) p)) new.at

-- A memory of so many words has a leaf of this number.
abbrev pub has_leaf : ℕ → ℕ → Bool
has_leaf size k = nat_le 1 k && nat_le k 64 && nat_le (8 + 72 * k) size

-- The leaf to take, if the memory has it.
abbrev pub leaf_in : ℕ → ℕ → Result ℕ Refusal
leaf_in size k = cond (has_leaf size k) (Ok k) (Err Outside)

-- A new leaf can be taken in the place of one: the memory has the free one that comes next, and the word that will link it.
pub record Takes (m : Words) (x : Index) (last : Option ℕ) (p : Place) : Type 0 where
  pub told : 4 ≤ size_of m
  pub leaf : has_leaf (size_of m) (taken (word m.live 3) (numbers (listed x)) last) ≡ true
  pub link : (at : ℕ) → Links (leaf_of (grouped x) (place_before (grouped x) p)) at → at < size_of m

-- The memory has a new leaf, and the word that will link it.
pub record HasNew (size : ℕ) (new : New) : Type 0 where
  pub leaf : has_leaf size new.leaf ≡ true
  pub link : new.at < size
  pub small : new.at + 1 < 2 ^ 64

-- The count of the next leaf, if there is one.
abbrev pub some_of : Result ℕ Refusal → Result (Option ℕ) Refusal
some_of (Ok n) = Ok (Some n)
some_of (Err e) = Err e

abbrev pub count_next : List ℕ → Option ℕ → Result (Option ℕ) Refusal
count_next m None = Ok None
count_next m (Some k) = some_of (count_answer m k)
