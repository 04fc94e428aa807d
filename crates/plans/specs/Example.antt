-- Calls one after the other on a small memory for stamps: a split, a replacement, a merge, and a split that lacks room;
-- and on plain numbers the rule of a rewrite and the order of free leaves.
use Rattle.std.specs.Prelude.{◌≡◌, ℕ, zero, suc, ◌+◌, List, [], ◌∷◌, ◌++◌, take, drop, replicate, Some, None, slice_index}
use Rattle.refusal.specs.declared.Refusal.TheVariants.{Present, Absent, NoRoom}
use Rattle.writes.specs.Writes.{finished}
use Rattle.writes.specs.Laws.{change}
use Rattle.rewrites.specs.Example.{zeros, stamps}
use Rattle.plans.specs.declared.decision.Decision.{Decision}
use Rattle.plans.specs.declared.decision.Decision.TheVariants.{Split, Merge, Replace}
use Rattle.plans.specs.declared.deed.Call.{Call}
use Rattle.plans.specs.declared.deed.Call.TheVariants as call
use Rattle.plans.specs.declared.deed.Deed.{Deed}
use Rattle.plans.specs.declared.deed.Deed.TheVariants.{Put, Change, Remove}
use Rattle.plans.specs.Free.{candidates, free_leaf}
use Rattle.plans.specs.Told.{by_rule}
use Rattle.plans.specs.Plan.{Tree, Plan, refuse, nothing, writes, next_leaf, plan}
use Rattle.plans.specs.Room.{LacksRoom, steps_enough}
use Rattle.plans.specs.Laws.{Sound}
use Rattle.plans.specs.Sorts.{steps_of}

-- A day of 2024 at millisecond 0.
abbrev pub day : ℕ → ℕ × ℕ
day d = (0, 1036288 + d)

-- Days from d on, n of them: put with the day as reading, changed to reading 0, and removed.
abbrev pub puts : ℕ → ℕ → List Deed
puts d zero = []
puts d (suc n) = Put (day d) d ∷ puts (suc d) n

abbrev pub changes : ℕ → ℕ → List Deed
changes d zero = []
changes d (suc n) = Change (day d) 0 ∷ changes (suc d) n

abbrev pub removes : ℕ → ℕ → List Deed
removes d zero = []
removes d (suc n) = Remove (day d) ∷ removes (suc d) n

-- The words, the tree, and the steps of each call so far.
pub record Played : Type 0 where
  pub words : List ℕ
  pub tree : Tree
  pub steps : List ℕ

abbrev pub one_more : Played → Plan → Played
one_more p (refuse e) = p
one_more p nothing = p
one_more p (writes before commit after) = record { words = finished p.words (change before commit); tree = after; steps = p.steps ++ (steps_of (writes before commit after) ∷ []) }

abbrev pub play : Played → List Deed → Played
play p [] = p
play p (d ∷ ds) = play (one_more p (plan stamps p.words p.tree d)) ds

-- A memory formatted with n leaves, of all those words and no more.
abbrev pub formatted : ℕ → ℕ → Played
formatted n rest = record { words = 30366 ∷ 1 ∷ 1 ∷ n ∷ zeros rest; tree = record { leaves = 1 ∷ []; bounds = []; last = None }; steps = [] }

-- Days 1 to 17 put into three leaves.
abbrev pub full : Played
full = play (formatted 3 220) (puts 1 17)

-- Days 1 to 16 put into two leaves: leaf 1 is full, and leaf 2 is free.
abbrev pub tight : Played
tight = play (formatted 2 148) (puts 1 16)

-- More calls after those, with their own steps.
abbrev pub afterwards : List Deed → Played
afterwards ds = play (record { words = full.words; tree = full.tree; steps = [] }) ds

-- Sixteen puts fill leaf 1 and the next one splits it: days 1 to 8 to leaf 2, days 9 to 17 to leaf 3.
pub record SplitRow : Type 0 where
  pub steps : full.steps ≡ replicate 16 7 ++ (87 ∷ [])
  pub tree : full.tree ≡ record { leaves = 2 ∷ 3 ∷ []; bounds = day 8 ∷ []; last = Some 3 }
  -- The head's link to leaf 2, and next, count and form of both leaves.
  pub head : slice_index full.words 2 ≡ 2
  pub left : take 3 (drop 80 full.words) ≡ 3 ∷ 8 ∷ 0 ∷ []
  pub right : take 3 (drop 152 full.words) ≡ 0 ∷ 9 ∷ 0 ∷ []

-- Four changes fill leaf 2 to 16, and the fifth replaces it: the next leaf counts more than 8.
pub record ReplaceRow : Type 0 where
  pub steps : (afterwards (changes 1 5)).steps ≡ replicate 4 12 ++ (42 ∷ [])
  pub tree : (afterwards (changes 1 5)).tree ≡ record { leaves = 1 ∷ 3 ∷ []; bounds = day 8 ∷ []; last = Some 1 }

-- Seven removes fill leaf 3 to 16, and the eighth replaces it by a leaf of one pair; then leaf 2, once full, merges with that.
pub record MergeRow : Type 0 where
  pub removed : (afterwards (removes 9 8)).tree ≡ record { leaves = 2 ∷ 1 ∷ []; bounds = day 8 ∷ []; last = Some 1 }
  pub steps : (afterwards (removes 9 8 ++ changes 1 5)).steps ≡ replicate 7 7 ++ (11 ∷ (replicate 4 12 ++ (47 ∷ [])))
  pub tree : (afterwards (removes 9 8 ++ changes 1 5)).tree ≡ record { leaves = 3 ∷ []; bounds = []; last = Some 3 }

-- Seven removes leave two pairs in leaf 3 and bring its count to 16: leaf 2, once full, is replaced and not merged with it.
pub record CountRow : Type 0 where
  pub next : next_leaf stamps (afterwards (removes 9 7)).words (3 ∷ []) ≡ Some (record { pairs = 2; count = 16 })
  pub tree : (afterwards (removes 9 7 ++ changes 1 5)).tree ≡ record { leaves = 1 ∷ 3 ∷ []; bounds = day 8 ∷ []; last = Some 1 }

-- An append leaves the leaf taken last as it was: none before the first rewrite, and leaf 3 after the split.
pub record AppendRow : Type 0 where
  pub none : tight.tree ≡ record { leaves = 1 ∷ []; bounds = []; last = None }
  pub steps : (afterwards (puts 18 1)).steps ≡ 7 ∷ []
  pub tree : (afterwards (puts 18 1)).tree ≡ record { leaves = 2 ∷ 3 ∷ []; bounds = day 8 ∷ []; last = Some 3 }

-- What the rule chooses for a call whose leaf will have so many pairs, where the next leaf has so many pairs and counts so many elements.
abbrev pub chosen : Call → ℕ → ℕ → ℕ → Decision
chosen c n ps count = by_rule (record { call = c; pairs = n; next = Some (record { pairs = ps; count = count }); free = 1 })

-- The rule at its limits.
pub record RuleRow : Type 0 where
  -- A next leaf that counts 10 is not merged with, though only 2 pairs of it stand.
  pub counts_ten : chosen call.Remove 1 2 10 ≡ Replace
  -- One that counts 9 is not either, though only 1 pair of it stands.
  pub counts_nine : chosen call.Change 8 1 9 ≡ Replace
  -- One that counts 8 is merged with, and all 8 pairs of it may stand.
  pub counts_eight : chosen call.Change 8 8 8 ≡ Merge
  -- With 9 pairs a put splits, however few the next leaf counts.
  pub put_of_nine : chosen call.Put 9 1 1 ≡ Split 4
  -- A remove never splits: with 9 pairs it replaces.
  pub remove_of_nine : chosen call.Remove 9 1 1 ≡ Replace

-- The order in which free leaves are looked for.
pub record FreeRow : Type 0 where
  -- Of 5 leaves where 3 was taken last: up from 4, then round from 1 up to 3 itself.
  pub round : candidates 5 (Some 3) ≡ 4 ∷ 5 ∷ 1 ∷ 2 ∷ 3 ∷ []
  -- Where leaf 5 itself was taken last: round from 1.
  pub past_all : candidates 5 (Some 5) ≡ 1 ∷ 2 ∷ 3 ∷ 4 ∷ 5 ∷ []
  -- Where none was taken: up from 1.
  pub none : candidates 5 None ≡ 1 ∷ 2 ∷ 3 ∷ 4 ∷ 5 ∷ []
  -- The first in this order that is not used is taken: 5 before 2.
  pub up : free_leaf 5 (4 ∷ 1 ∷ []) (Some 3) ≡ Some 5
  -- Where all up to 5 are used, the first free one from 1 on.
  pub around : free_leaf 5 (4 ∷ 5 ∷ 1 ∷ []) (Some 3) ≡ Some 2

-- The plan of a call after those played.
abbrev pub next_plan : Played → Deed → Plan
next_plan p d = plan stamps p.words p.tree d

pub record Example : Type 0 where
  -- What the laws of plans ask for can be met.
  pub sound : Sound stamps (formatted 3 220).words (formatted 3 220).tree
  pub split : SplitRow
  pub replace : ReplaceRow
  pub merge : MergeRow
  pub count : CountRow
  pub append : AppendRow
  pub rule : RuleRow
  pub free : FreeRow
  -- With two leaves the split has no room.
  pub crowded : next_plan tight (Put (day 17) 17) ≡ refuse NoRoom
  pub lacks : LacksRoom by_rule stamps tight.words tight.tree (Put (day 17) 17)
  -- Leaf 3 has room for a put and for a change; leaf 1, full, has not.
  pub put_steps : steps_enough stamps full.words full.tree (Put (day 18) 18) ≡ 7
  pub change_steps : steps_enough stamps full.words full.tree (Change (day 17) 0) ≡ 12
  pub rewrite_steps : steps_enough stamps tight.words tight.tree (Put (day 17) 17) ≡ 87
  -- A key that is there, one that is not, and the reading that is held.
  pub present : next_plan full (Put (day 1) 7) ≡ refuse Present
  pub absent : (next_plan full (Change (day 18) 7) ≡ refuse Absent) × (next_plan full (Remove (day 18)) ≡ refuse Absent)
  pub held : next_plan full (Change (day 1) 1) ≡ nothing
