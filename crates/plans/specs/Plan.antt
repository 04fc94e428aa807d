-- What a put, change or remove writes by the rules, in words that open.
use Rattle.std.specs.Prelude.{ℕ, suc, ◌+◌, ◌-◌, Bool, false, cond, List, [], ◌∷◌, ◌++◌, length, take, drop, Some, None, Option, ◌==◌, nat_le, nat_lt, slice_index}
use Rattle.std.specs.Option.{unwrap_or}
use Rattle.refusal.specs.declared.Refusal.{Refusal}
use Rattle.refusal.specs.declared.Refusal.TheVariants.{Present, Absent, NoRoom}
use Rattle.keys.specs.InWords.{WordKind}
use Rattle.leaves.specs.declared.leaf.Pair.{Pair}
use Rattle.leaves.specs.Layout.{word, count_of}
use Rattle.leaves.specs.Pairs.{lookup, pairs}
use Rattle.leaves.specs.Ascent.{all_pairs}
use Rattle.writes.specs.Writes.{Store, LineWrite}
use Rattle.books.specs.Bounds.{locate}
use Rattle.appends.specs.Append.{slot_lines, raised, all_applied}
use Rattle.appends.specs.Calls.{put_elements, change_elements, remove_elements}
use Rattle.rewrites.specs.Rewrite.{Filling, leaf_numbers, leaves_lines, link_commit}
use Rattle.rewrites.specs.Bounds.{bounds_after}
use Rattle.plans.specs.declared.deed.Call.{Call}
use Rattle.plans.specs.declared.deed.Deed.{Deed}
use Rattle.plans.specs.declared.deed.Deed.TheVariants.{Put, Change, Remove}
use Rattle.plans.specs.declared.decision.Decision.{Decision}
use Rattle.plans.specs.declared.decision.Decision.TheVariants.{Split, Merge, Replace}
use Rattle.plans.specs.Deeds.{key_of, call_of}
use Rattle.plans.specs.Free.{free_leaf}
use Rattle.plans.specs.Told.{NextLeaf, Told, Choice, by_rule}

-- What an open logbook keeps beside the memory: the linked leaves, the bounds between them, and the leaf taken last.
pub record Tree : Type 0 where
  pub leaves : List ℕ
  pub bounds : List (ℕ × ℕ)
  pub last : Option ℕ

-- Where a key belongs: the leaves before, its leaf, the leaves after.
pub record Site : Type 0 where
  pub before : List ℕ
  pub leaf : ℕ
  pub after : List ℕ

abbrev pub site_at : ℕ → List ℕ → Site
site_at i ks = record { before = take i ks; leaf = slice_index ks i; after = drop (suc i) ks }

abbrev pub site : WordKind → Tree → ℕ × ℕ → Site
site o t w = site_at (locate o w t.bounds) t.leaves

-- The pairs of a leaf.
abbrev pub pairs_of : WordKind → List ℕ → ℕ → List Pair
pairs_of o m k = pairs o m k (count_of m k)

-- What a call comes to by what is held of its key: its own refusal, nothing, or elements for the key's leaf.
pub data Wish : Type 0 where
  declined : Refusal → Wish
  granted : Wish
  elements : List (ℕ × ℕ) → Wish

abbrev pub wish : Deed → Option ℕ → Wish
wish (Put w r) None = elements (put_elements r)
wish (Put w r) (Some old) = declined Present
wish (Change w r) None = declined Absent
wish (Change w r) (Some old) = cond (old == r) granted (elements (change_elements old r))
wish (Remove w) None = declined Absent
wish (Remove w) (Some old) = elements (remove_elements old)

-- How many of the leaves after a call's leaf merge with it.
abbrev pub merging : Decision → ℕ
merging (Split left) = 0
merging Merge = 1
merging Replace = 0

-- The number of the free leaf that is taken next, of n leaves where these are used; 0 where none is free.
abbrev pub taken : ℕ → List ℕ → Option ℕ → ℕ
taken n used last = unwrap_or (free_leaf n used last) 0

-- Two new leaves, so many of the smallest pairs in the left one.
abbrev pub halves : ℕ → ℕ → ℕ → List Pair → List Filling
halves left one two ps = record { leaf = one; content = take left ps } ∷ record { leaf = two; content = drop left ps } ∷ []

-- The new leaves of all these pairs, of n leaves where these are used; the right one of a split is taken after the left one.
abbrev pub fillings : Decision → ℕ → List ℕ → Option ℕ → List Pair → List Filling
fillings (Split left) n used last ps = halves left (taken n used last) (taken n (taken n used last ∷ used) (Some (taken n used last))) ps
fillings Merge n used last ps = record { leaf = taken n used last; content = ps } ∷ []
fillings Replace n used last ps = record { leaf = taken n used last; content = ps } ∷ []

-- The new leaf that was taken last.
abbrev pub last_of : List Filling → Option ℕ
last_of [] = None
last_of (f ∷ []) = Some f.leaf
last_of (f ∷ g ∷ fs) = last_of (g ∷ fs)

-- A split needs two free leaves.
abbrev pub crowded : Decision → ℕ → ℕ → Bool
crowded (Split left) n used = nat_lt n (used + 2)
crowded Merge n used = false
crowded Replace n used = false

-- A call by the rules: refused, granted with nothing to do, or line writes, the commit and the logbook after.
pub data Plan : Type 0 where
  refuse : Refusal → Plan
  nothing : Plan
  writes : List LineWrite → Store → Tree → Plan

-- Elements of key w appended to leaf k; leaves, bounds and the leaf taken last stay.
abbrev pub appending : List ℕ → Tree → ℕ → ℕ × ℕ → List (ℕ × ℕ) → Plan
appending m t k w xs = writes (slot_lines k (count_of m k) w xs) (raised k (count_of m k) xs) t

-- New leaves in the place of a call's leaf and of so many after it.
abbrev pub rewriting : Tree → Site → List Filling → List ℕ → List ℕ → Plan
rewriting t s fs more rest = writes (leaves_lines fs rest) (link_commit s.before fs rest) (record {
  leaves = s.before ++ (leaf_numbers fs ++ rest);
  bounds = bounds_after (length s.before) (length more) fs t.bounds;
  last = last_of fs;
})

-- A rewrite into leaves of these pairs and of those that merge, by a decision.
abbrev pub rewritten : WordKind → List ℕ → Tree → Site → List Pair → Decision → Plan
rewritten o m t s ps d =
    cond (crowded d (word m 3) (length t.leaves)) (refuse NoRoom)
    (rewriting t s (fillings d (word m 3) t.leaves t.last (ps ++ all_pairs o m (take (merging d) s.after))) (take (merging d) s.after) (drop (merging d) s.after))

-- What a decision is told of the leaves after.
abbrev pub next_leaf : WordKind → List ℕ → List ℕ → Option NextLeaf
next_leaf o m [] = None
next_leaf o m (k ∷ ks) = Some (record { pairs = length (pairs_of o m k); count = count_of m k })

-- What a decision is told of a call at a place, whose leaf will have so many pairs.
abbrev pub told_at : WordKind → List ℕ → Tree → Site → Call → ℕ → Told
told_at o m t s c n = record { call = c; pairs = n; next = next_leaf o m s.after; free = word m 3 - length t.leaves }

-- An append where the elements fit, else a rewrite as it is chosen.
abbrev pub written : Choice → WordKind → List ℕ → Tree → Site → Deed → List (ℕ × ℕ) → List Pair → Plan
written choose o m t s d xs ps =
    cond (nat_le (count_of m s.leaf + length xs) 16)
    (appending m t s.leaf (key_of d) xs)
    (rewritten o m t s ps (choose (told_at o m t s (call_of d) (length ps))))

abbrev pub carried : Choice → WordKind → List ℕ → Tree → Site → Deed → Wish → Plan
carried choose o m t s d (declined e) = refuse e
carried choose o m t s d granted = nothing
carried choose o m t s d (elements xs) = written choose o m t s d xs (all_applied o (key_of d) xs (pairs_of o m s.leaf))

abbrev pub plan_at : Choice → WordKind → List ℕ → Tree → Site → Deed → Plan
plan_at choose o m t s d = carried choose o m t s d (wish d (lookup (key_of d) (pairs_of o m s.leaf)))

-- The plan of a call, for any choice how a leaf is rewritten, and by the rule.
abbrev pub plan_by : Choice → WordKind → List ℕ → Tree → Deed → Plan
plan_by choose o m t d = plan_at choose o m t (site o t (key_of d)) d

abbrev pub plan : WordKind → List ℕ → Tree → Deed → Plan
plan = plan_by by_rule
