-- Whether a call's leaf has room for its elements, and when a rewrite of it lacks room.
use Rattle.std.specs.Prelude.{◌≡◌, ℕ, ◌+◌, ◌*◌, ◌<◌, Bool, true, false, cond, List, length, nat_le}
use Rattle.keys.specs.InWords.{WordKind}
use Rattle.leaves.specs.Layout.{word, count_of}
use Rattle.plans.specs.declared.decision.Decision.TheVariants.{Split}
use Rattle.plans.specs.declared.deed.Deed.{Deed}
use Rattle.plans.specs.Deeds.{key_of, call_of, elements_of, may_split, done}
use Rattle.plans.specs.Told.{Told, Choice, by_rule}
use Rattle.plans.specs.Plan.{Tree, site, pairs_of, told_at}

-- Each of two statements holds exactly when the other does.
abbrev pub ExactlyWhen : Type 0 → Type 0 → Type 0
ExactlyWhen A B = (A → B) × (B → A)

-- The leaf of a call's key has room for its elements.
abbrev pub fits : WordKind → List ℕ → Tree → Deed → Bool
fits o m t d = nat_le (count_of m (site o t (key_of d)).leaf + elements_of (call_of d)) 16

-- How many pairs this leaf will have after the call.
abbrev pub pairs_after : WordKind → List ℕ → Tree → Deed → ℕ
pairs_after o m t d = length (done o d (pairs_of o m (site o t (key_of d)).leaf))

-- What the choice how this leaf is rewritten is told.
abbrev pub told_of : WordKind → List ℕ → Tree → Deed → Told
told_of o m t d = told_at o m t (site o t (key_of d)) (call_of d) (pairs_after o m t d)

-- The choice for a call is a split.
abbrev pub Splits : Choice → WordKind → List ℕ → Tree → Deed → Type 0
Splits choose o m t d = (left : ℕ) × (choose (told_of o m t d) ≡ Split left)

-- By the rule it is one exactly where the call may split and its leaf will have more than 8 pairs.
abbrev pub RuleSplits : Type 0
RuleSplits =
    (o : WordKind) (m : List ℕ) (t : Tree) (d : Deed) →
    ExactlyWhen (Splits by_rule o m t d) ((may_split (call_of d) ≡ true) × (8 < pairs_after o m t d))

-- A call lacks room: its elements do not fit, the choice is a split, and fewer than two leaves are free.
pub record LacksRoom (choose : Choice) (o : WordKind) (m : List ℕ) (t : Tree) (d : Deed) : Type 0 where
  pub full : fits o m t d ≡ false
  pub splits : Splits choose o m t d
  pub few : word m 3 < length t.leaves + 2

-- So many steps suffice for a call: five for each element and two where they fit, else 87.
abbrev pub steps_enough : WordKind → List ℕ → Tree → Deed → ℕ
steps_enough o m t d = cond (fits o m t d) (5 * elements_of (call_of d) + 2) 87
