-- The plain book: what the finished calls come to, and the call that waits for a cut to decide it. It knows nothing of leaves, words or steps.
use Rattle.std.specs.Prelude.{ℕ, Bool, cond, not, ◌&&◌, List, [], ◌∷◌, length, Some, None, Option, ◌==◌}
use Rattle.std.specs.List.{filter, find as first}
use Rattle.refusal.specs.declared.Refusal.{Refusal}
use Rattle.refusal.specs.declared.Refusal.TheVariants.{Absent}
use Rattle.keys.specs.InWords.{WordKind}
use Rattle.leaves.specs.declared.leaf.Pair.{Pair}
use Rattle.plans.specs.declared.deed.Deed.{Deed}
use Rattle.plans.specs.declared.deed.Deed.TheVariants.{Put, Change, Remove}

-- Two keys of the same two words.
abbrev pub same_key : ℕ × ℕ → ℕ × ℕ → Bool
same_key a b = a.0 == b.0 && a.1 == b.1

-- The pairs with one more, in the order of their keys.
abbrev pub with_pair : WordKind → Pair → List Pair → List Pair
with_pair o q [] = q ∷ []
with_pair o q (p ∷ ps) = cond (o.before q.key p.key) (q ∷ p ∷ ps) (p ∷ with_pair o q ps)

-- The pairs but that of a key.
abbrev pub without : ℕ × ℕ → List Pair → List Pair
without w ps = filter (λ p. not (same_key p.key w)) ps

-- The pairs with a call done: a pair added, given another reading, taken out.
abbrev pub with_call : WordKind → Deed → List Pair → List Pair
with_call o (Put w r) ps = with_pair o (record { key = w; reading = r }) ps
with_call o (Change w r) ps = with_pair o (record { key = w; reading = r }) (without w ps)
with_call o (Remove w) ps = without w ps

-- The reading of a key, if it is there.
abbrev pub reading_of : ℕ × ℕ → List Pair → Option ℕ
reading_of w [] = None
reading_of w (p ∷ ps) = cond (same_key p.key w) (Some p.reading) (reading_of w ps)

-- The reading of a key is asked for, the first pair after a key, or the number of pairs.
pub data Question : Type 0 where
  find : ℕ × ℕ → Question
  next : ℕ × ℕ → Question
  pairs : Question

-- That, or a refusal.
pub data Reply : Type 0 where
  reading : ℕ → Reply
  pair : Pair → Reply
  number : ℕ → Reply
  refused : Refusal → Reply

-- What there is, or that it is absent.
abbrev pub reading_or : Option ℕ → Reply
reading_or (Some r) = reading r
reading_or None = refused Absent

abbrev pub pair_or : Option Pair → Reply
pair_or (Some p) = pair p
pair_or None = refused Absent

-- What the pairs tell.
abbrev pub tells : WordKind → Question → List Pair → Reply
tells o (find w) ps = reading_or (reading_of w ps)
tells o (next w) ps = pair_or (first (λ p. o.before w p.key) ps)
tells o pairs ps = number (length ps)

-- How a call ended: granted; refused for power by the memory, after its own checks; or neither.
pub data Ending : Type 0 where
  finished : Ending
  unfinished : Ending
  neither : Ending

-- The pairs of the finished calls, and the unfinished call that waits, or none.
pub record PlainBook : Type 0 where
  pub pairs : List Pair
  pub waiting : Option Deed

-- A book where no call waits.
abbrev pub plain : List Pair → PlainBook
plain ps = record { pairs = ps; waiting = None }

-- A finished call is done, an unfinished one waits.
abbrev pub after_call : WordKind → Deed → Ending → PlainBook → PlainBook
after_call o d finished b = record { pairs = with_call o d b.pairs; waiting = b.waiting }
after_call o d unfinished b = record { pairs = b.pairs; waiting = Some d }
after_call o d neither b = b

-- The pairs after a cut that is told whether the commit word of the waiting call stands new: this call is done if it does, else dropped.
abbrev pub decided : WordKind → Bool → Option Deed → List Pair → List Pair
decided o new None ps = ps
decided o new (Some d) ps = cond new (with_call o d ps) ps

-- No call waits then.
abbrev pub after_cut : WordKind → Bool → PlainBook → PlainBook
after_cut o new b = plain (decided o new b.waiting b.pairs)
