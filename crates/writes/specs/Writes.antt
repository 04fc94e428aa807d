-- Stores and flushes one after the other, and line writes: stores into one line, and then the flush of that line.
use Rattle.std.specs.Prelude.{◌≡◌, ℕ, zero, suc, ◌+◌, ◌-◌, ◌*◌, ◌/◌, ◌<◌, List, [], ◌∷◌, ◌++◌, length, take, drop, Ok, Err, Result, ◌≢◌, slice_set}
use Rattle.refusal.specs.declared.Refusal.{Refusal}
use Rattle.memory.specs.Meaning.{Power, endless, left, Words, store_answer, stored, flush_answer, flushed}

-- What a store or a flush answers.
abbrev pub Answer : Type 0
Answer = Result (Unit {0}) Refusal

-- A word, and the place that it is stored at.
pub record Store : Type 0 where
  pub at : ℕ
  pub word : ℕ

-- A store, or the flush of a line.
pub data Op : Type 0 where
  store : Store → Op
  flush : ℕ → Op

abbrev pub answer : Words → Op → Answer
answer m (store s) = store_answer m s.at
answer m (flush l) = flush_answer m l

-- What a granted one leaves.
abbrev pub did : Words → Op → Words
did m (store s) = stored m s.at s.word
did m (flush l) = flushed m l

-- What all of them leave if each is granted.
abbrev pub done : Words → List Op → Words
done m [] = m
done m (o ∷ os) = done (did m o) os

-- The steps left after k steps.
abbrev pub fall : Power → ℕ → Power
fall endless k = endless
fall (left n) k = left (n - k)

-- What stores and flushes came to: the memory after them, the steps that they took, and the first refusal if there was one.
pub record Run : Type 0 where
  pub after : Words
  pub steps : ℕ
  pub ended : Answer

abbrev pub outcome : Words → ℕ → Answer → Run
outcome m n a = record { after = m; steps = n; ended = a }

-- The same run, with n steps counted before it.
abbrev pub onward : ℕ → Run → Run
onward n r = record { after = r.after; steps = n + r.steps; ended = r.ended }

-- One step more.
abbrev pub tick : Run → Run
tick r = record { after = r.after; steps = suc r.steps; ended = r.ended }

-- A granted one is a step before the rest; a refused one ends the run and changes nothing.
abbrev pub next : Words → Answer → Run → Run
next m (Ok _) r = tick r
next m (Err e) r = outcome m 0 (Err e)

-- Stores and flushes one after the other, until the first refusal.
unfoldable pub run : Words → List Op → Run
run m [] = outcome m 0 (Ok tt)
run m (o ∷ os) = next m (answer m o) (run (did m o) os)

-- Stores, all meant for one line, and the flush of that line after them.
pub record LineWrite : Type 0 where
  pub line : ℕ
  pub stores : List Store

abbrev pub line_ops : ℕ → List Store → List Op
line_ops l [] = flush l ∷ []
line_ops l (s ∷ ss) = store s ∷ line_ops l ss

abbrev pub all_ops : List LineWrite → List Op
all_ops [] = []
all_ops (w ∷ ws) = line_ops w.line w.stores ++ all_ops ws

-- Line writes one after the other, until the first refusal.
unfoldable pub perform : Words → List LineWrite → Run
perform m ws = run m (all_ops ws)

-- The steps of line writes: one for each store and each flush.
abbrev pub cost : List LineWrite → ℕ
cost [] = 0
cost (w ∷ ws) = suc (length w.stores) + cost ws

-- The words with stores made in them.
abbrev pub applied : List ℕ → List Store → List ℕ
applied words [] = words
applied words (s ∷ ss) = applied (slice_set words s.at s.word) ss

-- The words with whole line writes made in them.
abbrev pub finished : List ℕ → List LineWrite → List ℕ
finished words [] = words
finished words (w ∷ ws) = finished (applied words w.stores) ws

-- No store goes to word i.
abbrev pub Spared : ℕ → List Store → Type 0
Spared i [] = Unit {0}
Spared i (s ∷ ss) = (i ≢ s.at) × Spared i ss

-- The stores go to distinct words of line l, all below size.
abbrev pub Lined : ℕ → ℕ → List Store → Type 0
Lined size l [] = Unit {0}
Lined size l (s ∷ ss) = (s.at < size) × (s.at / 8 ≡ l) × Spared s.at ss × Lined size l ss

-- Each line write goes to distinct words of its own line, within a memory of so many words.
abbrev pub Proper : ℕ → List LineWrite → Type 0
Proper size [] = Unit {0}
Proper size (w ∷ ws) = (8 * w.line < size) × Lined size w.line w.stores × Proper size ws

-- No store of the line writes goes to word i.
abbrev pub Spares : ℕ → List LineWrite → Type 0
Spares i [] = Unit {0}
Spares i (w ∷ ws) = Spared i w.stores × Spares i ws

-- The line write of one word.
abbrev pub single : Store → LineWrite
single s = record { line = s.at / 8; stores = s ∷ [] }

-- Stores of consecutive words from word i on.
abbrev pub row_stores : ℕ → List ℕ → List Store
row_stores i [] = []
row_stores i (w ∷ ws) = record { at = i; word = w } ∷ row_stores (suc i) ws

-- The line write of consecutive words from word i on.
abbrev pub row : ℕ → List ℕ → LineWrite
row i ws = record { line = i / 8; stores = row_stores i ws }

-- Consecutive words from word i on, as k line writes of eight words each; the last may have fewer.
abbrev pub rows : ℕ → ℕ → List ℕ → List LineWrite
rows zero i ws = []
rows (suc k) i ws = row i (take 8 ws) ∷ rows k (i + 8) (drop 8 ws)

-- How many lines so many words take, from a line's first word on.
abbrev pub lines_for : ℕ → ℕ
lines_for n = (n + 7) / 8
