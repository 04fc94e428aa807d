-- What line writes come to, and what a cut can leave of them.
use Rattle.std.specs.Prelude.{◌≡◌, ℕ, suc, ◌/◌, ◌<◌, ◌≤◌, Bool, T, ◌⊎◌, List, [], ◌∷◌, ◌++◌, length, take, Ok, Err, ◌≢◌, slice_index}
use Rattle.refusal.specs.declared.Refusal.{Refusal}
use Rattle.refusal.specs.declared.Refusal.TheVariants.{NoPower}
use Rattle.memory.specs.Meaning.{Power, endless, left, Words, size_of, Settled, picked}
use Rattle.writes.specs.Writes.{Store, Op, Run, fall, run, onward, done, LineWrite, perform, cost, finished, Proper, Spares, single}

-- There are at least k steps left.
abbrev pub Enough : Power → ℕ → Type 0
Enough endless k = Unit {0}
Enough (left n) k = k ≤ n

-- The first has fewer steps left than the second.
abbrev pub Below : Power → Power → Type 0
Below endless q = ⊥
Below (left a) endless = Unit {0}
Below (left a) (left b) = a < b

-- Each word stands as in the one list or as in the other.
abbrev pub Mix : List ℕ → List ℕ → List ℕ → Type 0
Mix new old words = (keeps : ℕ → Bool) × (words ≡ picked keeps new old)

-- The words that a cut can leave.
abbrev pub Cut : Words → List ℕ → Type 0
Cut m words = Mix m.live m.firm words

-- With enough power all is granted, and the memory is settled again.
abbrev pub Whole : Type 0
Whole =
    (m : Words) (ws : List LineWrite) → Settled m → Proper (size_of m) ws → Enough m.power (cost ws) →
    perform m ws ≡ record {
      after = record {
        live = finished m.live ws;
        firm = finished m.live ws;
        through = m.through;
        power = fall m.power (cost ws);
        choosing = m.choosing;
      };
      steps = cost ws;
      ended = Ok tt;
    }

-- Line writes that ran out of power after n steps: some first ones are whole, and of the next one a cut can leave each word old or new.
pub record BrokenOff (m : Words) (ws : List LineWrite) (n : ℕ) : Type 0 where
  pub ended : (perform m ws).ended ≡ Err NoPower
  pub steps : (perform m ws).steps ≡ n
  pub power : (perform m ws).after.power ≡ left 0
  -- How many line writes are whole.
  pub whole : ℕ
  pub within : whole < length ws
  pub not_before : cost (take whole ws) ≤ n
  pub not_after : n < cost (take (suc whole) ws)
  pub torn : (words : List ℕ) → Cut (perform m ws).after words → Mix (finished m.live (take (suc whole) ws)) (finished m.live (take whole ws)) words
  -- The line of the next one: the words of the others stand as the whole ones left them.
  pub line : ℕ
  pub elsewhere : (words : List ℕ) → Cut (perform m ws).after words → (i : ℕ) → (i / 8 ≢ line) → slice_index words i ≡ slice_index (finished m.live (take whole ws)) i

-- With too little power all of it is used.
abbrev pub Short : Type 0
Short =
    (m : Words) (ws : List LineWrite) (n : ℕ) → Settled m → Proper (size_of m) ws → m.power ≡ left n → n < cost ws →
    BrokenOff m ws n

-- Nothing but a lack of power is refused: no store meets an unsettled word.
abbrev pub PowerAlone : Type 0
PowerAlone =
    (m : Words) (ws : List LineWrite) → Settled m → Proper (size_of m) ws →
    ((perform m ws).ended ≡ Ok tt) ⊎ ((perform m ws).ended ≡ Err NoPower)

-- A change: line writes, and then the commit, one word that becomes another.
abbrev pub change : List LineWrite → Store → List LineWrite
change before commit = before ++ (single commit ∷ [])

-- The commit stands new.
abbrev pub New : Store → List ℕ → Type 0
New commit words = slice_index words commit.at ≡ commit.word

-- A change can be made on a settled memory where its commit does not stand new yet.
pub record Ready (m : Words) (before : List LineWrite) (commit : Store) : Type 0 where
  pub settled : Settled m
  pub proper : Proper (size_of m) (change before commit)
  pub old : New commit m.live → ⊥

-- A set of words, the commit among them, that the line writes before the commit spare.
pub record Guards (F : ℕ → Bool) (before : List LineWrite) (commit : Store) : Type 0 where
  pub spared : (i : ℕ) → T (F i) → Spares i before
  pub committed : T (F commit.at)

-- Two lists of words are equally long and agree at the places of a set.
abbrev pub Alike : (ℕ → Bool) → List ℕ → List ℕ → Type 0
Alike F a b = (length a ≡ length b) × ((i : ℕ) → T (F i) → slice_index a i ≡ slice_index b i)

-- Whatever a cut leaves, the commit decides: unless it stands new, the guarded words are the old ones; if it does, all is done.
abbrev pub Atomic : Words → Words → List LineWrite → Store → Type 0
Atomic m after before commit =
    (F : ℕ → Bool) → Ready m before commit → Guards F before commit →
    (words : List ℕ) → Cut after words →
    ((New commit words → ⊥) → Alike F words m.live)
    × (New commit words → words ≡ finished m.live (change before commit))

-- A change is atomic, wherever it stopped.
abbrev pub Commit : Type 0
Commit = (m : Words) (before : List LineWrite) (commit : Store) → Atomic m (perform m (change before commit)).after before commit

-- The same of what is seen in the words, if it depends on the guarded ones alone.
abbrev pub Observed : Type 0 → Type 0
Observed X =
    (observe : List ℕ → X) (m : Words) (before : List LineWrite) (commit : Store) (F : ℕ → Bool) → Ready m before commit → Guards F before commit →
    ((words : List ℕ) → Alike F words m.live → observe words ≡ observe m.live) →
    (words : List ℕ) → Cut (perform m (change before commit)).after words →
    ((New commit words → ⊥) → observe words ≡ observe m.live)
    × (New commit words → observe words ≡ observe (finished m.live (change before commit)))

-- A change whose commit can stand new after a cut is granted whole by a memory of the same words with more power.
abbrev pub Kept : Type 0
Kept =
    (m n : Words) (before : List LineWrite) (commit : Store) → Ready m before commit → Spares commit.at before →
    Settled n → m.live ≡ n.live → Below m.power n.power →
    (words : List ℕ) → Cut (perform m (change before commit)).after words → New commit words →
    (perform n (change before commit)).ended ≡ Ok tt

-- The same memory with other steps left.
abbrev pub powered : Words → Power → Words
powered m p = record { live = m.live; firm = m.firm; through = m.through; power = p; choosing = m.choosing }

-- A run used all its n steps, and one with more takes no fewer.
pub record RanOut (r more : Run) (n : ℕ) : Type 0 where
  pub ended : r.ended ≡ Err NoPower
  pub steps : r.steps ≡ n
  pub no_fewer : n ≤ more.steps

-- Two runs end alike, after as many steps, and leave the same words.
pub record Unchanged (r more : Run) : Type 0 where
  pub ended : more.ended ≡ r.ended
  pub steps : more.steps ≡ r.steps
  pub live : more.after.live ≡ r.after.live
  pub firm : more.after.firm ≡ r.after.firm

-- On any memory, against at least as much power: either all power was used, and more of it takes no fewer steps, or more of it changes nothing.
abbrev pub More : Type 0
More =
    (m : Words) (ops : List Op) (n : ℕ) (q : Power) → Enough q n →
    RanOut (run (powered m (left n)) ops) (run (powered m q) ops) n ⊎ Unchanged (run (powered m (left n)) ops) (run (powered m q) ops)

-- On any memory, what is done is the first of the list, as many as there were steps.
abbrev pub FirstSteps : Type 0
FirstSteps = (m : Words) (ops : List Op) → (run m ops).after ≡ done m (take (run m ops).steps ops)

-- On any memory, line writes after line writes: made in turn if the first were all granted, else as if only the first were asked for.
abbrev pub InTurn : Type 0
InTurn =
    (m : Words) (a b : List LineWrite) →
    ((perform m a).ended ≡ Ok tt → perform m (a ++ b) ≡ onward (perform m a).steps (perform (perform m a).after b))
    × ((x : Refusal) → (perform m a).ended ≡ Err x → perform m (a ++ b) ≡ perform m a)
