-- What a memory means: its live and firm words, whether it writes through, its steps left, and how a cut chooses.
-- A read tells a live word; a firm word is what stands for certain once the supply is lost. Line l is the words 8 * l to 8 * l + 7.
use Rattle.std.specs.Prelude.{◌≡◌, ℕ, ◌-◌, ◌*◌, ◌/◌, ◌%◌, Bool, true, false, cond, List, map, length, is_ok, Ok, Err, Result, ◌==◌, nat_eq, nat_le, nat_lt, slice_index, slice_set}
use Rattle.std.specs.List.{range_with_len}
use Rattle.refusal.specs.declared.Refusal.{Refusal}
use Rattle.refusal.specs.declared.Refusal.TheVariants.{Outside, NoPower, Unsettled, WrongLength}

-- Steps left: without end, or so many stores and flushes.
pub data Power : Type 0 where
  endless : Power
  left : ℕ → Power

-- How a cut chooses between live and firm words: how many choices it takes, and the place of each word's own among them, which is
-- where the word lies at the bottom.
pub record Choosing : Type 0 where
  pub many : ℕ
  pub place : ℕ → ℕ

-- A memory's meaning.
pub record Words : Type 0 where
  pub live : List ℕ
  pub firm : List ℕ
  pub through : Bool
  pub power : Power
  pub choosing : Choosing

abbrev pub size_of : Words → ℕ
size_of m = length m.live

-- One step less.
abbrev pub spent : Power → Power
spent endless = endless
spent (left n) = left (n - 1)

-- No step is left.
abbrev pub exhausted : Power → Bool
exhausted endless = false
exhausted (left n) = n == 0

-- The words f 0, f 1 and so on, n of them.
abbrev pub tabled : ℕ → (ℕ → ℕ) → List ℕ
tabled n f = map f (range_with_len 0 n)

-- Word i of the first list where the test says so, else of the second.
abbrev pub picked : (ℕ → Bool) → List ℕ → List ℕ → List ℕ
picked f a b = tabled (length a) (λ i. cond (f i) (slice_index a i) (slice_index b i))

-- No word is unsettled, that is, live and firm words agree.
abbrev pub Settled : Words → Type 0
Settled m = m.live ≡ m.firm

-- What holds of every memory: the lists are equally long, and a memory that writes through is settled.
pub record Lawful (m : Words) : Type 0 where
  pub level : length m.live ≡ length m.firm
  pub settled : m.through ≡ true → Settled m

-- Read tells the live word.
abbrev pub read_answer : Words → ℕ → Result ℕ Refusal
read_answer m i = cond (nat_le (size_of m) i) (Err Outside) (Ok (slice_index m.live i))

-- Store is refused outside, with no step left, and for an unsettled word, the first that holds.
abbrev pub store_answer : Words → ℕ → Result (Unit {0}) Refusal
store_answer m i =
    cond (nat_le (size_of m) i) (Err Outside)
    (cond (exhausted m.power) (Err NoPower)
    (cond (slice_index m.live i == slice_index m.firm i) (Ok tt) (Err Unsettled)))

-- A granted store makes one live word new, and its firm word too in a memory that writes through, by one step.
abbrev pub stored : Words → ℕ → ℕ → Words
stored m i w = record {
  live = slice_set m.live i w;
  firm = cond m.through (slice_set m.firm i w) m.firm;
  through = m.through;
  power = spent m.power;
  choosing = m.choosing;
}

-- A refused call changes nothing.
abbrev pub after_store : Words → ℕ → ℕ → Words
after_store m i w = cond (is_ok (store_answer m i)) (stored m i w) m

-- Flush is refused for a line without a word, and with no step left.
abbrev pub flush_answer : Words → ℕ → Result (Unit {0}) Refusal
flush_answer m l = cond (nat_le (size_of m) (8 * l)) (Err Outside) (cond (exhausted m.power) (Err NoPower) (Ok tt))

-- A granted flush makes the firm words of one line the live ones, by one step.
abbrev pub flushed : Words → ℕ → Words
flushed m l = record {
  live = m.live;
  firm = picked (λ i. nat_eq (i / 8) l) m.live m.firm;
  through = m.through;
  power = spent m.power;
  choosing = m.choosing;
}

abbrev pub after_flush : Words → ℕ → Words
after_flush m l = cond (is_ok (flush_answer m l)) (flushed m l) m

-- What a cut leaves that keeps the live word where the test says so, else the firm one.
abbrev pub cut : (ℕ → Bool) → Power → Words → Words
cut keeps power m = record {
  live = picked keeps m.live m.firm;
  firm = picked keeps m.live m.firm;
  through = m.through;
  power = power;
  choosing = m.choosing;
}

-- What a cut may leave: any mix of live and firm words, with any steps left.
abbrev pub CutOf : Words → Words → Type 0
CutOf m m' = (keeps : ℕ → Bool) × (power : Power) × (m' ≡ cut keeps power m)

-- The steps that a settle sets stay endless where they were.
abbrev pub renewed : Power → ℕ → Power
renewed endless n = endless
renewed (left _) n = left n

-- Settle is refused where there are too few choices.
abbrev pub settle_answer : Words → List ℕ → Result (Unit {0}) Refusal
settle_answer m choice = cond (nat_lt (length choice) m.choosing.many) (Err WrongLength) (Ok tt)

-- An odd choice keeps live, an even one firm.
abbrev pub odd_at : List ℕ → ℕ → Bool
odd_at choice i = slice_index choice i % 2 == 1

-- What the choices make of the words.
abbrev pub chosen : Words → List ℕ → ℕ → Words
chosen m choice steps = cut (λ i. odd_at choice (m.choosing.place i)) (renewed m.power steps) m

abbrev pub after_settle : Words → List ℕ → ℕ → Words
after_settle m choice steps = cond (is_ok (settle_answer m choice)) (chosen m choice steps) m

-- The make at the bottom takes the choices of the memory above, each word's own at its place.
pub record Rooted (m bottom : Words) : Type 0 where
  pub many : bottom.choosing.many ≡ m.choosing.many
  pub place : (i : ℕ) → bottom.choosing.place i ≡ i

-- Every mix of live and firm words can be chosen.
abbrev pub Freely : Words → Type 0
Freely m =
    (keeps : ℕ → Bool) → (choice : List ℕ) × (length choice ≡ m.choosing.many)
    × (picked (λ i. odd_at choice (m.choosing.place i)) m.live m.firm ≡ picked keeps m.live m.firm)
