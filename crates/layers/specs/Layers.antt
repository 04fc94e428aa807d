-- What each layer means by the memory below it, whose lines it shows under numbers of its own.
use Rattle.std.specs.Prelude.{◌≡◌, ℕ, ◌+◌, ◌-◌, ◌*◌, ◌/◌, ◌%◌, ◌<◌, cond, List, Some, None, Option, nat_lt, slice_index}
use Rattle.std.proofs.Common.{sym, ap, ◌∙◌}
use Rattle.std.proofs.lemmas.List.FromFn.{length-map-range_with_len}
use Rattle.memory.specs.Meaning.{Words, Lawful, Rooted, size_of, tabled, after_store, after_flush}

-- How a layer numbers the lines of a memory of a given size: the words that it has, and the line below that a line lies on.
pub record Numbering : Type 0 where
  pub words : ℕ → ℕ
  pub line : ℕ → ℕ → ℕ

-- The first lines are hidden.
abbrev pub margin : ℕ → Numbering
margin hidden = record { words = λ size. size - 8 * hidden; line = λ _ l. l + hidden }

-- The whole lines are turned.
abbrev pub rotation : ℕ → Numbering
rotation by = record { words = λ size. 8 * (size / 8); line = λ size l. (l + by) % (size / 8) }

-- The word below that word i lies on.
abbrev pub place : (ℕ → ℕ) → ℕ → ℕ
place line i = 8 * line (i / 8) + i % 8

-- A layer of n words stays within the memory, and keeps its lines apart.
pub record View (line : ℕ → ℕ) (n size : ℕ) : Type 0 where
  pub within : (i : ℕ) → i < n → place line i < size
  pub apart : (k l : ℕ) → 8 * k < n → 8 * l < n → line k ≡ line l → k ≡ l

-- What holds of every numbering.
pub record Sound (num : Numbering) : Type 0 where
  pub view : (size : ℕ) → View (num.line size) (num.words size) size

-- The words of a layer of n words, and what it means.
abbrev pub shown : (ℕ → ℕ) → ℕ → List ℕ → List ℕ
shown line n words = tabled n (λ i. slice_index words (place line i))

abbrev pub seen : (ℕ → ℕ) → ℕ → Words → Words
seen line n m = record {
  live = shown line n m.live;
  firm = shown line n m.firm;
  through = m.through;
  power = m.power;
  choosing = record { many = m.choosing.many; place = λ i. m.choosing.place (place line i) };
}

abbrev pub layered : Numbering → Words → Words
layered num m = seen (num.line (size_of m)) (num.words (size_of m)) m

-- The word and the line below, if the layer has them.
abbrev pub word_below : Numbering → ℕ → ℕ → Option ℕ
word_below num size i = cond (nat_lt i (num.words size)) (Some (place (num.line size) i)) None

abbrev pub line_under : Numbering → ℕ → ℕ → Option ℕ
line_under num size l = cond (nat_lt (8 * l) (num.words size)) (Some (num.line size l)) None

-- What becomes of a memory by what is done at a place in it, if there is a place.
abbrev pub at_place : Option ℕ → (ℕ → Words) → Words → Words
at_place (Some place) done m = done place
at_place None done m = m

-- What a store and a flush of the layer make of the memory below: all other words there stay.
abbrev pub store_below : Numbering → Words → ℕ → ℕ → Words
store_below num m i w = at_place (word_below num (size_of m) i) (λ j. after_store m j w) m

abbrev pub flush_below : Numbering → Words → ℕ → Words
flush_below num m l = at_place (line_under num (size_of m) l) (λ k. after_flush m k) m

pub layered_lawful : (num : Numbering) {m : Words} → Lawful m → Lawful (layered num m)
layered_lawful num {m} laws = record {
  level = length-map-range_with_len _ 0 (num.words (size_of m)) ∙ sym (length-map-range_with_len _ 0 (num.words (size_of m)));
  settled = λ e. ap (shown (num.line (size_of m)) (num.words (size_of m))) (laws.settled e);
}

pub layered_rooted : (num : Numbering) {m bottom : Words} → Rooted m bottom → Rooted (layered num m) bottom
layered_rooted num rooted = record { many = rooted.many; place = rooted.place }
