-- What each make of memory means by the runs that it holds.
use Rattle.std.specs.Prelude.{ℕ, min, true, false, List, length, take, drop, refl}
use Rattle.std.proofs.Common.{sym, ◌∙◌, arith}
use Rattle.std.proofs.lemmas.List.{length-take-le}
use Rattle.std.proofs.lemmas.Bool.{false≢true}
use Rattle.memory.specs.Meaning.{Choosing, Words, Lawful, Rooted, endless, left}

-- So many choices, word i by choice i.
abbrev pub in_place : ℕ → Choosing
in_place n = record { many = n; place = λ i. i }

abbrev pub through_words : List ℕ → Words
through_words run = record { live = run; firm = run; through = true; power = endless; choosing = in_place 0 }

-- The words that both runs have.
abbrev pub shared : List ℕ → List ℕ → ℕ
shared a b = min (length a) (length b)

abbrev pub buffered_words : List ℕ → List ℕ → ℕ → Words
buffered_words live firm steps = record {
  live = take (shared live firm) live;
  firm = take (shared live firm) firm;
  through = false;
  power = left steps;
  choosing = in_place (shared live firm);
}

-- The words that the shorter run lacks, which are no part of the memory.
abbrev pub unshared : List ℕ → List ℕ → List ℕ × List ℕ
unshared live firm = (drop (shared live firm) live, drop (shared live firm) firm)

pub through_lawful : (run : List ℕ) → Lawful (through_words run)
through_lawful run = record { level = refl; settled = λ _. refl }

pub buffered_lawful : (live firm : List ℕ) (steps : ℕ) → Lawful (buffered_words live firm steps)
buffered_lawful live firm steps = record {
  level = length-take-le (shared live firm) live (omega arith) ∙ sym (length-take-le (shared live firm) firm (omega arith));
  settled = λ e. absurd (false≢true e);
}

pub through_rooted : (run : List ℕ) → Rooted (through_words run) (through_words run)
through_rooted run = record { many = refl; place = λ _. refl }

pub buffered_rooted : (live firm : List ℕ) (steps : ℕ) → Rooted (buffered_words live firm steps) (buffered_words live firm steps)
buffered_rooted live firm steps = record { many = refl; place = λ _. refl }
