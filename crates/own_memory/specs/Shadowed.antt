-- What a memory of words in two copies means.
use Rattle.std.specs.Prelude.{ℕ, false, List, length, map, refl}
use Rattle.std.proofs.Common.{sym, ◌∙◌}
use Rattle.std.proofs.lemmas.Bool.{false≢true}
use Rattle.std.proofs.lemmas.List.{length-map}
use Rattle.memory.specs.Meaning.{Lawful, Rooted, Words, left, tabled}
use Rattle.own_memory.specs.Words.{firm_of, live_of}
use Rattle.own_memory.specs.declared.copies.Copies.{Copies}

-- The live copies are the live words and the firm ones the firm words. A choice run has one choice for each word, in its place.
abbrev pub shadowed_words : List Copies → ℕ → Words
shadowed_words cs steps = record {
  live = map live_of cs;
  firm = map firm_of cs;
  through = false;
  power = left steps;
  choosing = record { many = length cs; place = λ i. i };
}

-- So many words, all 0 and settled.
abbrev pub blank_words : ℕ → ℕ → Words
blank_words n steps = record {
  live = tabled n (λ _. 0);
  firm = tabled n (λ _. 0);
  through = false;
  power = left steps;
  choosing = record { many = n; place = λ i. i };
}

pub shadowed_lawful : (cs : List Copies) (steps : ℕ) → Lawful (shadowed_words cs steps)
shadowed_lawful cs steps = record {
  level = length-map cs live_of ∙ sym (length-map cs firm_of);
  settled = λ e. absurd (false≢true e);
}

pub shadowed_rooted : (cs : List Copies) (steps : ℕ) → Rooted (shadowed_words cs steps) (shadowed_words cs steps)
shadowed_rooted cs steps = record { many = refl; place = λ _. refl }
