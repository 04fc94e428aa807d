-- The runs of a new memory, as many words as the script says, all 0; and the choice run of a cut.
use Rattle.std.specs.Prelude.{◌≡◌, ℕ, ◌%◌, ◌<◌, List, [], ◌∷◌, length, max, slice_index_or, replicate}
use Rattle.script.specs.declared.line.Keeps.{Keeps}
use Rattle.script.specs.declared.line.Keeps.TheVariants.{Firm, Live, Mix}
use Rattle.script.specs.declared.line.Make.{Make}
use Rattle.script.specs.declared.line.Make.TheVariants.{Through, Buffered}
use Rattle.desk.specs.declared.runs.Runs.{Runs}
use Rattle.desk.specs.declared.runs.Runs.TheVariants.{Through as ThroughRuns, Buffered as BufferedRuns}

abbrev pub IsMade : Make → Runs → Type 0
IsMade (Through words) (ThroughRuns run) = run.items ≡ replicate words 0
IsMade (Through words) (BufferedRuns live firm steps) = ⊥
IsMade (Buffered words steps) (ThroughRuns run) = ⊥
IsMade (Buffered words steps) (BufferedRuns live firm left) = (live.items ≡ replicate words 0) × (firm.items ≡ replicate words 0) × (left ≡ steps)

-- So many words, which are some words repeated.
abbrev pub IsRepeated : List ℕ → ℕ → List ℕ → Type 0
IsRepeated words count run = (length run ≡ count) × ((i : ℕ) → i < count → slice_index_or run i 0 ≡ slice_index_or words (i % max (length words) 1) 0)

-- The words that a cut's choice run repeats: 0 keeps a word firm, 1 live, and those of a mix are given.
abbrev pub chosen_words : Keeps → List ℕ → List ℕ
chosen_words Firm mix = 0 ∷ []
chosen_words Live mix = 1 ∷ []
chosen_words Mix mix = mix
