-- A memory of two leaves just formatted for stamps: what the laws of appends and of rewrites ask for can be met.
use Rattle.std.specs.Prelude.{◌≡◌, ℕ, zero, suc, List, [], ◌∷◌, Ok}
use Rattle.keys.specs.InWords.{WordKind, in_words}
use Rattle.keys.specs.Stamps.{stamp_kind}
use Rattle.leaves.specs.declared.leaf.Pair.{Pair}
use Rattle.leaves.specs.Opening.{open_answer}
use Rattle.books.specs.Bounds.{Bounded}
use Rattle.appends.specs.Append.{Appendable}
use Rattle.appends.specs.Calls.{put_elements}
use Rattle.rewrites.specs.Rewrite.{Rewritable}

abbrev pub zeros : ℕ → List ℕ
zeros zero = []
zeros (suc n) = 0 ∷ zeros n

-- The mark, the code of stamps, the first leaf and the number of leaves; all other words are 0.
abbrev pub fresh_words : List ℕ
fresh_words = 30366 ∷ 1 ∷ 1 ∷ 2 ∷ zeros 148

abbrev pub stamps : WordKind
stamps = in_words stamp_kind

-- Year 2024, day 366, millisecond 0, with reading 7.
abbrev pub last_day : Pair
last_day = record { key = (0, 1036654); reading = 7 }

-- The words open to leaf 1, which has no bound; the pair can be appended there, and it can be written anew into leaf 2.
pub record Example : Type 0 where
  pub opens : open_answer stamps fresh_words ≡ Ok (1 ∷ [])
  pub bounds : Bounded stamps fresh_words (1 ∷ []) []
  pub append : Appendable stamps fresh_words [] 1 [] last_day.key (put_elements 7)
  pub rewrite : Rewritable stamps fresh_words [] 1 [] [] last_day.key (put_elements 7) (record { leaf = 2; content = last_day ∷ [] } ∷ [])
