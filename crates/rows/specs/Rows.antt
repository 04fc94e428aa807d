-- Worked rows of the rules on keys, calls, layout and layers, by the definitions that the contracts cite.
use Rattle.std.specs.Prelude.{◌≡◌, ℕ, ◌*◌, ◌<◌, true, is_ok, Some, Ok, Err, List, [], ◌∷◌, ◌++◌, map, length, replicate}
use Rattle.refusal.specs.declared.Refusal.TheVariants.{NotAKey}
use Rattle.keys.specs.Stamps.{stamp_of, stamp_kind}
use Rattle.keys.specs.Ports.{port_of}
use Rattle.keys.specs.declared.stamp.Stamp.{Stamp}
use Rattle.leaves.specs.Layout.{leaf_at, count_of}
use Rattle.books.specs.Footprint.{linked, book}
use Rattle.rewrites.specs.Example.{stamps}
use Rattle.plans.specs.declared.deed.Deed.TheVariants.{Put, Remove}
use Rattle.plans.specs.Plan.{pairs_of}
use Rattle.plans.specs.Example.{Played, play, formatted, day, full}
use Rattle.layers.specs.Layers.{line_under, rotation}

-- One pair put, removed and put again in a logbook of two leaves, just formatted.
abbrev pub again : Played
again = play (formatted 2 148) (Put (day 1) 7 ∷ Remove (day 1) ∷ Put (day 1) 7 ∷ [])

-- How many pairs each linked leaf has, from the first on.
abbrev pub pair_counts : List ℕ → List ℕ
pair_counts m = map (λ k. length (pairs_of stamps m k)) (linked m)

pub record Rows : Type 0 where
  -- days and milliseconds at the edges
  pub day_366_of_2000 : is_ok (stamp_of 2000 366 0) ≡ true
  pub day_366_of_2024 : is_ok (stamp_of 2024 366 0) ≡ true
  pub day_366_of_2023 : (ms : ℕ) → stamp_of 2023 366 ms ≡ Err NotAKey
  pub day_366_of_2100 : (ms : ℕ) → stamp_of 2100 366 ms ≡ Err NotAKey
  pub day_0 : (year ms : ℕ) → stamp_of year 0 ms ≡ Err NotAKey
  pub millisecond_past_day_1 : (year : ℕ) → stamp_of year 1 86400000 ≡ Err NotAKey
  -- port numbers at the edges
  pub port_65534 : (identity : ℕ) → identity < 0xffff_ffff_ffff_ffff → is_ok (port_of identity 65534) ≡ true
  pub port_65535 : (identity : ℕ) → port_of identity 65535 ≡ Err NotAKey
  -- the last millisecond of 2023 is before all of the first day of 2024
  pub last_of_2023 : is_ok (stamp_of 2023 365 86399999) ≡ true
  pub first_of_2024 : is_ok (stamp_of 2024 1 0) ≡ true
  pub new_year : (a b : Stamp) (ms : ℕ) → stamp_of 2023 365 86399999 ≡ Ok a → stamp_of 2024 1 ms ≡ Ok b → stamp_kind.before a b ≡ true
  -- the words of 2024 day 366 millisecond 0
  pub words : (s : Stamp) → stamp_of 2024 366 0 ≡ Ok s → stamp_kind.form s ≡ (0, 1036654)
  -- put, remove, put of one pair: the pair is there and no other, and the leaf counts three elements
  pub put_remove_put : book stamps again.words ≡ record { key = day 1; reading = 7 } ∷ []
  pub three_elements : count_of again.words 1 ≡ 3
  -- 17 pairs put into three leaves just formatted: split 8 and 9, and the last put takes 87 steps
  pub split_of_17 : pair_counts full.words ≡ 8 ∷ 9 ∷ []
  pub steps_of_17 : full.steps ≡ replicate 16 7 ++ (87 ∷ [])
  -- the last leaf of 64
  pub leaf_64 : leaf_at 64 ≡ 4544
  -- 19 lines turned by 1
  pub line_18_of_19 : line_under (rotation 1) (8 * 19) 18 ≡ Some 0
