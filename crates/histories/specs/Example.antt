-- A put whose count is stored but not flushed when the power fails, and with other numbers of steps left.
use Rattle.std.specs.Prelude.{◌≡◌, ℕ, ◌+◌, Bool, true, false, List, [], ◌∷◌, map, replicate, None, Ok, Err}
use Rattle.refusal.specs.declared.Refusal.TheVariants.{NoPower, Absent}
use Rattle.memory.specs.Meaning.{Words, endless, left}
use Rattle.rewrites.specs.Example.{zeros, stamps, last_day}
use Rattle.plans.specs.declared.deed.Deed.TheVariants.{Put}
use Rattle.plans.specs.Told.{by_rule}
use Rattle.plans.specs.Example.{day}
use Rattle.histories.specs.PlainBook.{next, Reply, pair, refused}
use Rattle.histories.specs.Outcome.{Answer}
use Rattle.histories.specs.Histories.{Event, called, asked, cut, Act, call, ask, cut_power, played}
use Rattle.histories.specs.Law.{FormatGranted, after_format}

-- Room for two leaves, and so many steps after a format, which takes twelve.
abbrev pub small : ℕ → Words
small steps = record { live = zeros 152; firm = zeros 152; through = false; power = left (12 + steps); choosing = record { many = 152; place = λ i. i } }

-- Day 366 of 2024 put with reading 7; a cut that keeps the live words, or else the firm ones; and what comes next after day 365.
abbrev pub torn : Bool → List Act
torn live = call (Put last_day.key 7) ∷ cut_power (λ i. live) endless ∷ ask (next (day 365)) ∷ []

-- What comes of it with so many steps left after the format.
abbrev pub played_with : ℕ → Bool → List Event
played_with steps live = played by_rule stamps (after_format stamps (small steps) 2) (torn live)

-- What calls are answered.
abbrev pub answers : List Event → List Answer
answers [] = []
answers (called d a e ∷ es) = a ∷ answers es
answers (asked q r ∷ es) = answers es
answers (cut words power ∷ es) = answers es

-- What questions are replied.
abbrev pub questions : List Event → List Reply
questions [] = []
questions (called d a e ∷ es) = questions es
questions (asked q r ∷ es) = r ∷ questions es
questions (cut words power ∷ es) = questions es

-- The put is refused for power after so many steps.
abbrev pub lacking : ℕ → List Answer
lacking steps = record { result = Err NoPower; steps = steps } ∷ []

-- Next finds the pair.
abbrev pub there : List Reply
there = pair last_day ∷ []

-- Next finds none.
abbrev pub gone : List Reply
gone = refused Absent ∷ []

-- The put takes seven steps.
pub record Example : Type 0 where
  pub granted : FormatGranted stamps (small 6) 2
  pub left_over : (after_format stamps (small 6) 2).memory.power ≡ left 6
  -- Six steps store the element and the count. The pair is there after a cut that keeps the count, and is not after one that loses it.
  pub told : answers (played_with 6 true) ≡ lacking 6
  pub kept : questions (played_with 6 true) ≡ there
  pub lost : questions (played_with 6 false) ≡ gone
  -- With fewer steps it is not there, whatever the cut keeps; with one more the put is granted, and it is.
  pub told_fewer : map (λ steps. answers (played_with steps true)) (0 ∷ 1 ∷ 2 ∷ 3 ∷ 4 ∷ 5 ∷ []) ≡ map lacking (0 ∷ 1 ∷ 2 ∷ 3 ∷ 4 ∷ 5 ∷ [])
  pub fewer_kept : map (λ steps. questions (played_with steps true)) (0 ∷ 1 ∷ 2 ∷ 3 ∷ 4 ∷ 5 ∷ []) ≡ replicate 6 gone
  pub fewer_lost : map (λ steps. questions (played_with steps false)) (0 ∷ 1 ∷ 2 ∷ 3 ∷ 4 ∷ 5 ∷ []) ≡ replicate 6 gone
  pub told_enough : answers (played_with 7 false) ≡ record { result = Ok None; steps = 7 } ∷ []
  pub enough : questions (played_with 7 false) ≡ there
