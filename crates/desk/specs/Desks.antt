-- What a new layer, a new kind or a make leaves of a script's logbook.
use Rattle.std.specs.Prelude.{◌≡◌, ◌≤◌, ◌<◌, List, [], ◌∷◌, ◌++◌, length, Some, Ok, Err, Option, Result, MatchOption}
use Rattle.fixed_vec.specs.Items.{items}
use Rattle.memory.specs.Meaning.{Words}
use Rattle.layers.specs.declared.chosen.Sort.{Sort}
use Rattle.desk.specs.Books.{IsNew, kind_of, pile_of}
use Rattle.desk.specs.Piles.{pile_words, under}
use Rattle.desk.specs.declared.answer.Told.{Told}
use Rattle.desk.specs.declared.answer.Told.TheVariants.{Nothing}
use Rattle.desk.specs.declared.answer.Trouble.{Trouble}
use Rattle.desk.specs.declared.answer.Trouble.TheVariants.{Wrong as IsWrong}
use Rattle.desk.specs.declared.layered.Desk.{Desk}
use Rattle.script.specs.declared.line.Kind.{Kind as KeyKind}
use Rattle.script.specs.declared.line.Setting.{Setting}
use Rattle.script.specs.declared.line.Setting.TheVariants.{Layer, Kind, Anew}
use Rattle.script.specs.declared.wrong.Wrong.TheVariants.{FourthLayer, NoKind}

module _ {B : Type 0} (means : B → Words) (before after : Desk B) (old-kind new-kind : Option KeyKind) (r : Result Told Trouble) where
  -- A new blank logbook over the same make, under these layers.
  pub record Renews (sorts : List Sort) (named : Option KeyKind) : Type 0 where
    pub granted : r ≡ Ok Nothing
    pub layers : items after.layers ≡ sorts
    pub pile : pile_words means (pile_of after.book) ≡ under sorts (means (pile_of before.book).below.below.below)
    pub kind : kind_of after.book ≡ named
    pub kept : new-kind ≡ named
    pub new : IsNew after.book

  -- An error leaves all as it was.
  pub record Stays (trouble : Trouble) : Type 0 where
    pub refused : r ≡ Err trouble
    pub book : after.book ≡ before.book
    pub layers : items after.layers ≡ items before.layers
    pub kept : new-kind ≡ old-kind

  pub record Adds (sort : Sort) : Type 0 where
    pub room : length (items before.layers) < 3 → Renews (items before.layers ++ sort ∷ []) old-kind
    pub full : 3 ≤ length (items before.layers) → Stays (IsWrong FourthLayer)

  abbrev pub Sets : Setting → Type 0
  Sets (Layer sort) = Adds sort
  Sets (Kind named) = Renews (items before.layers) (Some named)
  Sets Anew = MatchOption old-kind (Stays (IsWrong NoKind)) (λ named. Renews (items before.layers) (Some named))
