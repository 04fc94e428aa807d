-- A logbook's state by what its index means, and what opening makes of it.
use Rattle.std.specs.Prelude.{ℕ, cond, ◌&&◌, List, [], ◌∷◌, map, length, Ok, Err, Option, Result, nat_le}
use Rattle.refusal.specs.declared.Refusal.{Refusal}
use Rattle.refusal.specs.declared.Refusal.TheVariants.{NoPower}
use Rattle.keys.specs.InWords.{WordKind}
use Rattle.leaves.specs.declared.open.Fault.{Fault}
use Rattle.leaves.specs.Asking.{counted}
use Rattle.leaves.specs.Layout.{count_of}
use Rattle.leaves.specs.Opening.{greatest, open_answer, plain}
use Rattle.books.specs.Bounds.{value}
use Rattle.index.specs.declared.node.Entry.{Entry}
use Rattle.index.specs.Meaning.{grouped}
use Rattle.index.specs.Nodes.{entry}
use Rattle.index.specs.Shape.{singles}
use Rattle.tree.specs.declared.logbook.State.{State}
use Rattle.tree.specs.declared.logbook.State.TheVariants.{Blank, Open, Dark}

-- Blank, open with its groups of leaves, or dark.
pub data Shape : Type 0 where
  blank : Shape
  groups : List (List Entry) → Shape
  dark : Shape

-- The shape of a logbook's state.
abbrev pub shape_of : State → Shape
shape_of Blank = blank
shape_of (Open x) = groups (grouped x)
shape_of Dark = dark

-- Leaves with their bounds.
abbrev pub paired : List ℕ → List (ℕ × ℕ) → List Entry
paired [] bs = []
paired (k ∷ ks) [] = []
paired (k ∷ ks) (b ∷ bs) = entry k b ∷ paired ks bs

-- The greatest counted key of each leaf, or no key's words where there is none.
abbrev pub tops : WordKind → List ℕ → List ℕ → List (ℕ × ℕ)
tops o m ks = map (λ k. value (greatest o m k (count_of m k))) ks

-- That key of one leaf, asked from outside.
abbrev pub top_told : Result (Option (ℕ × ℕ)) Refusal → ℕ × ℕ
top_told (Ok best) = value best
top_told (Err e) = (0, 0)

-- The same by the answer of the leaf.
abbrev pub top_at : WordKind → List ℕ → ℕ → ℕ × ℕ
top_at o m k = top_told (counted m k (greatest o m k))

-- An index built of 1 to 64 leaves.
abbrev pub built_shape : List ℕ → List (ℕ × ℕ) → Shape
built_shape ks bs = cond (nat_le 1 (length ks) && nat_le (length ks) 64) (groups (singles (paired ks bs))) blank

-- What opening tells: a dark logbook refuses; else the first fault, or nothing.
abbrev pub open_told : State → Result (List ℕ) Fault → Result (Unit {0}) Fault
open_told Blank (Ok ks) = Ok tt
open_told Blank (Err e) = Err e
open_told (Open x) (Ok ks) = Ok tt
open_told (Open x) (Err e) = Err e
open_told Dark r = Err (plain NoPower)

-- The state after opening: one group for each leaf with its greatest key, or blank.
abbrev pub found_shape : WordKind → List ℕ → Result (List ℕ) Fault → Shape
found_shape o m (Ok ks) = groups (singles (paired ks (tops o m ks)))
found_shape o m (Err e) = blank

-- The state after an open: a dark logbook stays dark.
abbrev pub open_shape : WordKind → List ℕ → State → Shape
open_shape o m Blank = found_shape o m (open_answer o m)
open_shape o m (Open x) = found_shape o m (open_answer o m)
open_shape o m Dark = dark
