-- The numbers by which refusals are told.
use Rattle.std.specs.Prelude.{ℕ}
use Rattle.refusal.specs.declared.Refusal.{Refusal}
use Rattle.refusal.specs.declared.Refusal.TheVariants.{Outside, NoPower, Unsettled, WrongLength, WrongMark, OtherKind, LeafCount, BadLink, BadLeaf, NotAKey, Present, Absent, NoRoom, Blank}

abbrev pub number_of : Refusal → ℕ
number_of Outside = 1
number_of NoPower = 2
number_of Unsettled = 3
number_of WrongLength = 4
number_of WrongMark = 5
number_of OtherKind = 6
number_of LeafCount = 7
number_of BadLink = 8
number_of BadLeaf = 9
number_of NotAKey = 10
number_of Present = 11
number_of Absent = 12
number_of NoRoom = 13
number_of Blank = 14
