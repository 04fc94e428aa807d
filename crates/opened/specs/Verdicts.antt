-- How the book after a cut stands to the book before the call and the book with the call done, and what the rules let a cut leave.
use Rattle.std.specs.Prelude.{◌≡◌, Bool, true, false, not, ◌||◌, Some}
use Rattle.refusal.specs.declared.Refusal.TheVariants.{WrongMark}
use Rattle.leaves.specs.declared.open.Fault.{Fault}
use Rattle.opened.specs.Openings.{Same}
use Rattle.opened.specs.declared.book.Opened.{Opened}
use Rattle.opened.specs.declared.verdict.Verdict.{Verdict}
use Rattle.opened.specs.declared.verdict.Verdict.TheVariants.{Before, Done, Both, NoMark, Other}

-- Opening is refused 5.
abbrev pub Unmarked : Opened → Type 0
Unmarked x = (fault : Fault) × (x.fault ≡ Some fault) × (fault.refusal ≡ WrongMark)

abbrev pub IsVerdict : (x before done : Opened) → Verdict → Type 0
IsVerdict x before done Before = Same x before × ¬ (Same x done)
IsVerdict x before done Done = Same x done × ¬ (Same x before)
IsVerdict x before done Both = Same x before × Same x done
IsVerdict x before done NoMark = Unmarked x × ¬ (Same x before) × ¬ (Same x done)
IsVerdict x before done Other = ¬ (Unmarked x) × ¬ (Same x before) × ¬ (Same x done)

-- A put, change or remove is done just where its commit word stands new; a format leaves what there was, no mark, or the empty book.
abbrev pub lawful : (format new : Bool) → Verdict → Bool
lawful format new Before = format || not new
lawful format new Done = format || new
lawful format new Both = true
lawful format new NoMark = format
lawful format new Other = false
