use Rattle.std.proofs.Common.{◌≡◌, length, take}
use Rattle.opened.proofs.book.same_pairs.Given as goal

-- The pairs so far are the same.
abbrev pub invariant-loop-i : goal.invariant-loop-i
invariant-loop-i l = (length l.one ≡ length l.other) × (take l.i l.one ≡ take l.i l.other)
