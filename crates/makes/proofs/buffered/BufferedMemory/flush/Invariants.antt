use Rattle.std.proofs.Common.{◌≡◌, ℕ, ◌*◌, cond, ◌&&◌, ltb, leb, length, get_or}
use Rattle.makes.proofs.buffered.BufferedMemory.flush.Given as goal

abbrev pub invariant-loop-i : goal.invariant-loop-i
invariant-loop-i l =
    (l.self.live ≡ l.initial.self.live) × (l.self.steps ≡ l.initial.self.steps)
    × (length l.self.firm.now ≡ length l.initial.self.firm.now)
    × ((k : ℕ) → get_or l.self.firm.now k 0 ≡ cond (leb (8 * l.line) k && ltb k l.i) (get_or l.initial.self.live.now k 0) (get_or l.initial.self.firm.now k 0))
    × (l.self.firm.ghost_name ≡ l.initial.self.firm.ghost_name)
