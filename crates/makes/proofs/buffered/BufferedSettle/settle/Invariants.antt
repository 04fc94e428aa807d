use Rattle.std.proofs.Common.{◌≡◌, ℕ, cond, ltb, length, get_or}
use Rattle.memory.specs.Meaning.{odd_at}
use Rattle.makes.proofs.buffered.BufferedSettle.settle.Given as goal

abbrev pub invariant-loop-i : goal.invariant-loop-i
invariant-loop-i l =
    (length l.self.live.now ≡ length l.initial.self.live.now)
    × (length l.self.firm.now ≡ length l.initial.self.firm.now)
    × ((k : ℕ) → get_or l.self.live.now k 0 ≡ cond (ltb k l.i) (cond (odd_at l.choice k) (get_or l.initial.self.live.now k 0) (get_or l.initial.self.firm.now k 0)) (get_or l.initial.self.live.now k 0))
    × ((k : ℕ) → get_or l.self.firm.now k 0 ≡ cond (ltb k l.i) (cond (odd_at l.choice k) (get_or l.initial.self.live.now k 0) (get_or l.initial.self.firm.now k 0)) (get_or l.initial.self.firm.now k 0))
    × (l.self.live.ghost_name ≡ l.initial.self.live.ghost_name)
    × (l.self.firm.ghost_name ≡ l.initial.self.firm.ghost_name)
