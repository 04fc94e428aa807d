-- When the code takes pairs for two new leaves.
use Rattle.std.specs.Prelude.{ℕ, ◌-◌, Bool, ◌&&◌, nat_le}

-- Both leaves are there and have room for their shares of n pairs, at most 17: so many for the left one, the others for the right one.
abbrev pub shared : ℕ → ℕ → ℕ → ℕ → Bool
shared left right n share =
    nat_le 1 left && nat_le left 64 && nat_le 1 right && nat_le right 64 && nat_le n 17 && nat_le share n && nat_le share 16 && nat_le (n - share) 16
