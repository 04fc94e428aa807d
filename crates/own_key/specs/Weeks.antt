-- Which numbers are a GPS time, and which second it is.
use Rattle.std.specs.Prelude.{ℕ, ◌+◌, ◌*◌, Bool, ◌&&◌, nat_lt}

-- A week that 13 bits count, as the newer navigation messages do, and one of its 604,800 seconds.
abbrev pub valid_gps : ℕ → ℕ → Bool
valid_gps week second = nat_lt week 8192 && nat_lt second 604800

-- The seconds since the first week began.
abbrev pub instant : ℕ → ℕ → ℕ
instant week second = week * 604800 + second
