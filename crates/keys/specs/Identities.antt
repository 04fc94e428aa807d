-- Which numbers are a port of a clock.
use Rattle.std.specs.Prelude.{ℕ, Bool, ◌&&◌, nat_le, nat_lt}

-- Any identity of eight octets but all ones, and a port number 1 to 65,534.
abbrev pub valid_port : ℕ → ℕ → Bool
valid_port identity number = nat_lt identity 0xffff_ffff_ffff_ffff && nat_le 1 number && nat_le number 65534
