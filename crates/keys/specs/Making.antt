-- What the kinds of key share: a key made where a test allows it, and an order by one number after another.
use Rattle.std.specs.Prelude.{ℕ, Bool, true, false, cond, T, Some, None, Option, ◌==◌, nat_lt}

abbrev pub made : {A : Type 0} (b : Bool) → (T b → A) → Option A
made true f = Some (f tt)
made false f = None

-- First by these two numbers, and where they are equal by what comes after them.
abbrev pub then_by : ℕ → ℕ → Bool → Bool
then_by x y rest = cond (x == y) rest (nat_lt x y)
