-- What the two copies of a word hold.
use Rattle.std.specs.Prelude.{ℕ}
use Rattle.own_memory.specs.declared.copies.Side.{Side}
use Rattle.own_memory.specs.declared.copies.Side.TheVariants.{First, Second}
use Rattle.own_memory.specs.declared.copies.Copies.{Copies}

abbrev pub copy_at : Copies → Side → ℕ
copy_at c First = c.first
copy_at c Second = c.second

abbrev pub live_of : Copies → ℕ
live_of c = copy_at c c.live

abbrev pub firm_of : Copies → ℕ
firm_of c = copy_at c c.firm
