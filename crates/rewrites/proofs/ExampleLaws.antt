-- The example meets what the laws ask for.
use Rattle.std.proofs.Common.{refl, arith}
use Rattle.rewrites.specs.Example.{Example}

pub example_holds : Example
example_holds = record {
  opens = refl;
  bounds = tt;
  append = record {
    belongs = record { opens = refl; above = tt; below = tt };
    valid = refl;
    some = omega arith;
    room = omega arith;
    follow = (refl, tt);
  };
  rewrite = record {
    belongs = record { opens = refl; above = tt; below = tt };
    valid = refl;
    taken = refl;
    placed = record {
      some = omega arith;
      filled = ((omega arith, omega arith), tt);
      spare = omega arith;
      within = ((omega arith, omega arith), tt);
      free = (refl, tt);
      distinct = (refl, tt);
    };
  };
}
