-- The example, by computation.
use Rattle.std.proofs.Common.{◌≡◌, ◌+◌, ◌<◌, length, refl, arith}
use Rattle.leaves.specs.Layout.{word}
use Rattle.plans.specs.Example.{Example, tight}

-- Two leaves, of which one is linked.
few : word tight.words 3 < length tight.tree.leaves + 2
few = let all : word tight.words 3 ≡ 2 = refl in let linked : length tight.tree.leaves ≡ 1 = refl in omega (arith, all, linked)

pub example_holds : Example
example_holds = record {
  sound = record { opens = refl; bounded = tt };
  split = record { steps = refl; tree = refl; head = refl; left = refl; right = refl };
  replace = record { steps = refl; tree = refl };
  merge = record { removed = refl; steps = refl; tree = refl };
  count = record { next = refl; tree = refl };
  append = record { none = refl; steps = refl; tree = refl };
  rule = record { counts_ten = refl; counts_nine = refl; counts_eight = refl; put_of_nine = refl; remove_of_nine = refl };
  free = record { round = refl; past_all = refl; none = refl; up = refl; around = refl };
  crowded = refl;
  lacks = record { full = refl; splits = (8, refl); few = few };
  put_steps = refl;
  change_steps = refl;
  rewrite_steps = refl;
  present = refl;
  absent = (refl, refl);
  held = refl;
}
