-- One removal leaves a full leaf a pair.
use Rattle.std.proofs.Common.{arith}
use Rattle.leaves.specs.Layout.{count_of}
use Rattle.leaves.specs.Pairs.{pairs}
use Rattle.leaves.proofs.AscentLaws.{ascending_pairs}
use Rattle.appends.proofs.ParityLaws.{alternates_hold, length_delete}
use Rattle.rewrites.specs.Parity.{NeverEmpty}

pub never_empty_holds : NeverEmpty
never_empty_holds o ordered m alone bound k w v fine full there =
    let even = alternates_hold o ordered m bound k (count_of m k) fine.each in
    let one = length_delete o ordered w v (pairs o m k (count_of m k)) (ascending_pairs o ordered m k (count_of m k)) there in
    omega arith
