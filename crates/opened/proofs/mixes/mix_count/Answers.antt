use Rattle.std.proofs.Common.{◌≤◌, arith}
use Rattle.std.proofs.lemmas.Nat.{one_shl}
use Rattle.opened.proofs.MixLaws.{every_mix}
use Rattle.opened.proofs.mixes.mix_count.Goals as goal

pub returns-clause-all : goal.returns-clause-all
returns-clause-all c =
    let u = c.count_unsettled-unsettled in
    let few : u.result ≤ 8 = omega (arith, c.if-unsettled-gt8.false) in
    rw (one_shl u.result 64 (omega (arith, few)), u.ensures) (every_mix c.args.live.now c.args.firm.now)
