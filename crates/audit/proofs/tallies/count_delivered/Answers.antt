use Rattle.std.proofs.Common.{◌+◌, ◌==◌, arith, take}
use Rattle.std.proofs.lemmas.List.{length-take}
use Rattle.std.proofs.lemmas.List.Sums.{count_by-le-length}
use Rattle.relay.specs.declared.outcome.Taken.{Taken}
use Rattle.audit.proofs.tallies.count_delivered.Goals as goal

-- as many were counted as were looked at, at most
pub add-requires : goal.add-requires
add-requires c = λ k lt.
    let seen = take c.loop-taken.taken-index c.args.delivered.now in
    let most = count_by-le-length (λ (t : Taken). t.message.sender == c.args.first + k) seen in
    omega (arith, most, length-take c.loop-taken.taken-index c.args.delivered.now, c.loop-taken-test.true, c.loop-taken.auto.taken-index-end, c.loop-taken.invariant k lt)
