use Rattle.std.proofs.Common.{◌+◌, ◌==◌, arith, take}
use Rattle.std.proofs.lemmas.List.{length-take}
use Rattle.std.proofs.lemmas.List.Sums.{count_by-le-length}
use Rattle.relay.specs.declared.messages.Message.{Message}
use Rattle.audit.proofs.tallies.count_left.Goals as goal

-- as many were counted as were looked at, at most
pub add-requires : goal.add-requires
add-requires c = λ k lt.
    let seen = take c.loop-message.message-index c.args.left.now in
    let most = count_by-le-length (λ (m : Message). m.sender == c.args.first + k) seen in
    omega (arith, most, length-take c.loop-message.message-index c.args.left.now, c.loop-message-test.true, c.loop-message.auto.message-index-end, c.loop-message.invariant k lt)
