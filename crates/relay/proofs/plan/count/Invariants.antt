-- What was counted, and what is still to come, is the total.
use Rattle.std.proofs.Common.{◌≡◌, ◌+◌, ◌*◌, ◌≤◌, ◌^◌, drop}
use Rattle.relay.specs.Promises.{total}
use Rattle.relay.proofs.plan.count.Given as goal

abbrev pub invariant-loop-input : goal.invariant-loop-input
invariant-loop-input l =
    record {
      sum : l.messages + total (drop l.input-index l.inputs) ≡ total l.inputs;
      most : l.messages ≤ l.input-index * 2 ^ 64;
    }
